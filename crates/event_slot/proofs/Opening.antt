-- An `Arc` is its part of a token, its value, shared as long as that token, and what is an `Arc` again with that part. Assumes `Logic`.
use Rattle.event_slot.proofs.Names.{◌≡◌, ℕ, ◌+◌, [], ◌∷◌, ◌++◌, refl, Bool, false, Ura, Val, SProp, ent, sep, ex, guard, Lft, Share, Incl, Incl-trans, Fml, ftrue, fsep, fex, fwand, flft, finv, meet_⊑_left, meet_⊑_right, Logic, sem, ‵, ◌⊛◌, later, ◌$◌, ◌∵◌, !, qed, move, drop, split, split3, show, check, assume, fsplit, fsplit3, fjoin, fjoin3, fpick, fpack, use1, use3, await, updating, now, done, RattleType, Ptr, InBlock, ptr_val, block_of, count_of, nothing, contraction}
use types.RcWeak.{part}
use denote.Laws.{Typed}
use denote.Param.Laws.{Laws}
use denote.RawPtr.{◌+ₚ◌}
use denote.Sharing.{ShrLaws}
use denote.Struct.Lending.{lent_at}
use Rattle.core.specs.Thread.Scope.{refcount_invariant}
use Rattle.std.specs.declared.alloc.Allocator.{Ghosts}
use Rattle.std_alloc.specs.Owners.{sole_or_counted}
use Rattle.std_alloc.specs.Arc.Ownership.{value_offset, value_and_blocks, fields_shared, sole_owns, counted_owns, owner_owns, ptr_in_block}
use Rattle.std_alloc.proofs.ArcSteps.{with_both, arc-Settles}
use Rattle.std_alloc.proofs.SharedLaws.{arc_fields_laws}
use Rattle.event_slot.specs.Leasing.{Lease}
use Rattle.event_slot.specs.contracts.leased.Leased.TheInside as Inside
use Rattle.event_slot.proofs.Leasing.{one, pointer_made, one_made, pointer_fine, out_fine, Shared, Out}

module _ (T A : RattleType) (f : Ghosts A.Denot) (L : Laws T) (K : Laws A) {M : Type 1} {𝓤 : Ura M} (𝓛 : Logic 𝓤) (d : (Shared T A f).Denot) where
  open 𝓛 use {H, A as Atom}

  abbrev ⟦◌⟧ : Fml → SProp 𝓤
  ⟦ P ⟧ = sem 𝓛 P

  abbrev p : Ptr
  p = d.ptr

  abbrev x : T.Denot
  x = d.value

  abbrev V : Fml
  V = value_and_blocks A f.dealloc_token T p x

  abbrev fields : Lft → Fml
  fields = fields_shared A f.dealloc_token T p x

  abbrev Counted : Fml
  Counted = counted_owns A f.dealloc_token T p x

  abbrev either : Bool → Fml
  either = sole_or_counted (sole_owns A f.dealloc_token T p x) Counted

  -- the counts of all owners
  abbrev Inv : ℕ → Fml
  Inv a = finv (refcount_invariant V (block_of p) (count_of p + 0) a)

  -- what the `Arc` owns beside its bytes
  abbrev pub Owner : Fml
  Owner = fsep (ptr_in_block p) (fex Bool either)

  abbrev pub word : Val
  word = one (ptr_val p)

  abbrev pub lease : ℕ → Lease T.Denot
  lease a = record { life = a; of = x }

  abbrev Inner : Fml
  Inner = (Inside.the_row T A f).own_val (record { arc = d }) (one word ∷ [])

  again : (a : ℕ) → ent 𝓤 (sep 𝓤 ⟦ ptr_in_block p ⟧ (sep 𝓤 ⟦ Inv a ⟧ ⟦ fields (a ∷ []) ⟧)) ⟦ fwand (part 63 a) Inner ⟧
  again a = qed 𝓛 (‵ (ptr_in_block p) ∷ ‵ (Inv a) ∷ ‵ (fields (a ∷ [])) ∷ []) ∵ assume ! (‵ (part 63 a)) $ move ! (0 ∷ 2 ∷ 3 ∷ []) $ fjoin3 ! $ fpack ! ℕ (λ i. owner_owns V (block_of p) (count_of p + 0) i fields) a $
      fpack ! Bool either false $ move ! (1 ∷ 0 ∷ []) $ fjoin ! $ pointer_made ! p $ fjoin ! $ one_made ! (Shared T A f) d word $ done !

  abbrev pub at_value : Lft → Fml
  at_value = lent_at T (p +ₚ value_offset A T) x

  module _ (τ α : Lft) (q r : Share) (lt : Incl τ T.lives) (la : Incl α A.lives) where
    abbrev pub Opened : ℕ → SProp 𝓤
    Opened a = guard 𝓤 (InBlock p) (sep 𝓤 ⟦ part 63 a ⟧ (sep 𝓤 ⟦ at_value (a ∷ []) ⟧ (sep 𝓤 ⟦ (Out T A f).own_val (lease a) (one word ∷ []) ⟧ (sep 𝓤 (Atom.lft τ q) (Atom.lft α r)))))

    pub opens : ent 𝓤 (sep 𝓤 ⟦ Owner ⟧ (sep 𝓤 (Atom.lft τ q) (Atom.lft α r))) (H.⇛ (ex 𝓤 Opened))
    opens = let l : Lft = τ ++ α in let laws : ShrLaws fields = arc_fields_laws A f.dealloc_token T K.shr_laws L.shr_laws p x in
        qed 𝓛 (‵ Owner ∷ ‵ (flft τ q) ∷ ‵ (flft α r) ∷ []) ∵ updating ! $ fsplit ! $ fpick ! (λ inb. drop ! $
        use3 𝓛 (later (‵ Counted ⊛ ‵ (flft τ q) ⊛ ‵ (flft α r))) (with_both 𝓛 (fex Bool either) Counted l (arc-Settles A T f.dealloc_token K L 𝓛 p x l (Incl-trans (meet_⊑_right τ α) la) (Incl-trans (meet_⊑_left τ α) lt)) τ α q r (λ i m. m)) $
        await ! tt $ split3 ! $ fpick ! (λ a. fsplit3 ! $ move ! (2 ∷ []) $ use1 𝓛 (‵ (fields (a ∷ [])) ⊛ ‵ (fields (a ∷ []))) (contraction 𝓛 fields laws (a ∷ [])) $ split ! $
        -- [the fields, shared; the same; the part; the counts; the tokens]
        fsplit ! $ move ! (1 ∷ []) $ drop ! $ nothing ! $ fpack ! (InBlock p) (λ _. ftrue) inb $ move ! (0 ∷ 4 ∷ 2 ∷ []) $ use3 𝓛 (‵ (fwand (part 63 a) Inner)) (again a) $
        fpack ! (x ≡ x) (λ _. fwand (part 63 a) Inner) refl $ fpack ! (Inside.the_row T A f).Denot (λ i. fex (i.arc.value ≡ x) (λ _. fwand (part 63 a) ((Inside.the_row T A f).own_val i (one word ∷ [])))) (record { arc = d }) $
        nothing ! $ fpack ! (Typed (Out T A f).mir (one word ∷ [])) (λ _. ftrue) (out_fine T A f word (pointer_fine T A f p), tt) $ fjoin ! $
        now ! $ show ! Opened a $ check ! inb $ move ! (2 ∷ 1 ∷ 0 ∷ 3 ∷ 4 ∷ []) $ done !))
