-- What each walk with a step begins with: the slot's invariant and its token are reached, and the mark is taken out of its `&mut`. Assumes `Logic`.
use Rattle.event_slot.proofs.Names.{◌≡◌, ℕ, List, [], ◌∷◌, sym, refl, Ura, Val, full_share, Coded, SProp, ent, sep, wand, ex, all, all_e, guard, apply∗, Lft, Share, Fml, fbor, flft, finv, before, Running, Model, Lends-one, Logic, sem, ‵, raw, ◌⊛◌, some, later, ◌$◌, ◌∵◌, !, qed, move, keep, drop, split, fsplit, fsplit3, fjoin, fjoin3, fpick, pick, show, check, frame, each, assume, use1, use2, updating, await, now, rewrite, feq_i, done, before_dup, RattleType, mem, part_at, mut_vals}
use mir.Syntax.{Lifetime}
use types.Mut.{open_ref, close_ref}
use denote.Ref.{MutBor, MutRef}
use denote.Struct.OwningLaws.{part_out, part_in}
use Rattle.atomic_table.specs.Marked.{mark_owns}
use Rattle.event_slot.specs.Holding.{Names, Inv, kept, lies}
use Rattle.event_slot.specs.contracts.rule.Mark as mark
use Rattle.event_slot.proofs.Fields.{Token}
use Rattle.event_slot.proofs.Steps.{moved, traded}
use Rattle.event_slot.proofs.Names.{Option}

module _ {M : Type 1} {𝓤 : Ura M} (𝓛 : Logic 𝓤) where
  open 𝓛 use {H, A}

  abbrev Pr : Type 2
  Pr = SProp 𝓤

  abbrev ◌⊢◌ : Pr → Pr → Type 1
  P ⊢ Q = ent 𝓤 P Q

  abbrev ◌∗◌ : Pr → Pr → Pr
  P ∗ Q = sep 𝓤 P Q

  abbrev ◌-∗◌ : Pr → Pr → Pr
  P -∗ Q = wand 𝓤 P Q

  abbrev ⟦◌⟧ : Fml → Pr
  ⟦ P ⟧ = sem 𝓛 P

  infix 26 ◌⊢◌
  infixr 35 ◌∗◌
  infixr 30 ◌-∗◌
  module _ {W : Type 0} (cw : Coded W) (γ : ℕ) (R Q : RattleType) (c : ℕ → ℕ) (holds : ℕ → Option Q.Denot → List W → Type 0) (b o : ℕ) (t : Names) (β : Lft) where
    abbrev Kept : Fml
    Kept = kept cw.code γ R Q c holds b o t β

    abbrev pub J : Fml
    J = fbor t.0 (Inv cw.code γ R Q c holds b o t)

    pub kept_twice : ⟦ Kept ⟧ ⊢ ⟦ Kept ⟧ ∗ ⟦ Kept ⟧
    kept_twice = qed 𝓛 (‵ Kept ∷ []) ∵ fsplit ! $ use1 𝓛 (‵ (before β t.0) ⊛ ‵ (before β t.0)) (before_dup 𝓛 β t.0) $ split ! $ move ! (2 ∷ []) $ use1 𝓛 (‵ (finv J) ⊛ ‵ (finv J)) (𝓛.invs.inv_dup J) $ split ! $
        move ! (2 ∷ 0 ∷ []) $ fjoin ! $ move ! (2 ∷ 1 ∷ []) $ fjoin ! $ done !

    module _ (𝓜 : Model 𝓤 H) (𝓡 : Running 𝓤 H 𝓜) (q : Share) where
      -- a token of the slot's own lifetime, and the way back to that of β
      abbrev pub Reached : Share → Pr
      Reached s = A.inv J ∗ A.lft t.0 s ∗ (A.lft t.0 s -∗ H.⇛ (A.lft β q))

      pub reaches : ⟦ Kept ⟧ ∗ A.lft β q ⊢ H.⇛ (ex 𝓤 Reached)
      reaches = qed 𝓛 (‵ Kept ∷ ‵ (flft β q) ∷ []) ∵ updating ! $ fsplit ! $ move ! (0 ∷ 2 ∷ []) $
          use2 𝓛 (later (some (λ (s : Share). ‵ (flft t.0 s) ⊛ raw (A.lft t.0 s -∗ H.⇛ (A.lft β q))))) (Lends-one 𝓛 𝓜 𝓡 β t.0 q) $ await ! tt $ pick ! (λ s. split ! $ now ! $ show ! Reached s $ move ! (2 ∷ 0 ∷ 1 ∷ []) $ done !)

  module _ (V : RattleType) (ℓ : Lifetime) (κ : Lft) (q : Share) (x : MutBor (mark.the_row V).Denot) (γ : ℕ) (same : x.now.slot ≡ γ) where
    abbrev Mr : RattleType
    Mr = mark.the_row V

    abbrev Owned : ℕ → V.Denot → Fml
    Owned k w = mark_owns V.coded.code k x.now.id w

    abbrev pub knowing : V.Denot → Mr.Denot
    knowing w = record { marker = x.now.marker; slot = x.now.slot; id = x.now.id; view = w }

    abbrev pub Marked : V.Denot → Fml
    Marked w = (MutRef ℓ κ Mr).own_val (record x { now = knowing w }) (mut_vals x)

    -- the mark with another view goes back into its `&mut`
    abbrev pub Back : V.Denot → Pr
    Back w = ⟦ Owned γ w ⟧ -∗ H.⇛ (⟦ Marked w ⟧ ∗ A.lft κ q)

    pub takes_mark : ⟦ Marked x.now.view ⟧ ∗ A.lft κ q ⊢ H.⇛ (⟦ Owned γ x.now.view ⟧ ∗ all 𝓤 Back)
    takes_mark = let b : ℕ = x.ref_ptr.0 in let o : ℕ = x.ref_ptr.1 in let Bytes : Fml = part_at (Token V) full_share (tt, tt) b o in
        qed 𝓛 (‵ (Marked x.now.view) ∷ ‵ (flft κ q) ∷ []) ∵ updating ! $ fsplit3 ! $ move ! (1 ∷ 2 ∷ 3 ∷ []) $ open_ref ! tt (mem Mr) $ use1 𝓛 (‵ Bytes ⊛ ‵ (Owned x.now.slot x.now.view)) (part_out 𝓛 (mark.the_type V) full_share x.now b o) $ split ! $
        move ! (1 ∷ []) $ rewrite ! 0 (λ (k : ℕ). ‵ (Owned k x.now.view)) same refl $ now ! $ frame ! $
        -- [the bytes; the borrow, open; both halves of its name; nothing]
        each ! Back (λ w. assume ! (‵ (Owned γ w)) $ updating ! $ rewrite ! 0 (λ (k : ℕ). ‵ (Owned k w)) (sym same) refl $ move ! (1 ∷ 0 ∷ []) $ use2 𝓛 (‵ (part_at Mr full_share (knowing w) b o)) (part_in 𝓛 (mark.the_type V) full_share (knowing w) b o) $
        close_ref ! tt (mem Mr) (knowing w) $ feq_i ! (List Val) (mut_vals x) (mut_vals x) refl $ fjoin3 ! $ now ! $ keep ! (0 ∷ 1 ∷ []) $ done !)

    -- a mark that has moved goes home
    pub homes : (P : V.Denot → Type 0) → ⟦ moved 𝓛 V.coded γ P x.now.id ⟧ ∗ all 𝓤 Back ⊢ H.⇛ (ex 𝓤 (λ (w : V.Denot). guard 𝓤 (P w) (⟦ Marked w ⟧ ∗ A.lft κ q)))
    homes P = let Home : V.Denot → Pr = λ w. guard 𝓤 (P w) (⟦ Marked w ⟧ ∗ A.lft κ q) in qed 𝓛 (‵ (moved 𝓛 V.coded γ P x.now.id) ∷ raw (all 𝓤 Back) ∷ []) ∵ updating ! $ fpick ! (λ w. fsplit ! $ fpick ! (λ h. drop ! $ move ! (1 ∷ []) $ use1 𝓛 (raw (Back w)) (all_e 𝓤 Back w) $ move ! (1 ∷ 0 ∷ []) $
        use2 𝓛 (later (‵ (Marked w) ⊛ ‵ (flft κ q))) (apply∗ 𝓤 ⟦ Owned γ w ⟧ (H.⇛ (⟦ Marked w ⟧ ∗ A.lft κ q))) $ await ! tt $ now ! $ show ! Home w $ check ! h $ done !))

    -- a mark that has moved goes home, beside what is out with it
    pub brings : (R Q : RattleType) (b o : ℕ) (t : Names) (P : V.Denot → Option Q.Denot → Type 0) → ⟦ traded 𝓛 V.coded γ R Q b o t P x.now.id ⟧ ∗ all 𝓤 Back
        ⊢ H.⇛ (ex 𝓤 (λ (z : V.Denot × Option Q.Denot). guard 𝓤 (P z.0 z.1) (⟦ Marked z.0 ⟧ ∗ A.lft κ q ∗ ⟦ lies R Q b o t z.1 ⟧)))
    brings R Q b o t P = let Home : V.Denot × Option Q.Denot → Pr = λ z. guard 𝓤 (P z.0 z.1) (⟦ Marked z.0 ⟧ ∗ A.lft κ q ∗ ⟦ lies R Q b o t z.1 ⟧) in qed 𝓛 (‵ (traded 𝓛 V.coded γ R Q b o t P x.now.id) ∷ raw (all 𝓤 Back) ∷ []) ∵ updating ! $ fpick ! (λ z. fsplit3 ! $ fpick ! (λ h. drop ! $ move ! (2 ∷ []) $ use1 𝓛 (raw (Back z.0)) (all_e 𝓤 Back z.0) $ move ! (1 ∷ 0 ∷ []) $
        use2 𝓛 (later (‵ (Marked z.0) ⊛ ‵ (flft κ q))) (apply∗ 𝓤 ⟦ Owned γ z.0 ⟧ (H.⇛ (⟦ Marked z.0 ⟧ ∗ A.lft κ q))) $ await ! tt $ split ! $ now ! $ show ! Home z $ check ! h $ move ! (0 ∷ 1 ∷ 2 ∷ []) $ done !))
