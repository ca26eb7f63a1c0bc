-- How a right and the count change together where the word is as it was expected: a newcomer's, a reader's and the writer's. The words here are those that `counts` makes. Assumes `Logic`.
use Rattle.event_slot.proofs.Names.{◌≡◌, ℕ, zero, suc, ◌-◌, ◌%◌, ◌^◌, ◌<◌, ◌≤◌, ◌+◌, [], ◌∷◌, sym, refl, arith, Option, Some, None, Bool, true, false, dite, ℕ_discrete, dec_le, Ura, full_share, SProp, ent, sep, guard, upd, upd_i, never_e, Fml, ftrue, fsep, fex, fbor, Logic, sem, ‵, raw, ◌⊛◌, given, ◌$◌, ◌∵◌, !, qed, by, move, keep, drop, split, check, group, fsplit, fsplit3, fjoin, fjoin3, fpick, fpack, learn, frame, suffices, settle, use1, use2, rewrite, done, out, out_once, RattleType, RowLaws, nothing, contraction}
use base.FractionLaws.{Counts-all}
use mathlib.Core.Bool.{cond}
use Prim.Native.Nat.{min}
use Rattle.counted_slot.specs.Counting.{readers, IsShared, fact, share, parts, tag, Id, Phase, free, away, shared, seen, waits, state, State, cell, reader, reads}
use Rattle.counted_slot.proofs.Parts.{parts_in, parts_cut, parts_glue, parts_whole, none_beside, parts_agree, renames}
use Rattle.counted_slot.proofs.Rounds.{seen_laws, Fresh, Ready, returned}
use Rattle.counted_slot.proofs.Steps.{Spoil, none, lent, home, last, rank, shown_value, spoil}
use Rattle.event_slot.specs.Ruling.{IsTurn, Gains, IsReadersTurn, IsWritersTurn, WriterBecomes, MayTurn, Becomes, Sees}
use Rattle.event_slot.specs.Holding.{any}

-- what the right has become by the step, and that a reader who reads on sees what it saw
abbrev pub Hit : {X : Type 0} → ℕ → ℕ → ℕ → Option X → Spoil X → Type 0
Hit r old new v s = Becomes r old new (rank s) × (r ≡ 1 → rank s ≡ 1 → shown_value s ≡ v)

module _ {M : Type 1} {𝓤 : Ura M} (𝓛 : Logic 𝓤) where
  open 𝓛 use {H, A}

  abbrev Pr : Type 2
  Pr = SProp 𝓤

  abbrev ◌⊢◌ : Pr → Pr → Type 1
  P ⊢ Q = ent 𝓤 P Q

  abbrev ◌∗◌ : Pr → Pr → Pr
  P ∗ Q = sep 𝓤 P Q

  abbrev ⟦◌⟧ : Fml → Pr
  ⟦ P ⟧ = sem 𝓛 P

  infix 26 ◌⊢◌
  infixr 35 ◌∗◌
  module _ (R : RattleType) (b o : ℕ) (t : Id) where
    abbrev St : ℕ → Fml
    St = State R any b o t

    abbrev st : ℕ → Phase R.Denot → Fml
    st = state R any b o t

    -- what is lent beside the parts
    abbrev Lent : ℕ → R.Denot → Fml
    Lent a y = fsep (out t.2) (fsep (seen R any b o y (a ∷ t.0)) (waits R any b o t a))

    stands : (n : ℕ) (p : Phase R.Denot) → ⟦ st n p ⟧ ⊢ ⟦ St n ⟧
    stands n p = qed 𝓛 (‵ (st n p) ∷ []) ∵ fpack ! (Phase R.Denot) (st n) p $ done !

    -- whoever has a part is counted: it is missing from the whole
    among : (a n : ℕ) (X Z : Pr) → ((m : ℕ) (y : R.Denot) → 0 < m → IsShared n × (m ≤ readers n) → ⟦ parts t.1 a (2 ^ 63 - m) ⟧ ∗ ⟦ parts t.1 a 1 ⟧ ∗ ⟦ Lent a y ⟧ ∗ X ⊢ upd 𝓤 Z)
        → (p : Phase R.Denot) → ⟦ st n p ⟧ ∗ ⟦ parts t.1 a 1 ⟧ ∗ X ⊢ upd 𝓤 Z
    among a n X Z k free = qed 𝓛 (‵ (st n free) ∷ ‵ (parts t.1 a 1) ∷ raw X ∷ []) ∵ fsplit3 ! $ move ! (1 ∷ []) $ fpick ! (λ c. keep ! (0 ∷ 3 ∷ []) $ by ! (none_beside 𝓛 t.1 a c 1 (upd 𝓤 Z)))
    among a n X Z k away = qed 𝓛 (‵ (st n away) ∷ ‵ (parts t.1 a 1) ∷ raw X ∷ []) ∵ fsplit ! $ drop ! $ fpick ! (λ c. keep ! (0 ∷ 1 ∷ []) $ by ! (none_beside 𝓛 t.1 a c 1 (upd 𝓤 Z)))
    among a n X Z k (shared c m y) = qed 𝓛 (‵ (st n (shared c m y)) ∷ ‵ (parts t.1 a 1) ∷ raw X ∷ []) ∵ fsplit3 ! $ fpick ! (λ h. drop ! $ dite (ℕ_discrete m 0)
        (λ z. rewrite ! 0 (λ (i : ℕ). ‵ (parts t.1 c (2 ^ 63 - i))) z refl $ use1 𝓛 (‵ (share t.1 c full_share)) (parts_whole 𝓛 t.1 c) $ fsplit ! $ keep ! (1 ∷ 3 ∷ []) $ by ! (none_beside 𝓛 t.1 a c 1 (upd 𝓤 Z)))
        (λ z. move ! (0 ∷ 2 ∷ []) $ use2 𝓛 (given (c ≡ a) (‵ (parts t.1 c (2 ^ 63 - m)) ⊛ ‵ (parts t.1 a 1))) (parts_agree 𝓛 t.1 c a (2 ^ 63 - m) 1) $ learn ! (λ same. split ! $
        rewrite ! 0 (λ (i : ℕ). ‵ (parts t.1 i (2 ^ 63 - m))) same refl $ rewrite ! 2 (λ (i : ℕ). ‵ (Lent i y)) same refl $ by ! (k m y (omega arith) h))))

    one_more : (a m : ℕ) → 0 < m → m ≤ 1073741823 → ⟦ parts t.1 a (2 ^ 63 - m) ⟧ ∗ ⟦ parts t.1 a 1 ⟧ ⊢ ⟦ parts t.1 a (2 ^ 63 - (m - 1)) ⟧
    one_more a m some' few = let is : (2 ^ 63 - m) + 1 ≡ 2 ^ 63 - (m - 1) = omega arith in
        qed 𝓛 (‵ (parts t.1 a (2 ^ 63 - m)) ∷ ‵ (parts t.1 a 1) ∷ []) ∵ use2 𝓛 (‵ (parts t.1 a ((2 ^ 63 - m) + 1))) (parts_glue 𝓛 t.1 a (2 ^ 63 - m) 1 (omega arith) (omega arith)) $ rewrite ! 0 (λ (i : ℕ). ‵ (parts t.1 a i)) is refl $ done !

    on_with : (w a m : ℕ) (y : R.Denot) → IsShared w × (m ≤ readers w) → ⟦ parts t.1 a (2 ^ 63 - m) ⟧ ∗ ⟦ Lent a y ⟧ ⊢ ⟦ St w ⟧
    on_with w a m y h = qed 𝓛 (‵ (parts t.1 a (2 ^ 63 - m)) ∷ ‵ (Lent a y) ∷ []) ∵ fjoin ! $ nothing ! $ fpack ! (IsShared w × (m ≤ readers w)) (λ _. ftrue) h $ fjoin ! $ by ! (stands w (shared a m y))

    abbrev pub Won : ℕ → ℕ → ℕ → Option R.Denot → Fml
    Won r old new v = fex (Spoil R.Denot) (λ s. fsep (fact (Hit r old new v s)) (spoil 𝓛 R any b o t s))

    wins : (r old new : ℕ) (v : Option R.Denot) (s : Spoil R.Denot) → Hit r old new v s → ⟦ St new ⟧ ∗ ⟦ spoil 𝓛 R any b o t s ⟧ ⊢ upd 𝓤 (⟦ St new ⟧ ∗ ⟦ Won r old new v ⟧)
    wins r old new v s h = let Z : Pr = ⟦ St new ⟧ ∗ ⟦ Won r old new v ⟧ in qed 𝓛 (‵ (St new) ∷ ‵ (spoil 𝓛 R any b o t s) ∷ []) ∵ suffices ! _ (upd_i 𝓤 Z) $ frame ! $ nothing ! $ fpack ! (Hit r old new v s) (λ _. ftrue) h $ fjoin ! $
        fpack ! (Spoil R.Denot) (λ z. fsep (fact (Hit r old new v z)) (spoil 𝓛 R any b o t z)) s $ done !

    -- a reader goes on, as a reader, as the writer or not at all
    module _ (x : R.Denot) (old new : ℕ) (asked : IsReadersTurn old new) where
      abbrev Passes : Pr
      Passes = ⟦ St new ⟧ ∗ ⟦ Won 1 old new (Some x) ⟧

      passes : (s : Spoil R.Denot) → Hit 1 old new (Some x) s → ⟦ St new ⟧ ∗ ⟦ spoil 𝓛 R any b o t s ⟧ ⊢ upd 𝓤 Passes
      passes s h = wins 1 old new (Some x) s h

      stays_on : (a m : ℕ) (y : R.Denot) → IsShared new × (m ≤ readers new) → Hit 1 old new (Some x) (lent x)
          → ⟦ parts t.1 a (2 ^ 63 - m) ⟧ ∗ ⟦ parts t.1 a 1 ⟧ ∗ ⟦ Lent a y ⟧ ∗ ⟦ seen R any b o x (a ∷ t.0) ⟧ ⊢ upd 𝓤 Passes
      stays_on a m y k g = qed 𝓛 (‵ (parts t.1 a (2 ^ 63 - m)) ∷ ‵ (parts t.1 a 1) ∷ ‵ (Lent a y) ∷ ‵ (seen R any b o x (a ∷ t.0)) ∷ []) ∵ move ! (0 ∷ 2 ∷ []) $ use2 𝓛 (‵ (St new)) (on_with new a m y k) $
          move ! (1 ∷ 2 ∷ []) $ fjoin ! $ fpack ! ℕ (λ u. fsep (parts t.1 u 1) (seen R any b o x (u ∷ t.0))) a $ move ! (1 ∷ 0 ∷ []) $ by ! (passes (lent x) g)

      goes_on : (a : ℕ) (p : Phase R.Denot) → ⟦ st old p ⟧ ∗ ⟦ parts t.1 a 1 ⟧ ∗ ⟦ seen R any b o x (a ∷ t.0) ⟧ ⊢ upd 𝓤 Passes
      goes_on a = among a old ⟦ seen R any b o x (a ∷ t.0) ⟧ Passes (λ m y some' h. let h₀ = h.0.1 in let h₁ = h.1 in dite (ℕ_discrete (new % 4) 3)
          (λ full. let alone = asked.1 full in let is : 2 ^ 63 - (m - 1) ≡ 2 ^ 63 = omega arith in qed 𝓛 (‵ (parts t.1 a (2 ^ 63 - m)) ∷ ‵ (parts t.1 a 1) ∷ ‵ (Lent a y) ∷ ‵ (seen R any b o x (a ∷ t.0)) ∷ []) ∵
          use2 𝓛 (‵ (parts t.1 a (2 ^ 63 - (m - 1)))) (one_more a m some' (omega arith)) $ rewrite ! 0 (λ (i : ℕ). ‵ (parts t.1 a i)) is refl $ use1 𝓛 (‵ (share t.1 a full_share)) (parts_whole 𝓛 t.1 a) $ fsplit ! $
          move ! (2 ∷ []) $ fsplit3 ! $ move ! (0 ∷ 3 ∷ 2 ∷ []) $ fjoin3 ! $ move ! (2 ∷ []) $ fpack ! ℕ (tag t.1 full_share) a $ nothing ! $ fpack ! (new % 4 ≡ 3) (λ _. ftrue) full $ fjoin ! $ use1 𝓛 (‵ (St new)) (stands new away) $ keep ! (0 ∷ 1 ∷ []) $
          by ! (passes (last a) (((λ _. refl), (λ l. absurd (omega arith)), (λ l. absurd (omega arith))), (λ _ z. absurd (omega (arith, z))))))
          (λ low. let up = asked.0 in let j = asked.2 (omega arith) in let j₀ = j.0 in let j₁ = j.1 in dite (dec_le (readers old) (readers new))
          (λ same. stays_on a m y ((up, omega arith), omega arith) (((λ z. absurd (low z)), (λ _ l. absurd (omega arith)), (λ _ _. refl)), (λ _ _. refl)))
          (λ less. qed 𝓛 (‵ (parts t.1 a (2 ^ 63 - m)) ∷ ‵ (parts t.1 a 1) ∷ ‵ (Lent a y) ∷ ‵ (seen R any b o x (a ∷ t.0)) ∷ []) ∵ use2 𝓛 (‵ (parts t.1 a (2 ^ 63 - (m - 1)))) (one_more a m some' (omega arith)) $
          use2 𝓛 (‵ (St new)) (on_with new a (m - 1) y ((up, omega arith), omega arith)) $ nothing ! $ keep ! (1 ∷ 0 ∷ []) $
          by ! (passes none (((λ z. absurd (low z)), (λ _ _. refl), (λ _ l. absurd (less l))), (λ _ z. absurd (omega (arith, z))))))))

      reader_goes : (p : Phase R.Denot) → ⟦ st old p ⟧ ∗ ⟦ reader R any b o t x ⟧ ⊢ upd 𝓤 Passes
      reader_goes p = qed 𝓛 (‵ (st old p) ∷ ‵ (reader R any b o t x) ∷ []) ∵ move ! (1 ∷ []) $ fpick ! (λ a. fsplit ! $ move ! (2 ∷ 0 ∷ 1 ∷ []) $ by ! (goes_on a p))

    -- the writer goes, or goes on as the only reader, and has made of the value what the new word asks
    module _ (L : RowLaws R) (k old new : ℕ) (v : Option R.Denot) (asked : IsWritersTurn new) where
      abbrev Ready' : Fml
      Ready' = Ready 𝓛 R any b o t new

      abbrev Gone : Pr
      Gone = ⟦ St new ⟧ ∗ ⟦ Won (suc (suc k)) old new v ⟧

      abbrev idle' : Fml
      idle' = fex ℕ (tag t.1 full_share)

      goes_off : WriterBecomes new 0 → ⟦ idle' ⟧ ∗ ⟦ out t.2 ⟧ ∗ ⟦ Ready' ⟧ ⊢ upd 𝓤 Gone
      goes_off g = qed 𝓛 (‵ idle' ∷ ‵ (out t.2) ∷ ‵ Ready' ∷ []) ∵ group ! 3 $ use1 𝓛 (raw (upd 𝓤 ⟦ St new ⟧)) (returned 𝓛 R any b o t new asked.0) $ settle 𝓛 Gone (‵ (St new)) $ nothing ! $ move ! (1 ∷ 0 ∷ []) $
          by ! (wins (suc (suc k)) old new v none (g, (λ z. absurd (omega (arith, z)))))

      reads_on : 0 < new % 4 → readers new ≡ 1 → ⟦ idle' ⟧ ∗ ⟦ out t.2 ⟧ ∗ ⟦ Fresh 𝓛 R any b o t ⟧ ⊢ upd 𝓤 Gone
      reads_on up one = let low = asked.0 in qed 𝓛 (‵ idle' ∷ ‵ (out t.2) ∷ ‵ (Fresh 𝓛 R any b o t) ∷ []) ∵ fpick ! (λ c. move ! (2 ∷ []) $ fpick ! (λ u. fsplit3 ! $
          -- [the round's token; what is seen; the way back; the round's name; out]
          move ! (3 ∷ []) $ use1 𝓛 (raw (upd 𝓤 ⟦ tag t.1 full_share u.0 ⟧)) (renames 𝓛 t.1 c u.0) $ settle 𝓛 Gone (‵ (tag t.1 full_share u.0)) $ move ! (1 ∷ 0 ∷ []) $ fjoin ! $
          use1 𝓛 (‵ (parts t.1 u.0 (2 ^ 63))) (parts_in 𝓛 t.1 u.0 (2 ^ 63) full_share (Counts-all 63)) $ use1 𝓛 (‵ (parts t.1 u.0 1) ⊛ ‵ (parts t.1 u.0 (2 ^ 63 - 1))) (parts_cut 𝓛 t.1 u.0 (2 ^ 63) 1 (2 ^ 63 - 1) (omega arith) (omega arith) (omega arith) (omega arith)) $ split ! $
          move ! (2 ∷ []) $ use1 𝓛 (‵ (seen R any b o u.1 (u.0 ∷ t.0)) ⊛ ‵ (seen R any b o u.1 (u.0 ∷ t.0))) (contraction 𝓛 (seen R any b o u.1) (seen_laws R any L b o u.1) (u.0 ∷ t.0)) $ split ! $
          move ! (2 ∷ 0 ∷ []) $ fjoin ! $ fpack ! ℕ (λ a. fsep (parts t.1 a 1) (seen R any b o u.1 (a ∷ t.0))) u.0 $ move ! (4 ∷ 1 ∷ 3 ∷ []) $ fjoin3 ! $ move ! (2 ∷ 0 ∷ []) $
          use2 𝓛 (‵ (St new)) (on_with new u.0 1 u.1 ((up, low), omega arith)) $ move ! (0 ∷ 1 ∷ []) $
          by ! (wins (suc (suc k)) old new v (lent u.1) (((λ z. absurd (omega arith)), (λ _. sym one)), (λ z. absurd (omega (arith, z)))))))

      ready_at : 0 < new % 4 → readers new ≡ 1 → (y : Bool) → cond y 0 1 ≡ min (new % 4) 1 → ⟦ idle' ⟧ ∗ ⟦ out t.2 ⟧ ∗ ⟦ cond y (fbor t.0 (cell R any b o)) (Fresh 𝓛 R any b o t) ⟧ ⊢ upd 𝓤 Gone
      ready_at up one true e = absurd (omega (arith, e))
      ready_at up one false e = reads_on up one

      goes_down : 0 < new % 4 → readers new ≡ 1 → ⟦ idle' ⟧ ∗ ⟦ out t.2 ⟧ ∗ ⟦ Ready' ⟧ ⊢ upd 𝓤 Gone
      goes_down up one = qed 𝓛 (‵ idle' ∷ ‵ (out t.2) ∷ ‵ Ready' ∷ []) ∵ move ! (2 ∷ []) $ fpick ! (λ y. fsplit ! $ fpick ! (λ e. drop ! $ move ! (1 ∷ 2 ∷ 0 ∷ []) $ by ! (ready_at up one y e)))

      gives_up : ⟦ idle' ⟧ ∗ ⟦ out t.2 ⟧ ∗ ⟦ Ready' ⟧ ⊢ upd 𝓤 Gone
      gives_up = dite (ℕ_discrete (new % 4) 0) (λ z. goes_off ((λ _. refl), (λ up. absurd (omega arith)))) (λ up. dite (ℕ_discrete (readers new) 0)
          (λ nobody. goes_off ((λ z. absurd (up z)), (λ _. sym nobody))) (λ somebody. let few = asked.1 (omega arith) in goes_down (omega arith) (omega arith)))

      writer_goes : (p : Phase R.Denot) → ⟦ st old p ⟧ ∗ ⟦ fsep (out t.2) Ready' ⟧ ⊢ upd 𝓤 Gone
      writer_goes free = qed 𝓛 (‵ (st old free) ∷ ‵ (fsep (out t.2) Ready') ∷ []) ∵ fsplit3 ! $ move ! (2 ∷ []) $ fsplit ! $ move ! (4 ∷ []) $ fsplit ! $ keep ! (0 ∷ 2 ∷ []) $ by ! (out_once 𝓛 t.2 Gone)
      writer_goes (shared c m x) = qed 𝓛 (‵ (st old (shared c m x)) ∷ ‵ (fsep (out t.2) Ready') ∷ []) ∵ fsplit3 ! $ move ! (2 ∷ []) $ fsplit ! $ move ! (4 ∷ []) $ fsplit ! $ keep ! (0 ∷ 2 ∷ []) $ by ! (out_once 𝓛 t.2 Gone)
      writer_goes away = qed 𝓛 (‵ (st old away) ∷ ‵ (fsep (out t.2) Ready') ∷ []) ∵ fsplit ! $ drop ! $ move ! (1 ∷ []) $ fsplit ! $ move ! (2 ∷ 0 ∷ 1 ∷ []) $ by ! gives_up

    -- a newcomer turns the word
    module _ (L : RowLaws R) (old new : ℕ) (v : Option R.Denot) (asked : IsTurn old new) where
      abbrev Turns : Pr
      Turns = upd 𝓤 (⟦ St new ⟧ ∗ ⟦ Won 0 old new v ⟧)

      lands : (p : Phase R.Denot) (s : Spoil R.Denot) → Gains old new (rank s) → ⟦ st new p ⟧ ∗ ⟦ spoil 𝓛 R any b o t s ⟧ ⊢ Turns
      lands p s g = qed 𝓛 (‵ (st new p) ∷ ‵ (spoil 𝓛 R any b o t s) ∷ []) ∵ use1 𝓛 (‵ (St new)) (stands new p) $ by ! (wins 0 old new v s (g, (λ z. absurd (omega (arith, z)))))

      -- to the writer, or on while there is one
      taken : new % 4 ≡ 3 → (p : Phase R.Denot) → ⟦ st old p ⟧ ∗ ⟦ ftrue ⟧ ⊢ Turns
      taken full free = qed 𝓛 (‵ (st old free) ∷ ‵ ftrue ∷ []) ∵ fsplit3 ! $ fpick ! (λ h. fpack ! (new % 4 ≡ 3) (λ _. ftrue) full $ fjoin ! $ keep ! (0 ∷ 1 ∷ []) $
          by ! (lands away home ((λ _ _. refl), (λ _ l. absurd (omega arith)), (λ l. absurd (omega arith)), (λ z. absurd (omega arith)), (λ z. absurd (omega arith)))))
      taken full away = qed 𝓛 (‵ (st old away) ∷ ‵ ftrue ∷ []) ∵ fsplit ! $ fpick ! (λ h. fpack ! (new % 4 ≡ 3) (λ _. ftrue) full $ fjoin ! $
          by ! (lands away none ((λ _ l. absurd (omega arith)), (λ _ l. absurd (omega arith)), (λ _ _. refl), (λ _. refl), (λ _. refl))))
      taken full (shared a m x) = qed 𝓛 (‵ (st old (shared a m x)) ∷ ‵ ftrue ∷ []) ∵ fsplit3 ! $ fpick ! (λ h. let h₀ = h.0.1 in let nobody = asked.2 full h.0.0 h.0.1 in let h₁ = h.1 in let z : m ≡ 0 = omega arith in move ! (1 ∷ []) $
          rewrite ! 0 (λ (k : ℕ). ‵ (parts t.1 a (2 ^ 63 - k))) z refl $ use1 𝓛 (‵ (share t.1 a full_share)) (parts_whole 𝓛 t.1 a) $ fsplit ! $ move ! (3 ∷ []) $ fsplit3 ! $ move ! (0 ∷ 3 ∷ 2 ∷ []) $ fjoin3 ! $ move ! (2 ∷ []) $
          fpack ! ℕ (tag t.1 full_share) a $ nothing ! $ fpack ! (new % 4 ≡ 3) (λ _. ftrue) full $ fjoin ! $ keep ! (0 ∷ 1 ∷ []) $
          by ! (lands away (last a) ((λ _ _. refl), (λ _ l. absurd (omega arith)), (λ l. absurd (omega arith)), (λ q. absurd (omega arith)), (λ q. absurd (omega arith)))))

      -- on among readers, with as many or with one more
      joined : 0 < new % 4 → new % 4 < 3 → (p : Phase R.Denot) → ⟦ st old p ⟧ ∗ ⟦ ftrue ⟧ ⊢ Turns
      joined up low free = qed 𝓛 (‵ (st old free) ∷ ‵ ftrue ∷ []) ∵ fsplit3 ! $ fpick ! (λ h. let g = (asked.3 up low).0 in absurd (omega arith))
      joined up low away = qed 𝓛 (‵ (st old away) ∷ ‵ ftrue ∷ []) ∵ fsplit ! $ fpick ! (λ h. let g = asked.0 h in absurd (omega arith))
      joined up low (shared a m x) = let more = (asked.3 up low).1 in qed 𝓛 (‵ (st old (shared a m x)) ∷ ‵ ftrue ∷ []) ∵ fsplit3 ! $ fpick ! (λ h. drop ! $ let h₀ = h.0.1 in let h₁ = h.1 in dite (dec_le (readers new) (readers old))
          (λ same. fjoin ! $ nothing ! $ fpack ! (IsShared new × (m ≤ readers new)) (λ _. ftrue) ((up, low), omega arith) $ fjoin ! $
          by ! (lands (shared a m x) none ((λ z. absurd (omega arith)), (λ _ _ l. absurd (omega arith)), (λ _ _. refl), (λ _. refl), (λ _. refl))))
          (λ one_more. use1 𝓛 (‵ (parts t.1 a 1) ⊛ ‵ (parts t.1 a (2 ^ 63 - (m + 1)))) (parts_cut 𝓛 t.1 a (2 ^ 63 - m) 1 (2 ^ 63 - (m + 1)) (omega arith) (omega arith) (omega arith) (omega arith)) $ split ! $
          move ! (2 ∷ []) $ fsplit3 ! $ move ! (1 ∷ []) $ use1 𝓛 (‵ (seen R any b o x (a ∷ t.0)) ⊛ ‵ (seen R any b o x (a ∷ t.0))) (contraction 𝓛 (seen R any b o x) (seen_laws R any L b o x) (a ∷ t.0)) $ split ! $
          move ! (4 ∷ 0 ∷ []) $ fjoin ! $ fpack ! ℕ (λ u. fsep (parts t.1 u 1) (seen R any b o x (u ∷ t.0))) a $ move ! (2 ∷ 1 ∷ 3 ∷ []) $ fjoin3 ! $ move ! (2 ∷ 0 ∷ []) $ fjoin ! $
          nothing ! $ fpack ! (IsShared new × (m + 1 ≤ readers new)) (λ _. ftrue) ((up, low), omega arith) $ fjoin ! $ keep ! (0 ∷ 1 ∷ []) $
          by ! (lands (shared a (m + 1) x) (lent x) ((λ z. absurd (omega arith)), (λ _ _ _. refl), (λ _ l. absurd (one_more l)), (λ z. absurd (omega arith)), (λ z. absurd (omega arith))))))

      -- on where nobody has the value
      freed : new % 4 ≡ 0 → (p : Phase R.Denot) → ⟦ st old p ⟧ ∗ ⟦ ftrue ⟧ ⊢ Turns
      freed none' free = qed 𝓛 (‵ (st old free) ∷ ‵ ftrue ∷ []) ∵ fsplit ! $ fpick ! (λ h. fpack ! (new % 4 ≡ 0) (λ _. ftrue) none' $ fjoin ! $
          by ! (lands free none ((λ z. absurd (omega arith)), (λ l. absurd (omega arith)), (λ _ _. refl), (λ _. refl), (λ _. refl))))
      freed none' away = qed 𝓛 (‵ (st old away) ∷ ‵ ftrue ∷ []) ∵ fsplit ! $ fpick ! (λ h. let g = asked.1 none' in absurd (omega arith))
      freed none' (shared a m x) = qed 𝓛 (‵ (st old (shared a m x)) ∷ ‵ ftrue ∷ []) ∵ fsplit3 ! $ fpick ! (λ h. let g = asked.1 none' in let h₀ = h.0.0 in absurd (omega arith))

      hit : (p : Phase R.Denot) → ⟦ st old p ⟧ ∗ ⟦ ftrue ⟧ ⊢ Turns
      hit p = dite (ℕ_discrete (new % 4) 3) (λ full. taken full p) (λ low. dite (ℕ_discrete (new % 4) 0) (λ empty. freed empty p) (λ up. joined (omega arith) (omega arith) p))

    -- what a step is given of the value, by one who has this right, before the word becomes `new`
    abbrev pub Prepared : ℕ → ℕ → Option R.Denot → Fml
    Prepared zero new v = ftrue
    Prepared (suc zero) new v = reads R any b o t v
    Prepared (suc (suc k)) new v = fsep (out t.2) (Ready 𝓛 R any b o t new)

    reader_hits : (old new : ℕ) (v : Option R.Denot) → IsReadersTurn old new → (p : Phase R.Denot) → ⟦ st old p ⟧ ∗ ⟦ reads R any b o t v ⟧ ⊢ upd 𝓤 (⟦ St new ⟧ ∗ ⟦ Won 1 old new v ⟧)
    reader_hits old new (Some x) asked p = reader_goes x old new asked p
    reader_hits old new None asked p = qed 𝓛 (‵ (st old p) ∷ ‵ (reads R any b o t None) ∷ []) ∵ keep ! (1 ∷ []) $ by ! (never_e 𝓤 _)

    -- One who has a right sees that in the word, whatever it does: a part of the count is missing from a whole, and *out* is had once.
    abbrev pub Seeing : ℕ → ℕ → Fml → Pr
    Seeing r n K = guard 𝓤 (Sees r n) (⟦ St n ⟧ ∗ ⟦ K ⟧)

    reader_sees : (x : R.Denot) (n a : ℕ) (p : Phase R.Denot) → ⟦ st n p ⟧ ∗ ⟦ parts t.1 a 1 ⟧ ∗ ⟦ seen R any b o x (a ∷ t.0) ⟧ ⊢ upd 𝓤 (Seeing 1 n (reader R any b o t x))
    reader_sees x n a = let K : Fml = reader R any b o t x in among a n ⟦ seen R any b o x (a ∷ t.0) ⟧ (Seeing 1 n K) (λ m y some' h. let h₀ = h.0.0 in let h₁ = h.0.1 in let h₂ = h.1 in
        qed 𝓛 (‵ (parts t.1 a (2 ^ 63 - m)) ∷ ‵ (parts t.1 a 1) ∷ ‵ (Lent a y) ∷ ‵ (seen R any b o x (a ∷ t.0)) ∷ []) ∵ suffices ! _ (upd_i 𝓤 (Seeing 1 n K)) $
        check ! ((λ _. (h₀, h₁, omega arith)), (λ z. absurd (omega (arith, z)))) $ move ! (1 ∷ 3 ∷ []) $ fjoin ! $ fpack ! ℕ (λ u. fsep (parts t.1 u 1) (seen R any b o x (u ∷ t.0))) a $
        move ! (1 ∷ 2 ∷ []) $ use2 𝓛 (‵ (St n)) (on_with n a m y h) $ done !)

    pub writer_sees : (k n : ℕ) (W : Fml) (p : Phase R.Denot) → ⟦ st n p ⟧ ∗ ⟦ fsep (out t.2) W ⟧ ⊢ upd 𝓤 (Seeing (suc (suc k)) n (fsep (out t.2) W))
    writer_sees k n W free = let K : Fml = fsep (out t.2) W in qed 𝓛 (‵ (st n free) ∷ ‵ K ∷ []) ∵ fsplit3 ! $ move ! (2 ∷ []) $ fsplit ! $ move ! (4 ∷ []) $ fsplit ! $ keep ! (0 ∷ 2 ∷ []) $ by ! (out_once 𝓛 t.2 (Seeing (suc (suc k)) n K))
    writer_sees k n W (shared c m x) = let K : Fml = fsep (out t.2) W in qed 𝓛 (‵ (st n (shared c m x)) ∷ ‵ K ∷ []) ∵ fsplit3 ! $ move ! (2 ∷ []) $ fsplit ! $ move ! (4 ∷ []) $ fsplit ! $ keep ! (0 ∷ 2 ∷ []) $ by ! (out_once 𝓛 t.2 (Seeing (suc (suc k)) n K))
    writer_sees k n W away = let K : Fml = fsep (out t.2) W in qed 𝓛 (‵ (st n away) ∷ ‵ K ∷ []) ∵ fsplit ! $ fpick ! (λ h. suffices ! _ (upd_i 𝓤 (Seeing (suc (suc k)) n K)) $ check ! ((λ z. absurd (omega (arith, z))), (λ _. h)) $
        fpack ! (n % 4 ≡ 3) (λ _. ftrue) h $ fjoin ! $ use1 𝓛 (‵ (St n)) (stands n away) $ done !)

    pub sees : (r n w : ℕ) (v : Option R.Denot) (p : Phase R.Denot) → ⟦ st n p ⟧ ∗ ⟦ Prepared r w v ⟧ ⊢ upd 𝓤 (Seeing r n (Prepared r w v))
    sees zero n w v p = qed 𝓛 (‵ (st n p) ∷ ‵ ftrue ∷ []) ∵ suffices ! _ (upd_i 𝓤 (Seeing 0 n ftrue)) $ check ! ((λ z. absurd (omega (arith, z))), (λ z. absurd (omega (arith, z)))) $ use1 𝓛 (‵ (St n)) (stands n p) $ done !
    sees (suc zero) n w (Some x) p = qed 𝓛 (‵ (st n p) ∷ ‵ (reader R any b o t x) ∷ []) ∵ move ! (1 ∷ []) $ fpick ! (λ a. fsplit ! $ move ! (2 ∷ 0 ∷ 1 ∷ []) $ by ! (reader_sees x n a p))
    sees (suc zero) n w None p = qed 𝓛 (‵ (st n p) ∷ ‵ (reads R any b o t None) ∷ []) ∵ keep ! (1 ∷ []) $ by ! (never_e 𝓤 _)
    sees (suc (suc k)) n w v p = writer_sees k n (Ready 𝓛 R any b o t w) p

    pub hits : RowLaws R → (r old new : ℕ) (v : Option R.Denot) → MayTurn r old new → (p : Phase R.Denot) → ⟦ st old p ⟧ ∗ ⟦ Prepared r new v ⟧ ⊢ upd 𝓤 (⟦ St new ⟧ ∗ ⟦ Won r old new v ⟧)
    hits L zero old new v asked p = hit L old new v asked p
    hits L (suc zero) old new v asked p = reader_hits old new v asked p
    hits L (suc (suc k)) old new v asked p = writer_goes L k old new v asked p
