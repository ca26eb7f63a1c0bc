-- What a compare-exchange is given of the value by one who has a right, and the right that this leads to. Assumes `Logic`.
use Rattle.event_slot.proofs.Names.{◌≡◌, ◌≢◌, ℕ, zero, suc, ◌∙◌, [], ◌∷◌, sym, refl, arith, Option, Some, None, Bool, true, false, Ura, SProp, ent, sep, ex, ex_i, guard, guard_i, never_e, via, Lft, Share, Incl, Incl-refl, Fml, fsep, fex, fbor, flft, Logic, sem, ‵, raw, ◌⊛◌, some, given, later, ◌$◌, ◌∵◌, !, qed, by, move, keep, drop, split, split3, check, fsplit, fsplit3, fjoin, fpick, pick, learn, use1, use2, use3, await, updating, now, done, out, RattleType, Shares}
use mathlib.Core.Bool.{cond}
use Rattle.counted_slot.specs.Counting.{cell, fact}
use Rattle.counted_slot.proofs.Rounds.{Fresh, fresh, Ready, readies, ended}
use Rattle.counted_slot.proofs.Steps.{rank, shown_value}
use Rattle.event_slot.specs.Ruling.{Becomes, Sees}
use Rattle.event_slot.specs.Holding.{any, Names, count, tracked, writer, writes, right_to}
use Rattle.event_slot.proofs.Rights.{Won, Prepared}
use Rattle.event_slot.proofs.Tracking.{tracks, untracks, gets}

-- what this right became where the word was n, and `seen` and `sees` what a reader saw and sees; c counts words
abbrev pub Answer : {X : Type 0} → (ℕ → ℕ) → ℕ → ℕ → ℕ → ℕ → Option X → ℕ → Option X → Type 0
Answer c r old new n seen k sees = (n ≡ old → Becomes r (c old) (c new) k) × (n ≢ old → k ≡ r) × (r ≡ 1 → k ≡ 1 → sees ≡ seen)

module _ {M : Type 1} {𝓤 : Ura M} (𝓛 : Logic 𝓤) (R : RattleType) (b o : ℕ) (t : Names) where
  open 𝓛 use {H, A}

  abbrev Pr : Type 2
  Pr = SProp 𝓤

  abbrev ◌⊢◌ : Pr → Pr → Type 1
  P ⊢ Q = ent 𝓤 P Q

  abbrev ◌∗◌ : Pr → Pr → Pr
  P ∗ Q = sep 𝓤 P Q

  abbrev ⟦◌⟧ : Fml → Pr
  ⟦ P ⟧ = sem 𝓛 P

  infix 26 ◌⊢◌
  infixr 35 ◌∗◌
  abbrev C : Fml
  C = cell R any b o

  abbrev Given : ℕ → ℕ → Option R.Denot → Fml
  Given = Prepared 𝓛 R b o (count t)

  -- before the step, for one who has this right and makes `new` of the counted word
  module _ (shares : Shares 𝓛 R R.lives) (q : Share) (τ : Lft) (r : Share) (lives : Incl τ R.lives) where
    of_writer : (k new : ℕ) (v : Option R.Denot) → ⟦ writes R b o t v ⟧ ∗ A.lft t.0 q ∗ A.lft τ r ⊢ H.⇛ (⟦ Given (suc (suc k)) new v ⟧ ∗ A.lft t.0 q ∗ A.lft τ r)
    of_writer k new None = qed 𝓛 (‵ (writes R b o t None) ∷ ‵ (flft t.0 q) ∷ ‵ (flft τ r) ∷ []) ∵ keep ! (0 ∷ []) $ by ! (never_e 𝓤 _)
    of_writer k new (Some x) = qed 𝓛 (‵ (writer R b o t x) ∷ ‵ (flft t.0 q) ∷ ‵ (flft τ r) ∷ []) ∵ updating ! $ fsplit ! $ move ! (1 ∷ 2 ∷ []) $
        use2 𝓛 (later (‵ (fbor t.0 C) ⊛ ‵ (flft t.0 q))) (untracks 𝓛 R b o t.0 x q) $ await ! tt $ split ! $ move ! (0 ∷ 1 ∷ 3 ∷ []) $
        use3 𝓛 (later (‵ (Fresh 𝓛 R any b o (count t)) ⊛ ‵ (flft t.0 q) ⊛ ‵ (flft τ r))) (fresh 𝓛 R any b o (count t) R.lives shares t.0 q τ r (Incl-refl t.0) lives) $ await ! tt $ split3 ! $
        use1 𝓛 (later (‵ (Ready 𝓛 R any b o (count t) new))) (readies 𝓛 R any b o (count t) new) $ await ! tt $ move ! (3 ∷ 0 ∷ []) $ fjoin ! $ now ! $ done !

    pub prepares : (k new : ℕ) (v : Option R.Denot) → ⟦ right_to R b o t k v ⟧ ∗ A.lft t.0 q ∗ A.lft τ r ⊢ H.⇛ (⟦ Given k new v ⟧ ∗ A.lft t.0 q ∗ A.lft τ r)
    prepares zero new v = 𝓛.laws.⇛_intro _
    prepares (suc zero) new v = 𝓛.laws.⇛_intro _
    prepares (suc (suc k)) new v = of_writer k new v

  -- after the step
  module _ (c : ℕ → ℕ) (r old new : ℕ) (v : Option R.Denot) (q : Share) where
    abbrev pub If : ℕ → Bool → Type 0
    If n true = n ≡ old
    If n false = n ≢ old

    abbrev pub Got : Bool → Fml
    Got true = Won 𝓛 R b o (count t) r (c old) (c new) v
    Got false = Given r (c new) v

    -- what came of the right, where the word was n
    abbrev pub outcome : ℕ → Fml
    outcome n = fex Bool (λ y. fsep (fact (If n y)) (Got y))

    -- what the step leaves, with what one saw
    abbrev pub left_over : ℕ → Fml
    left_over n = fsep (fact (Sees r (c n))) (outcome n)

    abbrev pub Right : ℕ → ℕ × Option R.Denot → Pr
    Right n z = guard 𝓤 (Answer c r old new n v z.0 z.1) ⟦ right_to R b o t z.0 z.1 ⟧

    abbrev pub Rights : ℕ → Pr
    Rights n = ex 𝓤 (Right n)

    has : (n k : ℕ) (w : Option R.Denot) → Answer c r old new n v k w → ⟦ right_to R b o t k w ⟧ ⊢ Rights n
    has n k w is = via 𝓤 _ (guard_i 𝓤 (Answer c r old new n v k w) ⟦ right_to R b o t k w ⟧ is) (ex_i 𝓤 (Right n) (k, w))

    hit : (n : ℕ) → n ≡ old → ⟦ Got true ⟧ ∗ A.lft t.0 q ⊢ H.⇛ (Rights n ∗ A.lft t.0 q)
    hit n e = qed 𝓛 (‵ (Got true) ∷ ‵ (flft t.0 q) ∷ []) ∵ updating ! $ fpick ! (λ s. fsplit ! $ fpick ! (λ h. drop ! $
        use2 𝓛 (later (some (λ (w : Option R.Denot). given (rank s ≡ 1 → w ≡ shown_value s) (‵ (right_to R b o t (rank s) w))) ⊛ ‵ (flft t.0 q))) (gets 𝓛 R b o t q s) $ await ! tt $ split ! $ pick ! (λ w. learn ! (λ says.
        use1 𝓛 (raw (Rights n)) (has n (rank s) w ((λ _. h.0), (λ z. absurd (z e)), (λ one k. says k ∙ h.1 one k))) $ now ! $ done !))))

    homes : (y : Bool) → ⟦ cond y (fbor t.0 C) (Fresh 𝓛 R any b o (count t)) ⟧ ⊢ H.⇛ (A.bor t.0 C)
    homes true = 𝓛.laws.⇛_intro _
    homes false = qed 𝓛 (‵ (Fresh 𝓛 R any b o (count t)) ∷ []) ∵ updating ! $ fpick ! (λ u. fsplit3 ! $ keep ! (0 ∷ 2 ∷ []) $ use2 𝓛 (later (‵ (fbor t.0 C))) (ended 𝓛 R any b o (count t) u.0) $ await ! tt $ now ! $ done !)

    -- the value comes home again
    home_again : (w : ℕ) → ⟦ Ready 𝓛 R any b o (count t) w ⟧ ⊢ H.⇛ (A.bor t.0 C)
    home_again w = qed 𝓛 (‵ (Ready 𝓛 R any b o (count t) w) ∷ []) ∵ fpick ! (λ y. fsplit ! $ fpick ! (λ e. drop ! $ by ! (homes y)))

    stays_writer : (n k : ℕ) → n ≢ old → r ≡ suc (suc k) → ⟦ fsep (out t.2) (Ready 𝓛 R any b o (count t) (c new)) ⟧ ∗ A.lft t.0 q ⊢ H.⇛ (Rights n ∗ A.lft t.0 q)
    stays_writer n k ne is = qed 𝓛 (‵ (fsep (out t.2) (Ready 𝓛 R any b o (count t) (c new))) ∷ ‵ (flft t.0 q) ∷ []) ∵ updating ! $ fsplit ! $ move ! (1 ∷ []) $ use1 𝓛 (later (‵ (fbor t.0 C))) (home_again (c new)) $ await ! tt $ move ! (0 ∷ 2 ∷ []) $
        use2 𝓛 (later (some (λ (x : R.Denot). ‵ (tracked R b o t.0 x)) ⊛ ‵ (flft t.0 q))) (tracks 𝓛 R b o t.0 q) $ await ! tt $ split ! $ pick ! (λ x. move ! (2 ∷ 0 ∷ []) $ fjoin ! $
        use1 𝓛 (raw (Rights n)) (has n (suc (suc k)) (Some x) ((λ e. absurd (ne e)), (λ _. sym is), (λ one. absurd (omega (arith, one, is))))) $ now ! $ done !)

  -- where the word was another, the right stays
  module _ (c : ℕ → ℕ) (old new : ℕ) (v : Option R.Denot) (q : Share) where
    miss : (r n : ℕ) → n ≢ old → ⟦ Given r (c new) v ⟧ ∗ A.lft t.0 q ⊢ H.⇛ (Rights c r old new v q n ∗ A.lft t.0 q)
    miss zero n ne = qed 𝓛 (‵ (Given 0 (c new) v) ∷ ‵ (flft t.0 q) ∷ []) ∵ updating ! $ use1 𝓛 (raw (Rights c 0 old new v q n)) (has c 0 old new v q n 0 v ((λ e. absurd (ne e)), (λ _. refl), (λ _ _. refl))) $ now ! $ done !
    miss (suc zero) n ne = qed 𝓛 (‵ (Given 1 (c new) v) ∷ ‵ (flft t.0 q) ∷ []) ∵ updating ! $ use1 𝓛 (raw (Rights c 1 old new v q n)) (has c 1 old new v q n 1 v ((λ e. absurd (ne e)), (λ _. refl), (λ _ _. refl))) $ now ! $ done !
    miss (suc (suc k)) n ne = stays_writer c (suc (suc k)) old new v q n k ne refl

    got : (r n : ℕ) (y : Bool) → If c r old new v q n y → ⟦ Got c r old new v q y ⟧ ∗ A.lft t.0 q ⊢ H.⇛ (Rights c r old new v q n ∗ A.lft t.0 q)
    got r n true e = hit c r old new v q n e
    got r n false ne = miss r n ne

    ended_so : (r n : ℕ) → ⟦ outcome c r old new v q n ⟧ ∗ A.lft t.0 q ⊢ H.⇛ (Rights c r old new v q n ∗ A.lft t.0 q)
    ended_so r n = qed 𝓛 (‵ (outcome c r old new v q n) ∷ ‵ (flft t.0 q) ∷ []) ∵ fpick ! (λ y. fsplit ! $ fpick ! (λ is. drop ! $ by ! (got r n y is)))

    -- what one saw, and has after the step
    pub concludes : (r n : ℕ) → ⟦ left_over c r old new v q n ⟧ ∗ A.lft t.0 q ⊢ H.⇛ (guard 𝓤 (Sees r (c n)) (Rights c r old new v q n ∗ A.lft t.0 q))
    concludes r n = qed 𝓛 (‵ (left_over c r old new v q n) ∷ ‵ (flft t.0 q) ∷ []) ∵ updating ! $ fsplit ! $ fpick ! (λ h. drop ! $ use2 𝓛 (later (raw (Rights c r old new v q n) ⊛ ‵ (flft t.0 q))) (ended_so r n) $ await ! tt $ split ! $ now ! $ check ! h $ done !)
