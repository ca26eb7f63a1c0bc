-- What each walk with a step on the word of a cell that is written once begins with, and the three steps: a look, a seizure and the store that says it is written. Assumes `Logic`.
use Rattle.event_slot.proofs.Names.{◌≡◌, ℕ, zero, suc, ◌+◌, T, eqb, [], ◌∷◌, sym, refl, subst, arith, eq-eqb, ne_eqb, Option, Some, None, w64, Bool, dite, ℕ_discrete, Ura, vint, has_ty, WT, full_share, SProp, ent, sep, wand, ex, upd, upd_i, guard, guard_i, via, ex_i, Lft, Share, Fml, ftrue, fsep, fex, fbor, flft, finv, before, either, Running, Model, Lends-one, Logic, sem, ‵, raw, ◌⊛◌, some, given, later, ◌$◌, ◌∵◌, !, qed, by, move, keep, drop, split, fsplit, fjoin, fpick, fpack, pick, learn, show, frame, each, assume, suffices, settle, use1, use2, await, updating, now, done, before_dup, contraction, RattleType, RowLaws, block_ptr, nothing, asks, word, whenever, shown, fact_i, never_e, Ptr, InBlock, null_ptr}
use mir.Syntax.{ty_int}
use denote.Memory.{shared_of}
use Rattle.core.proofs.raw_atomic.Asked.{borrowed, Lies, Again}
use Rattle.counted_slot.specs.Counting.{fact}
use Rattle.event_slot.specs.Written.{place, written, stands, Inv, kept, right_to, hold_owns}

module _ {M : Type 1} {𝓤 : Ura M} (𝓛 : Logic 𝓤) (R : RattleType) (ok : R.Denot → Type 0) (b o : ℕ) (α : Lft) where
  open 𝓛 use {H, A}

  abbrev Pr : Type 2
  Pr = SProp 𝓤

  abbrev ◌⊢◌ : Pr → Pr → Type 1
  P ⊢ Q = ent 𝓤 P Q

  abbrev ◌∗◌ : Pr → Pr → Pr
  P ∗ Q = sep 𝓤 P Q

  abbrev ◌-∗◌ : Pr → Pr → Pr
  P -∗ Q = wand 𝓤 P Q

  abbrev ⟦◌⟧ : Fml → Pr
  ⟦ P ⟧ = sem 𝓛 P

  infix 26 ◌⊢◌
  infixr 35 ◌∗◌
  infixr 30 ◌-∗◌
  abbrev I : Fml
  I = Inv R ok b o α

  abbrev pub J : Fml
  J = fbor α I

  abbrev St : ℕ → Fml
  St = stands R ok b o α

  abbrev Written : R.Denot → Fml
  Written = written R ok b o α

  module _ (β : Lft) where
    abbrev Kept : Fml
    Kept = kept R ok b o α β

    pub kept_twice : ⟦ Kept ⟧ ⊢ ⟦ Kept ⟧ ∗ ⟦ Kept ⟧
    kept_twice = qed 𝓛 (‵ Kept ∷ []) ∵ fsplit ! $ use1 𝓛 (‵ (before β α) ⊛ ‵ (before β α)) (before_dup 𝓛 β α) $ split ! $ move ! (2 ∷ []) $ use1 𝓛 (‵ (finv J) ⊛ ‵ (finv J)) (𝓛.invs.inv_dup J) $ split ! $
        move ! (2 ∷ 0 ∷ []) $ fjoin ! $ move ! (2 ∷ 1 ∷ []) $ fjoin ! $ done !

    module _ (𝓜 : Model 𝓤 H) (𝓡 : Running 𝓤 H 𝓜) (q : Share) where
      -- a token of the cell's own lifetime, and the way back to that of β
      abbrev pub Reached : Share → Pr
      Reached s = A.inv J ∗ A.lft α s ∗ (A.lft α s -∗ H.⇛ (A.lft β q))

      pub reaches : ⟦ Kept ⟧ ∗ A.lft β q ⊢ H.⇛ (ex 𝓤 Reached)
      reaches = qed 𝓛 (‵ Kept ∷ ‵ (flft β q) ∷ []) ∵ updating ! $ fsplit ! $ move ! (0 ∷ 2 ∷ []) $
          use2 𝓛 (later (some (λ (s : Share). ‵ (flft α s) ⊛ raw (A.lft α s -∗ H.⇛ (A.lft β q))))) (Lends-one 𝓛 𝓜 𝓡 β α q) $ await ! tt $ pick ! (λ s. split ! $ now ! $ show ! Reached s $ move ! (2 ∷ 0 ∷ 1 ∷ []) $ done !)

  -- a step that makes f of the word
  module _ (s : Share) where
    stepped : (f : ℕ → ℕ) (K : Fml) (left : ℕ → Fml) → ((n : ℕ) → ⟦ St n ⟧ ∗ ⟦ K ⟧ ⊢ upd 𝓤 (⟦ St (f n) ⟧ ∗ ⟦ left n ⟧))
        → A.inv J ∗ (A.lft α s ∗ ⟦ K ⟧) ⊢ asks 𝓛 (block_ptr b (o + 0)) f whenever (λ n. fsep (flft α s) (left n))
    stepped f K left law = let e : ℕ = o + 0 in let G : Pr = ex 𝓤 (Lies 𝓛 α s I b e f whenever left) in borrowed 𝓛 α s I b e f whenever left ⟦ K ⟧ (
        qed 𝓛 (‵ I ∷ ‵ K ∷ []) ∵ suffices ! _ (upd_i 𝓤 G) $ fpick ! (λ n. fsplit ! $ let Z : Pr = ⟦ I ⟧ ∗ ⟦ left n ⟧ in
        use1 𝓛 (given (T (has_ty (ty_int w64) (vint w64 n)) × WT (vint w64 n)) (‵ (word b e n))) (𝓛.laws.at_wt full_share (ty_int w64) b e (vint w64 n)) $ learn ! (λ g.
        show ! (Lies 𝓛 α s I b e f whenever left) n $ frame ! $ each ! (λ (_ : Unit {0}). Again 𝓛 α s I b e f whenever left n) (λ _. assume ! (‵ (word b e (f n))) $ move ! (1 ∷ 2 ∷ []) $
        use2 𝓛 (raw (upd 𝓤 (⟦ St (f n) ⟧ ∗ ⟦ left n ⟧))) (law n) $ settle 𝓛 Z (‵ (St (f n)) ⊛ ‵ (left n)) $ split ! $ suffices ! _ (upd_i 𝓤 Z) $
        move ! (2 ∷ 0 ∷ []) $ fjoin ! $ fpack ! ℕ (λ m. fsep (word b e m) (St m)) (f n) $ done !))))

    -- a right of which P holds
    abbrev pub gains : (ℕ → Type 0) → Fml
    gains P = fex (ℕ × Option R.Denot) (λ w. fsep (fact (P w.0)) (right_to R ok b o α w.0 w.1))

    module _ (P : ℕ → Type 0) where
      gained : (right : ℕ) (v : Option R.Denot) → P right → ⟦ right_to R ok b o α right v ⟧ ⊢ ⟦ gains P ⟧
      gained right v p = qed 𝓛 (‵ (right_to R ok b o α right v) ∷ []) ∵ nothing ! $ fpack ! (P right) (λ _. ftrue) p $ fjoin ! $ fpack ! (ℕ × Option R.Denot) (λ w. fsep (fact (P w.0)) (right_to R ok b o α w.0 w.1)) (right, v) $ done !

      pub right_gained : ⟦ gains P ⟧ ⊢ ex 𝓤 (λ (w : ℕ × Option R.Denot). guard 𝓤 (P w.0) ⟦ right_to R ok b o α w.0 w.1 ⟧)
      right_gained = let F : ℕ × Option R.Denot → Pr = λ w. guard 𝓤 (P w.0) ⟦ right_to R ok b o α w.0 w.1 ⟧ in
          qed 𝓛 (‵ (gains P) ∷ []) ∵ fpick ! (λ w. fsplit ! $ fpick ! (λ p. drop ! $ by ! (via 𝓤 (F w) (guard_i 𝓤 (P w.0) ⟦ right_to R ok b o α w.0 w.1 ⟧ p) (ex_i 𝓤 F w))))

    -- the state stays, and the caller has no right, which P allows
    stays : (P : ℕ → Type 0) (n : ℕ) → P 0 → ⟦ St n ⟧ ∗ ⟦ ftrue ⟧ ⊢ upd 𝓤 (⟦ St n ⟧ ∗ ⟦ gains P ⟧)
    stays P n p = qed 𝓛 (‵ (St n) ∷ ‵ ftrue ∷ []) ∵ suffices ! _ (upd_i 𝓤 (⟦ St n ⟧ ∗ ⟦ gains P ⟧)) $ frame ! $ by ! (gained P 0 None p)

    module _ (L : RowLaws R) where
      pub written_twice : (x : R.Denot) → ⟦ Written x ⟧ ⊢ ⟦ Written x ⟧ ∗ ⟦ Written x ⟧
      written_twice x = let V = shared_of R x b (place R ok b o) in qed 𝓛 (‵ (Written x) ∷ []) ∵ fsplit ! $ use1 𝓛 (‵ (V α) ⊛ ‵ (V α)) (contraction 𝓛 V (L x b (place R ok b o)) α) $ split ! $ move ! (2 ∷ []) $ fpick ! (λ h. drop ! $
          nothing ! $ fpack ! (ok x) (λ _. ftrue) h $ move ! (1 ∷ 0 ∷ []) $ fjoin ! $ move ! (1 ∷ []) $ nothing ! $ fpack ! (ok x) (λ _. ftrue) h $ move ! (1 ∷ 0 ∷ []) $ fjoin ! $ done !)

      -- what a look leaves where the word is n
      abbrev pub looked : ℕ → ℕ → Type 0
      looked n right = n ≡ 2 → right ≡ 1

      sees : (n : ℕ) → ⟦ St n ⟧ ∗ ⟦ ftrue ⟧ ⊢ upd 𝓤 (⟦ St n ⟧ ∗ ⟦ gains (looked n) ⟧)
      sees zero = stays (looked 0) 0 (λ e. absurd (omega (arith, e)))
      sees (suc zero) = stays (looked 1) 1 (λ e. absurd (omega (arith, e)))
      sees (suc (suc k)) = let n : ℕ = suc (suc k) in qed 𝓛 (‵ (St n) ∷ ‵ ftrue ∷ []) ∵ fpick ! (λ x. use1 𝓛 (‵ (Written x) ⊛ ‵ (Written x)) (written_twice x) $ split ! $ suffices ! _ (upd_i 𝓤 (⟦ St n ⟧ ∗ ⟦ gains (looked n) ⟧)) $
          fpack ! R.Denot Written x $ frame ! $ keep ! (0 ∷ []) $ by ! (gained (looked n) 1 (Some x) (λ _. refl)))

      pub looks : A.inv J ∗ (A.lft α s ∗ ⟦ ftrue ⟧) ⊢ asks 𝓛 (block_ptr b (o + 0)) (λ n. n) whenever (λ n. fsep (flft α s) (gains (looked n)))
      looks = stepped (λ n. n) ftrue (λ n. gains (looked n)) sees

      publishes : (x : R.Denot) (n : ℕ) → ⟦ St n ⟧ ∗ ⟦ Written x ⟧ ⊢ upd 𝓤 (⟦ St 2 ⟧ ∗ ⟦ Written x ⟧)
      publishes x n = qed 𝓛 (‵ (St n) ∷ ‵ (Written x) ∷ []) ∵ drop ! $ use1 𝓛 (‵ (Written x) ⊛ ‵ (Written x)) (written_twice x) $ split ! $ suffices ! _ (upd_i 𝓤 (⟦ St 2 ⟧ ∗ ⟦ Written x ⟧)) $ fpack ! R.Denot Written x $ done !

      pub says : (x : R.Denot) → A.inv J ∗ (A.lft α s ∗ ⟦ Written x ⟧) ⊢ asks 𝓛 (block_ptr b (o + 0)) (λ _. 2) whenever (λ _. fsep (flft α s) (Written x))
      says x = stepped (λ _. 2) (Written x) (λ _. Written x) (publishes x)

    -- what a seizure leaves where the word was n
    abbrev pub seized : ℕ → ℕ → Type 0
    seized n right = n ≡ 0 → right ≡ 2

    abbrev Seizes : ℕ → ℕ → Type 1
    Seizes n m = ⟦ St n ⟧ ∗ ⟦ ftrue ⟧ ⊢ upd 𝓤 (⟦ St m ⟧ ∗ ⟦ gains (seized n) ⟧)

    wins : Seizes 0 1
    wins = qed 𝓛 (‵ (St 0) ∷ ‵ ftrue ∷ []) ∵ suffices ! _ (upd_i 𝓤 (⟦ St 1 ⟧ ∗ ⟦ gains (seized 0) ⟧)) $ move ! (1 ∷ 0 ∷ []) $ frame ! $ by ! (gained (seized 0) 2 None (λ _. refl))

    seizes_at : (n : ℕ) → Seizes n (either (eqb n 0) 1 n)
    seizes_at n = let F : Bool → Type 1 = λ y. Seizes n (either y 1 n) in dite (ℕ_discrete n 0)
        (λ e. subst F (sym (eq-eqb n 0 e)) (subst (λ (k : ℕ). Seizes k 1) (sym e) wins))
        (λ miss. subst F (sym (ne_eqb n 0 miss)) (stays (seized n) n (λ e. absurd (miss e))))

    pub seizes : A.inv J ∗ (A.lft α s ∗ ⟦ ftrue ⟧) ⊢ asks 𝓛 (block_ptr b (o + 0)) (λ n. either (eqb n 0) 1 n) whenever (λ n. fsep (flft α s) (gains (seized n)))
    seizes = stepped (λ n. either (eqb n 0) 1 n) ftrue (λ n. gains (seized n)) seizes_at

    -- a look that gains nothing
    still : (n : ℕ) → ⟦ St n ⟧ ∗ ⟦ ftrue ⟧ ⊢ upd 𝓤 (⟦ St n ⟧ ∗ ⟦ ftrue ⟧)
    still n = upd_i 𝓤 (⟦ St n ⟧ ∗ ⟦ ftrue ⟧)

    pub looks_on : A.inv J ∗ (A.lft α s ∗ ⟦ ftrue ⟧) ⊢ asks 𝓛 (block_ptr b (o + 0)) (λ n. n) whenever (λ n. fsep (flft α s) ftrue)
    looks_on = stepped (λ n. n) ftrue (λ _. ftrue) still

-- whoever has a hold has the cell's address, and if it sees the value, what that is
module _ {M : Type 1} {𝓤 : Ura M} (𝓛 : Logic 𝓤) (R : RattleType) (ok : R.Denot → Type 0) where
  pub placed : (β : Lft) (p : Ptr) (right : ℕ) (v : Option R.Denot) → ent 𝓤 (sem 𝓛 (hold_owns β R ok p right v)) (shown 𝓤 (InBlock p))
  placed β (block_ptr b o) right v = fact_i 𝓤 (Unit {0}) _ tt
  placed β null_ptr right v = never_e 𝓤 _

  pub seen : (b o : ℕ) (α : Lft) (v : Option R.Denot) → ent 𝓤 (sem 𝓛 (right_to R ok b o α 1 v)) (ex 𝓤 (λ (x : R.Denot). guard 𝓤 (Some x ≡ v) (sem 𝓛 (written R ok b o α x))))
  seen b o α (Some x) = via 𝓤 _ (guard_i 𝓤 (Some x ≡ Some x) (sem 𝓛 (written R ok b o α x)) refl) (ex_i 𝓤 (λ (z : R.Denot). guard 𝓤 (Some z ≡ Some x) (sem 𝓛 (written R ok b o α z))) x)
  seen b o α None = never_e 𝓤 _
