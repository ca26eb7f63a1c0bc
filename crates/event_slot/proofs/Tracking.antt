-- The value's borrow under a name that says what the value is, as a writer has it. Assumes `Logic`.
use Rattle.event_slot.proofs.Names.{◌≡◌, ℕ, arith, sym, refl, [], ◌∷◌, Option, Some, None, Ura, full_share, Gv, SProp, ent, sep, ex, guard, guard_i, via, upd, upd_i, emp, id⊢, ex_i, Lft, GName, Share, Fml, ftrue, fsep, fseps, fex, fwand, fupd, fdead, fauth, fobs, fbor, flft, Logic, sem, ‵, raw, ◌⊛◌, some, later, ◌$◌, ◌∵◌, !, qed, by, move, keep, drop, split, fsplit, fsplit3, fjoin, fpick, fpack, pick, assume, suffices, settle, use0, use1, use2, await, rewrite, updating, now, done, bor_open, obor_alter, name_new, Body, RattleType, part_at, mem, nothing, out}
use Rattle.counted_slot.specs.Counting.{cell}
use Rattle.counted_slot.proofs.Steps.{Spoil, none, lent, home, last, rank, shown_value, spoil, settles}
use Rattle.event_slot.specs.Holding.{any, Names, count, place, tracked, right_to}

module _ {M : Type 1} {𝓤 : Ura M} (𝓛 : Logic 𝓤) (R : RattleType) (b o : ℕ) where
  open 𝓛 use {H, A}

  abbrev Pr : Type 2
  Pr = SProp 𝓤

  abbrev ◌⊢◌ : Pr → Pr → Type 1
  P ⊢ Q = ent 𝓤 P Q

  abbrev ◌∗◌ : Pr → Pr → Pr
  P ∗ Q = sep 𝓤 P Q

  abbrev ⟦◌⟧ : Fml → Pr
  ⟦ P ⟧ = sem 𝓛 P

  infix 26 ◌⊢◌
  infixr 35 ◌∗◌
  abbrev C : Fml
  C = cell R any b o

  abbrev At : R.Denot → Fml
  At x = part_at R full_share x b (place R b o)

  abbrev In : GName → Fml
  In δ = Body (mem R) b (place R b o) δ

  pub at_home : (x : R.Denot) → ⟦ At x ⟧ ⊢ ⟦ C ⟧
  at_home x = qed 𝓛 (‵ (At x) ∷ []) ∵ nothing ! $ fpack ! (any x) (λ _. ftrue) tt $ move ! (1 ∷ 0 ∷ []) $ fjoin ! $ fpack ! R.Denot (λ y. fsep (At y) (fex (any y) (λ _. ftrue))) x $ done !

  forgets : (α : Lft) (δ : GName) → emp 𝓤 ⊢ ⟦ fwand (fsep (fdead α) (fseps (In δ ∷ []))) (fupd C) ⟧
  unfolding fseps
  forgets α δ = qed 𝓛 [] ∵ assume ! (‵ (fsep (fdead α) (fsep (In δ) ftrue))) $ suffices ! ⟦ C ⟧ (upd_i 𝓤 ⟦ C ⟧) $ fsplit3 ! $ keep ! (1 ∷ []) $ fpick ! (λ x. fsplit ! $ keep ! (0 ∷ []) $ by ! (at_home x))

  pub tracks : (α : Lft) (q : Share) → A.bor α C ∗ A.lft α q ⊢ H.⇛ (ex 𝓤 (λ (x : R.Denot). ⟦ tracked R b o α x ⟧) ∗ A.lft α q)
  unfolding fseps
  tracks α q = qed 𝓛 (‵ (fbor α C) ∷ ‵ (flft α q) ∷ []) ∵ updating ! $ bor_open ! tt $ move ! (1 ∷ []) $ fpick ! (λ x. fsplit ! $ move ! (1 ∷ []) $ drop ! $ name_new ! tt (R.coded.code x) (λ δ. move ! (2 ∷ 1 ∷ []) $ fjoin ! $
      fpack ! R.Denot (λ y. fsep (At y) (fauth δ (R.coded.code y))) x $ nothing ! $ move ! (1 ∷ 0 ∷ []) $ fjoin ! $
      use0 𝓛 (‵ (fwand (fsep (fdead α) (fseps (In δ ∷ []))) (fupd C))) (forgets α δ) $ move ! (3 ∷ 1 ∷ 0 ∷ []) $ obor_alter ! tt (In δ ∷ []) $
      use1 𝓛 (‵ (fbor α (In δ)) ⊛ ‵ ftrue) (id⊢ 𝓤 _) $ split ! $ move ! (3 ∷ 0 ∷ []) $ fjoin ! $ fpack ! GName (λ η. fsep (fobs η (R.coded.code x)) (fbor α (In η))) δ $
      use1 𝓛 (raw (ex 𝓤 (λ (y : R.Denot). ⟦ tracked R b o α y ⟧))) (ex_i 𝓤 (λ (y : R.Denot). ⟦ tracked R b o α y ⟧) x) $ now ! $ keep ! (0 ∷ 2 ∷ []) $ done !))

  -- the name takes whatever value the cell has
  renamed : (α : Lft) (δ : GName) (u v : Gv) → A.obs δ u ∗ A.auth δ v ⊢ ⟦ fwand (fsep (fdead α) (fseps (C ∷ []))) (fupd (In δ)) ⟧
  unfolding fseps
  renamed α δ u v = qed 𝓛 (‵ (fobs δ u) ∷ ‵ (fauth δ v) ∷ []) ∵ assume ! (‵ (fsep (fdead α) (fsep C ftrue))) $ fsplit3 ! $ drop ! $ fpick ! (λ y. fsplit ! $ move ! (3 ∷ 4 ∷ []) $
      use2 𝓛 (raw (upd 𝓤 (A.obs δ (R.coded.code y) ∗ A.auth δ (R.coded.code y)))) (𝓛.names.name_set_upd δ u v (R.coded.code y)) $
      settle 𝓛 ⟦ In δ ⟧ (‵ (fobs δ (R.coded.code y)) ⊛ ‵ (fauth δ (R.coded.code y))) $ split ! $ suffices ! ⟦ In δ ⟧ (upd_i 𝓤 ⟦ In δ ⟧) $ keep ! (2 ∷ 1 ∷ []) $ fjoin ! $
      fpack ! R.Denot (λ z. fsep (At z) (fauth δ (R.coded.code z))) y $ done !)

  pub untracks : (α : Lft) (x : R.Denot) (q : Share) → ⟦ tracked R b o α x ⟧ ∗ A.lft α q ⊢ H.⇛ (A.bor α C ∗ A.lft α q)
  unfolding fseps
  untracks α x q = qed 𝓛 (‵ (tracked R b o α x) ∷ ‵ (flft α q) ∷ []) ∵ updating ! $ fpick ! (λ δ. fsplit ! $ move ! (1 ∷ 2 ∷ []) $ bor_open ! tt $ move ! (1 ∷ []) $ fpick ! (λ y. fsplit ! $
      use1 𝓛 (‵ C) (at_home y) $ nothing ! $ move ! (1 ∷ 0 ∷ []) $ fjoin ! $ move ! (3 ∷ 1 ∷ []) $
      use2 𝓛 (‵ (fwand (fsep (fdead α) (fseps (C ∷ []))) (fupd (In δ)))) (renamed α δ (R.coded.code x) (R.coded.code y)) $ move ! (2 ∷ 1 ∷ 0 ∷ []) $ obor_alter ! tt (C ∷ []) $
      use1 𝓛 (‵ (fbor α C) ⊛ ‵ ftrue) (id⊢ 𝓤 _) $ split ! $ now ! $ keep ! (0 ∷ 2 ∷ []) $ done !))

  module _ (t : Names) (q : Share) where
    -- the right that a step gained, of the value that it said
    abbrev Right : Spoil R.Denot → Option R.Denot → Pr
    Right s v = guard 𝓤 (rank s ≡ 1 → v ≡ shown_value s) ⟦ right_to R b o t (rank s) v ⟧

    right : (s : Spoil R.Denot) (v : Option R.Denot) → (rank s ≡ 1 → v ≡ shown_value s) → ⟦ right_to R b o t (rank s) v ⟧ ⊢ ex 𝓤 (Right s)
    right s v is = via 𝓤 _ (guard_i 𝓤 (rank s ≡ 1 → v ≡ shown_value s) ⟦ right_to R b o t (rank s) v ⟧ is) (ex_i 𝓤 (Right s) v)

    -- the value is home, and its writer knows what it is
    writer_at : (s : Spoil R.Denot) → rank s ≡ 2 → ⟦ fsep (out t.2) (fbor t.0 C) ⟧ ∗ A.lft t.0 q ⊢ H.⇛ (ex 𝓤 (Right s) ∗ A.lft t.0 q)
    writer_at s two = qed 𝓛 (‵ (fsep (out t.2) (fbor t.0 C)) ∷ ‵ (flft t.0 q) ∷ []) ∵ updating ! $ fsplit ! $ move ! (1 ∷ 2 ∷ []) $
        use2 𝓛 (later (some (λ (x : R.Denot). ‵ (tracked R b o t.0 x)) ⊛ ‵ (flft t.0 q))) (tracks t.0 q) $ await ! tt $ split ! $ pick ! (λ x. move ! (2 ∷ 0 ∷ []) $ fjoin ! $ rewrite ! 0 (λ (k : ℕ). ‵ (right_to R b o t k (Some x))) (sym two) refl $
        now ! $ use1 𝓛 (raw (ex 𝓤 (Right s))) (right s (Some x) (λ one. absurd (omega (arith, one, two)))) $ done !)

    -- what a step gained is a right
    pub gets : (s : Spoil R.Denot) → ⟦ spoil 𝓛 R any b o (count t) s ⟧ ∗ A.lft t.0 q ⊢ H.⇛ (ex 𝓤 (Right s) ∗ A.lft t.0 q)
    gets none = qed 𝓛 (‵ ftrue ∷ ‵ (flft t.0 q) ∷ []) ∵ updating ! $ use1 𝓛 (raw (ex 𝓤 (Right none))) (right none None (λ one. absurd (omega (arith, one)))) $ now ! $ done !
    gets (lent x) = qed 𝓛 (‵ (spoil 𝓛 R any b o (count t) (lent x)) ∷ ‵ (flft t.0 q) ∷ []) ∵ updating ! $ use1 𝓛 (raw (ex 𝓤 (Right (lent x)))) (right (lent x) (Some x) (λ _. refl)) $ now ! $ done !
    gets home = writer_at home refl
    gets (last a) = qed 𝓛 (‵ (spoil 𝓛 R any b o (count t) (last a)) ∷ ‵ (flft t.0 q) ∷ []) ∵ updating ! $ use1 𝓛 (later (‵ (fsep (out t.2) (fbor t.0 C)))) (settles 𝓛 R any b o (count t) (last a)) $ await ! tt $
        use2 𝓛 (later (raw (ex 𝓤 (Right (last a))) ⊛ ‵ (flft t.0 q))) (writer_at (last a) refl) $ await ! tt $ now ! $ done !
