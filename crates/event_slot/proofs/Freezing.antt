-- A value that was written stays in its place, and what a step on the word of such a cell takes and leaves. Assumes `Logic`.
use Rattle.event_slot.proofs.Names.{ℕ, zero, suc, [], ◌∷◌, Ura, full_share, SProp, ent, sep, ex, ex_i, guard, guard_i, via, upd_i, emp, id⊢, Lft, Share, Incl, Fml, ftrue, fsep, fseps, fex, fwand, fupd, fdead, fbor, flft, Toks, span, Logic, sem, lfts, ‵, raw, ◌⊛◌, some, given, later, ◌$◌, ◌∵◌, !, qed, move, keep, drop, split, fsplit, fsplit3, fjoin, fpick, fpack, pick, learn, assume, suffices, use0, use1, use2, await, updating, now, done, bor_open, obor_alter, RattleType, part_at, Shares, nothing, by_one}
use Rattle.counted_slot.specs.Counting.{fact, cell}
use Rattle.event_slot.specs.Written.{place, written, stands}

module _ {M : Type 1} {𝓤 : Ura M} (𝓛 : Logic 𝓤) (R : RattleType) (ok : R.Denot → Type 0) (b o : ℕ) where
  open 𝓛 use {H, A}

  abbrev Pr : Type 2
  Pr = SProp 𝓤

  abbrev ◌⊢◌ : Pr → Pr → Type 1
  P ⊢ Q = ent 𝓤 P Q

  abbrev ◌∗◌ : Pr → Pr → Pr
  P ∗ Q = sep 𝓤 P Q

  abbrev ⟦◌⟧ : Fml → Pr
  ⟦ P ⟧ = sem 𝓛 P

  infix 26 ◌⊢◌
  infixr 35 ◌∗◌
  abbrev C : Fml
  C = cell R ok b o

  abbrev At : R.Denot → Fml
  At x = part_at R full_share x b (place R ok b o)

  -- a value in its place is the cell again
  pub packs : (α : Lft) (x : R.Denot) → ok x → emp 𝓤 ⊢ ⟦ fwand (fsep (fdead α) (fseps (At x ∷ []))) (fupd C) ⟧
  unfolding fseps
  packs α x h = qed 𝓛 [] ∵ assume ! (‵ (fsep (fdead α) (fsep (At x) ftrue))) $ suffices ! ⟦ C ⟧ (upd_i 𝓤 ⟦ C ⟧) $ fsplit3 ! $ keep ! (1 ∷ []) $ nothing ! $ fpack ! (ok x) (λ _. ftrue) h $ move ! (1 ∷ 0 ∷ []) $ fjoin ! $
      fpack ! R.Denot (λ y. fsep (At y) (fact (ok y))) x $ done !

  value_at : (α : Lft) (q : Share) → A.bor α C ∗ A.lft α q ⊢ H.⇛ (ex 𝓤 (λ (x : R.Denot). guard 𝓤 (ok x) (A.bor α (At x))) ∗ A.lft α q)
  unfolding fseps
  value_at α q = qed 𝓛 (‵ (fbor α C) ∷ ‵ (flft α q) ∷ []) ∵ updating ! $ bor_open ! tt $ move ! (1 ∷ []) $ fpick ! (λ x. fsplit ! $ move ! (1 ∷ []) $ fpick ! (λ h. move ! (1 ∷ 0 ∷ []) $ fjoin ! $
      use0 𝓛 (‵ (fwand (fsep (fdead α) (fseps (At x ∷ []))) (fupd C))) (packs α x h) $ move ! (2 ∷ 1 ∷ 0 ∷ []) $ obor_alter ! tt (At x ∷ []) $
      use1 𝓛 (‵ (fbor α (At x)) ⊛ ‵ ftrue) (id⊢ 𝓤 _) $ split ! $ let F : R.Denot → Pr = λ y. guard 𝓤 (ok y) (A.bor α (At y)) in
      use1 𝓛 (raw (ex 𝓤 F)) (via 𝓤 (F x) (guard_i 𝓤 (ok x) (A.bor α (At x)) h) (ex_i 𝓤 F x)) $ now ! $ keep ! (0 ∷ 2 ∷ []) $ done !))

  module _ (l : Lft) (shares : Shares 𝓛 R l) (α : Lft) (ts : Toks) (inc : Incl (span ts) l) (sp : Incl (span ts) α) where
    freezes : A.bor α C ∗ lfts 𝓛 ts ⊢ H.⇛ (⟦ fex R.Denot (written R ok b o α) ⟧ ∗ lfts 𝓛 ts)
    freezes = qed 𝓛 (‵ (fbor α C) ∷ raw (lfts 𝓛 ts) ∷ []) ∵ updating ! $
        use2 𝓛 (later (some (λ (x : R.Denot). given (ok x) (‵ (fbor α (At x)))) ⊛ raw (lfts 𝓛 ts))) (by_one 𝓛 α ts sp (A.bor α C) (ex 𝓤 (λ (x : R.Denot). guard 𝓤 (ok x) (A.bor α (At x)))) (value_at α)) $ await ! tt $ split ! $ pick ! (λ x. learn ! (λ h.
        use2 𝓛 (later (‵ (denote.Memory.shared_of R x b (place R ok b o) α) ⊛ raw (lfts 𝓛 ts))) (shares x α ts b (place R ok b o) inc sp) $ await ! tt $ split ! $
        nothing ! $ fpack ! (ok x) (λ _. ftrue) h $ move ! (1 ∷ 0 ∷ []) $ fjoin ! $ fpack ! R.Denot (written R ok b o α) x $ now ! $ done !))

    -- whatever the word is, the right to write becomes what stands behind it
    pub starts : (n : ℕ) → A.bor α C ∗ lfts 𝓛 ts ⊢ H.⇛ (⟦ stands R ok b o α n ⟧ ∗ lfts 𝓛 ts)
    starts zero = 𝓛.laws.⇛_intro _
    starts (suc zero) = qed 𝓛 (‵ (fbor α C) ∷ raw (lfts 𝓛 ts) ∷ []) ∵ updating ! $ drop ! $ nothing ! $ now ! $ done !
    starts (suc (suc k)) = freezes
