-- One step on the word of a slot, under its invariant: the marks' side, and both sides at once. Assumes `Logic`.
use Rattle.event_slot.proofs.Names.{◌≡◌, ◌≢◌, ℕ, zero, suc, ◌+◌, ◌^◌, ◌<◌, T, eqb, List, [], ◌∷◌, ◌++◌, set, sym, refl, subst, arith, eq-eqb, ne_eqb, w64, Option, Some, None, get_elem?, Bool, true, false, dite, ℕ_discrete, Ura, ty_int, vint, has_ty, WT, full_share, Coded, SProp, ent, sep, ex, all, all_e, upd, upd_i, never_e, id⊢, Share, Fml, ftrue, fsep, fex, fbor, flft, either, Logic, sem, ‵, raw, ◌⊛◌, some, given, ◌$◌, ◌∵◌, !, qed, by, move, keep, drop, split, fsplit, fsplit3, fjoin, fpick, fpack, pick, learn, show, frame, each, assume, suffices, settle, use1, use2, done, RattleType, RowLaws, block_ptr, nothing, asks, word, whenever}
use mathlib.Core.Bool.{cond}
use mathlib.Core.Option.{some as there}
use Rattle.core.proofs.raw_atomic.Asked.{borrowed, Lies, Again}
use Rattle.atomic_table.specs.Seated.{roster}
use Rattle.atomic_table.specs.Marked.{mark_owns}
use Rattle.atomic_table.proofs.Roster.{Moved, moves, Joined, joins, apart}
use Rattle.counted_slot.specs.Counting.{fact, Phase, state, State}
use Rattle.event_slot.specs.Ruling.{MayTurn, Sees, Keeps, MayTrade, Comes, MaySplit, MayJoin}
use Rattle.event_slot.specs.Holding.{any, Names, count, tracked, right_to, lies, knowing, both, Inv}
use Rattle.event_slot.proofs.Rights.{Won, Prepared, Seeing, sees, writer_sees, hits}
use Rattle.event_slot.proofs.Turning.{outcome, left_over}

module _ {M : Type 1} {𝓤 : Ura M} (𝓛 : Logic 𝓤) where
  open 𝓛 use {A}

  abbrev Pr : Type 2
  Pr = SProp 𝓤

  abbrev ◌⊢◌ : Pr → Pr → Type 1
  P ⊢ Q = ent 𝓤 P Q

  abbrev ◌∗◌ : Pr → Pr → Pr
  P ∗ Q = sep 𝓤 P Q

  abbrev ⟦◌⟧ : Fml → Pr
  ⟦ P ⟧ = sem 𝓛 P

  infix 26 ◌⊢◌
  infixr 35 ◌∗◌
  module _ {W : Type 0} (cw : Coded W) (γ : ℕ) where
    -- a mark that knows w, of which P holds
    abbrev pub knows : (W → Type 0) → ℕ × W → Fml
    knows P t = fsep (fact (P t.1)) (mark_owns cw.code γ t.0 t.1)

    -- the mark id has moved
    abbrev pub moved : (W → Type 0) → ℕ → Fml
    moved P id = fex W (λ w. knows P (id, w))

    module _ (R Q : RattleType) (b o : ℕ) (t : Names) where
      -- the mark id knows w, and what is out with it is z.1, of both of which P holds
      abbrev pub has : (W → Option Q.Denot → Type 0) → ℕ → W × Option Q.Denot → Fml
      has P id z = fsep (fact (P z.0 z.1)) (fsep (mark_owns cw.code γ id z.0) (lies R Q b o t z.1))

      abbrev pub traded : (W → Option Q.Denot → Type 0) → ℕ → Fml
      traded P id = fex (W × Option Q.Denot) (has P id)

      -- a mark has come
      abbrev pub entered : (W → Option Q.Denot → Type 0) → Fml
      entered P = fex ℕ (traded P)

  module _ {W : Type 0} (cw : Coded W) (γ : ℕ) (R Q : RattleType) (holds : ℕ → Option Q.Denot → List W → Type 0) (b o : ℕ) (t : Names) where
    abbrev Lie : Option Q.Denot → Fml
    Lie = lies R Q b o t

    abbrev Views : ℕ → Fml
    Views = knowing cw.code γ holds Lie

    abbrev At : ℕ → Option Q.Denot × List W → Fml
    At n p = fsep (Lie p.0) (fsep (roster cw.code γ 0 p.1) (fact (holds n p.0 p.1)))

    ruled : (m : ℕ) (home : Option Q.Denot) (vs : List W) → holds m home vs → ⟦ Lie home ⟧ ∗ ⟦ roster cw.code γ 0 vs ⟧ ⊢ ⟦ Views m ⟧
    ruled m home vs h = qed 𝓛 (‵ (Lie home) ∷ ‵ (roster cw.code γ 0 vs) ∷ []) ∵ nothing ! $ fpack ! (holds m home vs) (λ _. ftrue) h $ move ! (2 ∷ 0 ∷ []) $ fjoin ! $ move ! (1 ∷ 0 ∷ []) $ fjoin ! $ fpack ! (Option Q.Denot × List W) (At m) (home, vs) $ done !

    pub follows : (id : ℕ) (v : W) (n : ℕ) (P : W → Type 0) → ((home : Option Q.Denot) (vs : List W) → holds n home vs → get_elem? vs id ≡ there v → (w : W) × holds n home (set vs id w) × P w)
        → ⟦ Views n ⟧ ∗ ⟦ mark_owns cw.code γ id v ⟧ ⊢ upd 𝓤 (⟦ Views n ⟧ ∗ ⟦ moved cw γ P id ⟧)
    follows id v n P law = let Z : Pr = ⟦ Views n ⟧ ∗ ⟦ moved cw γ P id ⟧ in qed 𝓛 (‵ (Views n) ∷ ‵ (mark_owns cw.code γ id v) ∷ []) ∵ fpick ! (λ p. fsplit3 ! $ move ! (2 ∷ []) $ fpick ! (λ h. drop ! $ move ! (1 ∷ 2 ∷ 0 ∷ []) $
        use2 𝓛 (given (get_elem? p.1 id ≡ there v) (raw (all 𝓤 (Moved 𝓛 cw γ 0 p.1 id id)))) (moves 𝓛 cw γ p.1 0 id id v (omega arith)) $ learn ! (λ at. let r = law p.0 p.1 h at in
        use1 𝓛 (raw (Moved 𝓛 cw γ 0 p.1 id id r.0)) (all_e 𝓤 (Moved 𝓛 cw γ 0 p.1 id id) r.0) $ settle 𝓛 Z (‵ (roster cw.code γ 0 (set p.1 id r.0)) ⊛ ‵ (mark_owns cw.code γ id r.0)) $ split ! $ suffices ! _ (upd_i 𝓤 Z) $
        move ! (2 ∷ 0 ∷ 1 ∷ []) $ use2 𝓛 (‵ (Views n)) (ruled n p.0 (set p.1 id r.0) r.1) $ frame ! $ nothing ! $ fpack ! (P r.0) (λ _. ftrue) r.2 $ fjoin ! $ fpack ! W (λ w. knows cw γ P (id, w)) r.0 $ done !)))

    -- the mark id knows l, and the mark j knows r
    abbrev pub two : ℕ → W → W → ℕ → Fml
    two id l r j = fsep (mark_owns cw.code γ id l) (mark_owns cw.code γ j r)

    pub forks : (id : ℕ) (v l r : W) (n : ℕ) → ((home : Option Q.Denot) (vs : List W) → holds n home vs → get_elem? vs id ≡ there v → holds n home (set vs id l ++ r ∷ []))
        → ⟦ Views n ⟧ ∗ ⟦ mark_owns cw.code γ id v ⟧ ⊢ upd 𝓤 (⟦ Views n ⟧ ∗ ⟦ fex ℕ (two id l r) ⟧)
    forks id v l r n law = let Z : Pr = ⟦ Views n ⟧ ∗ ⟦ fex ℕ (two id l r) ⟧ in qed 𝓛 (‵ (Views n) ∷ ‵ (mark_owns cw.code γ id v) ∷ []) ∵ fpick ! (λ p. fsplit3 ! $ move ! (2 ∷ []) $ fpick ! (λ h. drop ! $ move ! (1 ∷ 2 ∷ 0 ∷ []) $
        -- [the views; the mark; what lies at home]
        use2 𝓛 (given (get_elem? p.1 id ≡ there v) (raw (all 𝓤 (Moved 𝓛 cw γ 0 p.1 id id)))) (moves 𝓛 cw γ p.1 0 id id v (omega arith)) $ learn ! (λ at. let vs : List W = set p.1 id l in let us : List W = vs ++ r ∷ [] in
        use1 𝓛 (raw (Moved 𝓛 cw γ 0 p.1 id id l)) (all_e 𝓤 (Moved 𝓛 cw γ 0 p.1 id id) l) $ settle 𝓛 Z (‵ (roster cw.code γ 0 vs) ⊛ ‵ (mark_owns cw.code γ id l)) $ split ! $
        use1 𝓛 (raw (upd 𝓤 (ex 𝓤 (Joined 𝓛 cw γ 0 vs r)))) (joins 𝓛 cw γ vs 0 r) $ settle 𝓛 Z (some (λ (j : ℕ). ‵ (roster cw.code γ 0 us) ⊛ ‵ (mark_owns cw.code γ j r))) $ pick ! (λ j. split ! $ suffices ! _ (upd_i 𝓤 Z) $
        -- [the views; the new mark; the mark; what lies at home]
        move ! (3 ∷ 0 ∷ []) $ use2 𝓛 (‵ (Views n)) (ruled n p.0 us (law p.0 p.1 h at)) $ frame ! $ move ! (1 ∷ 0 ∷ []) $ fjoin ! $ fpack ! ℕ (two id l r) j $ done !))))

    -- two marks, of which the second is spent
    abbrev pub merged : ℕ → W → ℕ → W → Fml
    merged id all_ other spent = fsep (mark_owns cw.code γ id all_) (mark_owns cw.code γ other spent)

    pub absorbs : (id : ℕ) (v : W) (other : ℕ) (u all_ spent : W) (n : ℕ)
        → ((home : Option Q.Denot) (vs : List W) → holds n home vs → get_elem? vs id ≡ there v → other ≢ id → get_elem? (set vs id all_) other ≡ there u → holds n home (set (set vs id all_) other spent))
        → ⟦ Views n ⟧ ∗ ⟦ merged id v other u ⟧ ⊢ upd 𝓤 (⟦ Views n ⟧ ∗ ⟦ merged id all_ other spent ⟧)
    absorbs id v other u all_ spent n law = let Z : Pr = ⟦ Views n ⟧ ∗ ⟦ merged id all_ other spent ⟧ in qed 𝓛 (‵ (Views n) ∷ ‵ (merged id v other u) ∷ []) ∵ fpick ! (λ p. fsplit3 ! $ move ! (2 ∷ []) $ fpick ! (λ h. drop ! $ move ! (2 ∷ []) $ fsplit ! $
        -- [both marks; what lies at home; the views]
        use2 𝓛 (given (other ≢ id) (‵ (mark_owns cw.code γ id v) ⊛ ‵ (mark_owns cw.code γ other u))) (apart 𝓛 cw γ id other v u) $ learn ! (λ two'. split ! $ let vs : List W = set p.1 id all_ in let us : List W = set vs other spent in
        move ! (3 ∷ 0 ∷ []) $ use2 𝓛 (given (get_elem? p.1 id ≡ there v) (raw (all 𝓤 (Moved 𝓛 cw γ 0 p.1 id id)))) (moves 𝓛 cw γ p.1 0 id id v (omega arith)) $ learn ! (λ at.
        use1 𝓛 (raw (Moved 𝓛 cw γ 0 p.1 id id all_)) (all_e 𝓤 (Moved 𝓛 cw γ 0 p.1 id id) all_) $ settle 𝓛 Z (‵ (roster cw.code γ 0 vs) ⊛ ‵ (mark_owns cw.code γ id all_)) $ split ! $
        move ! (0 ∷ 2 ∷ []) $ use2 𝓛 (given (get_elem? vs other ≡ there u) (raw (all 𝓤 (Moved 𝓛 cw γ 0 vs other other)))) (moves 𝓛 cw γ vs 0 other other u (omega arith)) $ learn ! (λ at'.
        use1 𝓛 (raw (Moved 𝓛 cw γ 0 vs other other spent)) (all_e 𝓤 (Moved 𝓛 cw γ 0 vs other other) spent) $ settle 𝓛 Z (‵ (roster cw.code γ 0 us) ⊛ ‵ (mark_owns cw.code γ other spent)) $ split ! $ suffices ! _ (upd_i 𝓤 Z) $
        -- [the views; the spent mark; the mark; what lies at home]
        move ! (3 ∷ 0 ∷ []) $ use2 𝓛 (‵ (Views n)) (ruled n p.0 us (law p.0 p.1 h at two' at')) $ frame ! $ move ! (1 ∷ 0 ∷ []) $ fjoin ! $ done !)))))

    -- what lies at home and what is out change places, or stay
    places : (c : Bool) (home out : Option Q.Denot) → ⟦ Lie home ⟧ ∗ ⟦ Lie out ⟧ ⊢ ⟦ Lie (cond c out home) ⟧ ∗ ⟦ Lie (cond c home out) ⟧
    places true home out = qed 𝓛 (‵ (Lie home) ∷ ‵ (Lie out) ∷ []) ∵ move ! (1 ∷ 0 ∷ []) $ done !
    places false home out = id⊢ 𝓤 _

    packs : (id : ℕ) (P : W → Option Q.Denot → Type 0) (w : W) (s : Option Q.Denot) → P w s → ⟦ mark_owns cw.code γ id w ⟧ ∗ ⟦ Lie s ⟧ ⊢ ⟦ traded cw γ R Q b o t P id ⟧
    packs id P w s p = qed 𝓛 (‵ (mark_owns cw.code γ id w) ∷ ‵ (Lie s) ∷ []) ∵ fjoin ! $ nothing ! $ fpack ! (P w s) (λ _. ftrue) p $ fjoin ! $ fpack ! (W × Option Q.Denot) (has cw γ R Q b o t P id) (w, s) $ done !

    pub trades : (id : ℕ) (v : W) (out : Option Q.Denot) (n m : ℕ) (P : W → Option Q.Denot → Type 0)
        → ((home : Option Q.Denot) (vs : List W) → holds n home vs → get_elem? vs id ≡ there v → (w : W) × (c : Bool) × holds m (cond c out home) (set vs id w) × P w (cond c home out))
        → ⟦ Views n ⟧ ∗ ⟦ fsep (mark_owns cw.code γ id v) (Lie out) ⟧ ⊢ upd 𝓤 (⟦ Views m ⟧ ∗ ⟦ traded cw γ R Q b o t P id ⟧)
    trades id v out n m P law = let Z : Pr = ⟦ Views m ⟧ ∗ ⟦ traded cw γ R Q b o t P id ⟧ in qed 𝓛 (‵ (Views n) ∷ ‵ (fsep (mark_owns cw.code γ id v) (Lie out)) ∷ []) ∵ fpick ! (λ p. fsplit3 ! $ move ! (2 ∷ []) $ fpick ! (λ h. drop ! $ move ! (2 ∷ []) $ fsplit ! $
        -- [the mark; what is out; what lies at home; the views]
        move ! (3 ∷ 0 ∷ []) $ use2 𝓛 (given (get_elem? p.1 id ≡ there v) (raw (all 𝓤 (Moved 𝓛 cw γ 0 p.1 id id)))) (moves 𝓛 cw γ p.1 0 id id v (omega arith)) $ learn ! (λ at. let r = law p.0 p.1 h at in
        use1 𝓛 (raw (Moved 𝓛 cw γ 0 p.1 id id r.0)) (all_e 𝓤 (Moved 𝓛 cw γ 0 p.1 id id) r.0) $ settle 𝓛 Z (‵ (roster cw.code γ 0 (set p.1 id r.0)) ⊛ ‵ (mark_owns cw.code γ id r.0)) $ split ! $ suffices ! _ (upd_i 𝓤 Z) $
        move ! (3 ∷ 2 ∷ []) $ use2 𝓛 (‵ (Lie (cond r.1 out p.0)) ⊛ ‵ (Lie (cond r.1 p.0 out))) (places r.1 p.0 out) $ split ! $
        move ! (0 ∷ 2 ∷ []) $ use2 𝓛 (‵ (Views m)) (ruled m (cond r.1 out p.0) (set p.1 id r.0) r.2) $ move ! (0 ∷ 2 ∷ 1 ∷ []) $ frame ! $ by ! (packs id P r.0 (cond r.1 p.0 out) r.3))))

    pub comes : (out : Option Q.Denot) (n m : ℕ) (P : W → Option Q.Denot → Type 0)
        → ((home : Option Q.Denot) (vs : List W) → holds n home vs → (w : W) × (c : Bool) × holds m (cond c out home) (vs ++ w ∷ []) × P w (cond c home out))
        → ⟦ Views n ⟧ ∗ ⟦ Lie out ⟧ ⊢ upd 𝓤 (⟦ Views m ⟧ ∗ ⟦ entered cw γ R Q b o t P ⟧)
    comes out n m P law = let Z : Pr = ⟦ Views m ⟧ ∗ ⟦ entered cw γ R Q b o t P ⟧ in qed 𝓛 (‵ (Views n) ∷ ‵ (Lie out) ∷ []) ∵ fpick ! (λ p. fsplit3 ! $ move ! (2 ∷ []) $ fpick ! (λ h. drop ! $ let r = law p.0 p.1 h in let us : List W = p.1 ++ r.0 ∷ [] in
        -- [what lies at home; the views; what is out]
        move ! (1 ∷ []) $ use1 𝓛 (raw (upd 𝓤 (ex 𝓤 (Joined 𝓛 cw γ 0 p.1 r.0)))) (joins 𝓛 cw γ p.1 0 r.0) $ settle 𝓛 Z (some (λ (j : ℕ). ‵ (roster cw.code γ 0 us) ⊛ ‵ (mark_owns cw.code γ j r.0))) $ pick ! (λ j. split ! $ suffices ! _ (upd_i 𝓤 Z) $
        move ! (2 ∷ 3 ∷ []) $ use2 𝓛 (‵ (Lie (cond r.1 out p.0)) ⊛ ‵ (Lie (cond r.1 p.0 out))) (places r.1 p.0 out) $ split ! $
        move ! (0 ∷ 2 ∷ []) $ use2 𝓛 (‵ (Views m)) (ruled m (cond r.1 out p.0) us r.2) $ move ! (0 ∷ 2 ∷ 1 ∷ []) $ frame ! $
        use2 𝓛 (‵ (traded cw γ R Q b o t P j)) (packs j P r.0 (cond r.1 p.0 out) r.3) $ fpack ! ℕ (traded cw γ R Q b o t P) j $ done !)))

    -- both sides at once
    module _ (c : ℕ → ℕ) (s : Share) where
      abbrev I : Fml
      I = Inv cw.code γ R Q c holds b o t

      abbrev St : ℕ → Fml
      St n = State R any b o (count t) (c n)

      abbrev st : ℕ → Phase R.Denot → Fml
      st n p = state R any b o (count t) (c n) p

      stepped : (f : ℕ → ℕ) (K J : Fml) (left right : ℕ → Fml) → ((n : ℕ) (p : Phase R.Denot) → ⟦ st n p ⟧ ∗ ⟦ K ⟧ ⊢ upd 𝓤 (⟦ St (f n) ⟧ ∗ ⟦ left n ⟧))
          → ((n : ℕ) → n < 2 ^ 64 → ⟦ Views n ⟧ ∗ ⟦ J ⟧ ⊢ upd 𝓤 (⟦ Views (f n) ⟧ ∗ ⟦ right n ⟧))
          → A.inv (fbor t.0 I) ∗ (A.lft t.0 s ∗ (⟦ K ⟧ ∗ ⟦ J ⟧)) ⊢ asks 𝓛 (block_ptr b (o + 0)) f whenever (λ n. fsep (flft t.0 s) (fsep (left n) (right n)))
      stepped f K J left right counts marks = let e : ℕ = o + 0 in let after : ℕ → Fml = λ n. fsep (left n) (right n) in let G : Pr = ex 𝓤 (Lies 𝓛 t.0 s I b e f whenever after) in borrowed 𝓛 t.0 s I b e f whenever after (⟦ K ⟧ ∗ ⟦ J ⟧) (
          qed 𝓛 (‵ I ∷ ‵ K ∷ ‵ J ∷ []) ∵ suffices ! _ (upd_i 𝓤 G) $ fpick ! (λ n. fsplit ! $ let Z : Pr = ⟦ I ⟧ ∗ ⟦ after n ⟧ in
          use1 𝓛 (given (T (has_ty (ty_int w64) (vint w64 n)) × WT (vint w64 n)) (‵ (word b e n))) (𝓛.laws.at_wt full_share (ty_int w64) b e (vint w64 n)) $ learn ! (λ g.
          show ! (Lies 𝓛 t.0 s I b e f whenever after) n $ frame ! $ each ! (λ (_ : Unit {0}). Again 𝓛 t.0 s I b e f whenever after n) (λ _. assume ! (‵ (word b e (f n))) $ move ! (1 ∷ []) $ fsplit ! $
          fpick ! (λ p. move ! (0 ∷ 3 ∷ []) $ use2 𝓛 (raw (upd 𝓤 (⟦ St (f n) ⟧ ∗ ⟦ left n ⟧))) (counts n p) $ settle 𝓛 Z (‵ (St (f n)) ⊛ ‵ (left n)) $ split ! $ move ! (2 ∷ 4 ∷ []) $
          use2 𝓛 (raw (upd 𝓤 (⟦ Views (f n) ⟧ ∗ ⟦ right n ⟧))) (marks n g.1.fits) $ settle 𝓛 Z (‵ (Views (f n)) ⊛ ‵ (right n)) $ split ! $ suffices ! _ (upd_i 𝓤 Z) $
          move ! (2 ∷ 0 ∷ []) $ fjoin ! $ move ! (3 ∷ 0 ∷ []) $ fjoin ! $ fpack ! ℕ (λ m. fsep (word b e m) (both cw.code γ R Q c holds b o t m)) (f n) $ frame ! $ move ! (1 ∷ 0 ∷ []) $ fjoin ! $ done !)))))

      still : (n : ℕ) (p : Phase R.Denot) → ⟦ st n p ⟧ ∗ ⟦ ftrue ⟧ ⊢ upd 𝓤 (⟦ St n ⟧ ∗ ⟦ ftrue ⟧)
      still n p = let Z : Pr = ⟦ St n ⟧ ∗ ⟦ ftrue ⟧ in qed 𝓛 (‵ (st n p) ∷ ‵ ftrue ∷ []) ∵ suffices ! _ (upd_i 𝓤 Z) $ fpack ! (Phase R.Denot) (st n) p $ done !

      pub unmoved : (n : ℕ) → ⟦ Views n ⟧ ∗ ⟦ ftrue ⟧ ⊢ upd 𝓤 (⟦ Views n ⟧ ∗ ⟦ ftrue ⟧)
      unmoved n = upd_i 𝓤 (⟦ Views n ⟧ ∗ ⟦ ftrue ⟧)

      -- what the marks' side is given and leaves, of a step that makes f of the word
      abbrev Marks : (ℕ → ℕ) → Fml → (ℕ → Fml) → Type 1
      Marks f J right = (n : ℕ) → n < 2 ^ 64 → ⟦ Views n ⟧ ∗ ⟦ J ⟧ ⊢ upd 𝓤 (⟦ Views (f n) ⟧ ∗ ⟦ right n ⟧)

      pub keeps : (id : ℕ) (v : W) (tells : ℕ → W → Type 0) → Keeps holds id v tells → Marks (λ n. n) (mark_owns cw.code γ id v) (λ n. moved cw γ (tells n) id)
      keeps id v tells law n small = follows id v n (tells n) (λ home vs h at. law n home vs h at small)

      pub changes : (id : ℕ) (v : W) (out : Option Q.Denot) (f : ℕ → ℕ) (tells : ℕ → W → Option Q.Denot → Type 0) → MayTrade holds id v out f tells
          → Marks f (fsep (mark_owns cw.code γ id v) (Lie out)) (λ n. traded cw γ R Q b o t (tells n) id)
      changes id v out f tells law n small = trades id v out n (f n) (tells n) (λ home vs h at. law n home vs h at small)

      pub enters : (out : Option Q.Denot) (f : ℕ → ℕ) (tells : ℕ → W → Option Q.Denot → Type 0) → Comes holds out f tells → Marks f (Lie out) (λ n. entered cw γ R Q b o t (tells n))
      enters out f tells law n small = comes out n (f n) (tells n) (λ home vs h. law n home vs h small)

      pub splits : (id : ℕ) (v l r : W) → MaySplit holds id v l r → Marks (λ n. n) (mark_owns cw.code γ id v) (λ _. fex ℕ (two id l r))
      splits id v l r law n small = forks id v l r n (λ home vs h at. law n home vs h at small)

      pub unites : (id : ℕ) (v : W) (other : ℕ) (u all_ spent : W) → MayJoin holds id v other u all_ spent → Marks (λ n. n) (merged id v other u) (λ _. merged id all_ other spent)
      unites id v other u all_ spent law n small = absorbs id v other u all_ spent n (λ home vs h at two' at'. law n home vs h at two' at' small)

      -- a load
      pub looks_on : (J : Fml) (right : ℕ → Fml) → Marks (λ n. n) J right
          → A.inv (fbor t.0 I) ∗ (A.lft t.0 s ∗ (⟦ ftrue ⟧ ∗ ⟦ J ⟧)) ⊢ asks 𝓛 (block_ptr b (o + 0)) (λ n. n) whenever (λ n. fsep (flft t.0 s) (fsep ftrue (right n)))
      looks_on J right marks = stepped (λ n. n) ftrue J (λ _. ftrue) right still marks

      -- a load by one who has this right
      sees_right : (r n : ℕ) (v : Option R.Denot) (p : Phase R.Denot) → ⟦ st n p ⟧ ∗ ⟦ right_to R b o t r v ⟧ ⊢ upd 𝓤 (Seeing 𝓛 R b o (count t) r (c n) (right_to R b o t r v))
      sees_right zero n v p = sees 𝓛 R b o (count t) 0 (c n) 0 v p
      sees_right (suc zero) n v p = sees 𝓛 R b o (count t) 1 (c n) 0 v p
      sees_right (suc (suc k)) n (Some x) p = writer_sees 𝓛 R b o (count t) k (c n) (tracked R b o t.0 x) p
      sees_right (suc (suc k)) n None p = qed 𝓛 (‵ (st n p) ∷ ‵ (right_to R b o t (suc (suc k)) None) ∷ []) ∵ keep ! (1 ∷ []) $ by ! (never_e 𝓤 _)

      module _ (r : ℕ) (v : Option R.Denot) where
        abbrev pub Seen : ℕ → Fml
        Seen n = fsep (fact (Sees r (c n))) (right_to R b o t r v)

        seen_by : (n : ℕ) (p : Phase R.Denot) → ⟦ st n p ⟧ ∗ ⟦ right_to R b o t r v ⟧ ⊢ upd 𝓤 (⟦ St n ⟧ ∗ ⟦ Seen n ⟧)
        seen_by n p = let K : Fml = right_to R b o t r v in let Z : Pr = ⟦ St n ⟧ ∗ ⟦ Seen n ⟧ in qed 𝓛 (‵ (st n p) ∷ ‵ K ∷ []) ∵ use2 𝓛 (raw (upd 𝓤 (Seeing 𝓛 R b o (count t) r (c n) K))) (sees_right r n v p) $
            settle 𝓛 Z (given (Sees r (c n)) (‵ (St n) ⊛ ‵ K)) $ learn ! (λ h. split ! $ suffices ! _ (upd_i 𝓤 Z) $ frame ! $ nothing ! $ fpack ! (Sees r (c n)) (λ _. ftrue) h $ fjoin ! $ done !)

        pub looks_by : (J : Fml) (right : ℕ → Fml) → Marks (λ n. n) J right
            → A.inv (fbor t.0 I) ∗ (A.lft t.0 s ∗ (⟦ right_to R b o t r v ⟧ ∗ ⟦ J ⟧)) ⊢ asks 𝓛 (block_ptr b (o + 0)) (λ n. n) whenever (λ n. fsep (flft t.0 s) (fsep (Seen n) (right n)))
        looks_by J right marks = stepped (λ n. n) (right_to R b o t r v) J Seen right seen_by marks

      -- a compare-exchange by one who has this right
      module _ (L : RowLaws R) (r old new : ℕ) (v : Option R.Denot) (asked : MayTurn r (c old) (c new)) (q : Share) where
        abbrev Left : ℕ → Fml
        Left = outcome 𝓛 R b o t c r old new v q

        abbrev Leaves : ℕ → Fml
        Leaves = left_over 𝓛 R b o t c r old new v q

        abbrev Has : Fml
        Has = Prepared 𝓛 R b o (count t) r (c new) v

        abbrev Ends : ℕ → ℕ → Pr
        Ends n m = upd 𝓤 (⟦ St m ⟧ ∗ ⟦ Left n ⟧)

        wins : (p : Phase R.Denot) → ⟦ st old p ⟧ ∗ ⟦ Has ⟧ ⊢ Ends old new
        wins p = let W' : Fml = Won 𝓛 R b o (count t) r (c old) (c new) v in let Z : Pr = ⟦ St new ⟧ ∗ ⟦ Left old ⟧ in qed 𝓛 (‵ (st old p) ∷ ‵ Has ∷ []) ∵ use2 𝓛 (raw (upd 𝓤 (⟦ St new ⟧ ∗ ⟦ W' ⟧))) (hits 𝓛 R b o (count t) L r (c old) (c new) v asked p) $
            settle 𝓛 Z (‵ (St new) ⊛ ‵ W') $ split ! $ suffices ! _ (upd_i 𝓤 Z) $ frame ! $ nothing ! $ fpack ! (old ≡ old) (λ _. ftrue) refl $ fjoin ! $
            fpack ! Bool (λ y. fsep (fact (Rattle.event_slot.proofs.Turning.If 𝓛 R b o t c r old new v q old y)) (Rattle.event_slot.proofs.Turning.Got 𝓛 R b o t c r old new v q y)) true $ done !

        misses : (n : ℕ) → n ≢ old → (p : Phase R.Denot) → ⟦ st n p ⟧ ∗ ⟦ Has ⟧ ⊢ Ends n n
        misses n ne p = let Z : Pr = ⟦ St n ⟧ ∗ ⟦ Left n ⟧ in qed 𝓛 (‵ (st n p) ∷ ‵ Has ∷ []) ∵ suffices ! _ (upd_i 𝓤 Z) $ fpack ! (Phase R.Denot) (st n) p $ frame ! $ nothing ! $ fpack ! (n ≢ old) (λ _. ftrue) ne $ fjoin ! $
            fpack ! Bool (λ y. fsep (fact (Rattle.event_slot.proofs.Turning.If 𝓛 R b o t c r old new v q n y)) (Rattle.event_slot.proofs.Turning.Got 𝓛 R b o t c r old new v q y)) false $ done !

        turned : (n : ℕ) (p : Phase R.Denot) → ⟦ st n p ⟧ ∗ ⟦ Has ⟧ ⊢ Ends n (either (eqb n old) new n)
        turned n p = let F : Bool → Type 1 = λ y. ⟦ st n p ⟧ ∗ ⟦ Has ⟧ ⊢ Ends n (either y new n) in dite (ℕ_discrete n old)
            (λ e. subst F (sym (eq-eqb n old e)) (subst (λ (k : ℕ). ⟦ st k p ⟧ ∗ ⟦ Has ⟧ ⊢ Ends k new) (sym e) (wins p)))
            (λ miss. subst F (sym (ne_eqb n old miss)) (misses n miss p))

        -- and whoever has the right has seen it in the word
        sighted : (n : ℕ) (p : Phase R.Denot) → ⟦ st n p ⟧ ∗ ⟦ Has ⟧ ⊢ upd 𝓤 (⟦ St (either (eqb n old) new n) ⟧ ∗ ⟦ Leaves n ⟧)
        sighted n p = let m : ℕ = either (eqb n old) new n in let Z : Pr = ⟦ St m ⟧ ∗ ⟦ Leaves n ⟧ in qed 𝓛 (‵ (st n p) ∷ ‵ Has ∷ []) ∵ use2 𝓛 (raw (upd 𝓤 (Seeing 𝓛 R b o (count t) r (c n) Has))) (sees 𝓛 R b o (count t) r (c n) (c new) v p) $
            settle 𝓛 Z (given (Sees r (c n)) (‵ (St n) ⊛ ‵ Has)) $ learn ! (λ h. split ! $ fpick ! (λ p'. use2 𝓛 (raw (Ends n m)) (turned n p') $ settle 𝓛 Z (‵ (St m) ⊛ ‵ (Left n)) $ split ! $ suffices ! _ (upd_i 𝓤 Z) $ frame ! $
            nothing ! $ fpack ! (Sees r (c n)) (λ _. ftrue) h $ fjoin ! $ done !))

        pub turns : (J : Fml) (right : ℕ → Fml) → Marks (λ n. either (eqb n old) new n) J right
            → A.inv (fbor t.0 I) ∗ (A.lft t.0 s ∗ (⟦ Has ⟧ ∗ ⟦ J ⟧)) ⊢ asks 𝓛 (block_ptr b (o + 0)) (λ n. either (eqb n old) new n) whenever (λ n. fsep (flft t.0 s) (fsep (Leaves n) (right n)))
        turns J right marks = stepped (λ n. either (eqb n old) new n) Has J Leaves right sighted marks
