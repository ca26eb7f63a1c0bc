-- A `&` to a slot is made of a borrow of it, whatever the word is. The state is put under a name that says what it is. Assumes `Logic`.
use Rattle.event_slot.proofs.Names.{◌≡◌, ℕ, ◌+◌, List, [], ◌∷◌, ◌++◌, sym, refl, subst, Option, Some, None, Ura, full_share, SProp, ent, sep, wand, ex, ex_i, all, all_e, upd_i, emp, id⊢, via, apply∗, Lft, GName, Share, Incl, Incl-refl, Incl-trans, Fml, ftrue, fsep, fseps, fex, fwand, fupd, fdead, fauth, fobs, fbor, flft, finv, before, meet_⊑_left, Toks, span, Logic, sem, lfts, ‵, raw, ◌⊛◌, some, later, ◌$◌, ◌∵◌, !, qed, move, keep, drop, split, split3, fsplit, fsplit3, fjoin, fjoin3, fpick, fpack, pick, assume, suffices, rewrite, group, use0, use1, use2, use3, await, updating, now, done, bor_open, obor_alter, name_new, one_token, out, before-Incl, basic, own_new, RattleType, layout, Laws, Lawful, Shares, ends, always, some_shr_laws, beside_shr_laws, ends_shr_laws, always_shr_laws, nothing, word, block_ptr, by_one}
use base.Stored.{gnum}
use mir.Syntax.{Ty}
use denote.Struct.Members.{Member, row_of}
use denote.Struct.Lending.{Law}
use types.Tokens.{name_agree}
use Rattle.atomic_table.specs.Seated.{roster}
use Rattle.counted_slot.specs.Counting.{fact, rounds, tag, idle, cell, State}
use Rattle.counted_slot.proofs.Rounds.{Fresh, fresh, begins}
use Rattle.event_slot.specs.Holding.{Named, any, Names, count, Agrees, stored, lies, views, both, Inv, kept, slot_shares}
use Rattle.event_slot.specs.declared.rule.Ruled.{Ghosts}
use Rattle.event_slot.specs.contracts.slot.Slot as slot
use Rattle.event_slot.proofs.InMemory as memory
use Rattle.event_slot.proofs.Tracking.{at_home}
use Rattle.event_slot.proofs.slot.Slot.TheLaw.Statement.{statement}

module _ {M : Type 1} {𝓤 : Ura M} (𝓛 : Logic 𝓤) (m k : Member) (V Y : RattleType) (g : Ghosts m.row.Denot k.row.Denot V.Denot Y.Denot) (d : Named Y.Denot) (L : Lawful 𝓛 (row_of m)) (K : Lawful 𝓛 (row_of k)) (b o : ℕ) (κ : Lft) where
  open 𝓛 use {H, A}

  abbrev Pr : Type 2
  Pr = SProp 𝓤

  abbrev ◌⊢◌ : Pr → Pr → Type 1
  P ⊢ Q = ent 𝓤 P Q

  abbrev ◌∗◌ : Pr → Pr → Pr
  P ∗ Q = sep 𝓤 P Q

  abbrev ⟦◌⟧ : Fml → Pr
  ⟦ P ⟧ = sem 𝓛 P

  infix 26 ◌⊢◌
  infixr 35 ◌∗◌
  abbrev R : RattleType
  R = row_of m

  abbrev Q : RattleType
  Q = row_of k

  abbrev Three : Type 0
  Three = memory.Three 𝓛 m k V Y g d L K b o

  abbrev P : Fml
  P = memory.Whole 𝓛 m k V Y g d L K b o

  abbrev Known : (Option Q.Denot → Fml) → ℕ → Fml
  Known = memory.Known 𝓛 m k V Y g d L K b o

  abbrev At : R.Denot → Fml
  At = memory.At 𝓛 m k V Y g d L K b o

  abbrev Behind : Q.Denot → Fml
  Behind = memory.Behind 𝓛 m k V Y g d L K b o

  abbrev Agreed : Three → Fml
  Agreed = memory.Agreed 𝓛 m k V Y g d L K b o

  abbrev Again : Three → Pr
  Again = memory.Again 𝓛 m k V Y g d L K b o

  abbrev C : Fml
  C = cell R any b o

  -- what is known of the state at home is another, by X
  homes : (X : Pr) (F G : Option Q.Denot → Fml) → ((home : Option Q.Denot) → ⟦ F home ⟧ ∗ X ⊢ ⟦ G home ⟧) → (n : ℕ) → ⟦ Known F n ⟧ ∗ X ⊢ ⟦ Known G n ⟧
  homes X F G turn n = qed 𝓛 (‵ (Known F n) ∷ raw X ∷ []) ∵ fpick ! (λ p. fsplit3 ! $ move ! (0 ∷ 3 ∷ []) $ use2 𝓛 (‵ (G p.0)) (turn p.0) $ fjoin3 ! $
      fpack ! (Option Q.Denot × List V.Denot) (λ z. fsep (G z.0) (fsep (roster V.coded.code d.name 0 z.1) (fact (g.holds d.key n z.0 z.1)))) p $ done !)

  module _ (η : GName) where
    -- the name says which state is at home
    abbrev said_at : Option Q.Denot → Fml
    said_at (Some s) = fobs η (Q.coded.code s)
    said_at None = ftrue

    abbrev In : Fml
    In = stored R Q b o η

    abbrev Word : Fml
    Word = fex ℕ (λ n. fsep (word b (o + 0) n) (Known said_at n))

    agrees : (s : Q.Denot) (home : Option Q.Denot) → ⟦ said_at home ⟧ ∗ ⟦ fauth η (Q.coded.code s) ⟧ ⊢ ⟦ fact (Agrees home s) ⟧
    agrees s (Some y) = qed 𝓛 (‵ (fobs η (Q.coded.code y)) ∷ ‵ (fauth η (Q.coded.code s)) ∷ []) ∵ name_agree ! Q.coded (λ e. nothing ! $ keep ! (0 ∷ []) $ fpack ! (y ≡ s) (λ _. ftrue) e $ done !)
    agrees s None = qed 𝓛 (‵ ftrue ∷ ‵ (fauth η (Q.coded.code s)) ∷ []) ∵ keep ! (0 ∷ []) $ fpack ! (Unit {0}) (λ _. ftrue) tt $ done !

    says : (s : Q.Denot) (home : Option Q.Denot) → ⟦ fact (Agrees home s) ⟧ ∗ ⟦ fobs η (Q.coded.code s) ⟧ ⊢ ⟦ said_at home ⟧
    says s (Some y) = qed 𝓛 (‵ (fact (y ≡ s)) ∷ ‵ (fobs η (Q.coded.code s)) ∷ []) ∵ fpick ! (λ e. drop ! $ rewrite ! 0 (λ (z : Q.Denot). ‵ (fobs η (Q.coded.code z))) (sym e) refl $ done !)
    says s None = qed 𝓛 (‵ (fact (Unit {0})) ∷ ‵ (fobs η (Q.coded.code s)) ∷ []) ∵ nothing ! $ keep ! (0 ∷ []) $ done !

    whole_again : all 𝓤 Again ⊢ ⟦ fwand (fsep (fdead κ) (fseps (Word ∷ C ∷ In ∷ []))) (fupd P) ⟧
    unfolding fseps
    whole_again = qed 𝓛 (raw (all 𝓤 Again) ∷ []) ∵ assume ! (‵ (fsep (fdead κ) (fseps (Word ∷ C ∷ In ∷ [])))) $ suffices ! ⟦ P ⟧ (upd_i 𝓤 ⟦ P ⟧) $ fsplit ! $ drop ! $ fsplit3 ! $ fpick ! (λ n. fsplit ! $ move ! (2 ∷ []) $ fpick ! (λ x. fsplit ! $
        -- [the value; nothing; the word; what is known; the state; all]
        move ! (4 ∷ []) $ fsplit ! $ fpick ! (λ y. fsplit ! $ let s : Three = (n, x, y) in
        -- [the state; its name; nothing; the value; nothing; the word; what is known; all]
        move ! (6 ∷ 1 ∷ []) $ use2 𝓛 (‵ (Agreed s)) (homes ⟦ fauth η (Q.coded.code y) ⟧ said_at (λ home. fact (Agrees home y)) (agrees y) n) $
        move ! (6 ∷ []) $ use1 𝓛 (raw (Again s)) (all_e 𝓤 Again s) $ move ! (6 ∷ 4 ∷ 2 ∷ 1 ∷ 0 ∷ []) $ group ! 4 $
        use2 𝓛 (‵ P) (apply∗ 𝓤 (⟦ word b (o + 0) n ⟧ ∗ ⟦ At x ⟧ ∗ ⟦ Behind y ⟧ ∗ ⟦ Agreed s ⟧) ⟦ P ⟧) $ keep ! (0 ∷ []) $ done !)))

    abbrev Cut : Pr
    Cut = A.bor κ Word ∗ A.bor κ C ∗ A.bor κ In

  -- the word with what is known, the value and the state are borrowed apart
  cut : (q : Share) → A.bor κ P ∗ A.lft κ q ⊢ H.⇛ (ex 𝓤 Cut ∗ A.lft κ q)
  unfolding fseps
  cut q = qed 𝓛 (‵ (fbor κ P) ∷ ‵ (flft κ q) ∷ []) ∵ updating ! $ bor_open ! tt $ move ! (1 ∷ []) $ use1 𝓛 (some (λ (s : Three). ‵ (word b (o + 0) s.0) ⊛ ‵ (At s.1) ⊛ ‵ (Behind s.2) ⊛ ‵ (Agreed s) ⊛ raw (all 𝓤 Again))) (memory.apart 𝓛 m k V Y g d L K b o) $
      pick ! (λ s. split3 ! $ move ! (2 ∷ []) $ split3 ! $ name_new ! tt (Q.coded.code s.2) (λ η. let W : Fml = Word η in let N : Fml = In η in
      -- [the name's halves; the state; what is known; the way back; the word; the value; the borrow]
      move ! (2 ∷ 1 ∷ []) $ fjoin ! $ fpack ! Q.Denot (λ y. fsep (Behind y) (fauth η (Q.coded.code y))) s.2 $
      move ! (2 ∷ 1 ∷ []) $ use2 𝓛 (‵ (Known (said_at η) s.0)) (homes ⟦ fobs η (Q.coded.code s.2) ⟧ (λ home. fact (Agrees home s.2)) (said_at η) (says η s.2) s.0) $
      move ! (3 ∷ 0 ∷ []) $ fjoin ! $ fpack ! ℕ (λ n. fsep (word b (o + 0) n) (Known (said_at η) n)) s.0 $ move ! (3 ∷ []) $ use1 𝓛 (‵ C) (at_home 𝓛 R b o s.1) $
      nothing ! $ move ! (3 ∷ 0 ∷ []) $ fjoin ! $ move ! (2 ∷ 1 ∷ 0 ∷ []) $ fjoin3 ! $ move ! (1 ∷ []) $
      use1 𝓛 (‵ (fwand (fsep (fdead κ) (fseps (W ∷ C ∷ N ∷ []))) (fupd P))) (whole_again η) $ move ! (2 ∷ 1 ∷ 0 ∷ []) $ obor_alter ! tt (W ∷ C ∷ N ∷ []) $
      use1 𝓛 (‵ (fbor κ W) ⊛ ‵ (fbor κ C) ⊛ ‵ (fbor κ N) ⊛ ‵ ftrue) (id⊢ 𝓤 _) $ split3 ! $ move ! (2 ∷ []) $ split ! $ move ! (2 ∷ 3 ∷ 0 ∷ []) $ group ! 3 $
      use1 𝓛 (raw (ex 𝓤 Cut)) (ex_i 𝓤 Cut η) $ now ! $ keep ! (0 ∷ 2 ∷ []) $ done !))

  module _ (γ δ η : GName) where
    abbrev t : Names
    t = (κ, γ, δ, η)

    abbrev I : Fml
    I = Inv V.coded.code d.name R Q g.counts (g.holds d.key) b o t

    -- the state lies where its name says, with its borrow
    lies_at : (home : Option Q.Denot) → ⟦ said_at η home ⟧ ∗ A.bor κ (In η) ⊢ ⟦ lies R Q b o t home ⟧
    lies_at (Some y) = qed 𝓛 (‵ (fobs η (Q.coded.code y)) ∷ ‵ (fbor κ (In η)) ∷ []) ∵ fjoin ! $ done !
    lies_at None = qed 𝓛 (‵ ftrue ∷ ‵ (fbor κ (In η)) ∷ []) ∵ keep ! (0 ∷ []) $ done !

    lay : (home : Option Q.Denot) → ⟦ lies R Q b o t home ⟧ ∗ ⟦ ftrue ⟧ ⊢ ⟦ said_at η home ⟧
    lay (Some y) = qed 𝓛 (‵ (lies R Q b o t (Some y)) ∷ ‵ ftrue ∷ []) ∵ fsplit ! $ keep ! (0 ∷ []) $ done !
    lay None = qed 𝓛 (‵ ftrue ∷ ‵ ftrue ∷ []) ∵ keep ! (0 ∷ []) $ done !

    word_again : emp 𝓤 ⊢ ⟦ fwand (fsep (fdead κ) (fseps (I ∷ []))) (fupd (Word η)) ⟧
    unfolding fseps
    word_again = qed 𝓛 [] ∵ assume ! (‵ (fsep (fdead κ) (fsep I ftrue))) $ suffices ! ⟦ Word η ⟧ (upd_i 𝓤 ⟦ Word η ⟧) $ fsplit3 ! $ keep ! (1 ∷ 2 ∷ []) $ fpick ! (λ n. fsplit3 ! $ move ! (2 ∷ 3 ∷ []) $
        use2 𝓛 (‵ (Known (said_at η) n)) (homes ⟦ ftrue ⟧ (lies R Q b o t) (said_at η) lay n) $ move ! (1 ∷ 0 ∷ []) $ fjoin ! $ fpack ! ℕ (λ i. fsep (word b (o + 0) i) (Known (said_at η) i)) n $ keep ! (0 ∷ []) $ done !)

    abbrev Given : Pr
    Given = A.bor κ (Word η) ∗ A.bor κ (In η) ∗ ⟦ idle γ ⟧ ∗ ⟦ out δ ⟧ ∗ ⟦ Fresh 𝓛 R any b o (count t) ⟧

    guarded : (q : Share) → Given ∗ A.lft κ q ⊢ H.⇛ (⟦ slot_shares V.coded.code d.name R Q g.counts (g.holds d.key) (block_ptr b o) κ ⟧ ∗ A.lft κ q)
    unfolding fseps
    guarded q = let B : ℕ → Fml = both V.coded.code d.name R Q g.counts (g.holds d.key) b o t in
        qed 𝓛 ((‵ (fbor κ (Word η)) ⊛ ‵ (fbor κ (In η)) ⊛ ‵ (idle γ) ⊛ ‵ (out δ) ⊛ ‵ (Fresh 𝓛 R any b o (count t))) ∷ ‵ (flft κ q) ∷ []) ∵ updating ! $ split3 ! $ move ! (0 ∷ 3 ∷ []) $ bor_open ! tt $ move ! (1 ∷ []) $ fpick ! (λ n. fsplit ! $
        -- [the word; what is known; the borrow; the state's borrow; what the count begins with]
        move ! (1 ∷ 3 ∷ []) $ use2 𝓛 (‵ (views V.coded.code d.name R Q g.counts (g.holds d.key) b o t n)) (homes (A.bor κ (In η)) (said_at η) (lies R Q b o t) lies_at n) $ move ! (3 ∷ []) $
        use1 𝓛 (later (‵ (State R any b o (count t) (g.counts n)))) (begins 𝓛 R any b o (count t) (g.counts n)) $ await ! tt $ fjoin ! $ move ! (1 ∷ 0 ∷ []) $ fjoin ! $ fpack ! ℕ (λ w. fsep (word b (o + 0) w) (B w)) n $
        nothing ! $ move ! (1 ∷ 0 ∷ []) $ fjoin ! $ use0 𝓛 (‵ (fwand (fsep (fdead κ) (fseps (I ∷ []))) (fupd (Word η)))) word_again $ move ! (2 ∷ 1 ∷ 0 ∷ []) $ obor_alter ! tt (I ∷ []) $
        use1 𝓛 (‵ (fbor κ I) ⊛ ‵ ftrue) (id⊢ 𝓤 _) $ split ! $ use1 𝓛 (later (‵ (finv (fbor κ I)))) (𝓛.invs.inv_new (fbor κ I)) $ await ! tt $
        use0 𝓛 (‵ (before κ κ)) (before-Incl 𝓛 κ κ (Incl-refl κ)) $ fjoin ! $ fpack ! Names (λ s. kept V.coded.code d.name R Q g.counts (g.holds d.key) b o s κ) t $ now ! $ keep ! (0 ∷ 2 ∷ []) $ done !)

  made : (l : Lft) → Shares 𝓛 R l → (ts : Toks) → Incl (span ts) l → Incl (span ts) κ → A.bor κ P ∗ lfts 𝓛 ts ⊢ H.⇛ (⟦ slot_shares V.coded.code d.name R Q g.counts (g.holds d.key) (block_ptr b o) κ ⟧ ∗ lfts 𝓛 ts)
  made l shares ts inc sp = let μ : Lft = span ts in let S : Fml = slot_shares V.coded.code d.name R Q g.counts (g.holds d.key) (block_ptr b o) κ in
      qed 𝓛 (‵ (fbor κ P) ∷ raw (lfts 𝓛 ts) ∷ []) ∵ updating ! $ use2 𝓛 (later (some (λ (η : GName). ‵ (fbor κ (Word η)) ⊛ ‵ (fbor κ C) ⊛ ‵ (fbor κ (In η))) ⊛ raw (lfts 𝓛 ts))) (by_one 𝓛 κ ts sp (A.bor κ P) (ex 𝓤 Cut) cut) $ await ! tt $ split ! $ pick ! (λ η. split3 ! $
      use0 𝓛 (later (some (λ (γ : GName). ‵ (tag γ full_share 0)))) (via 𝓤 _ (own_new 𝓛 rounds (full_share, 0)) (basic 𝓛 (ex 𝓤 (λ (γ : GName). ⟦ tag γ full_share 0 ⟧)))) $ await ! tt $ pick ! (λ γ. fpack ! ℕ (tag γ full_share) 0 $ name_new ! tt (gnum 0) (λ δ. fjoin ! $
      -- the value is shared under a half of the tokens, beside the other
      move ! (5 ∷ []) $ use1 𝓛 (some (λ (q : Share). ‵ (flft μ q) ⊛ raw (wand 𝓤 (A.lft μ q) (lfts 𝓛 ts)))) (one_token 𝓛 ts) $ pick ! (λ q. split ! $ use1 𝓛 (‵ (flft μ (base.Share.left q)) ⊛ ‵ (flft μ (base.Share.right q))) (𝓛.lfts.lft_split μ q) $ split ! $
      move ! (6 ∷ 0 ∷ 1 ∷ []) $ use3 𝓛 (later (‵ (Fresh 𝓛 R any b o (κ, γ, δ)) ⊛ ‵ (flft μ (base.Share.left q)) ⊛ ‵ (flft μ (base.Share.right q)))) (fresh 𝓛 R any b o (κ, γ, δ) l shares μ (base.Share.left q) μ (base.Share.right q) sp inc) $
      await ! tt $ split ! $ move ! (1 ∷ []) $ use1 𝓛 (‵ (flft μ q)) (𝓛.lfts.lft_join μ q) $ move ! (0 ∷ 2 ∷ []) $ use2 𝓛 (raw (lfts 𝓛 ts)) (apply∗ 𝓤 (A.lft μ q) (lfts 𝓛 ts)) $
      move ! (4 ∷ 5 ∷ 3 ∷ 2 ∷ 1 ∷ 0 ∷ []) $ group ! 5 $ use2 𝓛 (later (‵ S ⊛ raw (lfts 𝓛 ts))) (by_one 𝓛 κ ts sp (Given γ δ η) ⟦ S ⟧ (guarded γ δ η)) $ await ! tt $ now ! $ done !))))

pub shares : (T Q V Y : RattleType) (g : Ghosts T.Denot Q.Denot V.Denot Y.Denot) (L : Laws T) (J : Laws Q) (K : Laws V) (N : Laws Y) → statement T Q V Y g L J K N
shares T Q V Y g L J K N = let m : Member = record { row = T; ty = layout T } in let k : Member = record { row = Q; ty = layout Q } in
    let same : T ≡ row_of m = λ i. record { Denot = T.Denot; mir = L.one i; written = T.written; reaches = T.reaches; lives = T.lives; own_val = T.own_val; exit = T.exit; coded = T.coded; shr_at = T.shr_at } in
    let same_state : Q ≡ row_of k = λ i. record { Denot = Q.Denot; mir = J.one i; written = Q.written; reaches = Q.reaches; lives = Q.lives; own_val = Q.own_val; exit = Q.exit; coded = Q.coded; shr_at = Q.shr_at } in
    subst (λ (σ : List Ty). Law (slot.the_written T (record Q { mir = σ }) V Y g)) (sym J.one) (subst (λ (τ : List Ty). Law (slot.the_written (record T { mir = τ }) (row_of k) V Y g)) (sym L.one) (record {
      shr_laws = λ d b o. let kept_at = kept V.coded.code d.name (row_of m) (row_of k) g.counts (g.holds d.key) b o in let I = Inv V.coded.code d.name (row_of m) (row_of k) g.counts (g.holds d.key) b o in some_shr_laws Names kept_at (λ t. beside_shr_laws (ends t.0) (always (fbor t.0 (I t))) (ends_shr_laws t.0) (always_shr_laws (fbor t.0 (I t))));
      shares = λ M 𝓤 𝓛 d κ ts b o inc sp. made 𝓛 m k V Y g d (subst (Lawful 𝓛) same (L.lawful 𝓛)) (subst (Lawful 𝓛) same_state (J.lawful 𝓛)) b o κ T.lives (subst (λ (R : RattleType). Shares 𝓛 R T.lives) same (L.shares 𝓛)) ts
          (Incl-trans inc (Incl-trans (meet_⊑_left (T.lives ++ (Q.lives ++ (V.lives ++ (Y.lives ++ [])))) _) (meet_⊑_left T.lives (Q.lives ++ (V.lives ++ (Y.lives ++ [])))))) sp;
    }))
