-- A `&` to a cell is made of a borrow of it, whatever the word is. Assumes `Logic`.
use Rattle.event_slot.proofs.Names.{◌≡◌, ℕ, zero, ◌+◌, List, [], ◌∷◌, ◌++◌, sym, subst, Ura, Val, full_share, SProp, ent, sep, wand, ex, emp, all_e, upd_i, id⊢, apply∗, Lft, Share, Incl, Incl-refl, Incl-trans, Fml, ftrue, fsep, fseps, fex, fwand, fupd, fdead, fbor, flft, finv, before, meet_⊑_left, Toks, span, Logic, sem, lfts, ‵, raw, ◌⊛◌, some, later, ◌$◌, ◌∵◌, !, qed, by, move, keep, drop, split, split3, join, fsplit, fsplit3, fjoin, fjoin3, fpick, fpack, pick, show, assume, suffices, use0, use1, use2, await, updating, now, done, bor_open, obor_alter, one_token, before-Incl, RattleType, Denots, part_of, part_at, cell_at, layout, Laws, Lawful, Shares, ends, always, some_shr_laws, beside_shr_laws, ends_shr_laws, always_shr_laws, nothing, word, block_ptr, by_one}
use mir.Syntax.{Ty}
use denote.Struct.Struct.{Struct}
use denote.Struct.Laws.{u64-laws}
use denote.Struct.Members.{Member, row_of, rows_of, parts_at}
use denote.Struct.Parts.{PartsBack, Struct-parts, shape_of}
use denote.Struct.Lending.{Law}
use Rattle.core.proofs.cell.Borrows.{flag}
use Rattle.core.proofs.tally.Steps.{word_out, word_in}
use Rattle.counted_slot.specs.Counting.{fact, cell}
use Rattle.event_slot.specs.Written.{place, stands, Inv, kept, cell_shares}
use Rattle.event_slot.specs.declared.write_once.Fits.{Ghosts}
use Rattle.event_slot.specs.contracts.write_once.WriteOnce as once
use Rattle.event_slot.proofs.Freezing.{starts}
use Rattle.event_slot.proofs.write_once.WriteOnce.TheLaw.Statement.{statement}

module _ {M : Type 1} {𝓤 : Ura M} (𝓛 : Logic 𝓤) (m : Member) (Y : RattleType) (g : Ghosts m.row.Denot Y.Denot) (d : Y.Denot) (L : Lawful 𝓛 (row_of m)) (b o : ℕ) (κ : Lft) where
  open 𝓛 use {H, A}

  abbrev Pr : Type 2
  Pr = SProp 𝓤

  abbrev ◌⊢◌ : Pr → Pr → Type 1
  P ⊢ Q = ent 𝓤 P Q

  abbrev ◌∗◌ : Pr → Pr → Pr
  P ∗ Q = sep 𝓤 P Q

  abbrev ⟦◌⟧ : Fml → Pr
  ⟦ P ⟧ = sem 𝓛 P

  infix 26 ◌⊢◌
  infixr 35 ◌∗◌
  abbrev R : RattleType
  R = row_of m

  abbrev ok : R.Denot → Type 0
  ok = g.fits d

  abbrev ks : List Member
  ks = flag ∷ m ∷ []

  abbrev Data : RattleType
  Data = Struct (shape_of [] ks)

  abbrev P : Fml
  P = part_at (once.the_written R Y g) full_share d b o

  abbrev Fields : ℕ × R.Denot → Fml
  Fields s = part_at Data full_share (s.0, (s.1, tt)) b o

  abbrev wd : ℕ → Fml
  wd n = part_at (row_of flag) full_share n b (o + 0)

  abbrev At : R.Denot → Fml
  At x = part_at R full_share x b (place R ok b o)

  abbrev Word : Fml
  Word = fex ℕ (word b (o + 0))

  abbrev C : Fml
  C = cell R ok b o

  apart : ⟦ P ⟧ ⊢ ex 𝓤 (λ (s : ℕ × R.Denot). ⟦ Fields s ⟧ ∗ ⟦ fact (ok s.1) ⟧)
  unfolding part_of
  apart = qed 𝓛 (‵ P ∷ []) ∵ fpick ! (λ vs. fsplit ! $ move ! (1 ∷ []) $ fpick ! (λ s. fsplit ! $ move ! (2 ∷ 0 ∷ []) $ fjoin ! $
      fpack ! (List Val) (λ us. fsep (cell_at full_share Data.mir us b o) (Data.own_val (s.0, (s.1, tt)) us)) vs $ show ! (λ (z : ℕ × R.Denot). ⟦ Fields z ⟧ ∗ ⟦ fact (ok z.1) ⟧) s $ done !))

  whole : (s : ℕ × R.Denot) → ⟦ Fields s ⟧ ∗ ⟦ fact (ok s.1) ⟧ ⊢ ⟦ P ⟧
  unfolding part_of
  whole s = qed 𝓛 (‵ (Fields s) ∷ ‵ (fact (ok s.1)) ∷ []) ∵ fpick ! (λ vs. fsplit ! $ move ! (1 ∷ 2 ∷ []) $ fjoin ! $ fpack ! (ℕ × R.Denot) (λ z. fsep (Data.own_val (z.0, (z.1, tt)) vs) (fact (ok z.1))) s $ move ! (1 ∷ 0 ∷ []) $ fjoin ! $
      fpack ! (List Val) (λ us. fsep (cell_at full_share Data.mir us b o) ((once.the_written R Y g).own_val d us)) vs $ done !)

  way_back : PartsBack 𝓛 full_share [] ks b o ⊢ ⟦ fwand (fsep (fdead κ) (fseps (Word ∷ C ∷ []))) (fupd P) ⟧
  unfolding fseps
  way_back = qed 𝓛 (raw (PartsBack 𝓛 full_share [] ks b o) ∷ []) ∵ assume ! (‵ (fsep (fdead κ) (fseps (Word ∷ C ∷ [])))) $ suffices ! ⟦ P ⟧ (upd_i 𝓤 ⟦ P ⟧) $
      fsplit ! $ drop ! $ fsplit3 ! $ fpick ! (λ n. use1 𝓛 (‵ (wd n)) (word_in 𝓛 b (o + 0) n) $ move ! (1 ∷ []) $ fpick ! (λ x. fsplit ! $ move ! (2 ∷ 0 ∷ 3 ∷ []) $ fjoin3 ! $ move ! (2 ∷ []) $
      use1 𝓛 (raw (wand 𝓤 ⟦ parts_at full_share ks zero (n, (x, tt)) b o ⟧ ⟦ Fields (n, x) ⟧)) (all_e 𝓤 (λ (a : Denots (rows_of ks)). wand 𝓤 ⟦ parts_at full_share ks zero a b o ⟧ ⟦ part_at Data full_share a b o ⟧) (n, (x, tt))) $
      move ! (1 ∷ 0 ∷ []) $ use2 𝓛 (‵ (Fields (n, x))) (apply∗ 𝓤 ⟦ parts_at full_share ks zero (n, (x, tt)) b o ⟧ ⟦ Fields (n, x) ⟧) $ by ! (whole (n, x))))

  -- the word and the value are borrowed apart
  cut : (q : Share) → A.bor κ P ∗ A.lft κ q ⊢ H.⇛ ((A.bor κ Word ∗ A.bor κ C) ∗ A.lft κ q)
  unfolding fseps
  cut q = qed 𝓛 (‵ (fbor κ P) ∷ ‵ (flft κ q) ∷ []) ∵ updating ! $ bor_open ! tt $ move ! (1 ∷ []) $ use1 𝓛 (some (λ (s : ℕ × R.Denot). ‵ (Fields s) ⊛ ‵ (fact (ok s.1)))) apart $ pick ! (λ s. split ! $
      use1 𝓛 ((‵ (wd s.0) ⊛ ‵ (At s.1) ⊛ ‵ ftrue) ⊛ raw (PartsBack 𝓛 full_share [] ks b o)) (Struct-parts 𝓛 full_share [] ks (u64-laws.lawful 𝓛, (L, tt)) (s.0, (s.1, tt)) b o) $ split ! $ split3 ! $
      use1 𝓛 (‵ (word b (o + 0) s.0)) (word_out 𝓛 b (o + 0) s.0) $ fpack ! ℕ (word b (o + 0)) s.0 $ move ! (1 ∷ 4 ∷ []) $ fjoin ! $ fpack ! R.Denot (λ y. fsep (At y) (fact (ok y))) s.1 $ move ! (1 ∷ 0 ∷ 2 ∷ []) $ fjoin3 ! $ move ! (1 ∷ []) $
      use1 𝓛 (‵ (fwand (fsep (fdead κ) (fseps (Word ∷ C ∷ []))) (fupd P))) way_back $ move ! (2 ∷ 1 ∷ 0 ∷ []) $ obor_alter ! tt (Word ∷ C ∷ []) $
      use1 𝓛 (‵ (fbor κ Word) ⊛ ‵ (fbor κ C) ⊛ ‵ ftrue) (id⊢ 𝓤 _) $ split3 ! $ join ! $ now ! $ keep ! (0 ∷ 2 ∷ []) $ done !)

  abbrev I : Fml
  I = Inv R ok b o κ

  word_back : emp 𝓤 ⊢ ⟦ fwand (fsep (fdead κ) (fseps (I ∷ []))) (fupd Word) ⟧
  unfolding fseps
  word_back = qed 𝓛 [] ∵ assume ! (‵ (fsep (fdead κ) (fsep I ftrue))) $ suffices ! ⟦ Word ⟧ (upd_i 𝓤 ⟦ Word ⟧) $ fsplit3 ! $ keep ! (1 ∷ []) $ fpick ! (λ n. fsplit ! $ keep ! (0 ∷ []) $ fpack ! ℕ (word b (o + 0)) n $ done !)

  module _ (l : Lft) (shares : Shares 𝓛 R l) (μ : Lft) (inc : Incl μ l) (sp : Incl μ κ) where
    abbrev Given : Share → Pr
    Given r = A.bor κ Word ∗ A.bor κ C ∗ A.lft μ r

    abbrev Shown : Share → Pr
    Shown r = ⟦ cell_shares R ok (block_ptr b o) κ ⟧ ∗ A.lft μ r

    guarded : (r q : Share) → Given r ∗ A.lft κ q ⊢ H.⇛ (Shown r ∗ A.lft κ q)
    unfolding fseps
    guarded r q = qed 𝓛 ((‵ (fbor κ Word) ⊛ ‵ (fbor κ C) ⊛ ‵ (flft μ r)) ∷ ‵ (flft κ q) ∷ []) ∵ updating ! $ split3 ! $ move ! (0 ∷ 3 ∷ []) $ bor_open ! tt $ move ! (1 ∷ []) $ fpick ! (λ n.
        -- [the word; the borrow; the value; the other token]
        move ! (2 ∷ 3 ∷ []) $ use2 𝓛 (later (‵ (stands R ok b o κ n) ⊛ ‵ (flft μ r))) (starts 𝓛 R ok b o l shares κ ((μ, r) ∷ []) inc sp n) $ await ! tt $ split ! $ move ! (2 ∷ 0 ∷ []) $ fjoin ! $ fpack ! ℕ (λ w. fsep (word b (o + 0) w) (stands R ok b o κ w)) n $
        nothing ! $ move ! (1 ∷ 0 ∷ []) $ fjoin ! $ use0 𝓛 (‵ (fwand (fsep (fdead κ) (fseps (I ∷ []))) (fupd Word))) word_back $ move ! (3 ∷ 1 ∷ 0 ∷ []) $ obor_alter ! tt (I ∷ []) $
        use1 𝓛 (‵ (fbor κ I) ⊛ ‵ ftrue) (id⊢ 𝓤 _) $ split ! $ use1 𝓛 (later (‵ (finv (fbor κ I)))) (𝓛.invs.inv_new (fbor κ I)) $ await ! tt $
        use0 𝓛 (‵ (before κ κ)) (before-Incl 𝓛 κ κ (Incl-refl κ)) $ fjoin ! $ fpack ! Lft (λ α. kept R ok b o α κ) κ $ move ! (0 ∷ 3 ∷ []) $ join ! $ now ! $ keep ! (0 ∷ 2 ∷ []) $ done !)

  made : (l : Lft) → Shares 𝓛 R l → (ts : Toks) → Incl (span ts) l → Incl (span ts) κ → A.bor κ P ∗ lfts 𝓛 ts ⊢ H.⇛ (⟦ cell_shares R ok (block_ptr b o) κ ⟧ ∗ lfts 𝓛 ts)
  made l shares ts inc sp = let μ : Lft = span ts in
      qed 𝓛 (‵ (fbor κ P) ∷ raw (lfts 𝓛 ts) ∷ []) ∵ updating ! $ use2 𝓛 (later ((‵ (fbor κ Word) ⊛ ‵ (fbor κ C)) ⊛ raw (lfts 𝓛 ts))) (by_one 𝓛 κ ts sp (A.bor κ P) (A.bor κ Word ∗ A.bor κ C) cut) $
      await ! tt $ split ! $ split ! $ move ! (2 ∷ []) $
      use1 𝓛 (some (λ (q : Share). ‵ (flft μ q) ⊛ raw (wand 𝓤 (A.lft μ q) (lfts 𝓛 ts)))) (one_token 𝓛 ts) $ pick ! (λ q. split ! $ use1 𝓛 (‵ (flft μ (base.Share.left q)) ⊛ ‵ (flft μ (base.Share.right q))) (𝓛.lfts.lft_split μ q) $ split ! $
      -- [two tokens; the way back; the word; the value]
      move ! (4 ∷ 1 ∷ []) $ join ! $ move ! (3 ∷ 0 ∷ []) $ join ! $ move ! (0 ∷ 1 ∷ []) $
      use2 𝓛 (later ((‵ (cell_shares R ok (block_ptr b o) κ) ⊛ ‵ (flft μ (base.Share.right q))) ⊛ ‵ (flft μ (base.Share.left q))))
      (by_one 𝓛 κ ((μ, base.Share.left q) ∷ []) sp (Given l shares μ inc sp (base.Share.right q)) (Shown l shares μ inc sp (base.Share.right q)) (guarded l shares μ inc sp (base.Share.right q))) $ await ! tt $ split ! $ split ! $
      move ! (2 ∷ 1 ∷ []) $ use2 𝓛 (‵ (flft μ q)) (𝓛.lfts.lft_join μ q) $ move ! (0 ∷ 2 ∷ []) $ use2 𝓛 (raw (lfts 𝓛 ts)) (apply∗ 𝓤 (A.lft μ q) (lfts 𝓛 ts)) $ now ! $ move ! (1 ∷ 0 ∷ []) $ done !)

pub shares : (T Y : RattleType) (g : Ghosts T.Denot Y.Denot) (L : Laws T) (K : Laws Y) → statement T Y g L K
shares T Y g L K = let m : Member = record { row = T; ty = layout T } in
    let same : T ≡ row_of m = λ i. record { Denot = T.Denot; mir = L.one i; written = T.written; reaches = T.reaches; lives = T.lives; own_val = T.own_val; exit = T.exit; coded = T.coded; shr_at = T.shr_at } in
    subst (λ (τ : List Ty). Law (once.the_written (record T { mir = τ }) Y g)) (sym L.one) (record {
      shr_laws = λ d b o. some_shr_laws Lft (kept (row_of m) (g.fits d) b o) (λ α. beside_shr_laws (ends α) (always (fbor α (Inv (row_of m) (g.fits d) b o α))) (ends_shr_laws α) (always_shr_laws (fbor α (Inv (row_of m) (g.fits d) b o α))));
      shares = λ M 𝓤 𝓛 d κ ts b o inc sp. made 𝓛 m Y g d (subst (Lawful 𝓛) same (L.lawful 𝓛)) b o κ T.lives (subst (λ (R : RattleType). Shares 𝓛 R T.lives) same (L.shares 𝓛)) ts
          (Incl-trans inc (Incl-trans (meet_⊑_left (T.lives ++ (Y.lives ++ [])) _) (meet_⊑_left T.lives (Y.lives ++ [])))) sp;
    })
