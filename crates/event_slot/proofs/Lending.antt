-- What a `&` to a claim or to a writer shows, made of a borrow of it. Assumes `Logic`.
use Rattle.event_slot.proofs.Names.{apply∗, ℕ, zero, suc, List, [], ◌∷◌, ◌++◌, Option, Some, None, Ura, full_share, Counts, Coded, SProp, ent, sep, wand, upd_i, never_e, id⊢, Lft, GName, Share, Incl, Incl-refl, Incl-trans, Fml, ftrue, ffalse, fsep, fseps, fwand, fupd, fdead, fobs, fbor, flft, finv, before, ⊑_meet, meet_⊑_left, meet_⊑_right, span, Logic, sem, lfts, ‵, raw, ◌⊛◌, later, ◌$◌, ◌∵◌, !, qed, by, move, keep, drop, split, split3, group, fsplit, fsplit3, fjoin, fjoin3, fpick, fpack, assume, suffices, use1, use2, use3, await, updating, now, done, bor_open, obor_close, obor_alter, bor_fracture, before_dup, before_shorten, Body, RattleType, RowLaws, Ptr, block_ptr, null_ptr, nothing, part_at, shared_of, mem, Shares, ShrLaws, contraction, shortens, said_shr_laws, within_shr_laws, Lends, Lends-false, by_one, out}
use base.Share
use denote.Moves.{moves, moves_before}
use denote.Shares.{settles}
use denote.Struct.Lending.{Lends-nothing}
use Rattle.core.proofs.cell.Borrows.{unnest_before}
use Rattle.counted_slot.specs.Counting.{tag, parts, seen, reader}
use Rattle.counted_slot.proofs.Parts.{parts_in}
use Rattle.counted_slot.proofs.Rounds.{seen_laws}
use Rattle.event_slot.specs.Holding.{any, Names, count, place, lies, writer, Inv, kept, claim_owns, claim_shares, writing_owns, writing_shares, inner_shares}

pub writing_laws : (β : Lft) (R : RattleType) → RowLaws R → (p : Ptr) (x : R.Denot) → ShrLaws (writing_shares β R p x)
writing_laws β R L (block_ptr b o) x = within_shr_laws β (shared_of R x b (place R b o)) (L x b (place R b o))
writing_laws β R L null_ptr x = said_shr_laws ffalse tt

pub inner_laws : (β : Lft) (R U : RattleType) → RowLaws U → (p : Ptr) (y : U.Denot) → ShrLaws (inner_shares β R U p y)
inner_laws β R U L (block_ptr b o) y = within_shr_laws β (shared_of U y b (place R b o)) (L y b (place R b o))
inner_laws β R U L null_ptr y = said_shr_laws ffalse tt

module _ {M : Type 1} {𝓤 : Ura M} (𝓛 : Logic 𝓤) {W : Type 0} (cw : Coded W) (γ : ℕ) (R Q : RattleType) (c : ℕ → ℕ) (holds : ℕ → Option Q.Denot → List W → Type 0) (β : Lft) where
  open 𝓛 use {H, A}

  abbrev Pr : Type 2
  Pr = SProp 𝓤

  abbrev ◌⊢◌ : Pr → Pr → Type 1
  P ⊢ Q = ent 𝓤 P Q

  abbrev ◌∗◌ : Pr → Pr → Pr
  P ∗ Q = sep 𝓤 P Q

  abbrev ◌-∗◌ : Pr → Pr → Pr
  P -∗ Q = wand 𝓤 P Q

  abbrev ⟦◌⟧ : Fml → Pr
  ⟦ P ⟧ = sem 𝓛 P

  infix 26 ◌⊢◌
  infixr 35 ◌∗◌
  infixr 30 ◌-∗◌
  module _ (b o : ℕ) (x : R.Denot) (ν : Lft) (inc : Incl ν β) where
    abbrev Kept : Names → Fml
    Kept t = finv (fbor t.0 (Inv cw.code γ R Q c holds b o t))

    -- a reader's part is lent for ν, so what is shared as long as the part lasts is shared for ν
    module _ (L : RowLaws R) (h : Option Q.Denot) where
      abbrev Claim : Fml
      Claim = claim_owns cw.code γ R Q c holds β (block_ptr b o) 1 (Some x) h

      abbrev V : Lft → Fml
      V = seen R any b o x

      part_again : (t : Names) (a : ℕ) (e : Share) → Counts 63 e 1 → ⟦ before β t.0 ⟧ ∗ ⟦ Kept t ⟧ ∗ ⟦ tag t.1 e a ⟧ ∗ ⟦ V (a ∷ t.0) ⟧ ∗ ⟦ lies R Q b o t h ⟧ ⊢ ⟦ fwand (fsep (fdead ν) (fseps (flft (a ∷ []) e ∷ []))) (fupd Claim) ⟧
      unfolding fseps
      part_again t a e k = qed 𝓛 (‵ (before β t.0) ∷ ‵ (Kept t) ∷ ‵ (tag t.1 e a) ∷ ‵ (V (a ∷ t.0)) ∷ ‵ (lies R Q b o t h) ∷ []) ∵ assume ! (‵ (fsep (fdead ν) (fsep (flft (a ∷ []) e) ftrue))) $ suffices ! ⟦ Claim ⟧ (upd_i 𝓤 ⟦ Claim ⟧) $
          fsplit3 ! $ move ! (1 ∷ 5 ∷ []) $ fjoin ! $ use1 𝓛 (‵ (parts t.1 a 1)) (parts_in 𝓛 t.1 a 1 e k) $ move ! (0 ∷ 5 ∷ []) $ fjoin ! $ fpack ! ℕ (λ u. fsep (parts t.1 u 1) (V (u ∷ t.0))) a $
          move ! (0 ∷ 5 ∷ []) $ fjoin ! $ move ! (3 ∷ 4 ∷ []) $ fjoin ! $ move ! (0 ∷ 1 ∷ []) $ fjoin ! $ fpack ! Names (λ s. fsep (kept cw.code γ R Q c holds b o s β) (fsep (reader R any b o (count s) x) (lies R Q b o s h))) t $ keep ! (0 ∷ []) $ done !

      sees : (q : Share) → A.bor ν Claim ∗ A.lft ν q ⊢ H.⇛ (⟦ V ν ⟧ ∗ A.lft ν q)
      unfolding fseps
      sees q = qed 𝓛 (‵ (fbor ν Claim) ∷ ‵ (flft ν q) ∷ []) ∵ updating ! $ bor_open ! tt $ move ! (1 ∷ []) $ fpick ! (λ t. fsplit ! $ fsplit ! $ move ! (2 ∷ []) $ fsplit ! $ fpick ! (λ u. fsplit ! $ fpick ! (λ e. fpick ! (λ k. fsplit ! $
          let a : Lft = u ∷ [] in let μ : Lft = a ++ ν in let K = seen_laws R any L b o x in
          -- [the part; its name; what is seen; the state; before; kept; the open borrow]
          move ! (0 ∷ 1 ∷ 2 ∷ 4 ∷ 5 ∷ 6 ∷ []) $ move ! (2 ∷ []) $ use1 𝓛 (‵ (V (a ++ t.0)) ⊛ ‵ (V (a ++ t.0))) (contraction 𝓛 V K (a ++ t.0)) $ split ! $ move ! (4 ∷ []) $ use1 𝓛 (‵ (before β t.0) ⊛ ‵ (before β t.0)) (before_dup 𝓛 β t.0) $ split ! $
          move ! (0 ∷ 6 ∷ 5 ∷ 2 ∷ 8 ∷ []) $ group ! 5 $ use1 𝓛 (‵ (fwand (fsep (fdead ν) (fseps (flft a e ∷ []))) (fupd Claim))) (part_again t u e k) $ nothing ! $ move ! (4 ∷ 0 ∷ []) $ fjoin ! $ move ! (4 ∷ 0 ∷ 1 ∷ []) $
          obor_alter ! tt (flft a e ∷ []) $ use1 𝓛 (‵ (fbor ν (flft a e)) ⊛ ‵ ftrue) (id⊢ 𝓤 _) $ split ! $ bor_fracture ! tt (λ r. flft a r) e $
          -- [the part, shared for ν; nothing; the token; before; what is seen]
          move ! (4 ∷ []) $ use1 𝓛 (‵ (V (μ ++ t.0))) (shortens 𝓛 V K (a ++ t.0) (μ ++ t.0) (⊑_meet (μ ++ t.0) a t.0 (Incl-trans (meet_⊑_left μ t.0) (meet_⊑_left a ν)) (meet_⊑_right μ t.0))) $
          move ! (4 ∷ []) $ use1 𝓛 (‵ (before μ t.0)) (before_shorten 𝓛 β μ t.0 (Incl-trans (meet_⊑_right a ν) inc)) $ use2 𝓛 (‵ (V μ)) (moves_before 𝓛 V K μ t.0) $
          move ! (1 ∷ 0 ∷ []) $ use2 𝓛 (‵ (V ν)) (moves 𝓛 V K ν a) $ now ! $ keep ! (0 ∷ 2 ∷ []) $ done !))))

    -- a writer's borrow is lent for ν
    abbrev Writer : Fml
    Writer = writing_owns cw.code γ R Q c holds β (block_ptr b o) x

    abbrev At : Fml
    At = part_at R full_share x b (place R b o)

    module _ (t : Names) (δ : GName) where
      abbrev In : Fml
      In = Body (mem R) b (place R b o) δ

      abbrev Says : Fml
      Says = fobs δ (R.coded.code x)

      writer_again : ⟦ before β t.0 ⟧ ∗ ⟦ Kept t ⟧ ∗ ⟦ out t.2 ⟧ ⊢ ⟦ fwand (fsep (fdead ν) (fseps (Says ∷ fbor t.0 In ∷ []))) (fupd Writer) ⟧
      unfolding fseps
      writer_again = qed 𝓛 (‵ (before β t.0) ∷ ‵ (Kept t) ∷ ‵ (out t.2) ∷ []) ∵ assume ! (‵ (fsep (fdead ν) (fsep Says (fsep (fbor t.0 In) ftrue)))) $ suffices ! ⟦ Writer ⟧ (upd_i 𝓤 ⟦ Writer ⟧) $ fsplit ! $ drop ! $ fsplit3 ! $ fjoin ! $
          fpack ! GName (λ η. fsep (fobs η (R.coded.code x)) (fbor t.0 (Body (mem R) b (place R b o) η))) δ $ move ! (4 ∷ 0 ∷ []) $ fjoin ! $ move ! (2 ∷ 3 ∷ []) $ fjoin ! $ fjoin ! $
          fpack ! Names (λ s. fsep (kept cw.code γ R Q c holds b o s β) (writer R b o s x)) t $ keep ! (0 ∷ []) $ done !

    shows_value : (q : Share) → A.bor ν Writer ∗ A.lft ν q ⊢ H.⇛ (⟦ fbor ν At ⟧ ∗ A.lft ν q)
    unfolding fseps
    shows_value q = qed 𝓛 (‵ (fbor ν Writer) ∷ ‵ (flft ν q) ∷ []) ∵ updating ! $ bor_open ! tt $ move ! (1 ∷ []) $ fpick ! (λ t. fsplit ! $ fsplit ! $ move ! (2 ∷ []) $ fsplit ! $ move ! (1 ∷ []) $ fpick ! (λ δ. fsplit ! $
        let In' : Fml = In t δ in let Says' : Fml = Says t δ in
        -- [the name; the inner borrow; out; before; kept; the open borrow]
        move ! (3 ∷ []) $ use1 𝓛 (‵ (before β t.0) ⊛ ‵ (before β t.0)) (before_dup 𝓛 β t.0) $ split ! $ move ! (0 ∷ 5 ∷ 4 ∷ []) $ use3 𝓛 (‵ (fwand (fsep (fdead ν) (fseps (Says' ∷ fbor t.0 In' ∷ []))) (fupd Writer))) (writer_again t δ) $
        nothing ! $ move ! (3 ∷ 4 ∷ 0 ∷ []) $ fjoin3 ! $ move ! (3 ∷ 0 ∷ 1 ∷ []) $ obor_alter ! tt (Says' ∷ fbor t.0 In' ∷ []) $
        use1 𝓛 (‵ (fbor ν Says') ⊛ ‵ (fbor ν (fbor t.0 In')) ⊛ ‵ ftrue) (id⊢ 𝓤 _) $ split3 ! $
        -- [the name, lent; the inner borrow, lent; nothing; the token; before]
        move ! (4 ∷ []) $ use1 𝓛 (‵ (before ν t.0)) (before_shorten 𝓛 β ν t.0 inc) $ move ! (0 ∷ 2 ∷ 4 ∷ 1 ∷ []) $ use3 𝓛 (later (‵ (fbor ν In') ⊛ ‵ (flft ν q))) (unnest_before 𝓛 ν t.0 q In') $ await ! tt $ split ! $
        move ! (1 ∷ []) $ use1 𝓛 (‵ (flft ν (Share.left q)) ⊛ ‵ (flft ν (Share.right q))) (𝓛.lfts.lft_split ν q) $ split ! $ move ! (3 ∷ 0 ∷ []) $ bor_open ! tt $ move ! (1 ∷ 3 ∷ 2 ∷ []) $
        use3 𝓛 (later (‵ Says' ⊛ ‵ (fbor ν At) ⊛ ‵ (flft ν (Share.right q)))) (settles 𝓛 (mem R) ν ((ν, Share.right q) ∷ []) (Incl-refl ν) δ x b (place R b o)) $ await ! tt $ split3 ! $
        move ! (3 ∷ 0 ∷ []) $ obor_close ! tt $ drop ! $ move ! (0 ∷ 2 ∷ []) $ use2 𝓛 (‵ (flft ν q)) (𝓛.lfts.lft_join ν q) $ now ! $ keep ! (1 ∷ 0 ∷ []) $ done !))

  no_reader : (b o : ℕ) (h : Option Q.Denot) (l : Lft) → Lends 𝓛 (claim_owns cw.code γ R Q c holds β (block_ptr b o) 1 None h) (λ _. ffalse) l
  no_reader b o h l κ ts inc sp = let P : Fml = claim_owns cw.code γ R Q c holds β (block_ptr b o) 1 None h in qed 𝓛 (‵ (fbor κ P) ∷ raw (lfts 𝓛 ts) ∷ []) ∵ updating ! $
      use2 𝓛 (later (‵ P ⊛ raw (⟦ P ⟧ -∗ H.⇛ (A.bor κ P ∗ lfts 𝓛 ts)))) (𝓛.more.bor_acc_by κ ts P sp) $ await ! tt $ split ! $ fpick ! (λ t. fsplit ! $ move ! (1 ∷ []) $ fsplit ! $ keep ! (0 ∷ []) $ by ! (never_e 𝓤 _))

  pub Lends-claim : RowLaws R → (l : Lft) → Incl l β → (p : Ptr) (right : ℕ) (v : Option R.Denot) (h : Option Q.Denot) → Lends 𝓛 (claim_owns cw.code γ R Q c holds β p right v h) (claim_shares β R p right v) l
  Lends-claim L l le null_ptr right v h = Lends-false 𝓛 (claim_shares β R null_ptr right v) l
  Lends-claim L l le (block_ptr b o) zero v h = Lends-nothing 𝓛 (claim_owns cw.code γ R Q c holds β (block_ptr b o) 0 v h) l
  Lends-claim L l le (block_ptr b o) (suc (suc k)) v h = Lends-nothing 𝓛 (claim_owns cw.code γ R Q c holds β (block_ptr b o) (suc (suc k)) v h) l
  Lends-claim L l le (block_ptr b o) (suc zero) None h = no_reader b o h l
  Lends-claim L l le (block_ptr b o) (suc zero) (Some x) h = λ κ ts inc sp. let ν : Lft = κ ++ β in let P : Fml = claim_owns cw.code γ R Q c holds β (block_ptr b o) 1 (Some x) h in
      qed 𝓛 (‵ (fbor κ P) ∷ raw (lfts 𝓛 ts) ∷ []) ∵ use1 𝓛 (‵ (fbor ν P)) (𝓛.bors.bor_shorten κ ν P (meet_⊑_left κ β)) $
      by ! (by_one 𝓛 ν ts (⊑_meet (span ts) κ β sp (Incl-trans inc le)) (A.bor ν P) ⟦ seen R any b o x ν ⟧ (sees b o x ν (meet_⊑_right κ β) L h))

  pub Lends-writing : (l : Lft) → Incl l β → Shares 𝓛 R l → (p : Ptr) (x : R.Denot) → Lends 𝓛 (writing_owns cw.code γ R Q c holds β p x) (writing_shares β R p x) l
  Lends-writing l le s null_ptr x = Lends-false 𝓛 (writing_shares β R null_ptr x) l
  Lends-writing l le s (block_ptr b o) x = λ κ ts inc sp. let ν : Lft = κ ++ β in let P : Fml = writing_owns cw.code γ R Q c holds β (block_ptr b o) x in let At : Fml = part_at R full_share x b (place R b o) in let sm : Incl (span ts) ν = ⊑_meet (span ts) κ β sp (Incl-trans inc le) in
      qed 𝓛 (‵ (fbor κ P) ∷ raw (lfts 𝓛 ts) ∷ []) ∵ updating ! $ use1 𝓛 (‵ (fbor ν P)) (𝓛.bors.bor_shorten κ ν P (meet_⊑_left κ β)) $
      use2 𝓛 (later (‵ (fbor ν At) ⊛ raw (lfts 𝓛 ts))) (by_one 𝓛 ν ts sm (A.bor ν P) ⟦ fbor ν At ⟧ (shows_value b o x ν (meet_⊑_right κ β))) $ await ! tt $
      use1 𝓛 (later (‵ (shared_of R x b (place R b o) ν) ⊛ raw (lfts 𝓛 ts))) (s x ν ts b (place R b o) inc sm) $ await ! tt $ now ! $ done !

  -- the value is a U, which lies where it does: what is lent for ν is the U
  module _ (U : RattleType) (to : R.Denot → U.Denot)
      (splits : (x : R.Denot) (b o : ℕ) → ⟦ part_at R full_share x b o ⟧ ⊢ ⟦ part_at U full_share (to x) b o ⟧ ∗ (⟦ part_at U full_share (to x) b o ⟧ -∗ ⟦ part_at R full_share x b o ⟧)) where
    module _ (x : R.Denot) (b o : ℕ) (ν : Lft) where
      abbrev Outer : Fml
      Outer = part_at R full_share x b o

      abbrev Inner : Fml
      Inner = part_at U full_share (to x) b o

      outer_again : ⟦ Inner ⟧ -∗ ⟦ Outer ⟧ ⊢ ⟦ fwand (fsep (fdead ν) (fseps (Inner ∷ []))) (fupd Outer) ⟧
      unfolding fseps
      outer_again = qed 𝓛 (raw (⟦ Inner ⟧ -∗ ⟦ Outer ⟧) ∷ []) ∵ assume ! (‵ (fsep (fdead ν) (fsep Inner ftrue))) $ suffices ! ⟦ Outer ⟧ (upd_i 𝓤 ⟦ Outer ⟧) $ fsplit3 ! $ keep ! (1 ∷ 3 ∷ []) $ by ! (apply∗ 𝓤 ⟦ Inner ⟧ ⟦ Outer ⟧)

      shows_inner : (q : Share) → A.bor ν Outer ∗ A.lft ν q ⊢ H.⇛ (⟦ fbor ν Inner ⟧ ∗ A.lft ν q)
      unfolding fseps
      shows_inner q = qed 𝓛 (‵ (fbor ν Outer) ∷ ‵ (flft ν q) ∷ []) ∵ updating ! $ bor_open ! tt $ move ! (1 ∷ []) $ use1 𝓛 (‵ Inner ⊛ raw (⟦ Inner ⟧ -∗ ⟦ Outer ⟧)) (splits x b o) $ split ! $ move ! (1 ∷ []) $
          use1 𝓛 (‵ (fwand (fsep (fdead ν) (fseps (Inner ∷ []))) (fupd Outer))) outer_again $ nothing ! $ move ! (2 ∷ 0 ∷ []) $ fjoin ! $ move ! (2 ∷ 0 ∷ 1 ∷ []) $ obor_alter ! tt (Inner ∷ []) $
          use1 𝓛 (‵ (fbor ν Inner) ⊛ ‵ ftrue) (id⊢ 𝓤 _) $ split ! $ now ! $ keep ! (0 ∷ 2 ∷ []) $ done !

    pub Lends-inner : (l : Lft) → Incl l β → Shares 𝓛 U l → (p : Ptr) (x : R.Denot) → Lends 𝓛 (writing_owns cw.code γ R Q c holds β p x) (inner_shares β R U p (to x)) l
    Lends-inner l le s null_ptr x = Lends-false 𝓛 (inner_shares β R U null_ptr (to x)) l
    Lends-inner l le s (block_ptr b o) x = λ κ ts inc sp. let ν : Lft = κ ++ β in let P : Fml = writing_owns cw.code γ R Q c holds β (block_ptr b o) x in let e : ℕ = place R b o in let sm : Incl (span ts) ν = ⊑_meet (span ts) κ β sp (Incl-trans inc le) in
        qed 𝓛 (‵ (fbor κ P) ∷ raw (lfts 𝓛 ts) ∷ []) ∵ updating ! $ use1 𝓛 (‵ (fbor ν P)) (𝓛.bors.bor_shorten κ ν P (meet_⊑_left κ β)) $
        use2 𝓛 (later (‵ (fbor ν (Outer x b e ν)) ⊛ raw (lfts 𝓛 ts))) (by_one 𝓛 ν ts sm (A.bor ν P) ⟦ fbor ν (Outer x b e ν) ⟧ (shows_value b o x ν (meet_⊑_right κ β))) $ await ! tt $
        use1 𝓛 (later (‵ (fbor ν (Inner x b e ν)) ⊛ raw (lfts 𝓛 ts))) (by_one 𝓛 ν ts sm (A.bor ν (Outer x b e ν)) ⟦ fbor ν (Inner x b e ν) ⟧ (shows_inner x b e ν)) $ await ! tt $
        use1 𝓛 (later (‵ (shared_of U (to x) b e ν) ⊛ raw (lfts 𝓛 ts))) (s (to x) ν ts b e inc sm) $ await ! tt $ now ! $ done !
