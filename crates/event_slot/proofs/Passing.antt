-- A `&mut` to the value or to the state leaves through a `&mut` to an `Arc` with a claim, which follows it. It may last as long as the `Arc` keeps its token. Assumes `Logic`.
use Rattle.event_slot.proofs.Names.{◌≡◌, ℕ, List, [], ◌∷◌, ◌++◌, ◌∙◌, sym, refl, Option, Some, None, Ura, Val, vptr, full_share, Counts, Coded, SProp, ent, sep, wand, ex, emp, upd_i, never_e, via, id⊢, apply∗, Lft, GName, Share, Incl, Incl-refl, Fml, ftrue, fsep, fseps, fex, feq, fwand, fupd, fdead, fauth, fobs, fbor, flft, finv, before, meet_⊑_right, Logic, sem, shown, fact_i, ‵, raw, ◌⊛◌, some, later, ◌$◌, ◌∵◌, !, qed, move, keep, split, split3, fsplit, fsplit3, fjoin, fjoin3, fpick, fpack, pick, show, assume, suffices, use0, use1, use2, use3, updating, await, now, rewrite, feq_i, feq_l, done, obor_alter, bor_fracture, out, Body, RattleType, Ptr, InBlock, block_ptr, null_ptr, part_at, mem, nothing}
use mir.Syntax.{Lifetime}
use base.Meet.{meet_within}
use denote.Ref.{MutBor, MutRef}
use denote.Follow.{follows}
use types.Frac.{lent_meet}
use types.Mut.{open_ref}
use types.RcWeak.{part, part_in}
use types.SemTy.{SemTy}
use types.Tokens.{shr_bor_dup}
use types.Within.{bor-within}
use Rattle.core.proofs.cell.Through.{hands_before}
use Rattle.event_slot.specs.Holding.{Names, place, right_to, lies, kept, Inv, held, claim_owns}
use Rattle.event_slot.proofs.Owning.{no_writer}

module _ {M : Type 1} {𝓤 : Ura M} (𝓛 : Logic 𝓤) {W : Type 0} (cw : Coded W) (γ : ℕ) (R Q : RattleType) (c : ℕ → ℕ) (holds : ℕ → Option Q.Denot → List W → Type 0) (a : ℕ) (ρ : Lft) where
  open 𝓛 use {H, A}

  abbrev ⟦◌⟧ : Fml → SProp 𝓤
  ⟦ P ⟧ = sem 𝓛 P

  abbrev α : Lft
  α = a ∷ []

  abbrev β : Lft
  β = a ∷ ρ

  -- T is what is lent, which lies at `here` in the block; P is what is held of it, and is its borrow, a name that says what it is, and `Own`
  module _ (T : RattleType) (b o here : ℕ) (P : ℕ → ℕ → Names → T.Denot → Fml) (Own : Names → GName → Fml) where
    abbrev In : GName → Fml
    In δ = Body (mem T) b here δ

    abbrev Parts : Names → T.Denot → GName → SProp 𝓤
    Parts t w δ = sep 𝓤 (A.obs δ (T.coded.code w)) (sep 𝓤 (A.bor t.0 (In δ)) ⟦ Own t δ ⟧)

    module _ (takes : (t : Names) (w : T.Denot) → ent 𝓤 ⟦ P b o t w ⟧ (ex 𝓤 (Parts t w))) (gives : (t : Names) (w : T.Denot) (δ : GName) → ent 𝓤 (Parts t w δ) ⟦ P b o t w ⟧) (p : Ptr) (at : p ≡ block_ptr b o) (v : T.Denot) where
      abbrev Holds : Ptr → T.Denot → Fml
      Holds r w = held cw.code γ R Q c holds β r (λ i j t. P i j t w)

      -- G is what holds it: some bytes, the token and that, at the value w after `F w`
      module _ (G : RattleType) (F : T.Denot → G.Denot) (inj : (u w : T.Denot) → F u ≡ F w → u ≡ w) (ℓ : Lifetime) (κ : Lft) (inc : Incl κ ρ) (q : Share) (x : MutBor G.Denot) (Bytes : Fml) (is_F : x.now ≡ F v)
          (parts : ent 𝓤 ⟦ part_at G full_share x.now x.ref_ptr.0 x.ref_ptr.1 ⟧ (sep 𝓤 ⟦ Bytes ⟧ (sep 𝓤 ⟦ part 63 a ⟧ ⟦ Holds p v ⟧)))
          (whole : (w : T.Denot) → ent 𝓤 (sep 𝓤 ⟦ Bytes ⟧ (sep 𝓤 ⟦ part 63 a ⟧ ⟦ Holds p w ⟧)) ⟦ part_at G full_share (F w) x.ref_ptr.0 x.ref_ptr.1 ⟧) where
        abbrev Less : G.Denot → Fml
        Less z = fex T.Denot (λ w. fsep (feq G.Denot z (F w)) (fsep Bytes (Holds p w)))

        -- the same without its token
        abbrev Tokenless : SemTy
        Tokenless = record { rep = G.Denot; coded = G.coded; size = (mem G).size; own_at = λ z _ _. Less z }

        abbrev Left : Fml
        Left = Body Tokenless x.ref_ptr.0 x.ref_ptr.1 x.ghost_name

        abbrev Whole : Fml
        Whole = Body (mem G) x.ref_ptr.0 x.ref_ptr.1 x.ghost_name

        abbrev Kept : Names → Fml
        Kept t = finv (fbor t.0 (Inv cw.code γ R Q c holds b o t))

        abbrev Rest : Names × GName → SProp 𝓤
        Rest i = sep 𝓤 ⟦ Bytes ⟧ (sep 𝓤 ⟦ Kept i.0 ⟧ ⟦ Own i.0 i.1 ⟧)

        abbrev Cut : T.Denot → Names × GName → SProp 𝓤
        Cut w i = sep 𝓤 ⟦ before β i.0.0 ⟧ (sep 𝓤 (A.obs i.1 (T.coded.code w)) (sep 𝓤 (A.bor i.0.0 (In i.1)) (Rest i)))

        back : (i : Names × GName) (w : T.Denot) → ent 𝓤 (Cut w i) ⟦ Less (F w) ⟧
        back i w = qed 𝓛 (‵ (before β i.0.0) ∷ ‵ (fobs i.1 (T.coded.code w)) ∷ ‵ (fbor i.0.0 (In i.1)) ∷ ‵ Bytes ∷ ‵ (Kept i.0) ∷ ‵ (Own i.0 i.1) ∷ []) ∵
            move ! (1 ∷ 2 ∷ 5 ∷ []) $ use3 𝓛 (‵ (P b o i.0 w)) (gives i.0 w i.1) $ move ! (1 ∷ 3 ∷ []) $ fjoin ! $ move ! (0 ∷ 1 ∷ []) $ fjoin ! $
            fpack ! Names (λ t. fsep (kept cw.code γ R Q c holds b o t β) (P b o t w)) i.0 $ rewrite ! 0 (λ (r : Ptr). ‵ (Holds r w)) (sym at) refl $ move ! (1 ∷ 0 ∷ []) $ fjoin ! $
            feq_i ! G.Denot (F w) (F w) refl $ fjoin ! $ fpack ! T.Denot (λ u. fsep (feq G.Denot (F w) (F u)) (fsep Bytes (Holds p u))) w $ done !

        cut : ent 𝓤 ⟦ Less x.now ⟧ (ex 𝓤 (Cut v))
        cut = qed 𝓛 (‵ (Less x.now) ∷ []) ∵ fpick ! (λ w. fsplit3 ! $ feq_l ! (λ e. move ! (1 ∷ []) $ rewrite ! 0 (λ (u : T.Denot). ‵ (Holds p u)) (sym (inj v w (sym is_F ∙ e))) refl $ rewrite ! 0 (λ (r : Ptr). ‵ (Holds r v)) at refl $
            fpick ! (λ t. fsplit ! $ fsplit ! $ move ! (2 ∷ []) $ use1 𝓛 (some (λ (δ : GName). ‵ (fobs δ (T.coded.code v)) ⊛ ‵ (fbor t.0 (In δ)) ⊛ ‵ (Own t δ))) (takes t v) $ pick ! (λ δ. split3 ! $ show ! (Cut v) (t, δ) $ move ! (3 ∷ 0 ∷ 1 ∷ 5 ∷ 4 ∷ 2 ∷ []) $ done !))))

        way : (e : Share) → Counts 63 e 1 → ent 𝓤 (emp 𝓤) ⟦ fwand (fsep (fdead κ) (fseps (Left ∷ flft α e ∷ []))) (fupd Whole) ⟧
        unfolding fseps
        way e n = qed 𝓛 [] ∵ assume ! (‵ (fsep (fdead κ) (fsep Left (fsep (flft α e) ftrue)))) $ suffices ! ⟦ Whole ⟧ (upd_i 𝓤 ⟦ Whole ⟧) $ fsplit3 ! $ move ! (1 ∷ []) $ fpick ! (λ z. fsplit ! $ fpick ! (λ w. fsplit3 ! $ feq_l ! (λ e'.
            -- [the bytes; what is held; the name; dead; the token]
            rewrite ! 2 (λ (u : G.Denot). ‵ (fauth x.ghost_name (G.coded.code u))) e' refl $ move ! (4 ∷ []) $ fsplit ! $ use1 𝓛 (‵ (part 63 a)) (part_in 63 𝓛 a e n) $ move ! (2 ∷ 0 ∷ 3 ∷ []) $
            use3 𝓛 (‵ (part_at G full_share (F w) x.ref_ptr.0 x.ref_ptr.1)) (whole w) $ move ! (0 ∷ 2 ∷ []) $ fjoin ! $ fpack ! G.Denot (λ u. fsep (part_at G full_share u x.ref_ptr.0 x.ref_ptr.1) (fauth x.ghost_name (G.coded.code u))) (F w) $ keep ! (0 ∷ []) $ done !)))

        abbrev Lent : GName → SProp 𝓤
        Lent δ = sep 𝓤 ⟦ (MutRef ℓ κ T).own_val (record { ref_ptr = (b, here); ghost_name = δ; now = v }) (vptr b here ∷ []) ⟧ (sep 𝓤 (A.lft κ q) ⟦ follows G T x.ghost_name δ F ⟧)

        pub passes : ent 𝓤 (sep 𝓤 (A.obs x.ghost_name (G.coded.code x.now)) (sep 𝓤 (A.bor κ Whole) (A.lft κ q))) (H.⇛ (ex 𝓤 Lent))
        unfolding fseps
        passes = let val : List Val = vptr b here ∷ [] in let κ' : Lft = α ++ κ in
            qed 𝓛 (‵ (fobs x.ghost_name (G.coded.code x.now)) ∷ ‵ (fbor κ Whole) ∷ ‵ (flft κ q) ∷ []) ∵ updating ! $ open_ref ! tt (mem G) $ use1 𝓛 (‵ Bytes ⊛ ‵ (part 63 a) ⊛ ‵ (Holds p v)) parts $ split3 ! $
            -- [the bytes; the token; what is held; the borrow, open; both halves of its name]
            move ! (1 ∷ []) $ fpick ! (λ e. fpick ! (λ n. move ! (1 ∷ 2 ∷ []) $ fjoin ! $ feq_i ! G.Denot x.now (F v) is_F $ fjoin ! $ fpack ! T.Denot (λ w. fsep (feq G.Denot x.now (F w)) (fsep Bytes (Holds p w))) v $
            move ! (0 ∷ 4 ∷ []) $ fjoin ! $ fpack ! G.Denot (λ z. fsep (Less z) (fauth x.ghost_name (G.coded.code z))) x.now $ nothing ! $ move ! (2 ∷ 0 ∷ []) $ fjoin ! $ move ! (1 ∷ 0 ∷ []) $ fjoin ! $
            use0 𝓛 (‵ (fwand (fsep (fdead κ) (fseps (Left ∷ flft α e ∷ []))) (fupd Whole))) (way e n) $ move ! (2 ∷ 1 ∷ 0 ∷ []) $ obor_alter ! tt (Left ∷ flft α e ∷ []) $
            use1 𝓛 (‵ (fbor κ Left) ⊛ ‵ (fbor κ (flft α e)) ⊛ ‵ ftrue) (id⊢ 𝓤 _) $ split3 ! $ move ! (1 ∷ []) $ bor_fracture ! tt (λ r. flft α r) e $ shr_bor_dup ! $
            -- [the token, shared; the same; the borrow; nothing; a token of κ; a half of the name]
            move ! (0 ∷ 4 ∷ []) $ use2 𝓛 (later (some (λ (r : Share). ‵ (flft κ' r) ⊛ raw (wand 𝓤 (A.lft κ' r) (H.⇛ (A.lft κ q)))))) (lent_meet 𝓛 κ α κ q (Incl-refl κ)) $ await ! tt $ pick ! (λ r. split ! $
            move ! (3 ∷ []) $ use1 𝓛 (‵ (fbor κ' Left)) (𝓛.bors.bor_shorten κ κ' Left (meet_⊑_right α κ)) $ move ! (5 ∷ 0 ∷ 1 ∷ []) $
            use3 𝓛 (later (some (λ (δ : GName). ‵ (fobs δ (T.coded.code v)) ⊛ ‵ (fbor κ' (In δ)) ⊛ ‵ (flft κ' r) ⊛ ‵ (follows G T x.ghost_name δ F))))
            (hands_before 𝓛 Tokenless (mem T) F inj x.ref_ptr.0 x.ref_ptr.1 b here x.ghost_name κ' β (meet_within α ρ κ inc) (Names × GName) (λ i. i.0.0) (λ i. i.1) Rest back r x.now v cut) $
            await ! tt $ pick ! (λ δ. split3 ! $ move ! (2 ∷ []) $ split ! $ move ! (0 ∷ 4 ∷ []) $ use2 𝓛 (later (‵ (flft κ q))) (apply∗ 𝓤 (A.lft κ' r) (H.⇛ (A.lft κ q))) $ await ! tt $
            -- [a token of κ; what follows; the name; the borrow; the token, shared; nothing]
            move ! (4 ∷ 3 ∷ 0 ∷ []) $ use3 𝓛 (later (‵ (fbor κ (In δ)) ⊛ ‵ (flft κ q))) (bor-within 𝓛 κ α q (In δ)) $ await ! tt $ split ! $ move ! (3 ∷ 0 ∷ []) $ feq_i ! (List Val) val val refl $ fjoin3 ! $ now ! $ show ! Lent δ $ keep ! (0 ∷ 1 ∷ 2 ∷ []) $ done !))))

  -- the writer's right, apart and together
  module _ (b o : ℕ) where
    abbrev pub Out : Names → GName → Fml
    Out t δ = out t.2

    abbrev pub Writes : ℕ → ℕ → Names → R.Denot → Fml
    Writes i j t w = fsep (right_to R i j t 2 (Some w)) (lies R Q i j t None)

    abbrev Writing : Names → R.Denot → GName → SProp 𝓤
    Writing = Parts R b o (place R b o) Writes Out

    pub takes_writer : (t : Names) (w : R.Denot) → ent 𝓤 ⟦ Writes b o t w ⟧ (ex 𝓤 (Writing t w))
    takes_writer t w = qed 𝓛 (‵ (Writes b o t w) ∷ []) ∵ fsplit ! $ fsplit ! $ move ! (1 ∷ []) $ fpick ! (λ δ. fsplit ! $ show ! (Writing t w) δ $ keep ! (0 ∷ 1 ∷ 2 ∷ []) $ done !)

    pub gives_writer : (t : Names) (w : R.Denot) (δ : GName) → ent 𝓤 (Writing t w δ) ⟦ Writes b o t w ⟧
    gives_writer t w δ = qed 𝓛 (‵ (fobs δ (R.coded.code w)) ∷ ‵ (fbor t.0 (Body (mem R) b (place R b o) δ)) ∷ ‵ (out t.2) ∷ []) ∵ fjoin ! $ fpack ! GName (λ η. fsep (fobs η (R.coded.code w)) (fbor t.0 (Body (mem R) b (place R b o) η))) δ $ move ! (1 ∷ 0 ∷ []) $ fjoin ! $
        nothing ! $ move ! (1 ∷ 0 ∷ []) $ fjoin ! $ done !

  -- whoever may write has a value
  pub writer_has : (p : Ptr) (v : Option R.Denot) → ent 𝓤 ⟦ claim_owns cw.code γ R Q c holds β p 2 v None ⟧ (shown 𝓤 (InBlock p × ((x : R.Denot) × (v ≡ Some x))))
  writer_has (block_ptr b o) (Some x) = fact_i 𝓤 (Unit {0} × ((y : R.Denot) × (Some x ≡ Some y))) _ (tt, (x, refl))
  writer_has p None = via 𝓤 _ (no_writer 𝓛 cw γ R Q c holds β 0 p) (never_e 𝓤 _)
  writer_has null_ptr (Some x) = never_e 𝓤 _
