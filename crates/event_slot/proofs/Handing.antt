-- A `&mut` to the value or to the state leaves through a `&mut` to what holds it, which follows it. Assumes `Logic`.
use Rattle.event_slot.proofs.Names.{◌≡◌, ℕ, List, [], ◌∷◌, sym, refl, Ura, Val, vptr, full_share, Coded, SProp, ent, sep, ex, Lft, GName, Share, Incl, Fml, fsep, fobs, fbor, flft, finv, before, Logic, sem, ‵, ◌⊛◌, some, later, ◌$◌, ◌∵◌, !, qed, by, move, split, split3, fsplit, fjoin, fjoin3, fpick, fpack, pick, show, use1, use3, updating, await, now, rewrite, feq_i, done, out, Body, RattleType, Ptr, block_ptr, part_at, mem, nothing, fsplit3}
use mir.Syntax.{Lifetime}
use denote.Ref.{MutBor, MutRef}
use denote.Follow.{follows}
use Rattle.core.proofs.cell.Through.{hands_before}
use Rattle.counted_slot.specs.Counting.{fact}
use Rattle.event_slot.specs.Holding.{Names, place, behind, writer, right_to, lies, kept, Inv, held}
use Rattle.event_slot.proofs.Names.{Option, Some, ftrue, drop}

module _ {M : Type 1} {𝓤 : Ura M} (𝓛 : Logic 𝓤) {W : Type 0} (cw : Coded W) (γ : ℕ) (R Q : RattleType) (c : ℕ → ℕ) (holds : ℕ → Option Q.Denot → List W → Type 0) (β : Lft) where
  open 𝓛 use {H, A}

  abbrev ⟦◌⟧ : Fml → SProp 𝓤
  ⟦ P ⟧ = sem 𝓛 P

  -- T is what is lent, which lies at `here` in the block; P is what is held of it, and is its borrow, a name that says what it is, and `Own`
  module _ (T : RattleType) (b o here : ℕ) (P : ℕ → ℕ → Names → T.Denot → Fml) (Own : Names → GName → Fml) where
    abbrev In : GName → Fml
    In δ = Body (mem T) b here δ

    abbrev Parts : Names → T.Denot → GName → SProp 𝓤
    Parts t w δ = sep 𝓤 (A.obs δ (T.coded.code w)) (sep 𝓤 (A.bor t.0 (In δ)) ⟦ Own t δ ⟧)

    module _ (takes : (t : Names) (w : T.Denot) → ent 𝓤 ⟦ P b o t w ⟧ (ex 𝓤 (Parts t w))) (gives : (t : Names) (w : T.Denot) (δ : GName) → ent 𝓤 (Parts t w δ) ⟦ P b o t w ⟧) (p : Ptr) (at : p ≡ block_ptr b o) (v : T.Denot) where
      abbrev Holds : Ptr → T.Denot → Fml
      Holds r w = held cw.code γ R Q c holds β r (λ i j t. P i j t w)

      -- G is what holds it: some bytes and that, at the value w after `F w`
      module _ (G : RattleType) (F : T.Denot → G.Denot) (inj : (u w : T.Denot) → F u ≡ F w → u ≡ w) (ℓ : Lifetime) (κ : Lft) (inc : Incl κ β) (q : Share) (x : MutBor G.Denot) (Bytes : Fml)
          (parts : ent 𝓤 ⟦ part_at G full_share x.now x.ref_ptr.0 x.ref_ptr.1 ⟧ (sep 𝓤 ⟦ Bytes ⟧ ⟦ Holds p v ⟧))
          (whole : (w : T.Denot) → ent 𝓤 (sep 𝓤 ⟦ Bytes ⟧ ⟦ Holds p w ⟧) ⟦ part_at G full_share (F w) x.ref_ptr.0 x.ref_ptr.1 ⟧) where
        abbrev Kept : Names → Fml
        Kept t = finv (fbor t.0 (Inv cw.code γ R Q c holds b o t))

        abbrev Rest : Names × GName → SProp 𝓤
        Rest i = sep 𝓤 ⟦ Bytes ⟧ (sep 𝓤 ⟦ Kept i.0 ⟧ ⟦ Own i.0 i.1 ⟧)

        abbrev Cut : T.Denot → Names × GName → SProp 𝓤
        Cut w i = sep 𝓤 ⟦ before β i.0.0 ⟧ (sep 𝓤 (A.obs i.1 (T.coded.code w)) (sep 𝓤 (A.bor i.0.0 (In i.1)) (Rest i)))

        back : (i : Names × GName) (w : T.Denot) → ent 𝓤 (Cut w i) ⟦ part_at G full_share (F w) x.ref_ptr.0 x.ref_ptr.1 ⟧
        back i w = qed 𝓛 (‵ (before β i.0.0) ∷ ‵ (fobs i.1 (T.coded.code w)) ∷ ‵ (fbor i.0.0 (In i.1)) ∷ ‵ Bytes ∷ ‵ (Kept i.0) ∷ ‵ (Own i.0 i.1) ∷ []) ∵
            move ! (1 ∷ 2 ∷ 5 ∷ []) $ use3 𝓛 (‵ (P b o i.0 w)) (gives i.0 w i.1) $ move ! (1 ∷ 3 ∷ []) $ fjoin ! $ move ! (0 ∷ 1 ∷ []) $ fjoin ! $
            fpack ! Names (λ t. fsep (kept cw.code γ R Q c holds b o t β) (P b o t w)) i.0 $ rewrite ! 0 (λ (r : Ptr). ‵ (Holds r w)) (sym at) refl $ move ! (1 ∷ 0 ∷ []) $ by ! (whole w)

        cut : ent 𝓤 ⟦ part_at G full_share x.now x.ref_ptr.0 x.ref_ptr.1 ⟧ (ex 𝓤 (Cut v))
        cut = qed 𝓛 (‵ (part_at G full_share x.now x.ref_ptr.0 x.ref_ptr.1) ∷ []) ∵ use1 𝓛 (‵ Bytes ⊛ ‵ (Holds p v)) parts $ split ! $ move ! (1 ∷ []) $ rewrite ! 0 (λ (r : Ptr). ‵ (Holds r v)) at refl $
            fpick ! (λ t. fsplit ! $ fsplit ! $ move ! (2 ∷ []) $ use1 𝓛 (some (λ (δ : GName). ‵ (fobs δ (T.coded.code v)) ⊛ ‵ (fbor t.0 (In δ)) ⊛ ‵ (Own t δ))) (takes t v) $ pick ! (λ δ. split3 ! $ show ! (Cut v) (t, δ) $ move ! (3 ∷ 0 ∷ 1 ∷ 5 ∷ 4 ∷ 2 ∷ []) $ done !))

        abbrev Lent : GName → SProp 𝓤
        Lent δ = sep 𝓤 ⟦ (MutRef ℓ κ T).own_val (record { ref_ptr = (b, here); ghost_name = δ; now = v }) (vptr b here ∷ []) ⟧ (sep 𝓤 (A.lft κ q) ⟦ follows G T x.ghost_name δ F ⟧)

        pub hands : ent 𝓤 (sep 𝓤 (A.obs x.ghost_name (G.coded.code x.now)) (sep 𝓤 (A.bor κ (Body (mem G) x.ref_ptr.0 x.ref_ptr.1 x.ghost_name)) (A.lft κ q))) (H.⇛ (ex 𝓤 Lent))
        hands = let val : List Val = vptr b here ∷ [] in qed 𝓛 (‵ (fobs x.ghost_name (G.coded.code x.now)) ∷ ‵ (fbor κ (Body (mem G) x.ref_ptr.0 x.ref_ptr.1 x.ghost_name)) ∷ ‵ (flft κ q) ∷ []) ∵ updating ! $
            use3 𝓛 (later (some (λ (δ : GName). ‵ (fobs δ (T.coded.code v)) ⊛ ‵ (fbor κ (In δ)) ⊛ ‵ (flft κ q) ⊛ ‵ (follows G T x.ghost_name δ F))))
            (hands_before 𝓛 (mem G) (mem T) F inj x.ref_ptr.0 x.ref_ptr.1 b here x.ghost_name κ β inc (Names × GName) (λ i. i.0.0) (λ i. i.1) Rest back q x.now v cut) $
            await ! tt $ pick ! (λ δ. split3 ! $ feq_i ! (List Val) val val refl $ fjoin3 ! $ now ! $ show ! Lent δ $ done !)

  -- the writer's right, apart and together
  module _ (b o : ℕ) where
    abbrev pub Out : Names → GName → Fml
    Out t δ = out t.2

    abbrev Writing : Names → R.Denot → GName → SProp 𝓤
    Writing = Parts R b o (place R b o) (λ i j t w. writer R i j t w) Out

    pub writer_takes : (t : Names) (w : R.Denot) → ent 𝓤 ⟦ writer R b o t w ⟧ (ex 𝓤 (Writing t w))
    writer_takes t w = qed 𝓛 (‵ (writer R b o t w) ∷ []) ∵ fsplit ! $ move ! (1 ∷ []) $ fpick ! (λ δ. fsplit ! $ show ! (Writing t w) δ $ done !)

    pub writer_gives : (t : Names) (w : R.Denot) (δ : GName) → ent 𝓤 (Writing t w δ) ⟦ writer R b o t w ⟧
    writer_gives t w δ = qed 𝓛 (‵ (fobs δ (R.coded.code w)) ∷ ‵ (fbor t.0 (Body (mem R) b (place R b o) δ)) ∷ ‵ (out t.2) ∷ []) ∵ fjoin ! $ fpack ! GName (λ η. fsep (fobs η (R.coded.code w)) (fbor t.0 (Body (mem R) b (place R b o) η))) δ $ move ! (1 ∷ 0 ∷ []) $ fjoin ! $ done !

    -- the state, beside a right
    module _ (right : ℕ) (value : Option R.Denot) where
      abbrev pub Beside : Names → GName → Fml
      Beside t δ = fsep (fact (δ ≡ t.3)) (right_to R b o t right value)

      abbrev pub With : ℕ → ℕ → Names → Q.Denot → Fml
      With i j t s = fsep (right_to R i j t right value) (lies R Q i j t (Some s))

      abbrev Claimed : Names → Q.Denot → GName → SProp 𝓤
      Claimed = Parts Q b o (behind R Q b o) With Beside

      pub state_takes : (t : Names) (s : Q.Denot) → ent 𝓤 ⟦ With b o t s ⟧ (ex 𝓤 (Claimed t s))
      state_takes t s = qed 𝓛 (‵ (With b o t s) ∷ []) ∵ fsplit3 ! $ nothing ! $ fpack ! (t.3 ≡ t.3) (λ _. ftrue) refl $ move ! (0 ∷ 1 ∷ []) $ fjoin ! $ show ! (Claimed t s) t.3 $ move ! (1 ∷ 2 ∷ 0 ∷ []) $ done !

      pub state_gives : (t : Names) (s : Q.Denot) (δ : GName) → ent 𝓤 (Claimed t s δ) ⟦ With b o t s ⟧
      state_gives t s δ = qed 𝓛 (‵ (fobs δ (Q.coded.code s)) ∷ ‵ (fbor t.0 (Body (mem Q) b (behind R Q b o) δ)) ∷ ‵ (Beside t δ) ∷ []) ∵ move ! (2 ∷ []) $ fsplit ! $ fpick ! (λ e. drop ! $ rewrite ! 1 (λ (η : GName). ‵ (fobs η (Q.coded.code s))) e refl $
          rewrite ! 2 (λ (η : GName). ‵ (fbor t.0 (Body (mem Q) b (behind R Q b o) η))) e refl $ fjoin3 ! $ done !)
