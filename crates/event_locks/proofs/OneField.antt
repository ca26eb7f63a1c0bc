-- A struct of one field, of which a view shows a part, is in memory that field, and a `&mut` to the struct gives a `&mut` to the field.
-- `Alone m I` says that the plain struct I lies as its one field m does: `to` and `make` take a value of I to the field's value and back.
-- At a declared struct with no ghost fields `bare` and `laid` are `id⊢`, where `part_of` is unfolded.
-- `out` takes the field out of the struct in memory, and `again` puts it back at any value. `shown h` is what the struct shows where the field is h.
-- `lends` turns a `&mut` to the struct into one to the field, under a new name, which the struct's name follows by `shown`.
-- The lemmas assume `Logic`.
use mathlib.Core.Path.{◌≡◌, refl, ap, ◌∙◌}
use mathlib.Core.List.{[], ◌∷◌}
use Prim.Native.Nat.{ℕ}
use seplogic.Ra.Ura.{Ura}
use mir.Syntax.{Lifetime}
use mir.Val.{vptr}
use base.Fraction.{full_share}
use base.Stored.{Coded}
use base.Logic.{SProp, ent, sep, wand, ex, all_e, apply∗}
use base.Fml.{Lft, GName, Share, Fml, flft, fobs, fbor}
use types.Logic.{Logic, sem}
use types.SemTy.{Body}
use types.Mut.{open_ref}
use types.Kit.{‵, raw, ◌⊛◌, some, later, ◌$◌, ◌∵◌, !, qed, by, move, split, group, pick, show, frame, each, assume, use1, use2, await, updating, now, done}
use denote.RattleType.{RattleType}
use denote.Laws.{Lawful}
use denote.Memory.{part_at, mem}
use denote.Ref.{MutRef}
use denote.Model.{View}
use denote.Model.Fields.{OwnsFields, view_owns, view_made, plain_out, Plain-in}
use denote.Follow.{follows, lends_Part}
use denote.Struct.Struct.{Struct}
use denote.Struct.Members.{Member, row_of}
use denote.Struct.Parts.{shape_of}
use denote.Struct.CellSteps.{BackTo, only_out}

abbrev pub Data : Member → RattleType
Data m = Struct (shape_of [] (m ∷ []))

pub record Alone (m : Member) (I : RattleType) (to : I.Denot → m.row.Denot) (make : m.row.Denot → I.Denot) : Type 2 where
  pub eta : (d : I.Denot) → make (to d) ≡ d
  pub bare : {M : Type 1} {𝓤 : Ura M} (𝓛 : Logic 𝓤) (d : I.Denot) (b o : ℕ) → ent 𝓤 (sem 𝓛 (part_at I full_share d b o)) (sem 𝓛 (part_at (Data m) full_share (to d, tt) b o))
  pub laid : {M : Type 1} {𝓤 : Ura M} (𝓛 : Logic 𝓤) (h : m.row.Denot) (b o : ℕ) → ent 𝓤 (sem 𝓛 (part_at (Data m) full_share (h, tt) b o)) (sem 𝓛 (part_at I full_share (make h) b o))

module _ (m : Member) (I : RattleType) {to : I.Denot → m.row.Denot} {make : m.row.Denot → I.Denot} (alone : Alone m I to make) (D : Type 0) (c : Coded D) (view : I.Denot → D) (holds : I.Denot → Type 0) (always : (h : m.row.Denot) → holds (make h)) where
  abbrev R : RattleType
  R = row_of m

  abbrev pub G : RattleType
  G = View I D c view holds

  abbrev owns : OwnsFields G I
  owns = view_owns I D c view holds

  abbrev pub shown : R.Denot → D
  shown h = view (make h)

  module _ {M : Type 1} {𝓤 : Ura M} (𝓛 : Logic 𝓤) (L : Lawful 𝓛 R) (b o : ℕ) where
    open 𝓛 use {H, A}

    abbrev At : R.Denot → Fml
    At h = part_at R full_share h b o

    abbrev Bare : R.Denot → Fml
    Bare h = part_at (Data m) full_share (h, tt) b o

    abbrev Laid : D → Fml
    Laid v = part_at G full_share v b o

    abbrev pub Again : SProp 𝓤
    Again = BackTo 𝓛 [] [] [] m (λ h. sem 𝓛 (Laid (shown h))) b o

    abbrev pub Out : D → Type 0
    Out v = (h : R.Denot) × (shown h ≡ v)

    pub out : (v : D) → ent 𝓤 (sem 𝓛 (Laid v)) (ex 𝓤 (λ (h : Out v). sep 𝓤 (sem 𝓛 (At h.0)) Again))
    out v = let Back : SProp 𝓤 = BackTo 𝓛 [] [] [] m (λ h. sem 𝓛 (Bare h)) b o in
        qed 𝓛 (‵ (Laid v) ∷ []) ∵ use1 𝓛 (some (λ (a : (d : I.Denot) × owns.Known v d). ‵ (part_at I full_share a.0 b o))) (plain_out G I owns 𝓛 full_share v b o) $ pick ! (λ a.
        use1 𝓛 (‵ (Bare (to a.0))) (alone.bare 𝓛 a.0 b o) $ use1 𝓛 (‵ (At (to a.0)) ⊛ raw Back) (only_out 𝓛 [] [] [] m L b o (to a.0)) $ split ! $
        show ! (λ (h : Out v). sep 𝓤 (sem 𝓛 (At h.0)) Again) (to a.0, ap view (alone.eta a.0) ∙ a.1.0) $ frame ! $
        each ! (λ (y : R.Denot). wand 𝓤 (sem 𝓛 (At y)) (sem 𝓛 (Laid (shown y)))) (λ y. assume ! (‵ (At y)) $ move ! (1 ∷ []) $
        use1 𝓛 (raw (wand 𝓤 (sem 𝓛 (At y)) (sem 𝓛 (Bare y)))) (all_e 𝓤 (λ (z : R.Denot). wand 𝓤 (sem 𝓛 (At z)) (sem 𝓛 (Bare z))) y) $ move ! (1 ∷ 0 ∷ []) $
        use2 𝓛 (‵ (Bare y)) (apply∗ 𝓤 (sem 𝓛 (At y)) (sem 𝓛 (Bare y))) $ use1 𝓛 (‵ (part_at I full_share (make y) b o)) (alone.laid 𝓛 y b o) $
        by ! (Plain-in G I owns 𝓛 full_share (shown y) (make y) (view_made I D c view holds 𝓛 (shown y) (make y) (refl, always y)) b o)))

    pub again : (h : R.Denot) → ent 𝓤 (sep 𝓤 (sem 𝓛 (At h)) Again) (sem 𝓛 (Laid (shown h)))
    again h = qed 𝓛 (‵ (At h) ∷ raw Again ∷ []) ∵ move ! (1 ∷ []) $
        use1 𝓛 (raw (wand 𝓤 (sem 𝓛 (At h)) (sem 𝓛 (Laid (shown h))))) (all_e 𝓤 (λ (z : R.Denot). wand 𝓤 (sem 𝓛 (At z)) (sem 𝓛 (Laid (shown z)))) h) $ move ! (1 ∷ 0 ∷ []) $ by ! (apply∗ 𝓤 (sem 𝓛 (At h)) (sem 𝓛 (Laid (shown h))))

    module _ (ℓ : Lifetime) (κ : Lft) (q : Share) (γ : GName) where
      abbrev pub Lent : R.Denot → GName → SProp 𝓤
      Lent h δ = sep 𝓤 (sem 𝓛 ((MutRef ℓ κ R).own_val (record { ref_ptr = (b, o); ghost_name = δ; now = h }) (vptr b o ∷ []))) (sep 𝓤 (A.lft κ q) (sem 𝓛 (follows G R γ δ shown)))

      pub lends : (v : D) → ent 𝓤 (sep 𝓤 (A.obs γ (c.code v)) (sep 𝓤 (sem 𝓛 (fbor κ (Body (mem G) b o γ))) (A.lft κ q))) (H.⇛ (ex 𝓤 (λ (h : Out v). ex 𝓤 (Lent h.0))))
      lends v = qed 𝓛 (‵ (fobs γ (c.code v)) ∷ ‵ (fbor κ (Body (mem G) b o γ)) ∷ ‵ (flft κ q) ∷ []) ∵ updating ! $ open_ref ! tt (mem G) $
          use1 𝓛 (some (λ (h : Out v). ‵ (At h.0) ⊛ raw Again)) (out v) $ pick ! (λ h. split ! $ move ! (2 ∷ 3 ∷ 4 ∷ 0 ∷ 1 ∷ []) $ group ! 5 $
          use1 𝓛 (later (some (λ (δ : GName). raw (Lent h.0 δ)))) (lends_Part 𝓛 G R shown ℓ κ q b o b o γ Again again (c.code v) (c.code v) h.0) $ await ! tt $ pick ! (λ δ.
          now ! $ show ! (λ (k : Out v). ex 𝓤 (Lent k.0)) h $ show ! (Lent h.0) δ $ done !))
