-- The bytes of an `Arc` with a claim, and of the `Arc` in it. Assumes `Logic`.
use Rattle.event_slot.proofs.Names.{◌≡◌, List, [], ◌∷◌, ◌++◌, ◌∙◌, refl, ap, T, Val, vstruct, vcons, vnil, of_list, has_ty, WT, Logic, ‵, ◌$◌, move, drop, fsplit, fjoin, fpick, fpack, feq_l, feq_i, nothing, RattleType, Valss, Is, Ptr, ptr_val}
use seplogic.Ra.Ura.{Ura}
use mir.Syntax.{given as dict_at, ty_ptr}
use base.Fml.{ftrue}
use types.Kit.{Item, Goal, Seq, Step, step}
use denote.Param.{layout}
use denote.Param.Laws.{Laws}
use denote.RawPtr.{RawPtr}
use denote.Struct.Struct.{Struct, within, as_fields}
use Rattle.std.proofs.alloc.Calls.{handle_tells}
use Rattle.std.specs.declared.alloc.Allocator.{Ghosts}
use Rattle.std_alloc.proofs.RcSteps.{Ptr-Good}
use Rattle.std_alloc.specs.contracts.arc.Arc as arc
use Rattle.std_alloc.proofs.arc.Arc.TheLaws as arc-laws
use Rattle.event_slot.specs.contracts.leased.Leased as leased
use Rattle.event_slot.proofs.leased.Leased.TheLaws as leased-laws

abbrev pub Fine : RattleType → Val → Type 0
Fine R v = T (has_ty (layout R) v) × WT v

-- a struct by its fields alone
abbrev pub plainly : List RattleType → RattleType
plainly Rs = Struct (record { name = []; args = []; types = []; fields = Rs })

-- a struct of one field
abbrev pub one : Val → Val
one u = vstruct (vcons u vnil)

-- a pointer, and what is behind it
abbrev pub housing : Ptr → Val → Val
housing p u = vstruct (vcons (ptr_val p) (vcons u vnil))

module _ {M : Type 1} {𝓤 : Ura M} {𝓛 : Logic 𝓤} {K : Type 0} {Γ : List (Item 𝓤)} {G : Goal 𝓤 𝓛.H} where
  -- what is owned is one machine value, of its type
  pub tells : K → (R : RattleType) → Laws R → (x : R.Denot) (vs : List Val) → ((v : Val) → vs ≡ v ∷ [] → Fine R v → Seq K 𝓛 (‵ (R.own_val x (v ∷ [])) ∷ Γ) G) → Seq K 𝓛 (‵ (R.own_val x vs) ∷ Γ) G
  tells t R L = handle_tells (record { row = R; laws = L; g = record { dealloc_token = λ a τ p. ftrue }; d = dict_at 0; drops = dict_at 0 }) t

  pub one_had : K → (R : RattleType) → Laws R → (x : R.Denot) (vs : List Val) → ((u : Val) → vs ≡ one u ∷ [] → Fine R u → Seq K 𝓛 (‵ (R.own_val x (u ∷ [])) ∷ Γ) G) → Seq K 𝓛 (‵ ((plainly (R ∷ [])).own_val (x, tt) vs) ∷ Γ) G
  one_had t R L x vs k = fpick t (λ vss. fsplit t $ feq_l t (λ e. fsplit t $ move t (1 ∷ []) $ drop t $ tells t R L x vss.0 (λ u is good. k u (e ∙ (λ i. vstruct (of_list (is i ++ [])) ∷ [])) good)))

  pub one_made : K → (R : RattleType) (x : R.Denot) (u : Val) → Step K 𝓛 (‵ ((plainly (R ∷ [])).own_val (x, tt) (one u ∷ [])) ∷ Γ) G (‵ (R.own_val x (u ∷ [])) ∷ Γ) G
  one_made t R x u = step (λ s. nothing t $ move t (1 ∷ 0 ∷ []) $ fjoin t $ feq_i t (List Val) (one u ∷ []) (one u ∷ []) refl $ fjoin t $
      fpack t (Valss (R ∷ [])) (within (record { name = []; args = []; types = []; fields = R ∷ [] }) (x, tt) (one u ∷ [])) (u ∷ [], tt) $ s)

  -- a pointer alone
  pub pointer_had : K → (p : Ptr) (vs : List Val) → (vs ≡ one (ptr_val p) ∷ [] → Seq K 𝓛 Γ G) → Seq K 𝓛 (‵ ((plainly (RawPtr ∷ [])).own_val (p, tt) vs) ∷ Γ) G
  pointer_had t p vs k = fpick t (λ vss. fsplit t $ feq_l t (λ e. fsplit t $ feq_l t (λ ep. drop t $ k (e ∙ (λ i. vstruct (of_list (ep i ++ [])) ∷ [])))))

  pub pointer_made : K → (p : Ptr) → Step K 𝓛 (‵ ((plainly (RawPtr ∷ [])).own_val (p, tt) (one (ptr_val p) ∷ [])) ∷ Γ) G Γ G
  pointer_made t p = step (λ s. nothing t $ feq_i t (List Val) (ptr_val p ∷ []) (ptr_val p ∷ []) refl $ fjoin t $ feq_i t (List Val) (one (ptr_val p) ∷ []) (one (ptr_val p) ∷ []) refl $ fjoin t $
      fpack t (Valss (RawPtr ∷ [])) (within (record { name = []; args = []; types = []; fields = RawPtr ∷ [] }) (p, tt) (one (ptr_val p) ∷ [])) (ptr_val p ∷ [], tt) $ s)

  pub housed_had : K → (R : RattleType) → Laws R → (p : Ptr) (x : R.Denot) (vs : List Val) → ((u : Val) → vs ≡ housing p u ∷ [] → Fine R u → Seq K 𝓛 (‵ (R.own_val x (u ∷ [])) ∷ Γ) G)
      → Seq K 𝓛 (‵ ((plainly (RawPtr ∷ R ∷ [])).own_val (p, (x, tt)) vs) ∷ Γ) G
  housed_had t R L p x vs k = fpick t (λ vss. fsplit t $ feq_l t (λ e. fsplit t $ feq_l t (λ ep. fsplit t $ move t (1 ∷ []) $ drop t $ tells t R L x vss.1.0 (λ u is good. k u (e ∙ (λ i. vstruct (of_list (ep i ++ (is i ++ []))) ∷ [])) good))))

  pub housed_made : K → (R : RattleType) (p : Ptr) (x : R.Denot) (u : Val) → Step K 𝓛 (‵ ((plainly (RawPtr ∷ R ∷ [])).own_val (p, (x, tt)) (housing p u ∷ [])) ∷ Γ) G (‵ (R.own_val x (u ∷ [])) ∷ Γ) G
  housed_made t R p x u = step (λ s. nothing t $ move t (1 ∷ 0 ∷ []) $ fjoin t $ feq_i t (List Val) (ptr_val p ∷ []) (ptr_val p ∷ []) refl $ fjoin t $ feq_i t (List Val) (housing p u ∷ []) (housing p u ∷ []) refl $ fjoin t $
      fpack t (Valss (RawPtr ∷ R ∷ [])) (within (record { name = []; args = []; types = []; fields = RawPtr ∷ R ∷ [] }) (p, (x, tt)) (housing p u ∷ [])) (ptr_val p ∷ [], (u ∷ [], tt)) $ s)

-- the bytes of a pointer, and of what is behind it
abbrev pub beside : Ptr → List Val → Val
beside p ws = vstruct (vcons (ptr_val p) (of_list (ws ++ [])))

pub housing_told : (R : RattleType) (p : Ptr) (x : R.Denot) (vs : List Val) → Is (plainly (RawPtr ∷ R ∷ [])) (p, (x, tt)) vs → (ws : List Val) × (vs ≡ beside p ws ∷ [])
housing_told R p x vs is = (is.0.1.0, is.1.0 ∙ ap (λ (us : List Val). vstruct (of_list (us ++ (is.0.1.0 ++ []))) ∷ []) is.1.1.0)

module _ (R A : RattleType) (f : Ghosts A.Denot) where
  -- the `Arc`, and the same without its token
  abbrev pub Shared : RattleType
  Shared = arc.the_row R A f

  abbrev pub Out : RattleType
  Out = leased.the_row R A f

  pub pointer_fine : (p : Ptr) → Fine Shared (one (ptr_val p))
  pointer_fine p = as_fields (ty_ptr ∷ []) (ptr_val p ∷ []) (Ptr-Good p, tt)

  pub out_fine : (u : Val) → Fine Shared u → Fine Out (one u)
  out_fine u good = as_fields (layout Shared ∷ []) (u ∷ []) (good, tt)

  pub housing_fine : (p : Ptr) (u : Val) → Fine Out u → Fine (plainly (RawPtr ∷ Out ∷ [])) (housing p u)
  housing_fine p u good = as_fields (ty_ptr ∷ layout Out ∷ []) (ptr_val p ∷ u ∷ []) (Ptr-Good p, (good, tt))

  module _ (L : Laws R) (K : Laws A) where
    abbrev pub shared_laws : Laws Shared
    shared_laws = arc-laws.the_row_laws R A f L K

    abbrev pub out_laws : Laws Out
    out_laws = leased-laws.the_row_laws R A f L K
