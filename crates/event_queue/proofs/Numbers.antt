-- A call that takes a `&` and makes the empty struct `Number`, whatever lies behind the `&`. Assumes `Logic`.
use Rattle.std.proofs.Common.{List, [], ◌∷◌, ◌++◌, refl}
use seplogic.Ra.Ura.{Ura}
use mir.Syntax.{Callee, Fn, Ty, Local, local, value_local, named, place, assign, aggregate, seq, return}
use mir.Val.{Val, vptr, vstruct, vnil}
use base.Logic.{SProp, ent, emp}
use prog.Model.{Model}
use prog.Wp.{Closed}
use contract.Lifetimes.{Lfts}
use contract.Running.{Running, MachineTables, tables}
use types.Logic.{Logic}
use types.Kit.{‵, raw, ◌⊛◌, ◌$◌, ◌∵◌, !, qed, by, keep, split, fjoin, fpack, feq_i, use0}
use types.Part.{agg}
use types.Run.{enter, returns, no_more}
use types.ByLocal.{alloc_all, pass_all, free_all, look_at, sets}
use denote.Exit.{yes}
use denote.RattleType.{RattleType, Valss, owns}
use denote.Ref.{shr_vals, shr_Tells}
use denote.Signature.{Slot, types_at, plain, shr_ref_to}
use denote.Steps.{nothing}
use denote.Struct.Struct.{within}
use denote.Triple.Clauses.{Clauses, Ended, closing}
use denote.Triple.Entry.{Args, alive}
use denote.Triple.Spec.{Meets}
use denote.Triple.Walked.{Stays, stay_dropped, walk_of, Goes-dropped}
use Rattle.std.proofs.raw_atomic.Walks.{proved, leaves}
use Rattle.event_queue.specs.contracts.node.number.Number as Number

abbrev empty : Val
empty = vstruct vnil

abbrev locals_of : List Ty → List Local
locals_of [] = []
locals_of (t ∷ ts) = local t value_local ∷ locals_of ts

module _ (X : RattleType) where
  abbrev behind : Slot 1
  behind = shr_ref_to (0 ∷ []) tt (plain (λ _. X))

  -- what such a call takes and gives: a `&X`, and the struct
  abbrev pub T : Ended
  T = record { signature = record { lifetimes = 1; outlives = []; params = behind ∷ []; result = plain (λ _. Number.the_row) }; kept = (yes, tt) }

  -- its code, as the compiler makes it: the result is set to the struct of no field
  abbrev code : Fn
  code = record {
    lifetimes = 1;
    outlives = [];
    ty_params = [];
    givens = 0;
    params = 1;
    locals = locals_of ((Number.the_row).mir ++ (behind.row ([], tt)).mir);
    body = seq (assign (place 0 []) (aggregate [])) return;
  }

  abbrev stayed : Stays T.signature.params T.kept
  stayed = (stay_dropped behind yes, tt)

  module _ {M : Type 1} {𝓤 : Ura M} (𝓛 : Logic 𝓤) (𝓜 : Model 𝓤 𝓛.H) (𝓡 : Running 𝓤 𝓛.H 𝓜) (c : Clauses 𝓤 T) where
    abbrev 𝓣 : MachineTables 𝓤 𝓛.H 𝓜
    𝓣 = tables 𝓤 𝓛.H 𝓜 𝓡 𝓡.env

    -- it keeps its contract, if the `ensures` holds of the number that is made of what lies behind the `&`
    pub makes : (made : X.Denot → (Number.the_row).Denot)
        → ((κs : Lfts 1) (a : Args T.signature κs) (g : (c κs a).ghost) → ent 𝓤 (emp 𝓤) ((c κs a).ensures g (made a.0.now) a))
        → (k : Callee) → Closed 𝓤 𝓛.H 𝓣.C 𝓣.Λ k code → Meets 𝓛 T.signature (𝓣.C k) (closing 𝓛 T c)
    makes made told k closed =
        proved 𝓛 T stayed c 𝓜 𝓡 (Goes-dropped 𝓛 1 behind yes (λ κs x f. refl), tt) k code closed
        (λ κs. (shr_vals, tt)) (λ κs. (shr_Tells (named 0) κs.0 X, tt)) (λ κs qs bounds a g are.
        let p : Val = vptr a.0.ref_ptr.0 a.0.ref_ptr.1 in
        let y : (walk_of 𝓛 T stayed c).Ghost = ((κs, qs, bounds, a, (p ∷ [], tt)), g) in
        let Post : Val → SProp 𝓤 = (walk_of 𝓛 T stayed c).post y in
        qed 𝓛 ((raw (alive 𝓛 T.signature κs qs) ⊛ ‵ (owns (types_at T.signature.params κs) a y.0.4)) ∷ raw ((c κs a).requires g) ∷ []) ∵ split ! $ keep ! (0 ∷ []) $
        enter ! 𝓣.C 𝓣.Λ code (p ∷ []) Post $ alloc_all ! (λ l. pass_all ! refl ((tt, tt), tt) $
        sets ! (agg ! (no_more !)) refl (tt, tt) $
        nothing ! $ nothing ! $ feq_i ! (List Val) (empty ∷ []) (empty ∷ []) refl $ fjoin ! $
        fpack ! (Valss []) (within (record { name = []; args = []; types = []; fields = [] }) tt (empty ∷ [])) tt $ fjoin ! $
        use0 𝓛 (raw ((c κs a).ensures g (made a.0.now) a)) (told κs a g) $ nothing ! $ nothing ! $ fjoin ! $
        returns ! (look_at ! 0 refl) $ free_all ! refl $
        keep ! (3 ∷ 0 ∷ 2 ∷ 1 ∷ []) $ by ! (leaves 𝓛 T stayed c y empty (made a.0.now) (tt, tt) (tt, tt))))
