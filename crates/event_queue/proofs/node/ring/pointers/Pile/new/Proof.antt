-- `new` makes a pile of no node: nothing lies behind its null pointer.
use Rattle.std.proofs.Common.{◌≡◌, List, [], ◌∷◌, ◌++◌, refl, lit<}
use mir.Syntax.{a_type}
use mir.Val.{Val}
use mir.MapTy.{inst_fn}
use base.Logic.{SProp, emp}
use base.Fml.{ftrue, flft}
use prog.Wp.{WpFn}
use contract.BorrowLft.{◌⊑◌}
use contract.Monad.{fact, fact_i}
use contract.Running.{tables}
use types.Kit.{‵, raw, ◌⊛◌, prop, ◌$◌, ◌∵◌, !, qed, by, keep, split, regoal, fjoin, feq_i, use0}
use types.Part.{agg}
use types.Run.{lit, and_then, no_more, returns, enter}
use types.ByLocal.{alloc_all, pass_all, free_all, look_at, get, sets}
use denote.Exit.{yes}
use denote.RattleType.{RattleType, owns}
use denote.Signature.{types_at, plain}
use denote.RawPtr.{Ptr, null_ptr}
use denote.Steps.{nothing}
use denote.Param.{param, layouts}
use denote.Triple.Walked.{Stays, stay_dropped, walk_of, Goes-dropped}
use Rattle.std.proofs.raw_atomic.Walks.{proved_at, leaves}
use Rattle.std.specs.contracts.alloc.Global as Heap
use Rattle.std.proofs.alloc.Global.TheLaws as Heap'
use Rattle.event_queue.specs.contracts.node.ring.pointers.Pile as pile
use Rattle.event_queue.proofs.Ring.Walks.{heap_val, heap_Good, ring_val, Fields, handle, fields_made}
use Rattle.event_queue.specs.contracts.node.ring.pointers.Pile.new.{ended, clauses}
use Rattle.event_queue.specs.contracts.node.ring.pointers.Pile.new.Key.{name as #self}
use Rattle.event_queue.proofs.node.ring.pointers.Pile.new.Statement.{statement}
use Rattle.event_queue.proofs.node.ring.pointers.Pile.new.Code as code

pub new_spec : {M : Type 1} → statement M
new_spec 𝓤 𝓛 𝓜 𝓡 wired X L =
    let H = 𝓛.H in let 𝓣 = tables 𝓤 H 𝓜 𝓡 𝓡.env in let R : RattleType = param 0 X in let En = ended X in let inst = layouts (a_type ∷ []) (X, tt) in let fn = inst_fn inst code.function in
    let Row : RattleType = pile.the_row R in let D : RattleType = Fields R in let c = clauses X 𝓛 𝓜.mem 𝓡.returns in
    let hs : Stays En.signature.params En.kept = (stay_dropped (plain (λ _. Heap.the_row)) yes, tt) in
    proved_at 𝓛 En hs c 𝓜 𝓡 (Goes-dropped 𝓛 1 (plain (λ _. Heap.the_row)) yes (λ κs x f. refl), tt) (#self inst) fn (code.unfolded 𝓤 H 𝓜 𝓡 wired (X, tt)) (λ z are.
    let κs = z.0.0 in let qs = z.0.1 in let alloc = z.0.3.0 in let out : Row.Denot = record { top = null_ptr; alloc = alloc; nodes = [] } in
    let Post : Val → SProp 𝓤 = (walk_of 𝓛 En hs c).post z in let Run : List Val → SProp 𝓤 = λ us. WpFn 𝓤 H 𝓣.C 𝓣.Λ fn us Post in
    qed 𝓛 (((‵ (flft κs.0 qs.0) ⊛ ‵ ftrue) ⊛ ‵ (owns (types_at En.signature.params κs) z.0.3 z.0.4)) ∷ raw (fact 𝓤 (κs.0 ⊑ X.lives)) ∷ ‵ ftrue ∷ []) ∵ keep ! (0 ∷ []) $ split ! $ keep ! (0 ∷ []) $
    regoal ! (λ (us : List Val). prop (Run us)) (λ i. Heap'.the_field_laws.tells handle z.0.4.0 are.0 i ++ []) refl $
    -- [the tokens]
    enter ! 𝓣.C 𝓣.Λ fn (heap_val ∷ []) Post $ alloc_all ! (λ l. pass_all ! refl (heap_Good, tt) $
    sets ! (agg ! (and_then ! (lit ! tt) (and_then ! (get ! refl) (no_more !)))) refl (tt, (record { fits = lit< tt }, (heap_Good.1, tt))) $
    returns ! (look_at ! 0 refl) $ free_all ! refl $
    nothing ! $ feq_i ! Ptr null_ptr null_ptr refl $ fjoin ! $ use0 𝓛 (‵ (D.own_val (null_ptr, (handle, tt)) (ring_val null_ptr ∷ []))) (fields_made R 𝓛 null_ptr) $ fjoin ! $
    use0 𝓛 (raw (fact 𝓤 (out.nodes ≡ []))) (fact_i 𝓤 (out.nodes ≡ []) (emp 𝓤) refl) $ nothing ! $ nothing ! $ fjoin ! $
    keep ! (3 ∷ 0 ∷ 2 ∷ 1 ∷ []) $ by ! (leaves 𝓛 En hs c z (ring_val null_ptr) out (tt, tt) (tt, tt))))
