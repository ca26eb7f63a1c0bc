-- `take` takes the first node off the chain, and closes it to a ring of one.
use Rattle.std.proofs.Common.{◌≡◌, ℕ, ◌+◌, ◌<◌, List, [], ◌∷◌, ◌++◌, length, arith, refl, sym, ap, ◌∙◌}
use mir.Syntax.{a_type, ty_ptr}
use mir.Val.{Val, vptr}
use mir.MapTy.{inst_fn}
use base.Fraction.{full_share}
use base.Logic.{SProp, never, fst∗}
use base.Fml.{Lft, Fml, ftrue, fsep, fat, flft}
use prog.Wp.{WpFn}
use types.Kit.{‵, raw, drop, ◌⊛◌, prop, at_ret, ◌$◌, ◌∵◌, !, qed, by, move, keep, split, join, regoal, rewrite, fsplit, fsplit3, fjoin, fjoin3, feq_i, feq_l, use0, use1}
use types.Part.{whole, sub, agg, look_in, store_in}
use types.Run.{look, store, init, stop, fld, load, of_opd, and_then, no_more, assigns, assigns_last, first, blocks, exec, returns, enter}
use types.ByLocal.{alloc_all, pass_all, free_all, look_at, get, through, sets, is, env}
use contract.Running.{tables}
use contract.Monad.{fact}
use denote.RattleType.{RattleType, owns}
use denote.Signature.{types_at, plain}
use denote.Memory.{cell_at}
use denote.RawPtr.{Ptr, RawPtr, null_ptr, ptr_val, in_a_block, block_ptr, lies_at, room_for}
use denote.Laws.{Is, shows}
use denote.Steps.{nothing, heard, opens, closes, peeks}
use denote.Param.{param, layout, layouts}
use denote.Struct.Struct.{Struct}
use denote.Struct.Owning.{shape}
use denote.Triple.Walked.{Stays, stay_ref, walk_of, Goes-ref}
use Rattle.std.proofs.raw_atomic.Walks.{proved_at, leaves}
use Rattle.std.proofs.RcSteps.{Ptr-Good}
use Rattle.std.proofs.VecSteps.Shapes.{after}
use Rattle.event_queue.specs.Ring.{Placed, placed, first_place}
use Rattle.event_queue.specs.RingMemory.{next_of, previous_of, edge, chain_owns}
use Rattle.event_queue.specs.contracts.node.ring.pointers.Ring as ring
use Rattle.event_queue.specs.contracts.node.ring.pointers.Pile as pile
use Rattle.event_queue.proofs.Ring.Places.{apart_one}
use Rattle.event_queue.proofs.Ring.Walks.{heap_Good, link_out, ring_val, Fields, handle, fields_stored, fields_made, edge_in, ensure_two}
use Rattle.event_queue.specs.contracts.node.ring.pointers.Pile.take.{ended, clauses}
use Rattle.event_queue.specs.contracts.node.ring.pointers.Pile.take.Key.{name as #self}
use Rattle.event_queue.proofs.node.ring.pointers.Pile.take.Statement.{statement}
use Rattle.event_queue.proofs.node.ring.pointers.Pile.take.Code as code

first_of : {A : Type 0} (xs : List A) → 0 < length xs → (x : A) × (rest : List A) × (xs ≡ x ∷ rest)
first_of [] some = absurd (omega arith)
first_of (x ∷ xs) some = (x, xs, refl)

pub take_spec : {M : Type 1} → statement M
take_spec 𝓤 𝓛 𝓜 𝓡 wired X L =
    let H = 𝓛.H in let 𝓣 = tables 𝓤 H 𝓜 𝓡 𝓡.env in let R : RattleType = param 0 X in let En = ended X in let inst = layouts (a_type ∷ []) (X, tt) in let fn = inst_fn inst code.function in
    let Row : RattleType = ring.the_row R in let D : RattleType = Fields R in let Pile : RattleType = pile.the_row R in let PD : RattleType = Struct (shape (pile.the_type R)) in let c = clauses X 𝓛 𝓜.mem 𝓡.returns in
    let self = plain (λ _. Pile) in let hs : Stays En.signature.params En.kept = (stay_ref (0 ∷ []) tt self, tt) in
    proved_at 𝓛 En hs c 𝓜 𝓡 (Goes-ref 𝓛 2 0 tt self, tt) (#self inst) fn (code.unfolded 𝓤 H 𝓜 𝓡 wired (X, tt)) (λ z are.
    let κs = z.0.0 in let qs = z.0.1 in let b : ℕ = z.0.3.0.ref_ptr.0 in let o : ℕ = z.0.3.0.ref_ptr.1 in let κ : Lft = κs.0 in let d : Pile.Denot = z.0.3.0.now in
    let others : Fml = fsep (flft κs.1.0 qs.1.0) ftrue in let Post : Val → SProp 𝓤 = (walk_of 𝓛 En hs c).post z in let Run : List Val → SProp 𝓤 = λ us. WpFn 𝓤 H 𝓣.C 𝓣.Λ fn us Post in
    qed 𝓛 (((‵ (flft κ qs.0) ⊛ ‵ others) ⊛ ‵ (owns (types_at En.signature.params κs) z.0.3 z.0.4)) ∷ raw (fact 𝓤 _) ∷ raw (fact 𝓤 (0 < length d.nodes)) ∷ []) ∵
    keep ! (2 ∷ 0 ∷ []) $ heard ! (0 < length d.nodes) (λ asked. split ! $ split ! $ move ! (2 ∷ []) $
    fsplit ! $ fsplit3 ! $ feq_l ! (λ e0. keep ! (0 ∷ 1 ∷ 3 ∷ 4 ∷ []) $ regoal ! (λ (us : List Val). prop (Run us)) (λ i. e0 i ++ []) refl $
    let cut = first_of d.nodes asked in let n : Placed X.Denot = cut.0 in let ns : List (Placed X.Denot) = cut.1 in let next : Ptr = first_place ns null_ptr in
    let new : Pile.Denot = record { top = next; alloc = d.alloc; nodes = ns } in
    let out : Row.Denot = record { at = n.at; alloc = d.alloc; entry = n.entry; nodes = []; apart = apart_one n.at } in
    enter ! 𝓣.C 𝓣.Λ fn (vptr b o ∷ []) Post $ alloc_all ! (λ l. pass_all ! refl ((tt, tt), tt) $ let Ev = env fn.locals l in
    opens ! tt Pile {h = d} b o
    (λ vs. move ! (1 ∷ []) $ fsplit ! $ peeks ! PD (Is PD) (shows 𝓛 PD) (d.top, (handle, tt)) vs (λ so. let ev : vs ≡ ring_val d.top ∷ [] = fields_stored R d.top vs so in
    rewrite ! 2 (λ (ws : List Val). ‵ (cell_at full_share Pile.mir ws b o)) ev refl $
    move ! (2 ∷ []) $ use1 𝓛 (‵ (fat full_share (layout Pile) b o (ring_val d.top))) (𝓛.laws.raw_at full_share (layout Pile) b o (ring_val d.top)) $ move ! (1 ∷ []) $ drop ! $
    move ! (1 ∷ []) $ fsplit ! $ feq_l ! (λ et. rewrite ! 0 (λ (ms : List (Placed X.Denot)). ‵ (chain_owns R d.alloc ms)) cut.2 refl $ fsplit ! $
    in_a_block ! n.at (λ p. fsep (lies_at RawPtr full_share (next_of p) next) (room_for ty_ptr (previous_of p))) (fst∗ 𝓤 (never 𝓤) (never 𝓤)) (λ pb po ep.
    let at_top : d.top ≡ block_ptr pb po = et ∙ ap (λ (ms : List (Placed X.Denot)). first_place ms null_ptr) cut.2 ∙ ep in
    fsplit ! $ link_out ! next pb (po + 0) $ move ! (2 ∷ []) $ fsplit ! $
    -- [the node; the nodes below; its link; room for the link back; the fields' cell; the open borrow, in three entries; the other tokens; the locals]
    sets ! (is ! (of_opd ! (load ! (through ! refl (fld ! refl (stop !))) (look_in ! 4 (sub ! 0 refl (whole !))))) (ap ptr_val at_top)) refl (tt, tt) $ first ! $ blocks ! $
    sets ! (of_opd ! (load ! (through ! refl (fld ! refl (stop !))) (look ! 2 refl))) refl (Ptr-Good next) $
    assigns ! (of_opd ! (get ! refl)) (through ! refl (fld ! refl (stop !))) (store_in ! 4 (sub ! 0 refl (whole !)) (Ptr-Good next)) $
    assigns ! (of_opd ! (get ! refl)) (through ! refl (fld ! refl (stop !))) (store ! 2 refl (tt, tt)) $
    assigns_last ! (of_opd ! (get ! refl)) (through ! refl (fld ! refl (stop !))) (init ! 3 refl (tt, tt)) $
    exec ! 𝓣.C 𝓣.Λ Ev (after 2 fn.body) (at_ret Ev Post) $
    sets ! (of_opd ! (load ! (through ! refl (fld ! refl (stop !))) (look_in ! 4 (sub ! 1 refl (whole !))))) refl heap_Good $
    sets ! (agg ! (and_then ! (get ! refl) (and_then ! (get ! refl) (no_more !)))) refl (tt, (tt, (heap_Good.1, tt))) $
    -- the ring of one, from the node's own links
    move ! (2 ∷ 3 ∷ []) $ edge_in ! pb po pb po $ rewrite ! 0 (λ (p : Ptr). ‵ (edge p p)) (sym ep) refl $ nothing ! $ move ! (1 ∷ 0 ∷ []) $ fjoin ! $
    move ! (1 ∷ []) $ nothing ! $ move ! (1 ∷ 0 ∷ []) $ fjoin ! $ move ! (1 ∷ 0 ∷ []) $ fjoin ! $ use0 𝓛 (‵ (D.own_val (n.at, (handle, tt)) (ring_val n.at ∷ []))) (fields_made R 𝓛 n.at) $ fjoin ! $
    rewrite ! 0 (λ (p : Ptr). ‵ (Row.own_val out (ring_val p ∷ []))) ep refl $
    -- [the ring; the nodes below; the fields' cell; the open borrow, in three entries; the other tokens; the locals]
    move ! (1 ∷ []) $ feq_i ! Ptr next next refl $ fjoin ! $ use0 𝓛 (‵ (PD.own_val (next, (handle, tt)) (ring_val next ∷ []))) (fields_made R 𝓛 next) $ fjoin ! $
    move ! (2 ∷ []) $ use1 𝓛 (‵ (cell_at full_share Pile.mir (ring_val next ∷ []) b o)) (𝓛.laws.at_raw full_share (layout Pile) b o (ring_val next)) $
    move ! (0 ∷ 1 ∷ 3 ∷ 4 ∷ 5 ∷ []) $ closes ! tt Pile new (ring_val next ∷ []) b o $
    feq_i ! (List Val) z.0.4.0 (vptr b o ∷ []) e0 $ fjoin3 ! $ nothing ! $ move ! (1 ∷ 0 ∷ []) $ fjoin ! $ move ! (1 ∷ 3 ∷ []) $ join ! $
    ensure_two ! (out.nodes ≡ []) (d.nodes ≡ placed n.at n.entry ∷ ns) refl cut.2 $
    returns ! (look_at ! 0 refl) $ free_all ! refl $ keep ! (1 ∷ 2 ∷ 3 ∷ 0 ∷ []) $ by ! (leaves 𝓛 En hs c z (ring_val (block_ptr pb po)) out (new, tt) (tt, tt))))))))))
