-- `link_last` cuts the last edge in two, at a node that is apart from the others.
use Rattle.std.proofs.Common.{◌≡◌, ℕ, ◌+◌, List, [], ◌∷◌, ◌++◌, refl, sym, ap, subst, append-nil}
use mir.Syntax.{a_type}
use mir.Val.{Val, vptr}
use mir.MapTy.{inst_fn}
use base.Fraction.{full_share}
use base.Logic.{SProp}
use base.Fml.{Lft, Fml, ftrue, fsep, flft}
use prog.Wp.{WpFn}
use types.Kit.{‵, raw, drop, ◌⊛◌, prop, at_ret, ◌$◌, ◌∵◌, !, qed, by, move, keep, split, join, regoal, rewrite, fsplit, fsplit3, fjoin, fjoin3, feq_i, feq_l, use1, use2}
use types.Part.{whole, sub, agg, look_in}
use types.Run.{look, store, init, stop, hop, fld, load, of_opd, and_then, no_more, assigns, assigns_last, first, blocks, exec, returns, enter}
use types.ByLocal.{alloc_all, pass_all, free_all, look_at, get, get_in, through, sets, is, env}
use contract.Running.{tables}
use contract.Monad.{fact}
use denote.Exit.{no}
use denote.RattleType.{RattleType, owns}
use denote.Signature.{types_at, plain}
use denote.Memory.{cell_at}
use denote.RawPtr.{Ptr, block_ptr, null_ptr, ptr_val, in_a_block}
use denote.Laws.{Is, shows}
use denote.Steps.{nothing, heard, opens, closes, peeks}
use denote.Param.{param, layouts}
use denote.Triple.Walked.{Stays, stay_dropped, stay_ref, walk_of, Goes-ref}
use Rattle.std.proofs.alloc.Calls.{Goes-blank}
use Rattle.std.proofs.raw_atomic.Walks.{proved_at, leaves}
use Rattle.std.proofs.VecSteps.Shapes.{after}
use Rattle.std.proofs.RcSteps.{word, word-Good}
use Rattle.event_queue.specs.Ring.{Placed, placed, places}
use Rattle.event_queue.specs.RingMemory.{edge, path, nodes_own, ring_owns}
use Rattle.event_queue.specs.contracts.node.ring.pointers.Ring as ring
use Rattle.event_queue.proofs.Ring.Places.{IsNew, last_from, round_cut, apart_linked}
use Rattle.event_queue.proofs.Ring.Walks.{ring_Good, learn_fact_of_two, link_to_room, none_of_path, ring_val, Fields, handle, fields_stored, edge_out, edge_in, path_cut, path_glue}
use Rattle.event_queue.proofs.Ring.Walks.{nodes_glue, no_edge_from_null, no_edge_to_null, ensure_three, word_made}
use Rattle.event_queue.specs.contracts.node.ring.pointers.Ring.link_last.{ended, clauses}
use Rattle.event_queue.specs.contracts.node.ring.pointers.Ring.link_last.Key.{name as #self}
use Rattle.event_queue.proofs.node.ring.pointers.Ring.link_last.Statement.{statement}
use Rattle.event_queue.proofs.node.ring.pointers.Ring.link_last.Code as code

pub link_last_spec : {M : Type 1} → statement M
link_last_spec 𝓤 𝓛 𝓜 𝓡 wired X L =
    let H = 𝓛.H in let 𝓣 = tables 𝓤 H 𝓜 𝓡 𝓡.env in let R : RattleType = param 0 X in let En = ended X in let inst = layouts (a_type ∷ []) (X, tt) in let fn = inst_fn inst code.function in
    let Row : RattleType = ring.the_row R in let D : RattleType = Fields R in let c = clauses X 𝓛 𝓜.mem 𝓡.returns in
    let self = plain (λ _. Row) in let hs : Stays En.signature.params En.kept = (stay_ref (0 ∷ []) tt self, (stay_dropped self no, tt)) in
    proved_at 𝓛 En hs c 𝓜 𝓡 (Goes-ref 𝓛 2 0 tt self, (Goes-blank 𝓛 2 self no (λ κs x f. tt), tt)) (#self inst) fn (code.unfolded 𝓤 H 𝓜 𝓡 wired (X, tt)) (λ z are.
    let κs = z.0.0 in let qs = z.0.1 in let b : ℕ = z.0.3.0.ref_ptr.0 in let o : ℕ = z.0.3.0.ref_ptr.1 in let κ : Lft = κs.0 in let d : Row.Denot = z.0.3.0.now in let node : Row.Denot = z.0.3.1.0 in
    let others : Fml = fsep (flft κs.1.0 qs.1.0) ftrue in let Post : Val → SProp 𝓤 = (walk_of 𝓛 En hs c).post z in let Run : List Val → SProp 𝓤 = λ us. WpFn 𝓤 H 𝓣.C 𝓣.Λ fn us Post in
    qed 𝓛 (((‵ (flft κ qs.0) ⊛ ‵ others) ⊛ ‵ (owns (types_at En.signature.params κs) z.0.3 z.0.4)) ∷ raw (fact 𝓤 _) ∷ raw (fact 𝓤 (node.nodes ≡ [])) ∷ []) ∵
    keep ! (2 ∷ 0 ∷ []) $ heard ! (node.nodes ≡ []) (λ asked. split ! $ split ! $ move ! (2 ∷ []) $
    fsplit ! $ fsplit3 ! $ feq_l ! (λ e0. move ! (2 ∷ []) $ fsplit ! $ fsplit ! $ peeks ! D (Is D) (shows 𝓛 D) (node.at, (handle, tt)) z.0.4.1.0 (λ stored. keep ! (1 ∷ 3 ∷ 4 ∷ 5 ∷ 6 ∷ []) $
    regoal ! (λ (us : List Val). prop (Run us)) (λ i. e0 i ++ (fields_stored R node.at z.0.4.1.0 stored i ++ [])) refl $
    let n : Placed X.Denot = placed node.at node.entry in let root : Placed X.Denot = placed d.at d.entry in let before : Ptr = last_from d.at (places d.nodes) in
    enter ! 𝓣.C 𝓣.Λ fn (vptr b o ∷ ring_val node.at ∷ []) Post $ alloc_all ! (λ l. pass_all ! refl ((tt, tt), (ring_Good R node.at, tt)) $ let Ev = env fn.locals l in
    -- the node's links become room
    rewrite ! 0 (λ (ns : List (Placed X.Denot)). ‵ (ring_owns R node.alloc node.at node.entry ns)) asked refl $ fsplit ! $ fsplit ! $ move ! (1 ∷ []) $ drop ! $
    in_a_block ! node.at (λ p. edge p p) (no_edge_from_null 𝓛 null_ptr)
    (λ pb po ep. edge_out ! pb po pb po $ link_to_room ! (block_ptr pb po) pb (po + 0) $ move ! (1 ∷ []) $ link_to_room ! (block_ptr pb po) pb (po + 8) $
    move ! (1 ∷ 0 ∷ []) $ fjoin ! $
    -- [the links' room; the node; the borrow, in two entries; its token; the other tokens; the locals]
    move ! (2 ∷ 3 ∷ 4 ∷ []) $ opens ! tt Row {h = d} b o
    (λ vs. move ! (1 ∷ []) $ fsplit ! $ peeks ! D (Is D) (shows 𝓛 D) (d.at, (handle, tt)) vs (λ so. let ev : vs ≡ ring_val d.at ∷ [] = fields_stored R d.at vs so in
    rewrite ! 2 (λ (ws : List Val). ‵ (cell_at full_share Row.mir ws b o)) ev refl $ move ! (1 ∷ []) $ fsplit ! $ move ! (7 ∷ 0 ∷ []) $
    learn_fact_of_two ! (IsNew (block_ptr pb po) (d.at ∷ places d.nodes)) (none_of_path 𝓛 𝓜 (block_ptr pb po) d.at (places d.nodes) d.at) (λ free.
    let apart = apart_linked d.at d.nodes n (subst (λ p. IsNew p (d.at ∷ places d.nodes)) (sym ep) free) d.apart in
    let new : Row.Denot = record { at = d.at; alloc = d.alloc; entry = d.entry; nodes = d.nodes ++ n ∷ []; apart = apart } in
    fsplit ! $ move ! (2 ∷ []) $ use1 𝓛 (‵ (path d.at (places d.nodes)) ⊛ ‵ (path before (d.at ∷ []))) (path_cut 𝓛 d.at (places d.nodes) (d.at ∷ [])) $ split ! $ move ! (1 ∷ []) $ fsplit ! $
    in_a_block ! before (λ p. edge p d.at) (no_edge_from_null 𝓛 d.at)
    (λ lb lo el. in_a_block ! d.at (edge (block_ptr lb lo)) (no_edge_to_null 𝓛 (block_ptr lb lo)) (λ tb to et. edge_out ! lb lo tb to $
    -- [the last's next; the root's previous; nothing; the path before; room for the node's next; for its previous; the nodes; the fields; their cell; the open borrow, in three entries; the node; ..]
    sets ! (is ! (of_opd ! (load ! (through ! refl (fld ! refl (stop !))) (look_in ! 8 (sub ! 0 refl (whole !))))) (ap ptr_val et)) refl (tt, tt) $
    sets ! (is ! (of_opd ! (get_in ! (fld ! refl (stop !)) (sub ! 0 refl (whole !)))) (ap ptr_val ep)) refl (tt, tt) $ first ! $ blocks ! $
    assigns ! (of_opd ! (get ! refl)) (through ! refl (fld ! refl (stop !))) (init ! 4 refl (tt, tt)) $
    sets ! (of_opd ! (load ! (through ! refl (fld ! refl (stop !))) (look ! 1 refl))) refl (tt, tt) $
    assigns ! (of_opd ! (get ! refl)) (through ! refl (fld ! refl (stop !))) (init ! 5 refl (tt, tt)) $
    assigns ! (of_opd ! (get ! refl)) (through ! refl (fld ! refl (stop !))) (store ! 1 refl (tt, tt)) $
    assigns_last ! (of_opd ! (get ! refl)) (through ! refl (fld ! refl (hop ! (look ! 5 refl) (fld ! refl (stop !))))) (store ! 0 refl (tt, tt)) $
    exec ! 𝓣.C 𝓣.Λ Ev (after 3 fn.body) (at_ret Ev Post) $ sets ! (agg ! (and_then ! (get ! refl) (no_more !))) refl (word-Good [] (block_ptr pb po)) $
    move ! (0 ∷ 5 ∷ []) $ edge_in ! lb lo pb po $ move ! (4 ∷ 1 ∷ []) $ edge_in ! pb po tb to $
    rewrite ! 0 (λ (p : Ptr × Ptr). ‵ (edge p.0 p.1)) (λ i. (sym ep i, sym et i)) refl $ rewrite ! 1 (λ (p : Ptr × Ptr). ‵ (edge p.0 p.1)) (λ i. (sym el i, sym ep i)) refl $
    move ! (0 ∷ 2 ∷ []) $ fjoin ! $ move ! (1 ∷ 0 ∷ []) $ fjoin ! $ move ! (1 ∷ 0 ∷ []) $
    use2 𝓛 (‵ (path d.at (places d.nodes ++ node.at ∷ d.at ∷ []))) (path_glue 𝓛 d.at (places d.nodes) (node.at ∷ d.at ∷ [])) $
    rewrite ! 0 (λ (ps : List Ptr). ‵ (path d.at ps)) (sym (round_cut d.nodes n [] d.at)) refl $
    -- [the path; the nodes; the fields; their cell; the open borrow, in three entries; the node; ..]
    move ! (7 ∷ []) $ fsplit ! $ move ! (1 ∷ []) $ drop ! $ rewrite ! 2 (λ (ns : List (Placed X.Denot)). ‵ (nodes_own R d.alloc (root ∷ ns))) (sym (append-nil d.nodes)) refl $ move ! (0 ∷ 2 ∷ []) $
    use2 𝓛 (‵ (nodes_own R d.alloc (root ∷ d.nodes ++ n ∷ []))) (nodes_glue 𝓛 R d.alloc (root ∷ d.nodes) n []) $
    move ! (1 ∷ 0 ∷ []) $ fjoin ! $ move ! (1 ∷ 0 ∷ []) $ fjoin ! $ rewrite ! 1 (λ (ws : List Val). ‵ (cell_at full_share Row.mir ws b o)) (sym ev) refl $ move ! (1 ∷ 0 ∷ []) $
    closes ! tt Row new vs b o $
    feq_i ! (List Val) z.0.4.0 (vptr b o ∷ []) e0 $ fjoin3 ! $ nothing ! $ nothing ! $ fjoin ! $ move ! (1 ∷ 0 ∷ []) $ fjoin ! $ move ! (1 ∷ 2 ∷ []) $ join ! $
    word_made ! (block_ptr pb po) $
    ensure_three ! (block_ptr pb po ≡ node.at) ((d.at ≡ d.at) × (d.entry ≡ d.entry)) (new.nodes ≡ d.nodes ++ placed node.at node.entry ∷ []) (sym ep) (refl, refl) refl $
    returns ! (look_at ! 0 refl) $ free_all ! refl $ keep ! (2 ∷ 3 ∷ 1 ∷ 0 ∷ []) $ by ! (leaves 𝓛 En hs c z (word (block_ptr pb po)) (record { ptr = block_ptr pb po }) (new, (tt, tt)) (tt, (tt, tt))))))))))))))
