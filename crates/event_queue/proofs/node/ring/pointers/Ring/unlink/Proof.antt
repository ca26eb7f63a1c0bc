-- `unlink` reads the entry out of the node, joins the node's two neighbours, and makes one room of the node's cells.
use Rattle.std.proofs.Common.{◌≡◌, ℕ, ◌+◌, List, [], ◌∷◌, ◌++◌, refl, sym, ap, ◌∙◌, subst}
use mir.Syntax.{a_type}
use mir.Val.{Val, vptr}
use mir.MapTy.{inst_fn}
use base.Fraction.{full_share}
use base.Logic.{SProp}
use base.Fml.{Lft, Fml, ftrue, fsep, fat, froom, flft}
use prog.Wp.{WpFn}
use types.Kit.{‵, raw, ◌⊛◌, prop, some, given, pick, learn, at_ret, ◌$◌, ◌∵◌, !, qed, by, move, keep, split, join, regoal, rewrite, fsplit, fsplit3, fjoin, fjoin3, feq_i, feq_l, use0, use1, use2}
use types.Part.{whole, sub, agg, look_in}
use types.Run.{look, store, stop, hop, fld, load, of_opd, addr, and_then, no_more, assigns, first, blocks, exec, returns, enter}
use types.ByLocal.{alloc_all, pass_all, free_all, look_at, get, get_in, through, sets, sets_last, is, env}
use contract.Running.{tables}
use contract.Monad.{fact}
use denote.Exit.{no}
use denote.RattleType.{RattleType, owns}
use denote.Signature.{types_at, plain}
use denote.Memory.{cell_at}
use denote.RawPtr.{Ptr, block_ptr, ptr_val, in_a_block}
use denote.Laws.{Is, shows}
use denote.Steps.{nothing, heard, opens, closes, peeks}
use denote.Param.{param, layout, layouts}
use denote.Struct.Struct.{as_fields}
use denote.Struct.Tuple.{Tuple}
use denote.Triple.Walked.{Stays, stay_dropped, stay_ref, walk_of, Goes-dropped, Goes-ref}
use Rattle.std.proofs.raw_atomic.Walks.{proved_at, leaves}
use Rattle.std.proofs.RawLayout.{as_raw}
use Rattle.std.proofs.VecSteps.Shapes.{after}
use Rattle.std.proofs.RcSteps.{Good, word, word-Good}
use Rattle.event_queue.specs.Ring.{Placed, placed, places, first_place, IsApart, IsAt, AtNode}
use Rattle.event_queue.specs.RingMemory.{edge, path, node_type, node_owns, nodes_own, entry_offset}
use Rattle.event_queue.specs.contracts.node.ring.pointers.Ring as ring
use Rattle.event_queue.specs.contracts.node.ring.pointers.NodePtr as node_ptr
use Rattle.event_queue.proofs.Ring.Places.{last_from, round_cut, round_joined, round_first, apart_unlinked, same_node}
use Rattle.event_queue.proofs.Ring.Blocks.{Room, block_glue}
use Rattle.event_queue.proofs.Ring.Walks.{heap_Good, ring_val, Fields, handle, fields_stored, fields_made, word_stored, edge_out, edge_in, path_cut, path_glue, nodes_cut}
use Rattle.event_queue.proofs.Ring.Walks.{no_edge_from_null, no_edge_to_null, entry_out, link_to_room, pair_val, pair_of, ensure_three}
use Rattle.event_queue.specs.contracts.node.ring.pointers.Ring.unlink.{ended, clauses}
use Rattle.event_queue.specs.contracts.node.ring.pointers.Ring.unlink.Key.{name as #self}
use Rattle.event_queue.proofs.node.ring.pointers.Ring.unlink.Statement.{statement}
use Rattle.event_queue.proofs.node.ring.pointers.Ring.unlink.Code as code

pub unlink_spec : {M : Type 1} → statement M
unlink_spec 𝓤 𝓛 𝓜 𝓡 wired X L =
    let H = 𝓛.H in let 𝓣 = tables 𝓤 H 𝓜 𝓡 𝓡.env in let R : RattleType = param 0 X in let En = ended X in let inst = layouts (a_type ∷ []) (X, tt) in let fn = inst_fn inst code.function in
    let Row : RattleType = ring.the_row R in let D : RattleType = Fields R in let Np : RattleType = node_ptr.the_row R in let Va : RattleType = Room R in let eo : ℕ = entry_offset R in let c = clauses X 𝓛 𝓜.mem 𝓡.returns in
    let self = plain (λ _. Row) in let hs : Stays En.signature.params En.kept = (stay_ref (0 ∷ []) tt self, (stay_dropped (plain (λ _. Np)) no, tt)) in
    proved_at 𝓛 En hs c 𝓜 𝓡 (Goes-ref 𝓛 2 0 tt self, (Goes-dropped 𝓛 2 (plain (λ _. Np)) no (λ κs x f. refl), tt)) (#self inst) fn (code.unfolded 𝓤 H 𝓜 𝓡 wired (X, tt)) (λ z are.
    let κs = z.0.0 in let qs = z.0.1 in let b : ℕ = z.0.3.0.ref_ptr.0 in let o : ℕ = z.0.3.0.ref_ptr.1 in let κ : Lft = κs.0 in let d : Row.Denot = z.0.3.0.now in let node : Np.Denot = z.0.3.1.0 in
    let others : Fml = fsep (flft κs.1.0 qs.1.0) ftrue in let Post : Val → SProp 𝓤 = (walk_of 𝓛 En hs c).post z in let Run : List Val → SProp 𝓤 = λ us. WpFn 𝓤 H 𝓣.C 𝓣.Λ fn us Post in
    qed 𝓛 (((‵ (flft κ qs.0) ⊛ ‵ others) ⊛ ‵ (owns (types_at En.signature.params κs) z.0.3 z.0.4)) ∷ raw (fact 𝓤 _) ∷ raw (fact 𝓤 (IsAt d.nodes node.ptr)) ∷ []) ∵
    keep ! (2 ∷ 0 ∷ []) $ heard ! (IsAt d.nodes node.ptr) (λ asked. split ! $ split ! $ move ! (2 ∷ []) $
    fsplit ! $ fsplit3 ! $ feq_l ! (λ e0. move ! (2 ∷ []) $ fsplit ! $ word_stored ! node.ptr z.0.4.1.0 (λ e1. keep ! (1 ∷ 2 ∷ 3 ∷ 4 ∷ []) $
    regoal ! (λ (us : List Val). prop (Run us)) (λ i. e0 i ++ (e1 i ++ [])) refl $
    let xs = asked.0 in let n : Placed X.Denot = asked.1 in let ys = asked.2 in let next : Ptr = first_place ys d.at in let behind = round_first ys d.at in let rest : List Ptr = behind.0 in
    let before : Ptr = last_from d.at (places xs) in let root : Placed X.Denot = placed d.at d.entry in
    let cut : places d.nodes ++ d.at ∷ [] ≡ places xs ++ n.at ∷ next ∷ rest =
    ap (λ ns. places ns ++ d.at ∷ []) asked.3 ∙ round_cut xs n ys d.at ∙ ap (λ ps. places xs ++ n.at ∷ ps) behind.1 in
    let joined : places xs ++ next ∷ rest ≡ places (xs ++ ys) ++ d.at ∷ [] = sym (round_joined xs ys d.at ∙ ap (λ ps. places xs ++ ps) behind.1) in
    let new : Row.Denot = record { at = d.at; alloc = d.alloc; entry = d.entry; nodes = xs ++ ys; apart = apart_unlinked d.at xs n ys (subst (λ ns. IsApart (d.at ∷ places ns)) asked.3 d.apart) } in
    enter ! 𝓣.C 𝓣.Λ fn (vptr b o ∷ word node.ptr ∷ []) Post $ alloc_all ! (λ l. pass_all ! refl ((tt, tt), (word-Good [] node.ptr, tt)) $ let Ev = env fn.locals l in
    opens ! tt Row {h = d} b o (λ vs. move ! (1 ∷ []) $ fsplit ! $ peeks ! D (Is D) (shows 𝓛 D) (d.at, (handle, tt)) vs (λ so. let ev : vs ≡ ring_val d.at ∷ [] = fields_stored R d.at vs so in
    rewrite ! 2 (λ (ws : List Val). ‵ (cell_at full_share Row.mir ws b o)) ev refl $
    move ! (2 ∷ []) $ use1 𝓛 (‵ (fat full_share (layout Row) b o (ring_val d.at))) (𝓛.laws.raw_at full_share (layout Row) b o (ring_val d.at)) $ move ! (2 ∷ 1 ∷ []) $ fsplit ! $
    -- [the path; the nodes; the fields; their cell; the open borrow, in three entries; the other tokens; the locals]
    rewrite ! 1 (λ (ns : List (Placed X.Denot)). ‵ (nodes_own R d.alloc (root ∷ ns))) asked.3 refl $ rewrite ! 0 (λ (ps : List Ptr). ‵ (path d.at ps)) cut refl $
    use1 𝓛 (‵ (path d.at (places xs)) ⊛ ‵ (path before (n.at ∷ next ∷ rest))) (path_cut 𝓛 d.at (places xs) (n.at ∷ next ∷ rest)) $ split ! $ move ! (1 ∷ []) $ fsplit3 ! $
    in_a_block ! before (λ p. edge p n.at) (no_edge_from_null 𝓛 n.at) (λ lb lo el. in_a_block ! n.at (edge (block_ptr lb lo)) (no_edge_to_null 𝓛 (block_ptr lb lo)) (λ pb po ep.
    let p : Ptr = block_ptr pb po in let room : Va.Denot = record { ptr = p; alloc = d.alloc } in
    edge_out ! lb lo pb po $ move ! (2 ∷ []) $ rewrite ! 0 (λ (p : Ptr). ‵ (edge p next)) ep refl $
    in_a_block ! next (edge p) (no_edge_to_null 𝓛 p) (λ nb no' en. edge_out ! pb po nb no' $
    move ! (6 ∷ []) $ use1 𝓛 (‵ (node_owns R d.alloc n) ⊛ ‵ (nodes_own R d.alloc (root ∷ xs ++ ys))) (nodes_cut 𝓛 R d.alloc (root ∷ xs) n ys) $ split ! $
    rewrite ! 0 (λ (q : Ptr). ‵ (node_owns R d.alloc (placed q n.entry))) ep refl $ fsplit ! $
    use1 𝓛 (some (λ (w : Val). given (Good (layout X) w) (‵ (fat full_share (layout X) pb (po + eo) w) ⊛ ‵ (X.own_val n.entry (w ∷ [])))))
    (entry_out 0 X L 𝓛 n.entry pb (po + eo)) $ pick ! (λ u. learn ! (λ gu. split ! $
    let room_good : Good (layout Va) (ring_val p) = (tt, (tt, (heap_Good.1, tt))) in let good = as_fields (layout X ∷ layout Va ∷ []) (u ∷ ring_val p ∷ []) (gu, (room_good, tt)) in
    -- [the entry's cell; what it owns; the block; the other nodes; the node's next; the next's previous; the previous' next; the node's previous; the path behind; the path before; the fields; their cell; ..]
    sets ! (is ! (of_opd ! (get_in ! (fld ! refl (stop !)) (sub ! 0 refl (whole !)))) (ap ptr_val (sym asked.4 ∙ ep))) refl (tt, tt) $ first ! $ blocks ! $
    sets ! (addr ! (through ! refl (fld ! refl (stop !)))) refl (tt, tt) $ sets ! (of_opd ! (load ! (through ! refl (stop !)) (look ! 0 refl))) refl gu $
    sets ! (of_opd ! (load ! (through ! refl (fld ! refl (stop !))) (look ! 4 refl))) refl (tt, tt) $
    assigns ! (of_opd ! (get ! refl)) (through ! refl (fld ! refl (hop ! (look ! 7 refl) (fld ! refl (stop !))))) (store ! 6 refl (tt, tt)) $
    sets ! (of_opd ! (load ! (through ! refl (fld ! refl (stop !))) (look ! 7 refl))) refl (tt, tt) $
    assigns ! (of_opd ! (get ! refl)) (through ! refl (fld ! refl (hop ! (look ! 4 refl) (fld ! refl (stop !))))) (store ! 5 refl (tt, tt)) $
    sets ! (of_opd ! (get ! refl)) refl gu $ sets ! (of_opd ! (load ! (through ! refl (fld ! refl (stop !))) (look_in ! 11 (sub ! 1 refl (whole !))))) refl heap_Good $
    sets ! (agg ! (and_then ! (get ! refl) (and_then ! (get ! refl) (no_more !)))) refl room_good $ sets_last ! (agg ! (and_then ! (get ! refl) (and_then ! (get ! refl) (no_more !)))) refl good $
    exec ! 𝓣.C 𝓣.Λ Ev (after 2 fn.body) (at_ret Ev Post) $ sets ! (of_opd ! (get ! refl)) refl good $
    -- the block with nothing in it, from the node's cells
    use1 𝓛 (‵ (froom (layout X) pb (po + eo))) (𝓛.laws.at_room (layout X) pb (po + eo) u) $ as_raw ! (layout X) pb (po + eo) $
    move ! (4 ∷ []) $ link_to_room ! (block_ptr nb no') pb (po + 0) $ move ! (7 ∷ 0 ∷ []) $ link_to_room ! (block_ptr lb lo) pb (po + 8) $ move ! (1 ∷ 0 ∷ []) $ fjoin ! $ fjoin ! $
    move ! (2 ∷ []) $ fsplit ! $ move ! (2 ∷ 1 ∷ []) $ use2 𝓛 (‵ (froom (node_type R) pb po)) (block_glue X 𝓛 pb po) $ fjoin ! $
    use0 𝓛 (‵ (D.own_val (p, (handle, tt)) (ring_val p ∷ []))) (fields_made R 𝓛 p) $ fjoin ! $ move ! (1 ∷ 0 ∷ []) $
    use2 𝓛 (‵ ((Tuple (R ∷ Va ∷ [])).own_val (n.entry, room) (pair_val u (ring_val p) ∷ []))) (pair_of 𝓛 R Va n.entry room u (ring_val p)) $
    -- [the entry and the block; the other nodes; the next's previous; the previous' next; the path behind; the path before; the fields; their cell; ..]
    move ! (3 ∷ 2 ∷ []) $ edge_in ! lb lo nb no' $ rewrite ! 0 (λ (p : Ptr × Ptr). ‵ (edge p.0 p.1)) (λ i. (sym el i, sym en i)) refl $ move ! (0 ∷ 3 ∷ []) $ fjoin ! $ move ! (3 ∷ 0 ∷ []) $
    use2 𝓛 (‵ (path d.at (places xs ++ next ∷ rest))) (path_glue 𝓛 d.at (places xs) (next ∷ rest)) $ rewrite ! 0 (λ (ps : List Ptr). ‵ (path d.at ps)) joined refl $
    move ! (0 ∷ 2 ∷ []) $ fjoin ! $ move ! (2 ∷ 0 ∷ []) $ fjoin ! $
    move ! (2 ∷ []) $ use1 𝓛 (‵ (cell_at full_share Row.mir (ring_val d.at ∷ []) b o)) (𝓛.laws.at_raw full_share (layout Row) b o (ring_val d.at)) $
    rewrite ! 0 (λ (ws : List Val). ‵ (cell_at full_share Row.mir ws b o)) (sym ev) refl $ move ! (0 ∷ 1 ∷ 3 ∷ 4 ∷ 5 ∷ []) $ closes ! tt Row new vs b o $
    feq_i ! (List Val) z.0.4.0 (vptr b o ∷ []) e0 $ fjoin3 ! $ nothing ! $ nothing ! $ fjoin ! $ move ! (1 ∷ 0 ∷ []) $ fjoin ! $ move ! (1 ∷ 3 ∷ []) $ join ! $
    let same = λ (us : List (Placed X.Denot)) (m : Placed X.Denot) (ws : List (Placed X.Denot)) (at_cut : d.nodes ≡ us ++ m ∷ ws)
    (at : m.at ≡ node.ptr). same_node d.at d.nodes xs n ys us m ws d.apart asked.3 at_cut (asked.4 ∙ sym at) in
    ensure_three ! (p ≡ node.ptr) ((d.at ≡ d.at) × (d.entry ≡ d.entry)) (AtNode d.nodes node.ptr (λ us m ws. (xs ++ ys ≡ us ++ ws) × (n.entry ≡ m.entry)))
    (sym ep ∙ asked.4) (refl, refl) (λ us m ws at_cut at. let s = same us m ws at_cut at in ((λ i. s.0 i ++ s.2 i), ap (λ (k : Placed X.Denot). k.entry) s.1)) $
    returns ! (look_at ! 0 refl) $ free_all ! refl $ keep ! (1 ∷ 2 ∷ 3 ∷ 0 ∷ []) $ by ! (leaves 𝓛 En hs c z (pair_val u (ring_val p)) (n.entry, room) (new, (tt, tt)) (tt, (tt, tt)))))))))))))))
