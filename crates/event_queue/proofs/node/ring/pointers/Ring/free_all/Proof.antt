-- `free_all` cuts the ring at its end, and each turn reads the entry out of the first node left, and gives the node's block back. Assumes `Logic`.
use Rattle.std.proofs.Common.{ℕ, ◌+◌, ◌<◌, List, [], ◌∷◌, ◌++◌, length, refl, sym, ap, arith, lit<}
use mathlib.Core.WellFounded.InvImage
use lib.WfN.{lt-wf_rel}
use seplogic.Ra.Ura.{Ura}
use mir.Syntax.{Args, Body, Dict, Fn, a_type, dcons, dnil, ty_ptr}
use mir.Val.{Val, vunit, vptr}
use mir.MapTy.{inst_fn}
use base.Fraction.{full_share}
use base.Logic.{SProp, ent, emp, never, fst∗, id⊢}
use base.Fml.{Lft, Share, ftrue, fsep, fat, froom, flft}
use prog.Memory.{Memory}
use prog.Routine.{Routine}
use prog.Wp.{Env, Out, Wp, WpFn, Tables, at_return, after_seq, after_block, after_turn}
use contract.BorrowLft.{◌⊑◌}
use contract.Monad.{Fun, fact, fact_i}
use contract.Running.{tables, tables_of}
use sound.WpLaws.{fm_of}
use types.Logic.{Logic}
use types.Kit.{Item, Sq, any_q, runs, ‵, raw, ◌⊛◌, some, given, learn, later, prop, at_ret, ◌$◌, ◌∵◌, !, qed, by, move, keep, drop, split, join, group, regoal, rewrite, fsplit, fjoin, feq_i}
use types.Kit.{feq_l, pick, await, use0, use1, use2}
use types.Part.{whole, sub, agg}
use types.Run.{look, store, addr, stop, hop, fld, load, lit, unit_lit, bin, un, of_opd, and_then, no_more, assigns, first, blocks, stays, leaves_loop, loops, again, Below, exec, returns, enter}
use types.ByLocal.{alloc_all, pass_all, free_all, look_at, get, get_in, through, sets, sets_last, lands_as, is, env, holding, forget_but, take_at, give_at}
use denote.Exit.{no}
use denote.RattleType.{RattleType, owns}
use denote.Signature.{types_at, plain}
use denote.Builtin.{unit}
use denote.RawPtr.{Ptr, RawPtr, Testable, block_ptr, null_ptr, ptr_val, lies_at, room_for, in_a_block, tests_null}
use denote.Laws.{Is, shows}
use denote.Steps.{nothing, heard, only, peeks}
use denote.Param.{param, layout, bounded}
use denote.Param.Laws.{Laws}
use denote.Triple.Call.{calls_at}
use denote.Triple.Clauses.{Clauses, Ended, Lasts, lasts}
use denote.Triple.Spec.{triple_of}
use denote.Triple.Statement.{Contract, Triple}
use denote.Triple.Table.{cited}
use denote.Triple.Walked.{Stays, stay_dropped, walk_of}
use Rattle.std.proofs.alloc.Calls.{Goes-blank}
use Rattle.std.proofs.raw_atomic.Walks.{proved_at, leaves}
use Rattle.std.proofs.GlobalToken.{dealloc_token-Testable}
use Rattle.std.proofs.RawLayout.{as_raw}
use Rattle.std.proofs.RcSteps.{Good, Ptr-Good}
use Rattle.std.proofs.VecSteps.Shapes.{after, head}
use Rattle.event_queue.specs.Ring.{Placed, placed, places, first_place}
use Rattle.event_queue.specs.RingMemory.{next_of, previous_of, edge, path, node_type, node_owns, chain_owns, entry_offset}
use Rattle.event_queue.specs.contracts.node.ring.pointers.Ring as ring
use Rattle.event_queue.specs.contracts.node.ring.pointers.Ring.free as freed
use Rattle.event_queue.specs.contracts.node.ring.pointers.Ring.free.Key as freed_key
use Rattle.event_queue.proofs.node.ring.pointers.Ring.free.Met as freed_met
use Rattle.event_queue.proofs.Ring.Places.{last_from}
use Rattle.event_queue.proofs.Ring.Blocks.{Room, block_glue}
use Rattle.event_queue.proofs.Ring.Opened.{chain_from_path}
use Rattle.event_queue.proofs.Ring.Walks.{heap_val, heap_Good, ring_Good, ring_val, Fields, handle, fields_stored, fields_made, learn_fact, link_out, link_in, link_to_room}
use Rattle.event_queue.proofs.Ring.Walks.{edge_out, entry_out, path_cut, no_edge_from_null, no_edge_to_null}
use Rattle.event_queue.specs.contracts.node.ring.pointers.Ring.free_all as F
use Rattle.event_queue.specs.contracts.node.ring.pointers.Ring.free_all.Key.{name as #self}
use Rattle.event_queue.proofs.node.ring.pointers.Ring.free_all.Statement.{statement}
use Rattle.event_queue.proofs.node.ring.pointers.Ring.free_all.Code as code

module _ (X : RattleType) (δ : Dict) where
  abbrev R : RattleType
  R = param 0 X

  abbrev Row : RattleType
  Row = ring.the_row R

  abbrev inst : Args
  inst = bounded (a_type ∷ []) (X, tt) (dcons δ dnil)

  abbrev fn : Fn
  fn = inst_fn inst code.function

  abbrev turn : Body
  turn = head (head (after 2 (head (head (after 2 fn.body)))))

  abbrev ended : Ended
  ended = F.ended X δ

  abbrev stayed : Stays ended.signature.params ended.kept
  stayed = (stay_dropped (plain (λ _. Row)) no, tt)

  module _ {M : Type 1} {𝓤 : Ura M} (𝓛 : Logic 𝓤) (at_mem : Memory → SProp 𝓤) (run : Routine → Fun 𝓤) where
    abbrev held : Clauses 𝓤 ended
    held = F.clauses X δ 𝓛 at_mem run

    abbrev Frees : Contract 𝓤
    Frees = triple_of 𝓛 (freed.signature X) (freed.spec X δ 𝓛 at_mem run)

module _ (X : RattleType) (δ : Dict) {M : Type 1} {𝓤 : Ura M} (𝓛 : Logic 𝓤) (at_mem : Memory → SProp 𝓤) (run : Routine → Fun 𝓤) (𝓣 : Tables 𝓤 𝓛.H)
    (L : Laws X) (callee : Triple 𝓤 (𝓣.C (freed_key.name (inst X δ))) (Frees X δ 𝓛 at_mem run))
    (z : (walk_of 𝓛 (ended X δ) (stayed X δ) (held X δ 𝓛 at_mem run)).Ghost) where
  open 𝓛 use {H}

  abbrev κ : Lft
  κ = z.0.0.0

  abbrev q : Share
  q = z.0.1.0

  abbrev d : (Row X δ).Denot
  d = z.0.3.0

  abbrev Post : Val → SProp 𝓤
  Post = (walk_of 𝓛 (ended X δ) (stayed X δ) (held X δ 𝓛 at_mem run)).post z

  abbrev tokens : Item 𝓤
  tokens = ‵ (flft κ q) ⊛ ‵ ftrue

  abbrev Node : Type 0
  Node = Placed X.Denot

  exits : ent 𝓤 (types.Kit.mean 𝓛 tokens) (Post vunit)
  exits = qed 𝓛 (tokens ∷ []) ∵ nothing ! $ feq_i ! (List Val) (vunit ∷ []) (vunit ∷ []) refl $ nothing ! $ nothing ! $ fjoin ! $ move ! (3 ∷ 0 ∷ 1 ∷ 2 ∷ []) $
      by ! (leaves 𝓛 (ended X δ) (stayed X δ) (held X δ 𝓛 at_mem run) z vunit tt (tt, tt) (tt, tt))

  module _ (within : κ ⊑ X.lives) (tb to : ℕ) (l : ℕ → ℕ) where
    abbrev En : Env 𝓤 H
    En = env (fn X δ).locals l

    -- the nodes that are left
    abbrev Now : List Node → List (Item 𝓤)
    Now ns = ‵ (chain_owns (R X δ) d.alloc ns) ∷ tokens ∷ holding 𝓛 En ((1, ring_val d.at) ∷ (2, vptr tb to) ∷ (3, heap_val) ∷ (4, ptr_val (first_place ns null_ptr)) ∷ [])

    abbrev Fewer : List Node → List Node → Type 0
    Fewer ns ms = length ns < length ms

    abbrev Turned : List Node → Out → SProp 𝓤
    Turned ns = after_turn 𝓤 H (Below 𝓛 Fewer Now ns) (after_block 𝓤 H (after_block 𝓤 H (after_seq 𝓤 H (Wp 𝓤 H 𝓣.C 𝓣.Λ En (after 3 (fn X δ).body) (at_return 𝓤 H En Post)) (at_return 𝓤 H En Post))))

    turns : (ns : List Node) → Sq 𝓛 (Now ns) (runs 𝓣.C 𝓣.Λ En (turn X δ) (any_q (Turned ns)))
    unfolding after_turn
    turns [] =
        drop ! $ sets ! (bin ! (get ! refl) (lit ! tt) tt) refl (tt, tt) $ sets ! (un ! (get ! refl) tt) refl (tt, tt) $ leaves_loop ! (get ! refl) $
        exec ! 𝓣.C 𝓣.Λ En (after 3 (fn X δ).body) (at_ret En Post) $ sets ! (of_opd ! (unit_lit !)) refl (tt, tt) $ returns ! (look_at ! 0 refl) $ free_all ! refl $ by ! exits
    turns (n ∷ ns) =
        let next : Ptr = first_place ns null_ptr in
        fsplit ! $ in_a_block ! n.at (λ p. fsep (lies_at RawPtr full_share (next_of p) next) (room_for ty_ptr (previous_of p))) (fst∗ 𝓤 (never 𝓤) (never 𝓤)) (λ pb po ep.
        let p : Ptr = block_ptr pb po in let room : (Room (R X δ)).Denot = record { ptr = p; alloc = d.alloc } in let eo : ℕ = entry_offset (R X δ) in
        take_at ! 4 $ rewrite ! 0 (λ (r : Ptr). ‵ (fat full_share ty_ptr (l 4) 0 (ptr_val r))) ep refl $ give_at ! 4 $
        fsplit ! $ move ! (2 ∷ []) $ fsplit ! $ rewrite ! 0 (λ (r : Ptr). ‵ (node_owns (R X δ) d.alloc (placed r n.entry))) ep refl $ fsplit ! $ move ! (1 ∷ []) $ fsplit ! $
        learn_fact ! (Testable p) (dealloc_token-Testable 𝓛 d.alloc (node_type (R X δ)) p) (λ may.
        move ! (2 ∷ []) $ use1 𝓛 (some (λ (w : Val). given (Good (layout X) w) (‵ (fat full_share (layout X) pb (po + eo) w) ⊛ ‵ (X.own_val n.entry (w ∷ [])))))
        (entry_out 0 X L 𝓛 n.entry pb (po + eo)) $ pick ! (λ u. learn ! (λ gu. split ! $ move ! (5 ∷ []) $ link_out ! next pb (po + 0) $
        -- [the node's next; the entry's cell; what it owns; the block, in two entries; the nodes behind; room for the node's previous; the tokens; the locals]
        sets ! (bin ! (get ! refl) (lit ! tt) (tests_null p may)) refl (tt, tt) $ sets ! (un ! (get ! refl) tt) refl (tt, tt) $ stays ! (get ! refl) $
        sets ! (of_opd ! (load ! (through ! refl (fld ! refl (stop !))) (look ! 0 refl))) refl (Ptr-Good next) $
        sets ! (addr ! (through ! refl (fld ! refl (stop !)))) refl (tt, tt) $ sets ! (of_opd ! (load ! (through ! refl (stop !)) (look ! 1 refl))) refl gu $
        sets ! (of_opd ! (get ! refl)) refl gu $ sets ! (agg ! (and_then ! (get ! refl) (and_then ! (get ! refl) (no_more !)))) refl (tt, (tt, (heap_Good.1, tt))) $
        -- the block with nothing in it, from the node's cells
        link_to_room ! next pb (po + 0) $ move ! (0 ∷ 6 ∷ []) $ fjoin ! $ move ! (1 ∷ []) $ use1 𝓛 (‵ (froom (layout X) pb (po + eo))) (𝓛.laws.at_room (layout X) pb (po + eo) u) $
        as_raw ! (layout X) pb (po + eo) $ move ! (1 ∷ 0 ∷ []) $ fjoin ! $ move ! (0 ∷ 3 ∷ []) $ use2 𝓛 (‵ (froom (node_type (R X δ)) pb po)) (block_glue X 𝓛 pb po) $ move ! (0 ∷ 2 ∷ []) $ fjoin ! $
        use0 𝓛 (‵ ((Fields (R X δ)).own_val (p, (handle, tt)) (ring_val p ∷ []))) (fields_made (R X δ) 𝓛 p) $ fjoin ! $
        -- [the block; what the entry owns; the nodes behind; the tokens; ..]
        let G : Contract 𝓤 = Frees X δ 𝓛 at_mem run in let En' : Ended = freed.ended X δ in
        let y : G.Ghost = (((κ, tt), (q, tt), tt, (n.entry, (room, tt)), (u ∷ [], (ring_val p ∷ [], tt))), tt) in
        nothing ! $ move ! (1 ∷ 0 ∷ []) $ fjoin ! $ move ! (1 ∷ 0 ∷ []) $ fjoin ! $ move ! (2 ∷ 0 ∷ []) $ join ! $
        nothing ! $ use0 𝓛 (raw (fact 𝓤 (κ ⊑ X.lives))) (fact_i 𝓤 (κ ⊑ X.lives) (emp 𝓤) within) $ join ! $
        move ! (1 ∷ 0 ∷ []) $ join ! $ use1 𝓛 (raw (G.pre y)) (id⊢ 𝓤 _) $
        calls_at ! (fm_of 𝓤 H 𝓛.laws 𝓣) G callee y (and_then ! (get ! refl) (and_then ! (get ! refl) (no_more !))) (λ v.
        use1 𝓛 (later (some (λ (r : Unit {0}). ((‵ (flft κ q) ⊛ ‵ ftrue) ⊛ ‵ (unit.own_val r (v ∷ []))) ⊛ some
        (λ (ws : Lasts En' (κ, tt) y.0.3). ‵ (lasts En' (κ, tt) y.0.3 ws) ⊛ ‵ ftrue)))) (id⊢ 𝓤 _) $
        await ! tt $ pick ! (λ r. split ! $ split ! $ move ! (1 ∷ []) $ feq_l ! (λ e. move ! (1 ∷ []) $ drop ! $
        lands_as ! (ap only e) refl (tt, tt) $ sets_last ! (of_opd ! (get ! refl)) refl (Ptr-Good next) $
        forget_but ! En (1 ∷ 2 ∷ 3 ∷ 4 ∷ []) refl $ move ! (1 ∷ 0 ∷ []) $ again ! Fewer Now (n ∷ ns) ns (omega arith))))))))

  walk : ent 𝓤 ((walk_of 𝓛 (ended X δ) (stayed X δ) (held X δ 𝓛 at_mem run)).pre z) (WpFn 𝓤 H 𝓣.C 𝓣.Λ (fn X δ) ((walk_of 𝓛 (ended X δ) (stayed X δ) (held X δ 𝓛 at_mem run)).args z) Post)
  walk =
      let D : RattleType = Fields (R X δ) in let root : Node = placed d.at d.entry in let before : Ptr = last_from d.at (places d.nodes) in
      qed 𝓛 ((tokens ⊛ ‵ (owns (types_at (ended X δ).signature.params z.0.0) z.0.3 z.0.4)) ∷ raw (fact 𝓤 (κ ⊑ X.lives)) ∷ ‵ ftrue ∷ []) ∵
      keep ! (1 ∷ 0 ∷ []) $ heard ! (κ ⊑ X.lives)
      (λ within. split ! $ move ! (1 ∷ []) $ fsplit ! $ fsplit ! $ peeks ! D (Is D) (shows 𝓛 D) (d.at, (handle, tt)) z.0.4.0 (λ stored. keep ! (1 ∷ 3 ∷ []) $
      regoal ! (λ (us : List Val). prop (WpFn 𝓤 H 𝓣.C 𝓣.Λ (fn X δ) us Post)) (λ i. fields_stored (R X δ) d.at z.0.4.0 stored i ++ []) refl $
      enter ! 𝓣.C 𝓣.Λ (fn X δ) (ring_val d.at ∷ []) Post $ alloc_all ! (λ l. pass_all ! refl (ring_Good (R X δ) d.at, tt) $
      fsplit ! $ use1 𝓛 (‵ (path d.at (places d.nodes)) ⊛ ‵ (path before (d.at ∷ []))) (path_cut 𝓛 d.at (places d.nodes) (d.at ∷ [])) $ split ! $ move ! (1 ∷ []) $ fsplit ! $
      in_a_block ! before (λ p. edge p d.at) (no_edge_from_null 𝓛 d.at)
      (λ lb lo el. in_a_block ! d.at (edge (block_ptr lb lo)) (no_edge_to_null 𝓛 (block_ptr lb lo)) (λ tb to et. edge_out ! lb lo tb to $
      -- [the last's next; the root's previous; nothing; the path; the nodes; the tokens; the locals]
      sets ! (is ! (of_opd ! (get_in ! (fld ! refl (stop !)) (sub ! 0 refl (whole !)))) (ap ptr_val et)) refl (tt, tt) $
      sets ! (of_opd ! (get_in ! (fld ! refl (stop !)) (sub ! 1 refl (whole !)))) refl heap_Good $ first ! $ blocks ! $
      assigns ! (of_opd ! (lit ! tt)) (through ! refl (fld ! refl (hop ! (look ! 1 refl) (fld ! refl (stop !))))) (store ! 0 refl (tt, record { fits = lit< tt })) $
      sets ! (of_opd ! (get ! refl)) refl (tt, tt) $
      link_in ! null_ptr lb (lo + 0) $ rewrite ! 0 (λ (p : Ptr). ‵ (lies_at RawPtr full_share (next_of p) null_ptr)) (sym el) refl $
      move ! (1 ∷ []) $ link_to_room ! (block_ptr lb lo) tb (to + 8) $ rewrite ! 0 (λ (p : Ptr). ‵ (room_for ty_ptr (previous_of p))) (sym et) refl $
      move ! (3 ∷ 1 ∷ 0 ∷ 4 ∷ []) $ group ! 4 $ use1 𝓛 (‵ (chain_owns (R X δ) d.alloc (root ∷ d.nodes))) (chain_from_path 𝓛 (R X δ) d.alloc root d.nodes) $ move ! (1 ∷ []) $ drop ! $
      take_at ! 4 $ rewrite ! 0 (λ (r : Ptr). ‵ (fat full_share ty_ptr (l 4) 0 (ptr_val r))) (sym et) refl $ give_at ! 4 $
      blocks ! $ loops ! 𝓣 (Fewer within tb to l) (InvImage.wf (λ (ns : List Node). length ns) lt-wf_rel.wf) (Now within tb to l) (turns within tb to l) (root ∷ d.nodes))))))

pub free_all_spec : {M : Type 1} → statement M
unfolding tables_of
free_all_spec 𝓤 𝓛 𝓜 𝓡 wired X L δ glue =
    let 𝓣 : Tables 𝓤 𝓛.H = tables_of 𝓤 𝓛.H 𝓜 (tables 𝓤 𝓛.H 𝓜 𝓡 𝓡.env) in let k = freed_key.name (inst X δ) in
    let callee = cited 𝓤 𝓛.H (Frees X δ 𝓛 𝓜.mem 𝓡.returns) 𝓜 𝓡 𝓡.env k (𝓡.env k) refl (freed_met.met 𝓤 𝓛 𝓜 𝓡 (code.calls-event_queue::node::ring::pointers::Ring::free 𝓡.env wired) X L δ glue) in
    proved_at 𝓛 (ended X δ) (stayed X δ) (held X δ 𝓛 𝓜.mem 𝓡.returns) 𝓜 𝓡 (Goes-blank 𝓛 1 (plain (λ _. Row X δ)) no (λ κs x f. tt), tt) (#self (inst X δ)) (fn X δ)
    (code.unfolded 𝓤 𝓛.H 𝓜 𝓡 wired (X, tt) δ)
    (λ z are. walk X δ 𝓛 𝓜.mem 𝓡.returns 𝓣 L callee z)
