-- `fill` cuts the room into a node's cells, writes what the node carries, and links the node to the one on top.
use Rattle.std.proofs.Common.{◌≡◌, ℕ, ◌+◌, List, [], ◌∷◌, ◌++◌, refl, sym, ap}
use mir.Syntax.{a_type}
use mir.Val.{Val, vptr}
use mir.MapTy.{inst_fn}
use base.Fraction.{full_share}
use base.Logic.{SProp, never, fst∗}
use base.Fml.{Lft, Fml, ftrue, fsep, fat, flft}
use prog.Wp.{WpFn}
use types.Logic.{sem}
use types.Kit.{‵, raw, drop, ◌⊛◌, prop, at_ret, ◌$◌, ◌∵◌, !, qed, by, move, keep, split, join, regoal, rewrite, fsplit, fsplit3, fjoin, fjoin3, feq_i, feq_l, use0, use1, use2}
use types.Part.{whole, sub, agg, look_in, store_in}
use types.Run.{init, stop, fld, load, of_opd, addr, and_then, no_more, assigns, assigns_last, first, blocks, exec, returns, enter}
use types.ByLocal.{alloc_all, pass_all, free_all, look_at, get, get_in, through, sets, is, env}
use contract.Running.{tables}
use denote.Exit.{no}
use denote.RattleType.{RattleType, owns}
use denote.Signature.{types_at, plain}
use denote.Memory.{cell_at, part_at}
use denote.RawPtr.{Ptr, RawPtr, block_ptr, null_ptr, ptr_val, in_a_block, lies_at}
use denote.Laws.{Is, shows}
use denote.Steps.{nothing, opens, closes, peeks}
use denote.Param.{param, layout, layouts}
use denote.Struct.Struct.{Struct}
use denote.Struct.Owning.{shape}
use denote.Triple.Walked.{Stays, stay_dropped, stay_ref, walk_of, Goes-dropped, Goes-ref}
use Rattle.std.proofs.alloc.Calls.{Goes-blank}
use Rattle.std.proofs.raw_atomic.Walks.{proved_at, leaves}
use Rattle.std.proofs.RawLayout.{as_written}
use Rattle.std.proofs.RcSteps.{Ptr-Good, word, word-Good}
use Rattle.std.proofs.VecSteps.Shapes.{after}
use Rattle.std.specs.contracts.impls.GlobalAllocator.TheImpl.{ghosts}
use Rattle.std_alloc.specs.Vacant.{vacant}
use Rattle.event_queue.specs.Ring.{Placed, placed}
use Rattle.event_queue.specs.RingMemory.{next_of, link_room, node_type, entry_offset, entry_room, rest_of_block}
use Rattle.event_queue.specs.contracts.node.ring.pointers.Node as node
use Rattle.event_queue.specs.contracts.node.ring.pointers.Pile as pile
use Rattle.event_queue.proofs.Ring.Blocks.{Room, block_cut}
use Rattle.event_queue.proofs.Ring.Walks.{ring_Good, ring_val, Fields, handle, fields_stored, fields_made, entry_is_one_value, entry_in, link_in, word_made, ensure_two}
use Rattle.event_queue.specs.contracts.node.ring.pointers.Pile.fill.{ended, clauses}
use Rattle.event_queue.specs.contracts.node.ring.pointers.Pile.fill.Key.{name as #self}
use Rattle.event_queue.proofs.node.ring.pointers.Pile.fill.Statement.{statement}
use Rattle.event_queue.proofs.node.ring.pointers.Pile.fill.Code as code

pub fill_spec : {M : Type 1} → statement M
fill_spec 𝓤 𝓛 𝓜 𝓡 wired X L =
    let H = 𝓛.H in let 𝓣 = tables 𝓤 H 𝓜 𝓡 𝓡.env in let R : RattleType = param 0 X in let En = ended X in let inst = layouts (a_type ∷ []) (X, tt) in let fn = inst_fn inst code.function in
    let Pile : RattleType = pile.the_row R in let PD : RattleType = Struct (shape (pile.the_type R)) in let D : RattleType = Fields R in let Va : RattleType = Room R in let c = clauses X 𝓛 𝓜.mem 𝓡.returns in
    let self = plain (λ _. Pile) in let hs : Stays En.signature.params En.kept = (stay_ref (0 ∷ []) tt self, (stay_dropped (plain (λ _. Va)) no, (stay_dropped (plain (λ _. R)) no, tt))) in
    proved_at 𝓛 En hs c 𝓜 𝓡 (Goes-ref 𝓛 2 0 tt self, (Goes-blank 𝓛 2 (plain (λ _. Va)) no (λ κs x f. tt), (Goes-dropped 𝓛 2 (plain (λ _. R)) no (λ κs x f. refl), tt)))
    (#self inst) fn (code.unfolded 𝓤 H 𝓜 𝓡 wired (X, tt)) (λ z are.
    let κs = z.0.0 in let qs = z.0.1 in let b : ℕ = z.0.3.0.ref_ptr.0 in let o : ℕ = z.0.3.0.ref_ptr.1 in let κ : Lft = κs.0 in let d : Pile.Denot = z.0.3.0.now in
    let room : Va.Denot = z.0.3.1.0 in let entry : X.Denot = z.0.3.1.1.0 in let eo : ℕ = entry_offset R in
    let others : Fml = fsep (flft κs.1.0 qs.1.0) ftrue in let Post : Val → SProp 𝓤 = (walk_of 𝓛 En hs c).post z in let Run : List Val → SProp 𝓤 = λ us. WpFn 𝓤 H 𝓣.C 𝓣.Λ fn us Post in
    qed 𝓛 (((‵ (flft κ qs.0) ⊛ ‵ others) ⊛ ‵ (owns (types_at En.signature.params κs) z.0.3 z.0.4)) ∷ raw ((c κs z.0.3).requires z.1) ∷ []) ∵ split ! $ split ! $ move ! (2 ∷ []) $
    fsplit ! $ fsplit3 ! $ feq_l ! (λ e0. move ! (2 ∷ []) $ fsplit ! $ fsplit ! $ peeks ! D (Is D) (shows 𝓛 D) (room.ptr, (handle, tt)) z.0.4.1.0
    (λ stored. move ! (2 ∷ []) $ fsplit ! $ entry_is_one_value X L ! entry z.0.4.1.1.0 (λ v e2 gv. keep ! (3 ∷ 0 ∷ 4 ∷ 5 ∷ 6 ∷ 7 ∷ []) $
    regoal ! (λ (us : List Val). prop (Run us)) (λ i. e0 i ++ (fields_stored R room.ptr z.0.4.1.0 stored i ++ (e2 i ++ []))) refl $
    -- [the room; what the entry owns; the borrow, in two entries; its token; the other tokens]
    enter ! 𝓣.C 𝓣.Λ fn (vptr b o ∷ ring_val room.ptr ∷ v ∷ []) Post $ alloc_all ! (λ l. pass_all ! refl ((tt, tt), (ring_Good R room.ptr, (gv, tt))) $ let Ev = env fn.locals l in
    in_a_block ! room.ptr (λ p. vacant (ghosts.dealloc_token room.alloc) (node.the_row R) p) (fst∗ 𝓤 (never 𝓤) (sem 𝓛 (ghosts.dealloc_token room.alloc (node_type R) null_ptr))) (λ pb po ep.
    let p : Ptr = block_ptr pb po in let n : Placed X.Denot = placed p entry in let new : Pile.Denot = record { top = p; alloc = d.alloc; nodes = n ∷ d.nodes } in
    fsplit ! $ use1 𝓛 (‵ (fsep (link_room p) (entry_room R p)) ⊛ ‵ (rest_of_block R p)) (block_cut X 𝓛 pb po) $ split ! $ move ! (2 ∷ 1 ∷ []) $ fjoin ! $ move ! (1 ∷ []) $ fsplit ! $ fsplit ! $
    move ! (2 ∷ []) $ as_written ! (layout X) pb (po + eo) $
    -- [room for the entry; for next; for previous; the block; what the entry owns; the borrow, in two entries; its token; ..]
    move ! (5 ∷ 6 ∷ 7 ∷ []) $ opens ! tt Pile {h = d} b o
    (λ vs. move ! (1 ∷ []) $ fsplit ! $ peeks ! PD (Is PD) (shows 𝓛 PD) (d.top, (handle, tt)) vs (λ so. let ev : vs ≡ ring_val d.top ∷ [] = fields_stored R d.top vs so in
    rewrite ! 2 (λ (ws : List Val). ‵ (cell_at full_share Pile.mir ws b o)) ev refl $
    move ! (2 ∷ []) $ use1 𝓛 (‵ (fat full_share (layout Pile) b o (ring_val d.top))) (𝓛.laws.raw_at full_share (layout Pile) b o (ring_val d.top)) $ move ! (1 ∷ []) $ drop ! $
    move ! (1 ∷ []) $ fsplit ! $ feq_l ! (λ et.
    -- [the nodes below; the fields' cell; the open borrow, in three entries; room for the entry; for next; for previous; the block; what the entry owns; the other tokens; the locals]
    sets ! (is ! (of_opd ! (get_in ! (fld ! refl (stop !)) (sub ! 0 refl (whole !)))) (ap ptr_val ep)) refl (tt, tt) $ first ! $ blocks ! $
    sets ! (of_opd ! (load ! (through ! refl (fld ! refl (stop !))) (look_in ! 1 (sub ! 0 refl (whole !))))) refl (Ptr-Good d.top) $
    assigns ! (of_opd ! (get ! refl)) (through ! refl (fld ! refl (stop !))) (init ! 6 refl (Ptr-Good d.top)) $
    sets ! (addr ! (through ! refl (fld ! refl (stop !)))) refl (tt, tt) $ sets ! (of_opd ! (get ! refl)) refl gv $
    assigns_last ! (of_opd ! (get ! refl)) (through ! refl (stop !)) (init ! 5 refl gv) $
    exec ! 𝓣.C 𝓣.Λ Ev (after 2 fn.body) (at_ret Ev Post) $
    assigns ! (of_opd ! (get ! refl)) (through ! refl (fld ! refl (stop !))) (store_in ! 1 (sub ! 0 refl (whole !)) (tt, tt)) $
    sets ! (agg ! (and_then ! (get ! refl) (no_more !))) refl (word-Good [] p) $
    move ! (5 ∷ 9 ∷ []) $ use2 𝓛 (‵ (part_at R full_share entry pb (po + eo))) (entry_in 0 X L 𝓛 entry pb (po + eo) v) $ move ! (0 ∷ 8 ∷ []) $ fjoin ! $ fjoin ! $
    -- [the node and those below; the fields' cell; the open borrow, in three entries; its next; room for its previous; the other tokens; the locals]
    move ! (5 ∷ []) $ link_in ! d.top pb (po + 0) $ rewrite ! 0 (λ (q : Ptr). ‵ (lies_at RawPtr full_share (next_of p) q)) et refl $ move ! (0 ∷ 6 ∷ []) $ fjoin ! $ fjoin ! $
    feq_i ! Ptr p p refl $ fjoin ! $ use0 𝓛 (‵ (PD.own_val (p, (handle, tt)) (ring_val p ∷ []))) (fields_made R 𝓛 p) $ fjoin ! $
    -- [the pile; its cell; the open borrow, in three entries; the other tokens; the locals]
    move ! (1 ∷ []) $ use1 𝓛 (‵ (cell_at full_share Pile.mir (ring_val p ∷ []) b o)) (𝓛.laws.at_raw full_share (layout Pile) b o (ring_val p)) $ closes ! tt Pile new (ring_val p ∷ []) b o $
    feq_i ! (List Val) z.0.4.0 (vptr b o ∷ []) e0 $ fjoin3 ! $ nothing ! $ nothing ! $ fjoin ! $ nothing ! $ fjoin ! $ move ! (1 ∷ 0 ∷ []) $ fjoin ! $ move ! (1 ∷ 2 ∷ []) $ join ! $
    word_made ! p $ ensure_two ! (p ≡ room.ptr) (new.nodes ≡ placed room.ptr entry ∷ d.nodes) (sym ep) (λ i. placed (sym ep i) entry ∷ d.nodes) $
    returns ! (look_at ! 0 refl) $ free_all ! refl $ keep ! (2 ∷ 3 ∷ 1 ∷ 0 ∷ []) $ by ! (leaves 𝓛 En hs c z (word p) (record { ptr = p }) (new, (tt, (tt, tt))) (tt, (tt, (tt, tt)))))))))))))
