-- `look_at` reads the link of an edge and the entry of a node that the ring lends.
use Rattle.std.proofs.Common.{◌≡◌, ℕ, ◌+◌, List, [], ◌∷◌, ◌++◌, refl, sym, ap, ◌∙◌}
use mir.Syntax.{a_type, named}
use mir.Val.{Val, vptr}
use mir.MapTy.{inst_fn}
use base.Fraction.{full_share}
use base.Logic.{SProp}
use base.Fml.{Lft, Fml, ftrue, fsep, fat, flft}
use prog.Wp.{WpFn}
use types.Kit.{‵, raw, ◌⊛◌, prop, at_ret, ◌$◌, ◌∵◌, !, qed, by, move, keep, drop, split, join, regoal, rewrite, fsplit, fjoin, feq_i, feq_l, use1, use2, done}
use types.Part.{whole, sub, agg}
use types.Run.{look, stop, hop, fld, from, load, of_opd, addr, and_then, no_more, first, blocks, exec, returns, enter}
use types.ByLocal.{alloc_all, pass_all, free_all, look_at, look_in_at, get, sets, sets_last, take_at, give_at, env}
use contract.Running.{tables}
use contract.Monad.{fact}
use denote.Exit.{yes, no}
use denote.RattleType.{RattleType, owns}
use denote.Signature.{types_at, plain}
use denote.RawPtr.{Ptr, RawPtr, block_ptr, null_ptr, in_a_block}
use denote.Opens.{hide, unhide}
use denote.Steps.{nothing, heard}
use denote.Param.{param, layout, layouts}
use denote.Builtin.{RefOf}
use denote.Ref.{Bor, ShrRef}
use denote.Struct.Struct.{as_fields}
use denote.Struct.Lending.{lent_at}
use denote.Struct.Tuple.{Tuple}
use denote.Triple.Walked.{Stays, stay_dropped, walk_of, Goes-dropped}
use Rattle.std.proofs.raw_atomic.Walks.{proved_at, leaves}
use Rattle.std.proofs.VecSteps.Shapes.{after}
use Rattle.std.proofs.RcSteps.{Ptr-Good, word, word-Good}
use Rattle.event_queue.specs.Ring.{Placed, placed, places, first_place, IsAt, AtNode}
use Rattle.event_queue.specs.RingMemory.{next_of, edge_lent, path_lent, entry_offset, entry_of, nodes_lent}
use Rattle.event_queue.specs.contracts.node.ring.pointers.Ring as ring
use Rattle.event_queue.specs.contracts.node.ring.pointers.NodePtr as node_ptr
use Rattle.event_queue.proofs.Ring.Places.{round_cut, round_first, same_node}
use Rattle.event_queue.proofs.Ring.Walks.{word_stored, word_made, link_looks, link_shuts, edge_seen, node_seen, ensure_two, pair_val, pair_of}
use Rattle.event_queue.specs.contracts.node.ring.pointers.Ring.look_at.{ended, clauses}
use Rattle.event_queue.specs.contracts.node.ring.pointers.Ring.look_at.Key.{name as #self}
use Rattle.event_queue.proofs.node.ring.pointers.Ring.look_at.Statement.{statement}
use Rattle.event_queue.proofs.node.ring.pointers.Ring.look_at.Code as code

pub look_at_spec : {M : Type 1} → statement M
look_at_spec 𝓤 𝓛 𝓜 𝓡 wired X L =
    let H = 𝓛.H in let 𝓣 = tables 𝓤 H 𝓜 𝓡 𝓡.env in let R : RattleType = param 0 X in let En = ended X in let inst = layouts (a_type ∷ []) (X, tt) in let fn = inst_fn inst code.function in
    let Row : RattleType = ring.the_row R in let Np : RattleType = node_ptr.the_row R in let c = clauses X 𝓛 𝓜.mem 𝓡.returns in
    let self = RefOf (0 ∷ []) tt (plain (λ _. Row)) (λ _. tt) in let hs : Stays En.signature.params En.kept = (stay_dropped self yes, (stay_dropped (plain (λ _. Np)) no, tt)) in
    proved_at 𝓛 En hs c 𝓜 𝓡 (Goes-dropped 𝓛 2 self yes (λ κs x f. refl), (Goes-dropped 𝓛 2 (plain (λ _. Np)) no (λ κs x f. refl), tt)) (#self inst) fn (code.unfolded 𝓤 H 𝓜 𝓡 wired (X, tt)) (λ z are.
    let κs = z.0.0 in let qs = z.0.1 in let b : ℕ = z.0.3.0.ref_ptr.0 in let o : ℕ = z.0.3.0.ref_ptr.1 in let κ : Lft = κs.0 in let d : Row.Denot = z.0.3.0.now in let node : Np.Denot = z.0.3.1.0 in
    let others : Fml = fsep (flft κs.1.0 qs.1.0) ftrue in let Post : Val → SProp 𝓤 = (walk_of 𝓛 En hs c).post z in let Run : List Val → SProp 𝓤 = λ us. WpFn 𝓤 H 𝓣.C 𝓣.Λ fn us Post in
    qed 𝓛 (((‵ (flft κ qs.0) ⊛ ‵ others) ⊛ ‵ (owns (types_at En.signature.params κs) z.0.3 z.0.4)) ∷ raw (fact 𝓤 _) ∷ raw (fact 𝓤 (IsAt d.nodes node.ptr)) ∷ []) ∵
    keep ! (2 ∷ 0 ∷ []) $ heard ! (IsAt d.nodes node.ptr) (λ asked. split ! $ split ! $ move ! (2 ∷ []) $
    fsplit ! $ fsplit ! $ feq_l ! (λ e0. move ! (1 ∷ []) $ fsplit ! $ word_stored ! node.ptr z.0.4.1.0 (λ e1. keep ! (1 ∷ 2 ∷ 3 ∷ []) $
    regoal ! (λ (us : List Val). prop (Run us)) (λ i. e0 i ++ (e1 i ++ [])) refl $
    let xs = asked.0 in let n : Placed X.Denot = asked.1 in let ys = asked.2 in let next : Ptr = first_place ys d.at in let behind = round_first ys d.at in
    let cut : places d.nodes ++ d.at ∷ [] ≡ places xs ++ n.at ∷ next ∷ behind.0 =
    ap (λ ns. places ns ++ d.at ∷ []) asked.3 ∙ round_cut xs n ys d.at ∙ ap (λ ps. places xs ++ n.at ∷ ps) behind.1 in
    let Seen : Ptr → Fml = λ p. fsep (lent_at R (entry_of R p) n.entry κ) (lent_at RawPtr (next_of p) next κ) in
    enter ! 𝓣.C 𝓣.Λ fn (vptr b o ∷ word node.ptr ∷ []) Post $ alloc_all ! (λ l. pass_all ! refl ((tt, tt), (word-Good [] node.ptr, tt)) $ let Ev = env fn.locals l in
    unhide ! $ fsplit ! $ drop ! $ fsplit ! $ rewrite ! 0 (λ (ps : List Ptr). ‵ (path_lent d.at ps κ)) cut refl $
    use1 𝓛 (‵ (edge_lent n.at next κ)) (edge_seen 𝓛 κ d.at (places xs) n.at next behind.0) $ fsplit ! $ move ! (1 ∷ []) $ drop ! $ move ! (1 ∷ []) $
    rewrite ! 0 (λ (ns : List (Placed X.Denot)). ‵ (nodes_lent R ns κ)) (ap (λ ns. placed d.at d.entry ∷ ns) asked.3) refl $
    use1 𝓛 (‵ (lent_at R (entry_of R n.at) n.entry κ)) (node_seen 𝓛 R κ (placed d.at d.entry ∷ xs) n ys) $ fjoin ! $
    in_a_block ! n.at Seen (qed 𝓛 (‵ (Seen null_ptr) ∷ []) ∵ fsplit ! $ fsplit ! $ keep ! (0 ∷ []) $ done !) (λ pb po e.
    let ep : node.ptr ≡ block_ptr pb po = sym asked.4 ∙ e in
    let entry : Bor X.Denot = record { ref_ptr = (pb, po + entry_offset R); now = n.entry } in let out : Np.Denot = record { ptr = next } in
    let u : Val = vptr pb (po + entry_offset R) in let good = as_fields (layout (ShrRef (named 0) κ R) ∷ layout Np ∷ []) (u ∷ word next ∷ []) ((tt, tt), (word-Good [] next, tt)) in
    take_at ! 2 $ rewrite ! 0 (λ (p : Ptr). ‵ (fat full_share (layout Np) (l 2) 0 (word p))) ep refl $ give_at ! 2 $
    fsplit ! $ move ! (1 ∷ []) $ fsplit ! $ drop ! $ hide ! $ move ! (0 ∷ 2 ∷ []) $ link_looks ! tt next pb (po + 0) (λ s.
    -- [the link's cell; how it is shut; the entry seen; the other tokens; the locals]
    first ! $ blocks ! $ sets ! (addr ! (from ! (fld ! refl (hop ! (look_in_at ! 2 (sub ! 0 refl (whole !))) (fld ! refl (stop !)))))) refl (tt, tt) $
    sets ! (of_opd ! (load ! (from ! (fld ! refl (hop ! (look_in_at ! 2 (sub ! 0 refl (whole !))) (fld ! refl (stop !))))) (look ! 0 refl))) refl (Ptr-Good next) $
    sets ! (agg ! (and_then ! (get ! refl) (no_more !))) refl (word-Good [] next) $ sets_last ! (agg ! (and_then ! (get ! refl) (and_then ! (get ! refl) (no_more !)))) refl good $
    exec ! 𝓣.C 𝓣.Λ Ev (after 1 fn.body) (at_ret Ev Post) $ sets ! (of_opd ! (get ! refl)) refl good $
    link_shuts ! tt next pb (po + 0) $ move ! (0 ∷ 2 ∷ []) $ join ! $
    move ! (1 ∷ []) $ fsplit ! $ drop ! $ hide ! $ feq_i ! (List Val) (u ∷ []) (u ∷ []) refl $ fjoin ! $ word_made ! next $ move ! (1 ∷ 0 ∷ []) $
    use2 𝓛 (‵ ((Tuple (ShrRef (named 0) κ R ∷ Np ∷ [])).own_val (entry, out) (pair_val u (word next) ∷ []))) (pair_of 𝓛 (ShrRef (named 0) κ R) Np entry out u (word next)) $
    let same = λ (us : List (Placed X.Denot)) (m : Placed X.Denot) (vs : List (Placed X.Denot)) (at_cut : d.nodes ≡ us ++ m ∷ vs)
    (at : m.at ≡ node.ptr). same_node d.at d.nodes xs n ys us m vs d.apart asked.3 at_cut (asked.4 ∙ sym at) in
    ensure_two ! (AtNode d.nodes node.ptr (λ _ m _. n.entry ≡ m.entry)) (AtNode d.nodes node.ptr (λ _ _ vs. next ≡ first_place vs d.at))
    (λ us m vs at_cut at. ap (λ (k : Placed X.Denot). k.entry) (same us m vs at_cut at).1) (λ us m vs at_cut at. ap (λ ks. first_place ks d.at) (same us m vs at_cut at).2) $
    nothing ! $ nothing ! $ fjoin ! $ nothing ! $ fjoin ! $
    returns ! (look_at ! 0 refl) $ free_all ! refl $ keep ! (3 ∷ 0 ∷ 2 ∷ 1 ∷ []) $ by ! (leaves 𝓛 En hs c z (pair_val u (word next)) (entry, out) (tt, (tt, tt)) (tt, (tt, tt))))))))))
