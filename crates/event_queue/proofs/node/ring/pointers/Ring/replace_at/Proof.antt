-- `replace_at` reads what the node carries, and writes something else in its place.
use Rattle.std.proofs.Common.{◌≡◌, ℕ, ◌+◌, List, [], ◌∷◌, ◌++◌, refl, sym, ap, ◌∙◌, subst}
use mir.Syntax.{a_type}
use mir.Val.{Val, vptr}
use mir.MapTy.{inst_fn}
use base.Fraction.{full_share}
use base.Logic.{SProp, never, id⊢}
use base.Fml.{Lft, Fml, ftrue, fsep, fat, flft}
use prog.Wp.{WpFn}
use types.Kit.{‵, raw, ◌⊛◌, prop, some, given, pick, learn, at_ret, ◌$◌, ◌∵◌, !, qed, by, move, keep, split, join, regoal, rewrite, fsplit, fsplit3, fjoin, fjoin3, feq_i, feq_l, use1, use2}
use types.Part.{whole, sub}
use types.Run.{look, store, stop, hop, fld, from, addr, load, of_opd, assigns, first, blocks, exec, returns, enter}
use types.ByLocal.{look_in_at, sets_last, take_at, give_at, alloc_all, pass_all, free_all, look_at, get, through, sets, env}
use contract.Running.{tables}
use contract.Monad.{fact}
use denote.Exit.{no}
use denote.RattleType.{RattleType, owns}
use denote.Signature.{types_at, plain}
use denote.Memory.{part_at}
use denote.RawPtr.{Ptr, lies_at, in_a_block}
use denote.Steps.{nothing, heard, opens, closes}
use denote.Param.{param, layout, layouts}
use denote.Triple.Walked.{Stays, stay_dropped, stay_ref, walk_of, Goes-dropped, Goes-ref}
use Rattle.std.proofs.raw_atomic.Walks.{proved_at, leaves}
use Rattle.std.proofs.VecSteps.Shapes.{after}
use Rattle.std.proofs.RcSteps.{Good, word, word-Good}
use Rattle.event_queue.specs.Ring.{Placed, placed, places, IsApart, IsAt, AtNode}
use Rattle.event_queue.specs.RingMemory.{entry_offset, entry_of, path, node_owns, nodes_own}
use Rattle.event_queue.specs.contracts.node.ring.pointers.Ring as ring
use Rattle.event_queue.specs.contracts.node.ring.pointers.NodePtr as node_ptr
use Rattle.event_queue.proofs.Ring.Places.{places_cut, apart_replaced, same_node}
use Rattle.event_queue.proofs.Ring.Walks.{word_stored, entry_is_one_value, entry_out, entry_in, nodes_cut, nodes_glue, ensure_two}
use Rattle.event_queue.specs.contracts.node.ring.pointers.Ring.replace_at.{ended, clauses}
use Rattle.event_queue.specs.contracts.node.ring.pointers.Ring.replace_at.Key.{name as #self}
use Rattle.event_queue.proofs.node.ring.pointers.Ring.replace_at.Statement.{statement}
use Rattle.event_queue.proofs.node.ring.pointers.Ring.replace_at.Code as code

pub replace_at_spec : {M : Type 1} → statement M
replace_at_spec 𝓤 𝓛 𝓜 𝓡 wired X L =
    let H = 𝓛.H in let 𝓣 = tables 𝓤 H 𝓜 𝓡 𝓡.env in let R : RattleType = param 0 X in let En = ended X in let inst = layouts (a_type ∷ []) (X, tt) in let fn = inst_fn inst code.function in
    let Row : RattleType = ring.the_row R in let Np : RattleType = node_ptr.the_row R in let c = clauses X 𝓛 𝓜.mem 𝓡.returns in
    let self = plain (λ _. Row) in let hs : Stays En.signature.params En.kept = (stay_ref (0 ∷ []) tt self, (stay_dropped (plain (λ _. Np)) no, (stay_dropped (plain (λ _. R)) no, tt))) in
    proved_at 𝓛 En hs c 𝓜 𝓡 (Goes-ref 𝓛 2 0 tt self, (Goes-dropped 𝓛 2 (plain (λ _. Np)) no (λ κs x f. refl), (Goes-dropped 𝓛 2 (plain (λ _. R)) no (λ κs x f. refl), tt)))
    (#self inst) fn (code.unfolded 𝓤 H 𝓜 𝓡 wired (X, tt)) (λ z are.
    let κs = z.0.0 in let qs = z.0.1 in let b : ℕ = z.0.3.0.ref_ptr.0 in let o : ℕ = z.0.3.0.ref_ptr.1 in let κ : Lft = κs.0 in let d : Row.Denot = z.0.3.0.now in
    let node : Np.Denot = z.0.3.1.0 in let entry : X.Denot = z.0.3.1.1.0 in
    let others : Fml = fsep (flft κs.1.0 qs.1.0) ftrue in let Post : Val → SProp 𝓤 = (walk_of 𝓛 En hs c).post z in let Run : List Val → SProp 𝓤 = λ us. WpFn 𝓤 H 𝓣.C 𝓣.Λ fn us Post in
    qed 𝓛 (((‵ (flft κ qs.0) ⊛ ‵ others) ⊛ ‵ (owns (types_at En.signature.params κs) z.0.3 z.0.4)) ∷ raw (fact 𝓤 _) ∷ raw (fact 𝓤 (IsAt d.nodes node.ptr)) ∷ []) ∵
    keep ! (2 ∷ 0 ∷ []) $ heard ! (IsAt d.nodes node.ptr) (λ asked. split ! $ split ! $ move ! (2 ∷ []) $
    fsplit ! $ fsplit3 ! $ feq_l !
    (λ e0. move ! (2 ∷ []) $ fsplit ! $ word_stored ! node.ptr z.0.4.1.0 (λ e1. fsplit ! $ entry_is_one_value X L ! entry z.0.4.1.1.0 (λ v e2 gv. keep ! (0 ∷ 2 ∷ 3 ∷ 4 ∷ 5 ∷ []) $
    regoal ! (λ (us : List Val). prop (Run us)) (λ i. e0 i ++ (e1 i ++ (e2 i ++ []))) refl $
    let xs = asked.0 in let n : Placed X.Denot = asked.1 in let ys = asked.2 in let n' : Placed X.Denot = placed n.at entry in let root : Placed X.Denot = placed d.at d.entry in
    let eo : ℕ = entry_offset R in
    let new : Row.Denot = record {
      at = d.at;
      alloc = d.alloc;
      entry = d.entry;
      nodes = xs ++ n' ∷ ys;
      apart = apart_replaced d.at xs n entry ys (subst (λ ns. IsApart (d.at ∷ places ns)) asked.3 d.apart);
    } in
    let here : places d.nodes ≡ places (xs ++ n' ∷ ys) = ap (λ ns. places ns) asked.3 ∙ places_cut xs n ys ∙ sym (places_cut xs n' ys) in
    enter ! 𝓣.C 𝓣.Λ fn (vptr b o ∷ word node.ptr ∷ v ∷ []) Post $ alloc_all ! (λ l. pass_all ! refl ((tt, tt), (word-Good [] node.ptr, (gv, tt))) $ let Ev = env fn.locals l in
    move ! (1 ∷ 2 ∷ 3 ∷ []) $ opens ! tt Row {h = d} b o (λ vs. move ! (1 ∷ []) $ fsplit ! $ move ! (1 ∷ []) $ fsplit ! $ move ! (1 ∷ []) $
    -- [the nodes; the path; the fields; their cell; the open borrow, in three entries; the new entry; the other tokens; the locals]
    rewrite ! 0 (λ (ns : List (Placed X.Denot)). ‵ (nodes_own R d.alloc (root ∷ ns))) asked.3 refl $
    use1 𝓛 (‵ (node_owns R d.alloc n) ⊛ ‵ (nodes_own R d.alloc (root ∷ xs ++ ys))) (nodes_cut 𝓛 R d.alloc (root ∷ xs) n ys) $ split ! $ fsplit ! $
    in_a_block ! n.at (λ p. lies_at R full_share (entry_of R p) n.entry) (id⊢ 𝓤 (never 𝓤)) (λ pb po e.
    use1 𝓛 (some (λ (w : Val). given (Good (layout X) w) (‵ (fat full_share (layout X) pb (po + eo) w) ⊛ ‵ (X.own_val n.entry (w ∷ [])))))
    (entry_out 0 X L 𝓛 n.entry pb (po + eo)) $ pick ! (λ u. learn ! (λ gu. split ! $
    take_at ! 2 $ rewrite ! 0 (λ (p : Ptr). ‵ (fat full_share (layout Np) (l 2) 0 (word p))) (sym asked.4 ∙ e) refl $ give_at ! 2 $
    -- [the entry's cell; what it owns; the block; the other nodes; the path; the fields; their cell; the open borrow, in three entries; the new entry; ..]
    first ! $ blocks ! $ sets ! (addr ! (from ! (fld ! refl (hop ! (look_in_at ! 2 (sub ! 0 refl (whole !))) (fld ! refl (stop !)))))) refl (tt, tt) $
    sets ! (of_opd ! (load ! (through ! refl (stop !)) (look ! 0 refl))) refl gu $ sets ! (of_opd ! (get ! refl)) refl gv $
    assigns ! (of_opd ! (get ! refl)) (through ! refl (stop !)) (store ! 0 refl gv) $ sets_last ! (of_opd ! (get ! refl)) refl gu $
    exec ! 𝓣.C 𝓣.Λ Ev (after 1 fn.body) (at_ret Ev Post) $ sets ! (of_opd ! (get ! refl)) refl gu $
    move ! (0 ∷ 10 ∷ []) $ use2 𝓛 (‵ (part_at R full_share entry pb (po + eo))) (entry_in 0 X L 𝓛 entry pb (po + eo) v) $
    rewrite ! 0 (λ (p : Ptr). ‵ (lies_at R full_share (entry_of R p) entry)) (sym e) refl $ move ! (0 ∷ 2 ∷ []) $ fjoin ! $ move ! (0 ∷ 2 ∷ []) $
    use2 𝓛 (‵ (nodes_own R d.alloc (root ∷ xs ++ n' ∷ ys))) (nodes_glue 𝓛 R d.alloc (root ∷ xs) n' ys) $
    -- [the nodes; what the old entry owns; the path; the fields; their cell; ..]
    rewrite ! 2 (λ (ps : List Ptr). ‵ (path d.at (ps ++ d.at ∷ []))) here refl $ move ! (2 ∷ 0 ∷ []) $ fjoin ! $ move ! (2 ∷ 0 ∷ []) $ fjoin ! $ move ! (2 ∷ 0 ∷ 3 ∷ 4 ∷ 5 ∷ []) $
    closes ! tt Row new vs b o $
    feq_i ! (List Val) z.0.4.0 (vptr b o ∷ []) e0 $ fjoin3 ! $ nothing ! $ nothing ! $ fjoin ! $ nothing ! $ fjoin ! $ move ! (1 ∷ 0 ∷ []) $ fjoin ! $ move ! (1 ∷ 3 ∷ []) $ join ! $
    let same = λ (us : List (Placed X.Denot)) (m : Placed X.Denot) (ws : List (Placed X.Denot)) (at_cut : d.nodes ≡ us ++ m ∷ ws)
    (at : m.at ≡ node.ptr). same_node d.at d.nodes xs n ys us m ws d.apart asked.3 at_cut (asked.4 ∙ sym at) in
    ensure_two ! ((d.at ≡ d.at) × (d.entry ≡ d.entry)) (AtNode d.nodes node.ptr (λ us m ws. (new.nodes ≡ us ++ placed m.at entry ∷ ws) × (n.entry ≡ m.entry)))
    (refl, refl) (λ us m ws at_cut at. let s = same us m ws at_cut at in ((λ i. s.0 i ++ placed ((s.1 i).at) entry ∷ s.2 i), ap (λ (k : Placed X.Denot). k.entry) s.1)) $
    returns ! (look_at ! 0 refl) $ free_all ! refl $ keep ! (1 ∷ 2 ∷ 3 ∷ 0 ∷ []) $ by ! (leaves 𝓛 En hs c z u n.entry (new, (tt, (tt, tt))) (tt, (tt, (tt, tt))))))))))))))
