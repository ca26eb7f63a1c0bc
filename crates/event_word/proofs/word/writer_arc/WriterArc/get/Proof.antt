-- `get` lends what a `&` to it shows.
use Rattle.event_slot.proofs.Names.{◌≡◌, ℕ, ◌+◌, List, [], ◌∷◌, ◌++◌, sym, refl, ap, ◌∙◌, a_type, named, dcons, dnil, Val, vptr, inst_fn, SProp, emp, Lft, Incl, Incl-trans, Fml, ftrue, fsep, flft, fhide, ◌⊑◌, ⊑_meet, shown, fact_i, tables, ‵, raw, ◌⊛◌, given, at_ret, ◌$◌, ◌∵◌, !, qed, by, move, keep, drop, split, join, fsplit, fjoin, learn, heard, use0, use1, use2, rewrite, feq_i, stop, fld, hop, addr, of_opd, first, blocks, exec, returns, enter, alloc_all, pass_all, free_all, look_at, get, through, sets, sets_last, env, yes, RattleType, owns, types_at, plain, Ptr, InBlock, block_ptr, ptr_val, block_of, count_of, at_block, nothing, peeks, looks, shuts, unhide, Is, shows, cell_at, hidden_shr, param, param_laws, bounded, RefOf, shr_vals, shr_Tells, lent_out, Stays, stay_dropped, walk_of, Goes-dropped, tail, proved, leaves}
use types.Run.{look}
use denote.Opens.{hide}
use denote.Copied.{plain_Copied}
use denote.Sharing.{one, beside}
use denote.RawPtr.{RawPtr, coded_ptr, ptr_own, rawptr_pure}
use denote.Struct.Laws.{RawPtr-laws}
use denote.Struct.Owning.{shape}
use denote.Struct.Struct.{Struct}
use mir.Syntax.{ty_ptr}
use Rattle.std.specs.contracts.alloc.Global as Heap
use Rattle.std.specs.contracts.impls.GlobalAllocator.TheImpl.{ghosts}
use Rattle.event_slot.specs.Holding.{place, inner_shares}
use Rattle.event_slot.specs.contracts.leased.Leased as leased
use Rattle.event_slot.proofs.Owning.{inner_seen}
use Rattle.event_word.specs.contracts.word.writer_arc.WriterArc as owner
use Rattle.event_word.proofs.Placing.{Row, lives_in}
use Rattle.event_word.specs.contracts.word.writer_arc.WriterArc.get.{ended, clauses}
use Rattle.event_word.specs.contracts.word.writer_arc.WriterArc.get.Key.{name as #self}
use Rattle.event_word.proofs.word.writer_arc.WriterArc.get.Statement.{statement}
use Rattle.event_word.proofs.word.writer_arc.WriterArc.get.Code as code

pub get_spec : {M : Type 1} → statement M
get_spec 𝓤 𝓛 𝓜 𝓡 wired L X S _ LX _ h d k d' _ _ =
    let H = 𝓛.H in let 𝓣 = tables 𝓤 H 𝓜 𝓡 𝓡.env in let P : RattleType = param 0 L in let R₀ : RattleType = param 1 X in let Q : RattleType = param 2 S in let B : RattleType = Heap.the_row in let R : RattleType = Row R₀ in let LR = param_laws 1 X LX in
    let En = ended L X S h d k d' in let c = clauses L X S h d k d' 𝓛 𝓜.mem 𝓡.returns in let Tr : RattleType = owner.the_row P R₀ Q h k in
    let inst = bounded (a_type ∷ a_type ∷ a_type ∷ []) (L, (X, (S, tt))) (dcons d (dcons d' dnil)) in let fn = inst_fn inst code.function in
    let self = RefOf (0 ∷ []) tt (plain (λ _. Tr)) (λ _. tt) in let hs : Stays En.signature.params En.kept = (stay_dropped self yes, tt) in
    proved 𝓛 En hs c 𝓜 𝓡 (Goes-dropped 𝓛 4 self yes (λ κs x e. refl), tt) (#self inst) fn (code.unfolded 𝓤 H 𝓜 𝓡 wired (L, (X, (S, tt))) d d')
    (λ κs. (shr_vals, tt)) (λ κs. (shr_Tells (named 0) κs.0 Tr, tt)) (λ κs qs bounds a gh are.
    let D : RattleType = Struct (shape (owner.the_type P R₀ Q h k)) in let b : ℕ = a.0.ref_ptr.0 in let o : ℕ = a.0.ref_ptr.1 in let κ : Lft = κs.0 in let τ : Lft = κs.1.0 in let χ : Lft = κs.1.1.0 in let σ : Lft = κs.1.1.1.0 in let ρ : Lft = P.lives ++ (R.lives ++ Q.lives) in
    let ht : Tr.Denot = a.0.now in let p : Ptr = ht.slot in let x : X.Denot = ht.value in let i : ℕ = ht.arc.life in let β : Lft = i ∷ ρ in let pb : ℕ = block_of p in let po : ℕ = count_of p in let e : ℕ = place R pb po in
    let y : (walk_of 𝓛 En hs c).Ghost = ((κs, qs, bounds, a, (vptr b o ∷ [], tt)), gh) in let Post : Val → SProp 𝓤 = (walk_of 𝓛 En hs c).post y in
    let others : Fml = fsep (flft τ qs.1.0) (fsep (flft χ qs.1.1.0) (fsep (flft σ qs.1.1.1.0) ftrue)) in
    qed 𝓛 (((‵ (flft κ qs.0) ⊛ ‵ others) ⊛ ‵ (owns (types_at En.signature.params κs) a y.0.4)) ∷ raw (shown 𝓤 (τ ⊑ L.lives)) ∷ raw (shown 𝓤 (χ ⊑ X.lives)) ∷ raw (shown 𝓤 (σ ⊑ S.lives)) ∷ raw (emp 𝓤) ∷ []) ∵
    keep ! (1 ∷ 2 ∷ 3 ∷ 0 ∷ []) $ heard ! (τ ⊑ L.lives) (λ lt. heard ! (χ ⊑ X.lives) (λ lx. heard ! (σ ⊑ S.lives) (λ ls. split ! $ split ! $ move ! (2 ∷ []) $ fsplit ! $ fsplit ! $ keep ! (1 ∷ 3 ∷ 4 ∷ []) $
    let inc : Incl κ ρ = ⊑_meet κ P.lives (R.lives ++ Q.lives) (Incl-trans bounds.0 lt) (⊑_meet κ R.lives Q.lives (lives_in R₀ κ (Incl-trans bounds.1.0 lx)) (Incl-trans bounds.1.1.0 ls)) in
    enter ! 𝓣.C 𝓣.Λ fn (vptr b o ∷ []) Post $ alloc_all ! (λ l. pass_all ! refl ((tt, tt), tt) $ let Ev = env fn.locals l in
    use1 𝓛 (‵ (hidden_shr D κ (p, (ht.arc, tt)) b o) ⊛ ‵ (fhide (beside (one (λ q. flft (i ∷ []) q)) (inner_shares β R R₀ p x) κ)))
    (lent_out 𝓛 (owner.struct P R₀ Q h k) (owner.the_codes L.Denot X.Denot S.Denot P.coded R₀.coded Q.coded (leased.the_row P B ghosts).coded B.coded) (owner.the_heap P R₀ Q h k) (owner.the_lent P R₀ Q h k) κ ht b o) $
    split ! $ move ! (1 ∷ []) $ unhide ! $ fsplit ! $
    use2 𝓛 (given (InBlock p) (‵ (hidden_shr R₀ κ x pb e))) (inner_seen 𝓛 R R₀ LR.shr_laws ρ i κ inc p x) $ learn ! (λ inb. let at : p ≡ block_ptr pb po = at_block p inb in
    -- [the value, lent; the bytes; the token; the other tokens]. Of the bytes the pointer is read
    move ! (1 ∷ []) $ unhide ! $ fsplit ! $ move ! (1 ∷ []) $ drop ! $ fsplit ! $ move ! (1 ∷ []) $ drop ! $ hide ! $ move ! (0 ∷ 2 ∷ []) $
    looks ! tt RawPtr (plain_Copied 𝓛 Ptr coded_ptr (ty_ptr ∷ []) ptr_own rawptr_pure ptr_val RawPtr-laws.tells).opens p b (o + 0) (λ q vs. move ! (1 ∷ []) $ peeks ! RawPtr (Is RawPtr) (shows 𝓛 RawPtr) p vs (λ is_so. let ev : vs ≡ vptr pb po ∷ [] = is_so ∙ ap (λ (r : Ptr). ptr_val r ∷ []) at in
    rewrite ! 1 (λ (ws : List Val). ‵ (cell_at q RawPtr.mir ws b (o + 0))) ev refl $ first ! $ blocks ! $
    sets ! (addr ! (through ! refl (fld ! refl (hop ! (look ! 1 refl) (fld ! refl (stop !)))))) refl (tt, tt) $ sets_last ! (addr ! (through ! refl (stop !))) refl (tt, tt) $ exec ! 𝓣.C 𝓣.Λ Ev (tail fn.body) (at_ret Ev Post) $ sets ! (of_opd ! (get ! refl)) refl (tt, tt) $
    rewrite ! 1 (λ (ws : List Val). ‵ (cell_at q RawPtr.mir ws b (o + 0))) (sym ev) refl $ move ! (1 ∷ 0 ∷ 2 ∷ []) $ shuts ! tt RawPtr q p vs b (o + 0) $ move ! (0 ∷ 3 ∷ []) $ join ! $
    move ! (2 ∷ []) $ feq_i ! (List Val) (vptr pb e ∷ []) (vptr pb e ∷ []) refl $ fjoin ! $ use0 𝓛 (raw (shown 𝓤 (x ≡ x))) (fact_i 𝓤 (x ≡ x) (emp 𝓤) refl) $ nothing ! $ nothing ! $ fjoin ! $
    returns ! (look_at ! 0 refl) $ free_all ! refl $ keep ! (3 ∷ 0 ∷ 2 ∷ 1 ∷ []) $ by ! (leaves 𝓛 En hs c y (vptr pb e) (record { ref_ptr = (pb, e); now = x }) (tt, tt) (tt, tt))))))))))
