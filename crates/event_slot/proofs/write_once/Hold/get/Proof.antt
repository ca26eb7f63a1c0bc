-- `get` lends what was written, for as long as the cell is shared.
use Rattle.event_slot.proofs.Names.{◌≡◌, ℕ, List, [], ◌∷◌, ◌++◌, refl, ap, Option, Some, a_type, dcons, dnil, Val, vptr, inst_fn, SProp, emp, guard_i, sem, Lft, Fml, ftrue, fsep, flft, meet_⊑_right, shown, fact_i, fact_use, tables, ‵, raw, ◌⊛◌, some, given, at_ret, ◌$◌, ◌∵◌, !, qed, by, move, keep, drop, split, fsplit, fjoin, fpick, pick, learn, use0, use1, use2, rewrite, feq_i, stop, fld, addr, of_opd, first, blocks, exec, returns, enter, alloc_all, pass_all, free_all, look_at, get, get_in, through, sets, sets_last, is, env, sub, whole, no, RattleType, owns, types_at, plain, named_lft, Ptr, InBlock, block_ptr, ptr_val, block_of, count_of, at_block, nothing, heard, shared_of, param, param_laws, bounded, shortens, Stays, stay_dropped, walk_of, Goes-dropped, tail, proved, leaves}
use denote.Opens.{hide}
use denote.Moves.{moves_before}
use denote.Struct.Owning.{shape}
use Rattle.event_slot.specs.Written.{place, written, hold_owns}
use Rattle.event_slot.specs.contracts.write_once.Hold as hold
use Rattle.event_slot.proofs.Fields.{pointing, points, pointing_told}
use Rattle.event_slot.proofs.Setting.{placed, seen}
use Rattle.event_slot.specs.contracts.write_once.Hold.get.{ended, clauses}
use Rattle.event_slot.specs.contracts.write_once.Hold.get.Key.{name as #self}
use Rattle.event_slot.proofs.write_once.Hold.get.Statement.{statement}
use Rattle.event_slot.proofs.write_once.Hold.get.Code as code

pub get_spec : {M : Type 1} → statement M
get_spec 𝓤 𝓛 𝓜 𝓡 wired X Ky LX _ g d _ =
    let H = 𝓛.H in let A = 𝓛.A in let 𝓣 = tables 𝓤 H 𝓜 𝓡 𝓡.env in let R : RattleType = param 0 X in let Kr : RattleType = param 1 Ky in let En = ended X Ky g d in let c = clauses X Ky g d 𝓛 𝓜.mem 𝓡.returns in
    let inst = bounded (a_type ∷ a_type ∷ []) (X, (Ky, tt)) (dcons d dnil) in let fn = inst_fn inst code.function in let LR = param_laws 0 X LX in
    let self = plain (λ κs. hold.the_row (named_lft 3 0 tt κs) R Kr g) in let hs : Stays En.signature.params En.kept = (stay_dropped self no, tt) in
    proved 𝓛 En hs c 𝓜 𝓡 (Goes-dropped 𝓛 3 self no (λ κs x f. refl), tt) (#self inst) fn (code.unfolded 𝓤 H 𝓜 𝓡 wired (X, (Ky, tt)) d)
    (λ κs. ((λ h. pointing h.cell ∷ []), tt)) (λ κs. ((λ h vs so. pointing_told (shape (hold.the_type (named_lft 3 0 tt κs) R Kr g)) (named_lft 3 0 tt κs) R h.cell vs so.0), tt)) (λ κs qs bounds a gh are.
    let ℓ = named_lft 3 0 tt κs in let Hr : RattleType = hold.the_row ℓ R Kr g in let h : Hr.Denot = a.0 in let p : Ptr = h.cell in let b : ℕ = block_of p in let o : ℕ = count_of p in let β : Lft = κs.0 in let ok = g.fits h.key in let v : Option X.Denot = h.value in let e : ℕ = place R ok b o in
    let y : (walk_of 𝓛 En hs c).Ghost = ((κs, qs, bounds, a, (pointing p ∷ [], tt)), gh) in let Post : Val → SProp 𝓤 = (walk_of 𝓛 En hs c).post y in let others : Fml = fsep (flft κs.1.0 qs.1.0) (fsep (flft κs.1.1.0 qs.1.1.0) ftrue) in
    qed 𝓛 (((‵ (flft β qs.0) ⊛ ‵ others) ⊛ ‵ (owns (types_at En.signature.params κs) a y.0.4)) ∷ raw (shown 𝓤 _) ∷ raw (shown 𝓤 _) ∷ raw (shown 𝓤 (h.right ≡ 1)) ∷ []) ∵
    keep ! (3 ∷ 0 ∷ []) $ heard ! (h.right ≡ 1) (λ reads. split ! $ move ! (1 ∷ []) $ fsplit ! $ fsplit ! $ keep ! (1 ∷ 3 ∷ []) $
    use1 𝓛 (given (InBlock p) (‵ (hold_owns β R ok p h.right v))) (fact_use 𝓤 _ (placed 𝓛 R ok β p h.right v) (guard_i 𝓤 (InBlock p) (sem 𝓛 (hold_owns β R ok p h.right v)))) $ learn ! (λ inb. let at : p ≡ block_ptr b o = at_block p inb in
    rewrite ! 0 (λ (i : Ptr × ℕ). ‵ (hold_owns β R ok i.0 i.1 v)) (λ i. (at i, reads i)) refl $
    enter ! 𝓣.C 𝓣.Λ fn (pointing p ∷ []) Post $ alloc_all ! (λ l. pass_all ! refl (points p inb, tt) $ let Ev = env fn.locals l in
    fpick ! (λ α. fsplit ! $ move ! (1 ∷ []) $ use1 𝓛 (some (λ (x : X.Denot). given (Some x ≡ v) (‵ (written R ok b o α x)))) (seen 𝓛 R ok b o α v) $ pick ! (λ x. learn ! (λ so. let V = shared_of R x b e in fsplit ! $ move ! (1 ∷ []) $ fpick ! (λ holds. drop ! $
    -- [what is seen; kept; the tokens]
    use1 𝓛 (‵ (V (β ++ α))) (shortens 𝓛 V (LR.shr_laws x b e) α (β ++ α) (meet_⊑_right β α)) $ move ! (1 ∷ []) $ fsplit ! $ move ! (0 ∷ 2 ∷ []) $ use2 𝓛 (‵ (V β)) (moves_before 𝓛 V (LR.shr_laws x b e) β α) $
    sets ! (is ! (of_opd ! (get_in ! (fld ! refl (stop !)) (sub ! 0 refl (whole !)))) (ap ptr_val at)) refl (tt, tt) $
    first ! $ blocks ! $ sets_last ! (addr ! (through ! refl (fld ! refl (stop !)))) refl (tt, tt) $ exec ! 𝓣.C 𝓣.Λ Ev (tail (tail fn.body)) (at_ret Ev Post) $ sets ! (of_opd ! (get ! refl)) refl (tt, tt) $
    hide ! $ feq_i ! (List Val) (vptr b e ∷ []) (vptr b e ∷ []) refl $ fjoin ! $ let Told : Type 0 = (Some x ≡ v) × ok x in use0 𝓛 (raw (shown 𝓤 Told)) (fact_i 𝓤 Told (emp 𝓤) (so, holds)) $ nothing ! $ nothing ! $ fjoin ! $
    -- [nothing; what is said; the result; kept; the tokens]
    returns ! (look_at ! 0 refl) $ free_all ! refl $ keep ! (4 ∷ 0 ∷ 2 ∷ 1 ∷ []) $ by ! (leaves 𝓛 En hs c y (vptr b e) (record { ref_ptr = (b, e); now = x }) (tt, tt) (tt, tt))))))))))
