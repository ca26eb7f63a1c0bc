-- `write` writes the value, shares it for good, and says so by one store.
use Rattle.event_slot.proofs.Names.{◌≡◌, ℕ, ◌+◌, List, [], ◌∷◌, ◌++◌, sym, refl, ap, subst, lit<, w64, Some, full_share, a_type, dcons, dnil, Val, vint, vptr, inst_fn, SProp, ent, wand, emp, guard_i, via, id⊢, apply∗, sem, Lft, Share, Incl-trans, Fml, ftrue, fsep, fseps, fwand, fupd, fdead, fbor, flft, meet_⊑_left, meet_⊑_right, Toks, shown, fact_i, fact_use, tables, WpFn, ‵, raw, ◌⊛◌, some, given, later, mean, at_ret, ◌$◌, ◌∵◌, !, qed, by, move, keep, drop, split, split3, join, fsplit, fsplit3, fjoin, fpick, fpack, pick, learn, suffices, use0, use1, use2, use3, await, rewrite, stop, fld, addr, lit, of_opd, no_more, and_then, first, blocks, exec, Calls-last, returns, enter, alloc_all, pass_all, free_all, look_at, get, get_in, through, sets, lands_last, is, env, agg, sub, whole, bor_open, obor_alter, no, RattleType, owns, types_at, plain, named_lft, Ptr, InBlock, block_ptr, ptr_val, block_of, count_of, at_block, nothing, heard, peeks, Is, shows, part_of, part_at, cell_at, shared_of, param, param_laws, bounded, Stays, stay_dropped, walk_of, Goes-dropped, tail, ◌⊑◌, El, lawful, Good, one, proved_at, leaves}
use types.Run.{assigns, store_raw}
use denote.Struct.Owning.{shape}
use Rattle.atomic_table.proofs.Calls.{fm, seq_cst, stored, has_stored, stores}
use Rattle.counted_slot.specs.Counting.{cell}
use Rattle.event_slot.specs.Written.{place, written, kept, right_to, hold_owns}
use Rattle.event_slot.specs.contracts.write_once.Hold as hold
use Rattle.event_slot.proofs.Fields.{pointing, points, Pointing, pointing_told, pointing_made}
use Rattle.event_slot.proofs.Freezing.{packs}
use Rattle.event_slot.proofs.Setting.{J, kept_twice, reaches, written_twice, says, placed}
use Rattle.event_slot.specs.contracts.write_once.Hold.write.{ended, clauses}
use Rattle.event_slot.specs.contracts.write_once.Hold.write.Key.{name as #self}
use Rattle.event_slot.proofs.write_once.Hold.write.Statement.{statement}
use Rattle.event_slot.proofs.write_once.Hold.write.Code as code

pub write_spec : {M : Type 1} → statement M
unfolding fseps part_of
write_spec 𝓤 𝓛 𝓜 𝓡 wired X Ky LX _ g d _ =
    let H = 𝓛.H in let A = 𝓛.A in let 𝓣 = tables 𝓤 H 𝓜 𝓡 𝓡.env in let R : RattleType = param 0 X in let Kr : RattleType = param 1 Ky in let En = ended X Ky g d in let c = clauses X Ky g d 𝓛 𝓜.mem 𝓡.returns in let E : El = record { row = X; laws = LX } in
    let inst = bounded (a_type ∷ a_type ∷ []) (X, (Ky, tt)) (dcons d dnil) in let fn = inst_fn inst code.function in let LR = param_laws 0 X LX in
    let self = plain (λ κs. hold.the_row (named_lft 3 0 tt κs) R Kr g) in let item = plain (λ _. R) in let hs : Stays En.signature.params En.kept = (stay_dropped self no, (stay_dropped item no, tt)) in
    proved_at 𝓛 En hs c 𝓜 𝓡 (Goes-dropped 𝓛 3 self no (λ κs x f. refl), (Goes-dropped 𝓛 3 item no (λ κs x f. refl), tt)) (#self inst) fn (code.unfolded 𝓤 H 𝓜 𝓡 wired (X, (Ky, tt)) d) (λ z are.
    let κs = z.0.0 in let qs = z.0.1 in let a = z.0.3 in let ℓ = named_lft 3 0 tt κs in let Hr : RattleType = hold.the_row ℓ R Kr g in let form = shape (hold.the_type ℓ R Kr g) in let h : Hr.Denot = a.0 in let p : Ptr = h.cell in let b : ℕ = block_of p in let o : ℕ = count_of p in let β : Lft = κs.0 in let q : Share = qs.0 in
    let key : Ky.Denot = h.key in let ok = g.fits key in let x : X.Denot = a.1.0 in let τ : Lft = κs.1.0 in let r : Share = qs.1.0 in let e : ℕ = place R ok b o in let Asked : Type 0 = (h.right ≡ 2) × ok x in
    let pt = pointing_told form ℓ R p z.0.4.0 are.0.0 in let got = one E z.0.4.1.0 ((lawful E 𝓛).typed x z.0.4.1.0 are.1.0) in let vx : Val = got.0 in let fx : Good E vx = got.2 in
    let Post : Val → SProp 𝓤 = (walk_of 𝓛 En hs c).post z in let Run : List Val → SProp 𝓤 = λ ws. WpFn 𝓤 H 𝓣.C 𝓣.Λ fn ws Post in let args : List Val = pointing p ∷ vx ∷ [] in let others : Fml = fsep (flft κs.1.1.0 qs.1.1.0) ftrue in
    qed 𝓛 (((‵ (flft β q) ⊛ ‵ (flft τ r) ⊛ ‵ others) ⊛ ‵ (owns (types_at En.signature.params κs) a z.0.4)) ∷ raw (shown 𝓤 (τ ⊑ X.lives)) ∷ raw (shown 𝓤 _) ∷ raw (shown 𝓤 Asked) ∷ []) ∵
    keep ! (3 ∷ 1 ∷ 0 ∷ []) $ heard ! Asked (λ asked. heard ! (τ ⊑ X.lives) (λ lives. split ! $ split3 ! $ move ! (3 ∷ []) $ fsplit3 ! $ fsplit ! $ keep ! (1 ∷ 4 ∷ 5 ∷ 2 ∷ 6 ∷ []) $
    -- [the hold; the cell's token; a token of the value's lives; the value; the other tokens]
    use1 𝓛 (given (InBlock p) (‵ (hold_owns β R ok p h.right h.value))) (fact_use 𝓤 _ (placed 𝓛 R ok β p h.right h.value) (guard_i 𝓤 (InBlock p) (sem 𝓛 (hold_owns β R ok p h.right h.value)))) $ learn ! (λ inb. let at : p ≡ block_ptr b o = at_block p inb in
    rewrite ! 0 (λ (i : Ptr × ℕ). ‵ (hold_owns β R ok i.0 i.1 h.value)) (λ i. (at i, asked.0 i)) refl $ rewrite ! 3 (λ (ws : List Val). ‵ (R.own_val x ws)) got.1 refl $
    suffices ! (Run args) (subst (λ (ws : List Val). ent 𝓤 (Run args) (Run ws)) (sym (λ i. pt i ++ (got.1 i ++ []))) (id⊢ 𝓤 (Run args))) $
    enter ! 𝓣.C 𝓣.Λ fn args Post $ alloc_all ! (λ l. pass_all ! refl (points p inb, (fx, tt)) $ let Ev = env fn.locals l in
    fpick ! (λ α. let K : Fml = kept R ok b o α β in let W : Fml = written R ok b o α x in let C : Fml = cell R ok b o in let At : Fml = part_at R full_share x b e in fsplit ! $ use1 𝓛 (‵ K ⊛ ‵ K) (kept_twice 𝓛 R ok b o α β) $ split ! $ move ! (0 ∷ 3 ∷ []) $
    use2 𝓛 (later (some (λ (s : Share). raw (A.inv (J 𝓛 R ok b o α)) ⊛ ‵ (flft α s) ⊛ raw (wand 𝓤 (A.lft α s) (H.⇛ (A.lft β q)))))) (reaches 𝓛 R ok b o α β 𝓜 𝓡 q) $ await ! tt $ pick ! (λ s. split3 ! $
    -- [the invariant; the cell's token; its way back; kept; the right to write; a token of the value's lives; the value; the other tokens]
    move ! (4 ∷ 1 ∷ []) $ bor_open ! tt $ move ! (1 ∷ []) $ fpick ! (λ x₀. fsplit ! $ move ! (1 ∷ []) $ drop ! $ fpick ! (λ vs. fsplit ! $ move ! (1 ∷ []) $ peeks ! R (Is R) (shows 𝓛 R) x₀ vs (λ is_old. drop ! $
    let old = one E vs ((lawful E 𝓛).typed x₀ vs is_old) in rewrite ! 0 (λ (us : List Val). ‵ (cell_at full_share R.mir us b e)) old.1 refl $
    sets ! (is ! (of_opd ! (get_in ! (fld ! refl (stop !)) (sub ! 0 refl (whole !)))) (ap ptr_val at)) refl (tt, tt) $ sets ! (of_opd ! (get_in ! (fld ! refl (stop !)) (sub ! 1 refl (whole !)))) refl (tt, tt) $
    first ! $ blocks ! $ sets ! (addr ! (through ! refl (fld ! refl (stop !)))) refl (tt, tt) $ sets ! (of_opd ! (get ! refl)) refl fx $ assigns ! (of_opd ! (get ! refl)) (through ! refl (stop !)) (store_raw ! 0 refl fx) $
    -- [the place; the open borrow; the invariant; its way back; kept; a token of the value's lives; the value; the other tokens]
    move ! (0 ∷ 6 ∷ []) $ fjoin ! $ fpack ! (List Val) (λ us. fsep (cell_at full_share R.mir us b e) (R.own_val x us)) (vx ∷ []) $ nothing ! $ move ! (1 ∷ 0 ∷ []) $ fjoin ! $
    use0 𝓛 (‵ (fwand (fsep (fdead α) (fseps (At ∷ []))) (fupd C))) (packs 𝓛 R ok b o α x asked.1) $ move ! (2 ∷ 1 ∷ 0 ∷ []) $ obor_alter ! tt (At ∷ []) $ use1 𝓛 (‵ (fbor α At) ⊛ ‵ ftrue) (id⊢ 𝓤 _) $ split ! $
    -- [the place, borrowed; nothing; the cell's token; the invariant; its way back; kept; a token of the value's lives; the other tokens]
    let ts : Toks = (α, s) ∷ (τ, r) ∷ [] in move ! (2 ∷ 6 ∷ []) $ join ! $ move ! (1 ∷ 0 ∷ []) $
    use2 𝓛 (later (‵ (shared_of R x b e α) ⊛ ‵ (flft α s) ⊛ ‵ (flft τ r))) (LR.shares 𝓛 x α ts b e (Incl-trans (meet_⊑_right α τ) lives) (meet_⊑_left α τ)) $ await ! tt $ split3 ! $
    nothing ! $ fpack ! (ok x) (λ _. ftrue) asked.1 $ move ! (1 ∷ 0 ∷ []) $ fjoin ! $ use1 𝓛 (‵ W ⊛ ‵ W) (written_twice 𝓛 R ok b o α s LR.shr_laws x) $ split ! $
    -- [written; written; the cell's token; a token of the value's lives; nothing; the invariant; its way back; kept; the other tokens]
    let out : Fml = fsep (flft α s) W in sets ! (addr ! (through ! refl (fld ! refl (stop !)))) refl (tt, tt) $ sets ! (agg ! (and_then ! (lit ! tt) (no_more !))) refl (tt, (record { fits = lit< tt }, tt)) $ move ! (5 ∷ 2 ∷ 0 ∷ []) $
    use3 𝓛 (raw (𝓣.C _ (vptr b (o + 0) ∷ vint w64 2 ∷ seq_cst ∷ []) (λ u. mean 𝓛 (stored out u))))
    (via 𝓤 _ (says 𝓛 R ok b o α s LR.shr_laws x) (stores 𝓛 𝓜 𝓡 (code.calls-core::raw_atomic::store 𝓡.env wired) (block_ptr b (o + 0)) 2 (lit< tt) out)) $
    Calls-last ! (fm 𝓛 𝓜 𝓡) (stored out) (and_then ! (get ! refl) (and_then ! (lit ! tt) (and_then ! (get ! refl) (no_more !)))) (λ u. has_stored ! out (
    lands_last ! refl (tt, tt) $ exec ! 𝓣.C 𝓣.Λ Ev (tail (tail (tail fn.body))) (at_ret Ev Post) $ sets ! (agg ! (and_then ! (get ! refl) (and_then ! (get ! refl) (no_more !)))) refl (tt, (tt, (tt, tt))) $
    -- [the cell's token; written; written; a token of the value's lives; nothing; its way back; kept; the other tokens]
    fsplit ! $ move ! (0 ∷ 5 ∷ []) $ use2 𝓛 (later (‵ (flft β q))) (apply∗ 𝓤 (A.lft α s) (H.⇛ (A.lft β q))) $ await ! tt $ move ! (5 ∷ 1 ∷ []) $ fjoin ! $ fpack ! Lft (λ i. fsep (kept R ok b o i β) (right_to R ok b o i 1 (Some x))) α $
    let pb : Ptr = block_ptr b o in let hc : Hr.Denot = record { cell = pb; marker = record {}; key = key; right = 1; value = Some x } in use0 𝓛 (‵ ((Pointing form ℓ R).own_val (pb, (tt, tt)) (pointing pb ∷ []))) (pointing_made form ℓ R 𝓛 pb) $ fjoin ! $
    -- [the result; the cell's token; written; a token of the value's lives; nothing; the other tokens]
    move ! (3 ∷ 5 ∷ []) $ join ! $ move ! (2 ∷ 0 ∷ []) $ join ! $ let Told : Type 0 = (1 ≡ 1) × (hc.value ≡ Some x) × (key ≡ key) in use0 𝓛 (raw (shown 𝓤 Told)) (fact_i 𝓤 Told (emp 𝓤) (refl, refl, refl)) $
    nothing ! $ nothing ! $ fjoin ! $ nothing ! $ fjoin ! $
    returns ! (look_at ! 0 refl) $ free_all ! refl $ keep ! (2 ∷ 0 ∷ 3 ∷ 1 ∷ []) $ by ! (leaves 𝓛 En hs c z (pointing pb) hc (tt, (tt, tt)) (tt, (tt, tt)))))))))))))))
