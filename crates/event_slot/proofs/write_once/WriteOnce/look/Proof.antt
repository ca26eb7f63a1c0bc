-- `look` is one load, which shows the value if it is written.
use Rattle.event_slot.proofs.Names.{◌≡◌, ℕ, ◌+◌, ◌^◌, List, [], ◌∷◌, ◌++◌, refl, lit<, w64, Option, a_type, named, dcons, dnil, Val, vint, vptr, vstruct, vcons, vnil, of_list, inst_fn, SProp, wand, emp, via, apply∗, Lft, Share, Fml, ftrue, fsep, feq, flft, shown, fact_i, tables, ‵, raw, ◌⊛◌, some, given, later, mean, at_ret, ◌$◌, ◌∵◌, !, qed, by, move, keep, split, split3, join, fsplit, fjoin, fpick, fpack, pick, learn, use0, use1, use2, use3, await, feq_i, flt_i, stop, fld, addr, lit, of_opd, no_more, and_then, first, blocks, exec, Calls-last, returns, enter, alloc_all, pass_all, free_all, look_at, get, through, sets, lands_last, env, agg, yes, RattleType, Valss, owns, types_at, plain, named_lft, Ptr, block_ptr, nothing, unhide, param, param_laws, bounded, RefOf, u64, shr_vals, shr_Tells, Stays, stay_dropped, walk_of, Goes-dropped, tail, proved, leaves}
use denote.Struct.Owning.{shape}
use Rattle.atomic_table.proofs.Calls.{fm, seq_cst, found, finds, loads}
use Rattle.event_slot.specs.Written.{kept, right_to}
use Rattle.event_slot.specs.contracts.write_once.WriteOnce as once
use Rattle.event_slot.specs.contracts.write_once.Hold as hold
use Rattle.event_slot.proofs.Fields.{pointing, Pointing, pointing_made}
use Rattle.event_slot.proofs.Setting.{J, kept_twice, reaches, gains, right_gained, looked, looks}
use Rattle.event_slot.specs.contracts.write_once.WriteOnce.look.{ended, clauses}
use Rattle.event_slot.specs.contracts.write_once.WriteOnce.look.Key.{name as #self}
use Rattle.event_slot.proofs.write_once.WriteOnce.look.Statement.{statement}
use Rattle.event_slot.proofs.write_once.WriteOnce.look.Code as code

pub look_spec : {M : Type 1} → statement M
look_spec 𝓤 𝓛 𝓜 𝓡 wired X Ky LX _ g d _ =
    let H = 𝓛.H in let A = 𝓛.A in let 𝓣 = tables 𝓤 H 𝓜 𝓡 𝓡.env in let R : RattleType = param 0 X in let Kr : RattleType = param 1 Ky in let En = ended X Ky g d in let c = clauses X Ky g d 𝓛 𝓜.mem 𝓡.returns in
    let inst = bounded (a_type ∷ a_type ∷ []) (X, (Ky, tt)) (dcons d dnil) in let fn = inst_fn inst code.function in let LR = param_laws 0 X LX in
    let Row : RattleType = once.the_row R Kr g in let self = RefOf (0 ∷ []) tt (plain (λ _. Row)) (λ _. tt) in let hs : Stays En.signature.params En.kept = (stay_dropped self yes, tt) in
    proved 𝓛 En hs c 𝓜 𝓡 (Goes-dropped 𝓛 3 self yes (λ κs x f. refl), tt) (#self inst) fn (code.unfolded 𝓤 H 𝓜 𝓡 wired (X, (Ky, tt)) d) (λ κs. (shr_vals, tt)) (λ κs. (shr_Tells (named 0) κs.0 Row, tt)) (λ κs qs bounds a gh are.
    let b : ℕ = a.0.ref_ptr.0 in let o : ℕ = a.0.ref_ptr.1 in let κ : Lft = κs.0 in let q : Share = qs.0 in let key : Ky.Denot = a.0.now in let ok = g.fits key in let ℓ = named_lft 3 0 tt κs in let Hr : RattleType = hold.the_row ℓ R Kr g in let p : Ptr = block_ptr b o in
    let y : (walk_of 𝓛 En hs c).Ghost = ((κs, qs, bounds, a, (vptr b o ∷ [], tt)), gh) in let Post : Val → SProp 𝓤 = (walk_of 𝓛 En hs c).post y in let others : Fml = fsep (flft κs.1.0 qs.1.0) (fsep (flft κs.1.1.0 qs.1.1.0) ftrue) in
    qed 𝓛 (((‵ (flft κ q) ⊛ ‵ others) ⊛ ‵ (owns (types_at En.signature.params κs) a y.0.4)) ∷ raw ((c κs a).requires gh) ∷ []) ∵ split ! $ split ! $ move ! (2 ∷ []) $ fsplit ! $ fsplit ! $ keep ! (1 ∷ 3 ∷ 4 ∷ []) $
    enter ! 𝓣.C 𝓣.Λ fn (vptr b o ∷ []) Post $ alloc_all ! (λ l. pass_all ! refl ((tt, tt), tt) $ let Ev = env fn.locals l in
    unhide ! $ fpick ! (λ α. let K : Fml = kept R ok b o α κ in use1 𝓛 (‵ K ⊛ ‵ K) (kept_twice 𝓛 R ok b o α κ) $ split ! $ move ! (0 ∷ 2 ∷ []) $
    use2 𝓛 (later (some (λ (s : Share). raw (A.inv (J 𝓛 R ok b o α)) ⊛ ‵ (flft α s) ⊛ raw (wand 𝓤 (A.lft α s) (H.⇛ (A.lft κ q)))))) (reaches 𝓛 R ok b o α κ 𝓜 𝓡 q) $ await ! tt $ pick ! (λ s. split3 ! $
    -- [the invariant; the cell's token; its way back; kept; the other tokens]
    let left : ℕ → Fml = λ n. gains 𝓛 R ok b o α s (looked 𝓛 R ok b o α s LR.shr_laws n) in let out : ℕ → Fml = λ n. fsep (flft α s) (left n) in first ! $ blocks ! $ sets ! (addr ! (through ! refl (fld ! refl (stop !)))) refl (tt, tt) $ nothing ! $ move ! (1 ∷ 2 ∷ 0 ∷ []) $
    use3 𝓛 (raw (𝓣.C _ (vptr b (o + 0) ∷ seq_cst ∷ []) (λ u. mean 𝓛 (found out u))))
    (via 𝓤 _ (looks 𝓛 R ok b o α s LR.shr_laws) (loads 𝓛 𝓜 𝓡 (code.calls-core::raw_atomic::load 𝓡.env wired) (block_ptr b (o + 0)) out)) $
    sets ! (agg ! (and_then ! (lit ! tt) (no_more !))) refl (tt, (record { fits = lit< tt }, tt)) $ Calls-last ! (fm 𝓛 𝓜 𝓡) (found out) (and_then ! (get ! refl) (and_then ! (get ! refl) (no_more !))) (λ u. finds ! out (λ n fits.
    lands_last ! refl (tt, record { fits = fits }) $ exec ! 𝓣.C 𝓣.Λ Ev (tail fn.body) (at_ret Ev Post) $ sets ! (of_opd ! (get ! refl)) refl (tt, record { fits = fits }) $
    sets ! (addr ! (through ! refl (stop !))) refl (tt, tt) $ sets ! (agg ! (no_more !)) refl (tt, tt) $ sets ! (agg ! (and_then ! (get ! refl) (and_then ! (get ! refl) (no_more !)))) refl (tt, (tt, (tt, tt))) $
    sets ! (agg ! (and_then ! (get ! refl) (and_then ! (get ! refl) (no_more !)))) refl (tt, (record { fits = fits }, ((tt, (tt, tt)), tt))) $
    -- [the cell's token; what was gained; its way back; kept; the other tokens]
    fsplit ! $ move ! (0 ∷ 2 ∷ []) $ use2 𝓛 (later (‵ (flft κ q))) (apply∗ 𝓤 (A.lft α s) (H.⇛ (A.lft κ q))) $ await ! tt $ move ! (1 ∷ []) $
    use1 𝓛 (some (λ (w : ℕ × Option X.Denot). given (looked 𝓛 R ok b o α s LR.shr_laws n w.0) (‵ (right_to R ok b o α w.0 w.1)))) (right_gained 𝓛 R ok b o α s (looked 𝓛 R ok b o α s LR.shr_laws n)) $ pick ! (λ w. learn ! (λ said.
    move ! (2 ∷ 0 ∷ []) $ fjoin ! $ fpack ! Lft (λ i. fsep (kept R ok b o i κ) (right_to R ok b o i w.0 w.1)) α $
    let hc : Hr.Denot = record { cell = p; marker = record {}; key = key; right = w.0; value = w.1 } in let res : Val = vstruct (vcons (vint w64 n) (vcons (pointing p) vnil)) in let form = shape (hold.the_type ℓ R Kr g) in
    use0 𝓛 (‵ ((Pointing form ℓ R).own_val (p, (tt, tt)) (pointing p ∷ []))) (pointing_made form ℓ R 𝓛 p) $ fjoin ! $ nothing ! $ move ! (1 ∷ 0 ∷ []) $ fjoin ! $ flt_i ! n (2 ^ 64) fits $ feq_i ! (List Val) (vint w64 n ∷ []) (vint w64 n ∷ []) refl $ fjoin ! $
    fjoin ! $ feq_i ! (List Val) (res ∷ []) (res ∷ []) refl $ fjoin ! $
    fpack ! (Valss (u64 ∷ Hr ∷ [])) (λ uss. fsep (feq (List Val) (res ∷ []) (vstruct (of_list (uss.0 ++ (uss.1.0 ++ []))) ∷ [])) (owns (u64 ∷ Hr ∷ []) (n, (hc, tt)) uss)) (vint w64 n ∷ [], (pointing p ∷ [], tt)) $
    -- [the result; the cell's token; the other tokens]
    nothing ! $ nothing ! $ fjoin ! $ move ! (2 ∷ 3 ∷ []) $ join ! $
    let Told : Type 0 = (n ≡ 2 → w.0 ≡ 1) × (key ≡ key) in use0 𝓛 (raw (shown 𝓤 Told)) (fact_i 𝓤 Told (emp 𝓤) (said, refl)) $
    returns ! (look_at ! 0 refl) $ free_all ! refl $ keep ! (1 ∷ 2 ∷ 3 ∷ 0 ∷ []) $ by ! (leaves 𝓛 En hs c y res (n, hc) (tt, tt) (tt, tt))))))))))
