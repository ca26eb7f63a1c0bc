-- `sleep` looks at the word and changes nothing.
use Rattle.event_slot.proofs.Names.{ℕ, ◌+◌, List, [], ◌∷◌, refl, w64, a_type, named, dcons, dnil, Val, vint, vptr, inst_fn, SProp, wand, emp, apply∗, Lft, Share, Fml, ftrue, fsep, flft, shown, tables, ‵, raw, ◌⊛◌, some, later, mean, at_ret, ◌$◌, ◌∵◌, !, qed, by, move, keep, drop, split, split3, join, fsplit, fsplit3, fjoin, fpick, pick, use1, use2, use3, await, feq_i, stop, fld, addr, of_opd, no_more, and_then, first, blocks, exec, Calls-last, returns, enter, alloc_all, pass_all, free_all, look_at, get, through, sets, lands_last, env, yes, RattleType, owns, types_at, plain, block_ptr, nothing, unhide, param, bounded, RefOf, u64, shr_vals, shr_Tells, uint_vals, uint_Tells, Stays, stay_dropped, walk_of, Goes-dropped, tail, proved, leaves, heard, ◌⊑◌, vunit}
use Rattle.atomic_table.proofs.Calls.{fm, stored, has_stored, lent, parks}
use Rattle.event_slot.specs.contracts.write_once.WriteOnce as once
use Rattle.event_slot.proofs.Setting.{J, reaches, looks_on}
use Rattle.event_slot.specs.contracts.write_once.WriteOnce.sleep.{ended, clauses}
use Rattle.event_slot.specs.contracts.write_once.WriteOnce.sleep.Key.{name as #self}
use Rattle.event_slot.proofs.write_once.WriteOnce.sleep.Statement.{statement}
use Rattle.event_slot.proofs.write_once.WriteOnce.sleep.Code as code
use types.Kit.{group}
use types.Run.{unit_lit}
use Rattle.std.specs.Sync.RawAtomic.{asks, always}

pub sleep_spec : {M : Type 1} → statement M
sleep_spec 𝓤 𝓛 𝓜 𝓡 wired X Ky Z _ _ L g d g' d' _ may =
    let H = 𝓛.H in let A = 𝓛.A in let 𝓣 = tables 𝓤 H 𝓜 𝓡 𝓡.env in let R : RattleType = param 0 X in let Kr : RattleType = param 1 Ky in let En = ended X Ky Z g d g' d' in let c = clauses X Ky Z g d g' d' 𝓛 𝓜.mem 𝓡.returns in
    let inst = bounded (a_type ∷ a_type ∷ a_type ∷ []) (X, (Ky, (Z, tt))) (dcons d (dcons d' dnil)) in let fn = inst_fn inst code.function in
    let Row : RattleType = once.the_row R Kr g in let self = RefOf (0 ∷ []) tt (plain (λ _. Row)) (λ _. tt) in let handle = RefOf (1 ∷ []) tt (plain (λ _. param 2 Z)) (λ _. tt) in let number = plain (λ _. u64) in
    let hs : Stays En.signature.params En.kept = (stay_dropped self yes, (stay_dropped handle yes, (stay_dropped number yes, (stay_dropped number yes, (stay_dropped number yes, tt))))) in let goes = Goes-dropped 𝓛 5 number yes (λ κs x f. refl) in
    proved 𝓛 En hs c 𝓜 𝓡 (Goes-dropped 𝓛 5 self yes (λ κs x f. refl), (Goes-dropped 𝓛 5 handle yes (λ κs x f. refl), (goes, (goes, (goes, tt))))) (#self inst) fn (code.unfolded 𝓤 H 𝓜 𝓡 wired (X, (Ky, (Z, tt))) d d')
    (λ κs. (shr_vals, (shr_vals, (uint_vals w64, (uint_vals w64, (uint_vals w64, tt)))))) (λ κs. (shr_Tells (named 0) κs.0 Row, (shr_Tells (named 1) κs.1.0 (param 2 Z), (uint_Tells w64, (uint_Tells w64, (uint_Tells w64, tt)))))) (λ κs qs bounds a gh are.
    let b : ℕ = a.0.ref_ptr.0 in let o : ℕ = a.0.ref_ptr.1 in let κ : Lft = κs.0 in let q : Share = qs.0 in let ok = g.fits a.0.now in let rt = a.1.0 in let seen : ℕ = a.1.1.0 in let secs : ℕ = a.1.1.1.0 in let nanos : ℕ = a.1.1.1.1.0 in
    let ρ : Lft = κs.1.0 in let r : Share = qs.1.0 in let υ : Lft = κs.1.1.1.1.0 in let u' : Share = qs.1.1.1.1.0 in let hv : Val = vptr rt.ref_ptr.0 rt.ref_ptr.1 in let t₂ : Fml = flft κs.1.1.0 qs.1.1.0 in let t₃ : Fml = flft κs.1.1.1.0 qs.1.1.1.0 in
    let y : (walk_of 𝓛 En hs c).Ghost = ((κs, qs, bounds, a, (vptr b o ∷ [], (hv ∷ [], (vint w64 seen ∷ [], (vint w64 secs ∷ [], (vint w64 nanos ∷ [], tt)))))), gh) in let Post : Val → SProp 𝓤 = (walk_of 𝓛 En hs c).post y in
    qed 𝓛 (((‵ (flft κ q) ⊛ ‵ (flft ρ r) ⊛ ‵ (fsep t₂ (fsep t₃ (fsep (flft υ u') ftrue)))) ⊛ ‵ (owns (types_at En.signature.params κs) a y.0.4)) ∷ raw (shown 𝓤 _) ∷ raw (shown 𝓤 _) ∷ raw (shown 𝓤 (υ ⊑ Z.lives)) ∷ raw (emp 𝓤) ∷ []) ∵
    keep ! (3 ∷ 0 ∷ []) $ heard ! (υ ⊑ Z.lives) (λ alive. split ! $ split3 ! $ move ! (2 ∷ []) $ fsplit3 ! $ move ! (2 ∷ []) $ fsplit ! $ move ! (6 ∷ []) $ fsplit3 ! $ fsplit ! $ move ! (2 ∷ []) $ fsplit ! $ keep ! (3 ∷ 9 ∷ 1 ∷ 10 ∷ 5 ∷ 7 ∷ 8 ∷ []) $
    -- [the cell; its token; the handle; its tokens; the other tokens]
    enter ! 𝓣.C 𝓣.Λ fn (vptr b o ∷ hv ∷ vint w64 seen ∷ vint w64 secs ∷ vint w64 nanos ∷ []) Post $ alloc_all ! (λ l. pass_all ! refl ((tt, tt), ((tt, tt), ((tt, record { fits = are.1.1.0.1 }), ((tt, record { fits = are.1.1.1.0.1 }), ((tt, record { fits = are.1.1.1.1.0.1 }), tt))))) $ let Ev = env fn.locals l in
    unhide ! $ fpick ! (λ α. move ! (0 ∷ 1 ∷ []) $ use2 𝓛 (later (some (λ (s : Share). raw (A.inv (J 𝓛 R ok b o α)) ⊛ ‵ (flft α s) ⊛ raw (wand 𝓤 (A.lft α s) (H.⇛ (A.lft κ q)))))) (reaches 𝓛 R ok b o α κ 𝓜 𝓡 q) $ await ! tt $ pick ! (λ s. split3 ! $
    -- [the invariant; the cell's token; its way back; the handle; its tokens; the other tokens]
    let out : Fml = fsep (flft α s) ftrue in let Out : Fml = lent 𝓛 𝓜 𝓡 Z L g' d' may ρ υ r u' rt out in first ! $ blocks ! $ sets ! (addr ! (through ! refl (fld ! refl (stop !)))) refl (tt, tt) $ nothing ! $ move ! (1 ∷ 2 ∷ 0 ∷ []) $
    use3 𝓛 (raw (asks 𝓛 (block_ptr b (o + 0)) (λ n. n) always (λ _. out))) (looks_on 𝓛 R ok b o α s) $ move ! (0 ∷ 2 ∷ 3 ∷ 4 ∷ []) $ group ! 4 $
    use1 𝓛 (raw (𝓣.C _ (hv ∷ vptr b (o + 0) ∷ vint w64 seen ∷ vint w64 secs ∷ vint w64 nanos ∷ []) (λ u. mean 𝓛 (stored Out u))))
    (parks 𝓛 𝓜 𝓡 Z L g' d' may ρ υ r u' rt (code.calls-core::raw_atomic::park 𝓡.env wired) bounds.1.0 alive (block_ptr b (o + 0)) seen secs nanos are.1.1.0.1 are.1.1.1.0.1 are.1.1.1.1.0.1 out) $
    Calls-last ! (fm 𝓛 𝓜 𝓡) (stored Out) (and_then ! (get ! refl) (and_then ! (get ! refl) (and_then ! (get ! refl) (and_then ! (get ! refl) (and_then ! (get ! refl) (no_more !)))))) (λ u. has_stored ! Out (
    lands_last ! refl (tt, tt) $ exec ! 𝓣.C 𝓣.Λ Ev (tail fn.body) (at_ret Ev Post) $ sets ! (of_opd ! (unit_lit !)) refl (tt, tt) $
    fsplit3 ! $ fsplit ! $ move ! (0 ∷ 4 ∷ []) $ use2 𝓛 (later (‵ (flft κ q))) (apply∗ 𝓤 (A.lft α s) (H.⇛ (A.lft κ q))) $ await ! tt $
    move ! (1 ∷ []) $ drop ! $ nothing ! $ move ! (3 ∷ 0 ∷ []) $ fjoin ! $ move ! (4 ∷ 0 ∷ []) $ fjoin ! $ move ! (3 ∷ 0 ∷ []) $ fjoin ! $ move ! (2 ∷ 0 ∷ []) $ join ! $ move ! (1 ∷ 0 ∷ []) $ join ! $
    nothing ! $ nothing ! $ fjoin ! $ nothing ! $ fjoin ! $ nothing ! $ fjoin ! $ nothing ! $ fjoin ! $ nothing ! $ fjoin ! $ nothing ! $ feq_i ! (List Val) (vunit ∷ []) (vunit ∷ []) refl $
    returns ! (look_at ! 0 refl) $ free_all ! refl $ keep ! (3 ∷ 2 ∷ 0 ∷ 1 ∷ []) $ by ! (leaves 𝓛 En hs c y vunit tt (tt, (tt, (tt, (tt, (tt, tt))))) (tt, (tt, (tt, (tt, (tt, tt)))))))))))))
