-- `enter` is one load, by which a mark comes.
use Rattle.event_slot.proofs.Names.{◌≡◌, None, ℕ, ◌++◌, false, vstruct, vcons, vnil, of_list, Valss, u64, feq, fpack, ◌+◌, ◌^◌, List, [], ◌∷◌, refl, lit<, w64, a_type, named, dcons, dnil, Val, vint, vptr, inst_fn, Coded, SProp, wand, emp, via, apply∗, Lft, Share, Fml, ftrue, fsep, flft, shown, fact_i, tables, ‵, raw, ◌⊛◌, some, given, later, mean, at_ret, ◌$◌, ◌∵◌, !, qed, by, move, keep, drop, split, split3, join, fsplit, fsplit3, fjoin, fpick, pick, learn, use0, use2, use3, await, feq_i, flt_i, stop, fld, addr, lit, of_opd, no_more, and_then, first, blocks, exec, Calls-last, returns, enter, alloc_all, pass_all, free_all, look_at, get, through, sets, lands_last, env, agg, yes, RattleType, owns, types_at, plain, block_ptr, nothing, unhide, param, bounded, RefOf, shr_vals, shr_Tells, Stays, stay_dropped, walk_of, Goes-dropped, tail, proved, leaves}
use Rattle.atomic_table.proofs.Calls.{fm, seq_cst, found, finds, loads}
use Rattle.event_slot.specs.Ruling.{Enters}
use Rattle.event_slot.specs.contracts.slot.Slot as slot
use Rattle.event_slot.specs.contracts.rule.Mark as mark
use Rattle.event_slot.proofs.Fields.{token, Token, token_made}
use Rattle.event_slot.proofs.Entering.{J, reaches}
use Rattle.event_slot.proofs.Steps.{entered, enters, looks_on}
use Rattle.event_slot.specs.contracts.slot.Slot.enter.{ended, clauses}
use Rattle.event_slot.specs.contracts.slot.Slot.enter.Key.{name as #self}
use Rattle.event_slot.proofs.slot.Slot.enter.Statement.{statement}
use Rattle.event_slot.proofs.slot.Slot.enter.Code as code

pub enter_spec : {M : Type 1} → statement M
enter_spec 𝓤 𝓛 𝓜 𝓡 wired X S Y Ky Z _ _ _ _ _ g d h d' _ _ =
    let H = 𝓛.H in let A = 𝓛.A in let 𝓣 = tables 𝓤 H 𝓜 𝓡 𝓡.env in let R : RattleType = param 0 X in let Q : RattleType = param 1 S in let V : RattleType = param 2 Y in let Kr : RattleType = param 3 Ky in let En = ended X S Y Ky Z g d h d' in let c = clauses X S Y Ky Z g d h d' 𝓛 𝓜.mem 𝓡.returns in
    let inst = bounded (a_type ∷ a_type ∷ a_type ∷ a_type ∷ a_type ∷ []) (X, (S, (Y, (Ky, (Z, tt))))) (dcons d (dcons d' dnil)) in let fn = inst_fn inst code.function in let cw : Coded Y.Denot = V.coded in
    let Row : RattleType = slot.the_row R Q V Kr g in let Mr : RattleType = mark.the_row V in let self = RefOf (0 ∷ []) tt (plain (λ _. Row)) (λ _. tt) in let hs : Stays En.signature.params En.kept = (stay_dropped self yes, tt) in
    proved 𝓛 En hs c 𝓜 𝓡 (Goes-dropped 𝓛 6 self yes (λ κs x f. refl), tt) (#self inst) fn (code.unfolded 𝓤 H 𝓜 𝓡 wired (X, (S, (Y, (Ky, (Z, tt))))) d d') (λ κs. (shr_vals, tt)) (λ κs. (shr_Tells (named 0) κs.0 Row, tt)) (λ κs qs bounds a gh are.
    let b : ℕ = a.0.ref_ptr.0 in let o : ℕ = a.0.ref_ptr.1 in let κ : Lft = κs.0 in let q : Share = qs.0 in let γ : ℕ = a.0.now.name in let key : Ky.Denot = a.0.now.key in let then = h.then (g.first key) in
    let y : (walk_of 𝓛 En hs c).Ghost = ((κs, qs, bounds, a, (vptr b o ∷ [], tt)), gh) in let Post : Val → SProp 𝓤 = (walk_of 𝓛 En hs c).post y in
    let others : Fml = fsep (flft κs.1.0 qs.1.0) (fsep (flft κs.1.1.0 qs.1.1.0) (fsep (flft κs.1.1.1.0 qs.1.1.1.0) (fsep (flft κs.1.1.1.1.0 qs.1.1.1.1.0) (fsep (flft κs.1.1.1.1.1.0 qs.1.1.1.1.1.0) ftrue)))) in
    qed 𝓛 (((‵ (flft κ q) ⊛ ‵ others) ⊛ ‵ (owns (types_at En.signature.params κs) a y.0.4)) ∷ raw (shown 𝓤 _) ∷ raw (shown 𝓤 _) ∷ raw (shown 𝓤 _) ∷ raw (shown 𝓤 _) ∷ raw (shown 𝓤 _) ∷ given (Enters (g.holds key) then) (‵ ftrue) ∷ raw (shown 𝓤 _) ∷ []) ∵
    keep ! (6 ∷ 0 ∷ []) $ learn ! (λ asked. drop ! $ split ! $ split ! $ move ! (2 ∷ []) $ fsplit ! $ fsplit ! $ keep ! (1 ∷ 3 ∷ 4 ∷ []) $
    -- [the slot; its token; the other tokens]
    enter ! 𝓣.C 𝓣.Λ fn (vptr b o ∷ []) Post $ alloc_all ! (λ l. pass_all ! refl ((tt, tt), tt) $ let Ev = env fn.locals l in
    unhide ! $ fpick ! (λ t. move ! (0 ∷ 1 ∷ []) $ use2 𝓛 (later (some (λ (s : Share). raw (A.inv (J 𝓛 cw γ R Q g.counts (g.holds key) b o t κ)) ⊛ ‵ (flft t.0 s) ⊛ raw (wand 𝓤 (A.lft t.0 s) (H.⇛ (A.lft κ q)))))) (reaches 𝓛 cw γ R Q g.counts (g.holds key) b o t κ 𝓜 𝓡 q) $ await ! tt $ pick ! (λ s. split3 ! $
    -- [the invariant; the slot's token; its way back; the other tokens]
    let right : ℕ → Fml = λ n. entered 𝓛 cw γ R Q b o t (λ w _. then n w) in let out : ℕ → Fml = λ n. fsep (flft t.0 s) (fsep ftrue (right n)) in
    first ! $ blocks ! $ sets ! (addr ! (through ! refl (fld ! refl (stop !)))) refl (tt, tt) $ nothing ! $ nothing ! $ join ! $ move ! (1 ∷ 2 ∷ 0 ∷ []) $
    use3 𝓛 (raw (𝓣.C _ (vptr b (o + 0) ∷ seq_cst ∷ []) (λ u. mean 𝓛 (found out u))))
    (via 𝓤 _ (looks_on 𝓛 cw γ R Q (g.holds key) b o t g.counts s ftrue right (enters 𝓛 cw γ R Q (g.holds key) b o t g.counts s None (λ n. n) (λ n w _. then n w) (λ n home views so small. let r = asked n home views so small in (r.0, false, r.1, r.2)))) (loads 𝓛 𝓜 𝓡 (code.calls-core::raw_atomic::load 𝓡.env wired) (block_ptr b (o + 0)) out)) $
    sets ! (agg ! (and_then ! (lit ! tt) (no_more !))) refl (tt, (record { fits = lit< tt }, tt)) $ Calls-last ! (fm 𝓛 𝓜 𝓡) (found out) (and_then ! (get ! refl) (and_then ! (get ! refl) (no_more !))) (λ u. finds ! out (λ n fits.
    lands_last ! refl (tt, record { fits = fits }) $ exec ! 𝓣.C 𝓣.Λ Ev (tail fn.body) (at_ret Ev Post) $ sets ! (of_opd ! (get ! refl)) refl (tt, record { fits = fits }) $ sets ! (agg ! (no_more !)) refl (tt, tt) $ sets ! (agg ! (and_then ! (get ! refl) (no_more !))) refl (tt, (tt, tt)) $
    sets ! (of_opd ! (get ! refl)) refl (tt, (tt, tt)) $ sets ! (agg ! (and_then ! (get ! refl) (and_then ! (get ! refl) (no_more !)))) refl (tt, (record { fits = fits }, ((tt, tt), tt))) $
    -- [the slot's token; nothing; the mark; the way back; the other tokens]
    fsplit3 ! $ move ! (0 ∷ 3 ∷ []) $ use2 𝓛 (later (‵ (flft κ q))) (apply∗ 𝓤 (A.lft t.0 s) (H.⇛ (A.lft κ q))) $ await ! tt $
    move ! (2 ∷ []) $ fpick ! (λ id. fpick ! (λ z. fsplit3 ! $ fpick ! (λ told. drop ! $ move ! (1 ∷ []) $ drop ! $ move ! (2 ∷ []) $ drop ! $
    -- [the mark; the slot's token; the other tokens]
    let m : Mr.Denot = record { marker = record {}; slot = γ; id = id; view = z.0 } in let r : Val = vstruct (vcons (vint w64 n) (vcons token vnil)) in
    use0 𝓛 (‵ ((Token V).own_val (tt, tt) (token ∷ []))) (token_made V 𝓛) $ fjoin ! $ nothing ! $ move ! (1 ∷ 0 ∷ []) $ fjoin ! $ flt_i ! n (2 ^ 64) fits $ feq_i ! (List Val) (vint w64 n ∷ []) (vint w64 n ∷ []) refl $ fjoin ! $ fjoin ! $ feq_i ! (List Val) (r ∷ []) (r ∷ []) refl $ fjoin ! $
    fpack ! (Valss (u64 ∷ Mr ∷ [])) (λ uss. fsep (feq (List Val) (r ∷ []) (vstruct (of_list (uss.0 ++ (uss.1.0 ++ []))) ∷ [])) (owns (u64 ∷ Mr ∷ []) (n, (m, tt)) uss)) (vint w64 n ∷ [], (token ∷ [], tt)) $
    -- [the result; the slot's token; the other tokens]
    move ! (1 ∷ 2 ∷ []) $ join ! $ nothing ! $ nothing ! $ fjoin ! $ let Told : Type 0 = (γ ≡ γ) × then n z.0 in use0 𝓛 (raw (shown 𝓤 Told)) (fact_i 𝓤 Told (emp 𝓤) (refl, told)) $
    returns ! (look_at ! 0 refl) $ free_all ! refl $ keep ! (2 ∷ 1 ∷ 3 ∷ 0 ∷ []) $ by ! (leaves 𝓛 En hs c y r (n, m) (tt, tt) (tt, tt))))))))))))
