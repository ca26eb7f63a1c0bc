-- `enter` is one load, by which a mark comes, and which shows what the right says of the word.
use Rattle.event_slot.proofs.Names.{◌≡◌, ℕ, ◌+◌, ◌^◌, List, [], ◌∷◌, ◌++◌, refl, ap, w64, Option, None, a_type, dcons, dnil, Val, vint, vptr, vstruct, vcons, vnil, of_list, inst_fn, Coded, SProp, wand, emp, guard_i, via, apply∗, sem, Lft, Share, Fml, ftrue, fsep, feq, flft, shown, fact_i, fact_use, tables, ‵, raw, ◌⊛◌, some, given, later, mean, at_ret, ◌$◌, ◌∵◌, !, qed, by, move, keep, drop, split, split3, join, fsplit, fsplit3, fjoin, fpick, fpack, pick, learn, use0, use1, use3, await, rewrite, feq_i, flt_i, stop, fld, addr, of_opd, no_more, and_then, first, blocks, exec, Calls-last, returns, enter, alloc_all, pass_all, free_all, look_at, get, get_in, through, sets, lands_last, is, env, agg, sub, whole, no, RattleType, Valss, owns, types_at, plain, named_lft, Ptr, InBlock, block_ptr, ptr_val, block_of, count_of, at_block, nothing, param, bounded, u64, Stays, stay_dropped, walk_of, Goes-dropped, tail, proved, leaves, lit, lit<, false, use2}
use denote.Struct.Owning.{shape}
use Rattle.atomic_table.proofs.Calls.{fm, seq_cst, found, finds, loads}
use Rattle.event_slot.specs.Ruling.{Enters, Sees}
use Rattle.event_slot.specs.Holding.{Names, kept, right_to, lies, claim_owns}
use Rattle.event_slot.specs.contracts.claim.Claim as claim
use Rattle.event_slot.specs.contracts.rule.Mark as mark
use Rattle.event_slot.proofs.Fields.{pointing, points, Pointing, pointing_told, pointing_made, held_placed, token, Token, token_made}
use Rattle.event_slot.proofs.Entering.{J, kept_twice, reaches}
use Rattle.event_slot.proofs.Steps.{entered, enters, Seen, looks_by}
use Rattle.event_slot.specs.contracts.claim.Claim.enter.{ended, clauses}
use Rattle.event_slot.specs.contracts.claim.Claim.enter.Key.{name as #self}
use Rattle.event_slot.proofs.claim.Claim.enter.Statement.{statement}
use Rattle.event_slot.proofs.claim.Claim.enter.Code as code

pub enter_spec : {M : Type 1} → statement M
enter_spec 𝓤 𝓛 𝓜 𝓡 wired X S Y Ky Z _ _ _ _ _ g d h d' _ _ =
    let H = 𝓛.H in let A = 𝓛.A in let 𝓣 = tables 𝓤 H 𝓜 𝓡 𝓡.env in let R : RattleType = param 0 X in let Q : RattleType = param 1 S in let V : RattleType = param 2 Y in let Kr : RattleType = param 3 Ky in let En = ended X S Y Ky Z g d h d' in let c = clauses X S Y Ky Z g d h d' 𝓛 𝓜.mem 𝓡.returns in
    let inst = bounded (a_type ∷ a_type ∷ a_type ∷ a_type ∷ a_type ∷ []) (X, (S, (Y, (Ky, (Z, tt))))) (dcons d (dcons d' dnil)) in let fn = inst_fn inst code.function in let cw : Coded Y.Denot = V.coded in
    let Mr : RattleType = mark.the_row V in let self = plain (λ κs. claim.the_row (named_lft 6 0 tt κs) R Q V Kr g) in let hs : Stays En.signature.params En.kept = (stay_dropped self no, tt) in
    proved 𝓛 En hs c 𝓜 𝓡 (Goes-dropped 𝓛 6 self no (λ κs x f. refl), tt) (#self inst) fn (code.unfolded 𝓤 H 𝓜 𝓡 wired (X, (S, (Y, (Ky, (Z, tt))))) d d')
    (λ κs. ((λ x. pointing x.slot ∷ []), tt)) (λ κs. ((λ x vs so. pointing_told (shape (claim.the_type (named_lft 6 0 tt κs) R Q V Kr g)) (named_lft 6 0 tt κs) R x.slot vs so.0), tt)) (λ κs qs bounds a gh are.
    let ℓ = named_lft 6 0 tt κs in let Cr : RattleType = claim.the_row ℓ R Q V Kr g in let hc : Cr.Denot = a.0 in let p : Ptr = hc.slot in let b : ℕ = block_of p in let o : ℕ = count_of p in let β : Lft = κs.0 in let q : Share = qs.0 in let γ : ℕ = hc.name in let key : Ky.Denot = hc.key in let v : Option X.Denot = hc.value in
    let state : Option S.Denot = hc.state in let then = h.then (g.first key) in let r : ℕ = hc.right in
    let y : (walk_of 𝓛 En hs c).Ghost = ((κs, qs, bounds, a, (pointing p ∷ [], tt)), gh) in let Post : Val → SProp 𝓤 = (walk_of 𝓛 En hs c).post y in
    let others : Fml = fsep (flft κs.1.0 qs.1.0) (fsep (flft κs.1.1.0 qs.1.1.0) (fsep (flft κs.1.1.1.0 qs.1.1.1.0) (fsep (flft κs.1.1.1.1.0 qs.1.1.1.1.0) (fsep (flft κs.1.1.1.1.1.0 qs.1.1.1.1.1.0) ftrue)))) in
    qed 𝓛 (((‵ (flft β q) ⊛ ‵ others) ⊛ ‵ (owns (types_at En.signature.params κs) a y.0.4)) ∷ raw (shown 𝓤 _) ∷ raw (shown 𝓤 _) ∷ raw (shown 𝓤 _) ∷ raw (shown 𝓤 _) ∷ raw (shown 𝓤 _) ∷ given (Enters (g.holds key) then) (‵ ftrue) ∷ raw (shown 𝓤 _) ∷ []) ∵
    keep ! (6 ∷ 0 ∷ []) $ learn ! (λ asked. drop ! $ split ! $ split ! $ move ! (2 ∷ []) $ fsplit ! $ fsplit ! $ keep ! (1 ∷ 3 ∷ 4 ∷ []) $
    -- [the claim; the slot's token; the other tokens]
    use1 𝓛 (given (InBlock p) (‵ (claim_owns cw.code γ R Q g.counts (g.holds key) β p r v state))) (fact_use 𝓤 _ (held_placed 𝓛 cw γ R Q g.counts (g.holds key) β p (λ i j t. fsep (right_to R i j t r v) (lies R Q i j t state))) (guard_i 𝓤 (InBlock p) (sem 𝓛 (claim_owns cw.code γ R Q g.counts (g.holds key) β p r v state)))) $ learn ! (λ inb. let at : p ≡ block_ptr b o = at_block p inb in
    rewrite ! 0 (λ (z : Ptr). ‵ (claim_owns cw.code γ R Q g.counts (g.holds key) β z r v state)) at refl $
    enter ! 𝓣.C 𝓣.Λ fn (pointing p ∷ []) Post $ alloc_all ! (λ l. pass_all ! refl (points p inb, tt) $ let Ev = env fn.locals l in
    fpick ! (λ t. fsplit ! $ let K : Fml = kept cw.code γ R Q g.counts (g.holds key) b o t β in use1 𝓛 (‵ K ⊛ ‵ K) (kept_twice 𝓛 cw γ R Q g.counts (g.holds key) b o t β) $ split ! $
    move ! (2 ∷ []) $ fsplit ! $ move ! (2 ∷ 4 ∷ []) $
    use2 𝓛 (later (some (λ (s : Share). raw (A.inv (J 𝓛 cw γ R Q g.counts (g.holds key) b o t β)) ⊛ ‵ (flft t.0 s) ⊛ raw (wand 𝓤 (A.lft t.0 s) (H.⇛ (A.lft β q)))))) (reaches 𝓛 cw γ R Q g.counts (g.holds key) b o t β 𝓜 𝓡 q) $ await ! tt $ pick ! (λ s. split3 ! $
    -- [the invariant; the slot's token; its way back; the right; the state; kept; the other tokens]
    let right : ℕ → Fml = λ n. entered 𝓛 cw γ R Q b o t (λ w _. then n w) in let out : ℕ → Fml = λ n. fsep (flft t.0 s) (fsep (Seen 𝓛 cw γ R Q (g.holds key) b o t g.counts s r v n) (right n)) in
    sets ! (is ! (of_opd ! (get_in ! (fld ! refl (stop !)) (sub ! 0 refl (whole !)))) (ap ptr_val at)) refl (tt, tt) $ sets ! (of_opd ! (get_in ! (fld ! refl (stop !)) (sub ! 1 refl (whole !)))) refl (tt, tt) $
    first ! $ blocks ! $ sets ! (addr ! (through ! refl (fld ! refl (stop !)))) refl (tt, tt) $ nothing ! $ move ! (4 ∷ 0 ∷ []) $ join ! $ move ! (1 ∷ 2 ∷ 0 ∷ []) $
    use3 𝓛 (raw (𝓣.C _ (vptr b (o + 0) ∷ seq_cst ∷ []) (λ u. mean 𝓛 (found out u))))
    (via 𝓤 _ (looks_by 𝓛 cw γ R Q (g.holds key) b o t g.counts s r v ftrue right (enters 𝓛 cw γ R Q (g.holds key) b o t g.counts s None (λ n. n) (λ n w _. then n w) (λ n home views so small. let z = asked n home views so small in (z.0, false, z.1, z.2)))) (loads 𝓛 𝓜 𝓡 (code.calls-core::raw_atomic::load 𝓡.env wired) (block_ptr b (o + 0)) out)) $
    sets ! (agg ! (and_then ! (lit ! tt) (no_more !))) refl (tt, (record { fits = lit< tt }, tt)) $ Calls-last ! (fm 𝓛 𝓜 𝓡) (found out) (and_then ! (get ! refl) (and_then ! (get ! refl) (no_more !))) (λ u. finds ! out (λ n fits.
    lands_last ! refl (tt, record { fits = fits }) $ exec ! 𝓣.C 𝓣.Λ Ev (tail (tail (tail fn.body))) (at_ret Ev Post) $ sets ! (of_opd ! (get ! refl)) refl (tt, record { fits = fits }) $
    sets ! (agg ! (no_more !)) refl (tt, tt) $ sets ! (agg ! (and_then ! (get ! refl) (no_more !))) refl (tt, (tt, tt)) $
    sets ! (agg ! (and_then ! (get ! refl) (and_then ! (get ! refl) (no_more !)))) refl (tt, (tt, (tt, tt))) $ sets ! (of_opd ! (get ! refl)) refl (tt, (tt, tt)) $
    sets ! (agg ! (and_then ! (get ! refl) (and_then ! (get ! refl) (and_then ! (get ! refl) (no_more !))))) refl (tt, (record { fits = fits }, ((tt, (tt, tt)), ((tt, tt), tt)))) $
    -- [the slot's token; what is seen, and the right; the mark; the way back; the state; kept; the other tokens]
    fsplit3 ! $ move ! (0 ∷ 3 ∷ []) $ use2 𝓛 (later (‵ (flft β q))) (apply∗ 𝓤 (A.lft t.0 s) (H.⇛ (A.lft β q))) $ await ! tt $
    move ! (2 ∷ []) $ fpick ! (λ id. fpick ! (λ z. fsplit3 ! $ fpick ! (λ told. drop ! $ move ! (1 ∷ []) $ drop ! $
    -- [the mark; the slot's token; what is seen, and the right; the state; kept; the other tokens]
    move ! (2 ∷ []) $ fsplit ! $ fpick ! (λ sight. drop ! $
    -- [the right; the mark; the slot's token; the state; kept; the other tokens]
    move ! (0 ∷ 3 ∷ []) $ fjoin ! $ move ! (3 ∷ 0 ∷ []) $ fjoin ! $ fpack ! Names (λ i. fsep (kept cw.code γ R Q g.counts (g.holds key) b o i β) (fsep (right_to R b o i r v) (lies R Q b o i state))) t $
    let pt : Ptr = block_ptr b o in let hc' : Cr.Denot = record { slot = pt; marker = record {}; name = γ; key = key; right = r; value = v; state = state } in let res : Val = vstruct (vcons (vint w64 n) (vcons (pointing pt) (vcons token vnil))) in let form = shape (claim.the_type ℓ R Q V Kr g) in
    use0 𝓛 (‵ ((Pointing form ℓ R).own_val (pt, (tt, tt)) (pointing pt ∷ []))) (pointing_made form ℓ R 𝓛 pt) $ fjoin ! $ let m : Mr.Denot = record { marker = record {}; slot = γ; id = id; view = z.0 } in move ! (1 ∷ []) $
    use0 𝓛 (‵ ((Token V).own_val (tt, tt) (token ∷ []))) (token_made V 𝓛) $ fjoin ! $ nothing ! $ move ! (1 ∷ 0 ∷ []) $ fjoin ! $ move ! (1 ∷ 0 ∷ []) $ fjoin ! $ flt_i ! n (2 ^ 64) fits $ feq_i ! (List Val) (vint w64 n ∷ []) (vint w64 n ∷ []) refl $ fjoin ! $ fjoin ! $ feq_i ! (List Val) (res ∷ []) (res ∷ []) refl $ fjoin ! $
    fpack ! (Valss (u64 ∷ Cr ∷ Mr ∷ [])) (λ uss. fsep (feq (List Val) (res ∷ []) (vstruct (of_list (uss.0 ++ (uss.1.0 ++ (uss.1.1.0 ++ [])))) ∷ [])) (owns (u64 ∷ Cr ∷ Mr ∷ []) (n, (hc', (m, tt))) uss)) (vint w64 n ∷ [], (pointing pt ∷ [], (token ∷ [], tt))) $
    -- [the result; the slot's token; the other tokens]
    nothing ! $ nothing ! $ fjoin ! $ move ! (2 ∷ 3 ∷ []) $ join ! $
    let Stay : Type 0 = (r ≡ r) × (v ≡ v) × (state ≡ state) × (γ ≡ γ) × (key ≡ key) in let Sight : Type 0 = Sees r (g.counts n) in let Told : Type 0 = (γ ≡ γ) × then n z.0 in
    use0 𝓛 (raw (shown 𝓤 Told)) (fact_i 𝓤 Told (emp 𝓤) (refl, told)) $ use0 𝓛 (raw (shown 𝓤 Sight)) (fact_i 𝓤 Sight (emp 𝓤) sight) $ join ! $ use0 𝓛 (raw (shown 𝓤 Stay)) (fact_i 𝓤 Stay (emp 𝓤) (refl, refl, refl, refl, refl)) $ join ! $
    returns ! (look_at ! 0 refl) $ free_all ! refl $ keep ! (1 ∷ 2 ∷ 3 ∷ 0 ∷ []) $ by ! (leaves 𝓛 En hs c y res (n, hc', m) (tt, tt) (tt, tt))))))))))))))
