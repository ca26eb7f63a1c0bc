-- `arrive` is one compare-exchange, by which a mark comes, and the claim has what the right became, with the state if it is out.
use Rattle.event_slot.proofs.Names.{◌≡◌, ◌≢◌, ℕ, ◌+◌, ◌^◌, eqb, List, [], ◌∷◌, ◌++◌, refl, ap, w64, Option, a_type, dcons, dnil, Val, vint, vptr, vstruct, vcons, vnil, of_list, inst_fn, Coded, SProp, wand, emp, guard_i, via, apply∗, sem, Lft, Share, Fml, ftrue, fsep, feq, flft, shown, fact_i, fact_use, tables, either, ‵, raw, ◌⊛◌, some, given, later, mean, at_ret, ◌$◌, ◌∵◌, !, qed, by, move, keep, drop, split, split3, join, fsplit, fsplit3, fjoin, fpick, fpack, pick, learn, use0, use1, use2, use3, await, rewrite, feq_i, flt_i, stop, fld, addr, of_opd, no_more, and_then, first, blocks, exec, Calls-last, returns, enter, alloc_all, pass_all, free_all, look_at, get, get_in, through, sets, lands_last, is, env, agg, sub, whole, yes, no, RattleType, Valss, owns, types_at, plain, named_lft, Ptr, InBlock, block_ptr, ptr_val, block_of, count_of, at_block, nothing, param, param_laws, bounded, u64, uint_vals, uint_Tells, Stays, stay_dropped, walk_of, Goes-dropped, tail, proved, leaves, heard, ◌⊑◌}
use denote.Struct.Owning.{shape}
use Rattle.atomic_table.proofs.Calls.{fm, found, finds, exchanges}
use Rattle.event_slot.specs.Ruling.{MayTurn, Becomes, Sees, Comes}
use Rattle.event_slot.specs.Holding.{Names, count, kept, right_to, lies, claim_owns}
use Rattle.event_slot.specs.contracts.claim.Claim as claim
use Rattle.event_slot.specs.contracts.rule.Mark as mark
use Rattle.event_slot.proofs.Fields.{pointing, points, Pointing, pointing_told, pointing_made, held_placed, token, Token, token_made}
use Rattle.event_slot.proofs.Entering.{J, kept_twice, reaches}
use Rattle.event_slot.proofs.Rights.{Prepared}
use Rattle.event_slot.proofs.Steps.{entered, enters, turns}
use Rattle.event_slot.proofs.Turning.{Answer, left_over, prepares, concludes}
use Rattle.event_slot.specs.contracts.claim.Claim.arrive.{ended, clauses}
use Rattle.event_slot.specs.contracts.claim.Claim.arrive.Key.{name as #self}
use Rattle.event_slot.proofs.claim.Claim.arrive.Statement.{statement}
use Rattle.event_slot.proofs.claim.Claim.arrive.Code as code

pub arrive_spec : {M : Type 1} → statement M
arrive_spec 𝓤 𝓛 𝓜 𝓡 wired X S Y Ky Z LX _ _ _ _ g d h d' _ _ =
    let H = 𝓛.H in let A = 𝓛.A in let 𝓣 = tables 𝓤 H 𝓜 𝓡 𝓡.env in let R : RattleType = param 0 X in let Q : RattleType = param 1 S in let V : RattleType = param 2 Y in let Kr : RattleType = param 3 Ky in let En = ended X S Y Ky Z g d h d' in let c = clauses X S Y Ky Z g d h d' 𝓛 𝓜.mem 𝓡.returns in
    let inst = bounded (a_type ∷ a_type ∷ a_type ∷ a_type ∷ a_type ∷ []) (X, (S, (Y, (Ky, (Z, tt))))) (dcons d (dcons d' dnil)) in let fn = inst_fn inst code.function in let cw : Coded Y.Denot = V.coded in let LR = param_laws 0 X LX in
    let Mr : RattleType = mark.the_row V in let number = plain (λ _. u64) in let self = plain (λ κs. claim.the_row (named_lft 6 0 tt κs) R Q V Kr g) in
    let hs : Stays En.signature.params En.kept = (stay_dropped self no, (stay_dropped number yes, (stay_dropped number yes, tt))) in let goes = Goes-dropped 𝓛 6 number yes (λ κs x f. refl) in
    proved 𝓛 En hs c 𝓜 𝓡 (Goes-dropped 𝓛 6 self no (λ κs x f. refl), (goes, (goes, tt))) (#self inst) fn (code.unfolded 𝓤 H 𝓜 𝓡 wired (X, (S, (Y, (Ky, (Z, tt))))) d d')
    (λ κs. ((λ x. pointing x.slot ∷ []), (uint_vals w64, (uint_vals w64, tt)))) (λ κs. ((λ x vs so. pointing_told (shape (claim.the_type (named_lft 6 0 tt κs) R Q V Kr g)) (named_lft 6 0 tt κs) R x.slot vs so.0), (uint_Tells w64, (uint_Tells w64, tt)))) (λ κs qs bounds a gh are.
    let ℓ = named_lft 6 0 tt κs in let Cr : RattleType = claim.the_row ℓ R Q V Kr g in let hc : Cr.Denot = a.0 in let p : Ptr = hc.slot in let b : ℕ = block_of p in let o : ℕ = count_of p in let β : Lft = κs.0 in let q : Share = qs.0 in let γ : ℕ = hc.name in let key : Ky.Denot = hc.key in let v : Option X.Denot = hc.value in
    let old : ℕ = a.1.0 in let new : ℕ = a.1.1.0 in let f : ℕ → ℕ = λ n. either (eqb n old) new n in let state : Option S.Denot = hc.state in let then = h.then old new (g.first key) state in let τ : Lft = κs.1.0 in let τq : Share = qs.1.0 in let r : ℕ = hc.right in
    let y : (walk_of 𝓛 En hs c).Ghost = ((κs, qs, bounds, a, (pointing p ∷ [], (vint w64 old ∷ [], (vint w64 new ∷ [], tt)))), gh) in let Post : Val → SProp 𝓤 = (walk_of 𝓛 En hs c).post y in
    let others : Fml = fsep (flft κs.1.1.0 qs.1.1.0) (fsep (flft κs.1.1.1.0 qs.1.1.1.0) (fsep (flft κs.1.1.1.1.0 qs.1.1.1.1.0) (fsep (flft κs.1.1.1.1.1.0 qs.1.1.1.1.1.0) ftrue))) in
    qed 𝓛 (((‵ (flft β q) ⊛ ‵ (flft τ τq) ⊛ ‵ others) ⊛ ‵ (owns (types_at En.signature.params κs) a y.0.4)) ∷ raw (shown 𝓤 (τ ⊑ X.lives)) ∷ raw (shown 𝓤 _) ∷ raw (shown 𝓤 _) ∷ raw (shown 𝓤 _) ∷ raw (shown 𝓤 _) ∷ given (MayTurn r (g.counts old) (g.counts new)) (‵ ftrue) ∷ given (Comes (g.holds key) state f then) (‵ ftrue) ∷ raw (shown 𝓤 _) ∷ []) ∵
    keep ! (6 ∷ 7 ∷ 1 ∷ 0 ∷ []) $ learn ! (λ turn. drop ! $ learn ! (λ asked. drop ! $ heard ! (τ ⊑ X.lives) (λ lives. split ! $ split3 ! $ move ! (3 ∷ []) $ fsplit ! $ fsplit ! $ keep ! (1 ∷ 3 ∷ 4 ∷ 5 ∷ []) $
    -- [the claim; the slot's token; a token of the value's lives; the other tokens]
    use1 𝓛 (given (InBlock p) (‵ (claim_owns cw.code γ R Q g.counts (g.holds key) β p r v state))) (fact_use 𝓤 _ (held_placed 𝓛 cw γ R Q g.counts (g.holds key) β p (λ i j t. fsep (right_to R i j t r v) (lies R Q i j t state))) (guard_i 𝓤 (InBlock p) (sem 𝓛 (claim_owns cw.code γ R Q g.counts (g.holds key) β p r v state)))) $ learn ! (λ inb. let at : p ≡ block_ptr b o = at_block p inb in
    rewrite ! 0 (λ (z : Ptr). ‵ (claim_owns cw.code γ R Q g.counts (g.holds key) β z r v state)) at refl $
    enter ! 𝓣.C 𝓣.Λ fn (pointing p ∷ vint w64 old ∷ vint w64 new ∷ []) Post $ alloc_all ! (λ l. pass_all ! refl (points p inb, ((tt, record { fits = are.1.0.1 }), ((tt, record { fits = are.1.1.0.1 }), tt))) $ let Ev = env fn.locals l in
    fpick ! (λ t. fsplit ! $ let K : Fml = kept cw.code γ R Q g.counts (g.holds key) b o t β in use1 𝓛 (‵ K ⊛ ‵ K) (kept_twice 𝓛 cw γ R Q g.counts (g.holds key) b o t β) $ split ! $
    move ! (2 ∷ []) $ fsplit ! $ move ! (2 ∷ 4 ∷ []) $
    use2 𝓛 (later (some (λ (s : Share). raw (A.inv (J 𝓛 cw γ R Q g.counts (g.holds key) b o t β)) ⊛ ‵ (flft t.0 s) ⊛ raw (wand 𝓤 (A.lft t.0 s) (H.⇛ (A.lft β q)))))) (reaches 𝓛 cw γ R Q g.counts (g.holds key) b o t β 𝓜 𝓡 q) $ await ! tt $ pick ! (λ s. split3 ! $
    let Lie : Fml = lies R Q b o t state in let Has : Fml = Prepared 𝓛 R b o (count t) r (g.counts new) v in
    -- [the invariant; the slot's token; its way back; the right; the state; kept; a token of the value's lives; the other tokens]
    move ! (3 ∷ 1 ∷ 6 ∷ []) $ use3 𝓛 (later (‵ Has ⊛ ‵ (flft t.0 s) ⊛ ‵ (flft τ τq))) (prepares 𝓛 R b o t (LR.shares 𝓛) s τ τq lives r (g.counts new) v) $ await ! tt $ split3 ! $
    -- [what the step is given; the slot's token; a token of the value's lives; the invariant; the way back; the state; kept; the other tokens]
    let left : ℕ → Fml = left_over 𝓛 R b o t g.counts r old new v s in let right : ℕ → Fml = λ n. entered 𝓛 cw γ R Q b o t (then n) in let out : ℕ → Fml = λ n. fsep (flft t.0 s) (fsep (left n) (right n)) in
    sets ! (is ! (of_opd ! (get_in ! (fld ! refl (stop !)) (sub ! 0 refl (whole !)))) (ap ptr_val at)) refl (tt, tt) $ sets ! (of_opd ! (get_in ! (fld ! refl (stop !)) (sub ! 1 refl (whole !)))) refl (tt, tt) $
    first ! $ blocks ! $ sets ! (addr ! (through ! refl (fld ! refl (stop !)))) refl (tt, tt) $ move ! (0 ∷ 5 ∷ []) $ join ! $ move ! (3 ∷ 1 ∷ 0 ∷ []) $
    use3 𝓛 (raw (𝓣.C _ (vptr b (o + 0) ∷ vint w64 old ∷ vint w64 new ∷ []) (λ u. mean 𝓛 (found out u))))
    (via 𝓤 _ (turns 𝓛 cw γ R Q (g.holds key) b o t g.counts s LR.shr_laws r old new v turn s Lie right (enters 𝓛 cw γ R Q (g.holds key) b o t g.counts s state f then asked)) (exchanges 𝓛 𝓜 𝓡 (code.calls-atomic_table::exchange 𝓡.env wired) (block_ptr b (o + 0)) old new are.1.0.1 are.1.1.0.1 out)) $
    Calls-last ! (fm 𝓛 𝓜 𝓡) (found out) (and_then ! (get ! refl) (and_then ! (get ! refl) (and_then ! (get ! refl) (no_more !)))) (λ u. finds ! out (λ n fits.
    lands_last ! refl (tt, record { fits = fits }) $ exec ! 𝓣.C 𝓣.Λ Ev (tail (tail (tail fn.body))) (at_ret Ev Post) $ sets ! (of_opd ! (get ! refl)) refl (tt, record { fits = fits }) $
    sets ! (agg ! (no_more !)) refl (tt, tt) $ sets ! (agg ! (and_then ! (get ! refl) (no_more !))) refl (tt, (tt, tt)) $
    sets ! (agg ! (and_then ! (get ! refl) (and_then ! (get ! refl) (no_more !)))) refl (tt, (tt, (tt, tt))) $ sets ! (of_opd ! (get ! refl)) refl (tt, (tt, tt)) $
    sets ! (agg ! (and_then ! (get ! refl) (and_then ! (get ! refl) (and_then ! (get ! refl) (no_more !))))) refl (tt, (record { fits = fits }, ((tt, (tt, tt)), ((tt, tt), tt)))) $
    -- [the slot's token; what is left of the right; the mark and what is out; a token of the value's lives; the way back; kept; the other tokens]
    fsplit3 ! $ move ! (1 ∷ 0 ∷ []) $ use2 𝓛 (later (given (Sees r (g.counts n)) (some (λ (w : ℕ × Option X.Denot). given (Answer g.counts r old new n v w.0 w.1) (‵ (right_to R b o t w.0 w.1))) ⊛ ‵ (flft t.0 s)))) (concludes 𝓛 R b o t g.counts old new v s r n) $ await ! tt $ learn ! (λ sight. split ! $ pick ! (λ w. learn ! (λ said. let k : ℕ = w.0 in let v' : Option X.Denot = w.1 in
    -- [the right; the slot's token; the mark and what is out; a token of the value's lives; the way back; kept; the other tokens]
    move ! (1 ∷ 4 ∷ []) $ use2 𝓛 (later (‵ (flft β q))) (apply∗ 𝓤 (A.lft t.0 s) (H.⇛ (A.lft β q))) $ await ! tt $
    move ! (2 ∷ []) $ fpick ! (λ id. fpick ! (λ z. fsplit3 ! $ fpick ! (λ told. drop ! $
    -- [the mark; the state; the slot's token; the right; a token of the value's lives; kept; the other tokens]
    move ! (3 ∷ 1 ∷ []) $ fjoin ! $ move ! (4 ∷ 0 ∷ []) $ fjoin ! $ fpack ! Names (λ i. fsep (kept cw.code γ R Q g.counts (g.holds key) b o i β) (fsep (right_to R b o i k v') (lies R Q b o i z.1))) t $
    let pt : Ptr = block_ptr b o in let hc' : Cr.Denot = record { slot = pt; marker = record {}; name = γ; key = key; right = k; value = v'; state = z.1 } in let res : Val = vstruct (vcons (vint w64 n) (vcons (pointing pt) (vcons token vnil))) in let form = shape (claim.the_type ℓ R Q V Kr g) in
    use0 𝓛 (‵ ((Pointing form ℓ R).own_val (pt, (tt, tt)) (pointing pt ∷ []))) (pointing_made form ℓ R 𝓛 pt) $ fjoin ! $ let m : Mr.Denot = record { marker = record {}; slot = γ; id = id; view = z.0 } in move ! (1 ∷ []) $
    use0 𝓛 (‵ ((Token V).own_val (tt, tt) (token ∷ []))) (token_made V 𝓛) $ fjoin ! $ nothing ! $ move ! (1 ∷ 0 ∷ []) $ fjoin ! $ move ! (1 ∷ 0 ∷ []) $ fjoin ! $ flt_i ! n (2 ^ 64) fits $ feq_i ! (List Val) (vint w64 n ∷ []) (vint w64 n ∷ []) refl $ fjoin ! $ fjoin ! $ feq_i ! (List Val) (res ∷ []) (res ∷ []) refl $ fjoin ! $
    fpack ! (Valss (u64 ∷ Cr ∷ Mr ∷ [])) (λ uss. fsep (feq (List Val) (res ∷ []) (vstruct (of_list (uss.0 ++ (uss.1.0 ++ (uss.1.1.0 ++ [])))) ∷ [])) (owns (u64 ∷ Cr ∷ Mr ∷ []) (n, (hc', (m, tt))) uss)) (vint w64 n ∷ [], (pointing pt ∷ [], (token ∷ [], tt))) $
    -- [the result; the slot's token; a token of the value's lives; the other tokens]
    nothing ! $ nothing ! $ fjoin ! $ nothing ! $ fjoin ! $ nothing ! $ fjoin ! $ move ! (3 ∷ 4 ∷ []) $ join ! $ move ! (3 ∷ 0 ∷ []) $ join ! $
    let Left : Type 0 = (n ≡ old → Becomes r (g.counts old) (g.counts new) k) × (n ≢ old → k ≡ r) × (γ ≡ γ) × (key ≡ key) in let Sight : Type 0 = Sees r (g.counts n) in let Said : Type 0 = r ≡ 1 → k ≡ 1 → v' ≡ v in let Told : Type 0 = (γ ≡ γ) × then n z.0 z.1 in
    use0 𝓛 (raw (shown 𝓤 Told)) (fact_i 𝓤 Told (emp 𝓤) (refl, told)) $ use0 𝓛 (raw (shown 𝓤 Said)) (fact_i 𝓤 Said (emp 𝓤) said.2) $ join ! $ use0 𝓛 (raw (shown 𝓤 Sight)) (fact_i 𝓤 Sight (emp 𝓤) sight) $ join ! $ use0 𝓛 (raw (shown 𝓤 Left)) (fact_i 𝓤 Left (emp 𝓤) (said.0, said.1, refl, refl)) $ join ! $
    returns ! (look_at ! 0 refl) $ free_all ! refl $ keep ! (1 ∷ 2 ∷ 3 ∷ 0 ∷ []) $ by ! (leaves 𝓛 En hs c y res (n, hc', m) (tt, (tt, (tt, tt))) (tt, (tt, (tt, tt))))))))))))))))))))
