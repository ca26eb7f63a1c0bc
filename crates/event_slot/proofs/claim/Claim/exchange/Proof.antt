-- `exchange` is one compare-exchange, by which the mark moves, and the claim has what the right became, with the state if it is out.
use Rattle.event_slot.proofs.Names.{◌≡◌, ◌≢◌, ℕ, ◌+◌, ◌^◌, eqb, List, [], ◌∷◌, ◌++◌, refl, ap, w64, Option, a_type, named, dcons, dnil, Val, vint, vptr, vstruct, vcons, vnil, of_list, inst_fn, Coded, SProp, wand, emp, all, guard_i, via, apply∗, sem, Lft, Share, Fml, ftrue, fsep, feq, flft, shown, fact_i, fact_use, tables, either, ‵, raw, ◌⊛◌, some, given, later, mean, at_ret, ◌$◌, ◌∵◌, !, qed, by, move, keep, drop, split, split3, join, fsplit, fsplit3, fjoin, fjoin3, fpick, fpack, pick, learn, use0, use1, use2, use3, await, rewrite, feq_i, flt_i, stop, fld, addr, of_opd, no_more, and_then, first, blocks, exec, Calls-last, returns, enter, alloc_all, pass_all, free_all, look_at, get, get_in, through, sets, lands_last, is, env, agg, sub, whole, yes, no, RattleType, Valss, owns, types_at, plain, named_lft, Ptr, InBlock, block_ptr, ptr_val, block_of, count_of, at_block, nothing, param, bounded, u64, mut_vals, mut_Tells, uint_vals, uint_Tells, Stays, stay_dropped, stay_ref, walk_of, Goes-dropped, Goes-ref, tail, proved, leaves}
use denote.Struct.Owning.{shape}
use Rattle.atomic_table.proofs.Calls.{fm, found, finds, exchanges}
use Rattle.atomic_table.specs.Marked.{mark_owns}
use Rattle.event_slot.specs.Ruling.{MayTurn, Becomes, Sees, MayTrade}
use Rattle.event_slot.specs.Holding.{Names, count, kept, right_to, lies, claim_owns}
use Rattle.event_slot.specs.contracts.claim.Claim as claim
use Rattle.event_slot.specs.contracts.rule.Mark as mark
use Rattle.event_slot.proofs.Fields.{pointing, points, Pointing, pointing_told, pointing_made, held_placed}
use Rattle.event_slot.proofs.Entering.{J, kept_twice, reaches, Back, Marked, knowing, takes_mark, brings}
use Rattle.event_slot.proofs.Rights.{Prepared}
use Rattle.event_slot.proofs.Steps.{traded, changes, turns}
use Rattle.event_slot.proofs.Turning.{Answer, left_over, prepares, concludes}
use Rattle.event_slot.proofs.Names.{heard, ◌⊑◌, param_laws}
use Rattle.event_slot.specs.contracts.claim.Claim.exchange.{ended, clauses}
use Rattle.event_slot.specs.contracts.claim.Claim.exchange.Key.{name as #self}
use Rattle.event_slot.proofs.claim.Claim.exchange.Statement.{statement}
use Rattle.event_slot.proofs.claim.Claim.exchange.Code as code

pub exchange_spec : {M : Type 1} → statement M
exchange_spec 𝓤 𝓛 𝓜 𝓡 wired X S Y Ky Z LX _ _ _ _ g d h d' _ _ =
    let H = 𝓛.H in let A = 𝓛.A in let 𝓣 = tables 𝓤 H 𝓜 𝓡 𝓡.env in let R : RattleType = param 0 X in let Q : RattleType = param 1 S in let V : RattleType = param 2 Y in let Kr : RattleType = param 3 Ky in let En = ended X S Y Ky Z g d h d' in let c = clauses X S Y Ky Z g d h d' 𝓛 𝓜.mem 𝓡.returns in
    let inst = bounded (a_type ∷ a_type ∷ a_type ∷ a_type ∷ a_type ∷ []) (X, (S, (Y, (Ky, (Z, tt))))) (dcons d (dcons d' dnil)) in let fn = inst_fn inst code.function in let cw : Coded Y.Denot = V.coded in let LR = param_laws 0 X LX in
    let Mr : RattleType = mark.the_row V in let marked = plain (λ _. Mr) in let number = plain (λ _. u64) in let self = plain (λ κs. claim.the_row (named_lft 7 0 tt κs) R Q V Kr g) in
    let hs : Stays En.signature.params En.kept = (stay_dropped self no, (stay_ref (1 ∷ []) tt marked, (stay_dropped number yes, (stay_dropped number yes, tt)))) in let goes = Goes-dropped 𝓛 7 number yes (λ κs x f. refl) in
    proved 𝓛 En hs c 𝓜 𝓡 (Goes-dropped 𝓛 7 self no (λ κs x f. refl), (Goes-ref 𝓛 7 1 tt marked, (goes, (goes, tt)))) (#self inst) fn (code.unfolded 𝓤 H 𝓜 𝓡 wired (X, (S, (Y, (Ky, (Z, tt))))) d d')
    (λ κs. ((λ x. pointing x.slot ∷ []), (mut_vals, (uint_vals w64, (uint_vals w64, tt))))) (λ κs. ((λ x vs so. pointing_told (shape (claim.the_type (named_lft 7 0 tt κs) R Q V Kr g)) (named_lft 7 0 tt κs) R x.slot vs so.0), (mut_Tells (named 1) κs.1.0 Mr, (uint_Tells w64, (uint_Tells w64, tt))))) (λ κs qs bounds a gh are.
    let ℓ = named_lft 7 0 tt κs in let Cr : RattleType = claim.the_row ℓ R Q V Kr g in let hc : Cr.Denot = a.0 in let p : Ptr = hc.slot in let b : ℕ = block_of p in let o : ℕ = count_of p in let β : Lft = κs.0 in let q : Share = qs.0 in let γ : ℕ = hc.name in let key : Ky.Denot = hc.key in let v : Option X.Denot = hc.value in
    let x = a.1.0 in let m : Mr.Denot = x.now in let old : ℕ = a.1.1.0 in let new : ℕ = a.1.1.1.0 in let f : ℕ → ℕ = λ n. either (eqb n old) new n in let state : Option S.Denot = hc.state in let then = h.then old new m.view state in let τ : Lft = κs.1.1.0 in let τq : Share = qs.1.1.0 in let r : ℕ = hc.right in
    let y : (walk_of 𝓛 En hs c).Ghost = ((κs, qs, bounds, a, (pointing p ∷ [], (mut_vals x, (vint w64 old ∷ [], (vint w64 new ∷ [], tt))))), gh) in let Post : Val → SProp 𝓤 = (walk_of 𝓛 En hs c).post y in
    let others : Fml = fsep (flft κs.1.1.1.0 qs.1.1.1.0) (fsep (flft κs.1.1.1.1.0 qs.1.1.1.1.0) (fsep (flft κs.1.1.1.1.1.0 qs.1.1.1.1.1.0) (fsep (flft κs.1.1.1.1.1.1.0 qs.1.1.1.1.1.1.0) ftrue))) in
    qed 𝓛 (((‵ (flft β q) ⊛ ‵ (flft κs.1.0 qs.1.0) ⊛ ‵ (flft τ τq) ⊛ ‵ others) ⊛ ‵ (owns (types_at En.signature.params κs) a y.0.4)) ∷ raw (shown 𝓤 (τ ⊑ X.lives)) ∷ raw (shown 𝓤 _) ∷ raw (shown 𝓤 _) ∷ raw (shown 𝓤 _) ∷ raw (shown 𝓤 _) ∷ given (MayTurn r (g.counts old) (g.counts new)) (‵ ftrue) ∷ given ((m.slot ≡ γ) × MayTrade (g.holds key) m.id m.view state f then) (‵ ftrue) ∷ raw (shown 𝓤 _) ∷ []) ∵
    keep ! (6 ∷ 7 ∷ 1 ∷ 0 ∷ []) $ learn ! (λ turn. drop ! $ learn ! (λ asked. drop ! $ heard ! (τ ⊑ X.lives) (λ lives. split ! $ split3 ! $ move ! (2 ∷ []) $ split ! $ move ! (4 ∷ []) $ fsplit3 ! $ fsplit ! $ keep ! (1 ∷ 6 ∷ 2 ∷ 7 ∷ 4 ∷ 5 ∷ []) $
    -- [the claim; the slot's token; the mark; its token; a token of the value's lives; the other tokens]
    use1 𝓛 (given (InBlock p) (‵ (claim_owns cw.code γ R Q g.counts (g.holds key) β p r v state))) (fact_use 𝓤 _ (held_placed 𝓛 cw γ R Q g.counts (g.holds key) β p (λ i j t. fsep (right_to R i j t r v) (lies R Q i j t state))) (guard_i 𝓤 (InBlock p) (sem 𝓛 (claim_owns cw.code γ R Q g.counts (g.holds key) β p r v state)))) $ learn ! (λ inb. let at : p ≡ block_ptr b o = at_block p inb in
    rewrite ! 0 (λ (z : Ptr). ‵ (claim_owns cw.code γ R Q g.counts (g.holds key) β z r v state)) at refl $
    enter ! 𝓣.C 𝓣.Λ fn (pointing p ∷ vptr x.ref_ptr.0 x.ref_ptr.1 ∷ vint w64 old ∷ vint w64 new ∷ []) Post $ alloc_all ! (λ l. pass_all ! refl (points p inb, ((tt, tt), ((tt, record { fits = are.1.1.0.1 }), ((tt, record { fits = are.1.1.1.0.1 }), tt)))) $ let Ev = env fn.locals l in
    fpick ! (λ t. fsplit ! $ let K : Fml = kept cw.code γ R Q g.counts (g.holds key) b o t β in use1 𝓛 (‵ K ⊛ ‵ K) (kept_twice 𝓛 cw γ R Q g.counts (g.holds key) b o t β) $ split ! $
    move ! (2 ∷ []) $ fsplit ! $ move ! (2 ∷ 4 ∷ []) $
    use2 𝓛 (later (some (λ (s : Share). raw (A.inv (J 𝓛 cw γ R Q g.counts (g.holds key) b o t β)) ⊛ ‵ (flft t.0 s) ⊛ raw (wand 𝓤 (A.lft t.0 s) (H.⇛ (A.lft β q)))))) (reaches 𝓛 cw γ R Q g.counts (g.holds key) b o t β 𝓜 𝓡 q) $ await ! tt $ pick ! (λ s. split3 ! $
    let Own : Fml = mark_owns cw.code γ m.id m.view in let Marks = Marked 𝓛 V (named 1) κs.1.0 qs.1.0 x γ asked.0 in let Home = Back 𝓛 V (named 1) κs.1.0 qs.1.0 x γ asked.0 in let Lie : Fml = lies R Q b o t state in let Has : Fml = Prepared 𝓛 R b o (count t) r (g.counts new) v in
    -- [the invariant; the slot's token; its way back; the right; the state; kept; the mark; its token; a token of the value's lives; the other tokens]
    move ! (3 ∷ 1 ∷ 8 ∷ []) $ use3 𝓛 (later (‵ Has ⊛ ‵ (flft t.0 s) ⊛ ‵ (flft τ τq))) (prepares 𝓛 R b o t (LR.shares 𝓛) s τ τq lives r (g.counts new) v) $ await ! tt $ split3 ! $
    move ! (7 ∷ 8 ∷ []) $ use2 𝓛 (later (‵ Own ⊛ raw (all 𝓤 Home))) (takes_mark 𝓛 V (named 1) κs.1.0 qs.1.0 x γ asked.0) $ await ! tt $ split ! $
    -- [the mark; its way home; what the step is given; the slot's token; a token of the value's lives; the invariant; the way back; the state; kept; the other tokens]
    move ! (0 ∷ 7 ∷ []) $ fjoin ! $ let left : ℕ → Fml = left_over 𝓛 R b o t g.counts r old new v s in let right : ℕ → Fml = λ n. traded 𝓛 cw γ R Q b o t (then n) m.id in let out : ℕ → Fml = λ n. fsep (flft t.0 s) (fsep (left n) (right n)) in
    sets ! (is ! (of_opd ! (get_in ! (fld ! refl (stop !)) (sub ! 0 refl (whole !)))) (ap ptr_val at)) refl (tt, tt) $ sets ! (of_opd ! (get_in ! (fld ! refl (stop !)) (sub ! 1 refl (whole !)))) refl (tt, tt) $
    first ! $ blocks ! $ sets ! (addr ! (through ! refl (fld ! refl (stop !)))) refl (tt, tt) $ move ! (2 ∷ 0 ∷ []) $ join ! $ move ! (4 ∷ 2 ∷ 0 ∷ []) $
    use3 𝓛 (raw (𝓣.C _ (vptr b (o + 0) ∷ vint w64 old ∷ vint w64 new ∷ []) (λ u. mean 𝓛 (found out u))))
    (via 𝓤 _ (turns 𝓛 cw γ R Q (g.holds key) b o t g.counts s LR.shr_laws r old new v turn s (fsep Own Lie) right (changes 𝓛 cw γ R Q (g.holds key) b o t g.counts s m.id m.view state f then asked.1)) (exchanges 𝓛 𝓜 𝓡 (code.calls-atomic_table::exchange 𝓡.env wired) (block_ptr b (o + 0)) old new are.1.1.0.1 are.1.1.1.0.1 out)) $
    Calls-last ! (fm 𝓛 𝓜 𝓡) (found out) (and_then ! (get ! refl) (and_then ! (get ! refl) (and_then ! (get ! refl) (no_more !)))) (λ u. finds ! out (λ n fits.
    lands_last ! refl (tt, record { fits = fits }) $ exec ! 𝓣.C 𝓣.Λ Ev (tail (tail (tail fn.body))) (at_ret Ev Post) $ sets ! (of_opd ! (get ! refl)) refl (tt, record { fits = fits }) $
    sets ! (agg ! (and_then ! (get ! refl) (and_then ! (get ! refl) (no_more !)))) refl (tt, (tt, (tt, tt))) $ sets ! (agg ! (and_then ! (get ! refl) (and_then ! (get ! refl) (no_more !)))) refl (tt, (record { fits = fits }, ((tt, (tt, tt)), tt))) $
    -- [the slot's token; what is left of the right; the mark and what is out; its way home; a token of the value's lives; the way back; kept; the other tokens]
    fsplit3 ! $ move ! (2 ∷ 3 ∷ []) $ use2 𝓛 (later (some (λ (z : Y.Denot × Option S.Denot). given (then n z.0 z.1) (‵ (Marks z.0) ⊛ ‵ (flft κs.1.0 qs.1.0) ⊛ ‵ (lies R Q b o t z.1))))) (brings 𝓛 V (named 1) κs.1.0 qs.1.0 x γ asked.0 R Q b o t (then n)) $ await ! tt $ pick ! (λ z. learn ! (λ told. split3 ! $
    -- [the mark; its token; the state; the slot's token; what is left of the right; a token of the value's lives; the way back; kept; the other tokens]
    move ! (4 ∷ 3 ∷ []) $ use2 𝓛 (later (given (Sees r (g.counts n)) (some (λ (w : ℕ × Option X.Denot). given (Answer g.counts r old new n v w.0 w.1) (‵ (right_to R b o t w.0 w.1))) ⊛ ‵ (flft t.0 s)))) (concludes 𝓛 R b o t g.counts old new v s r n) $ await ! tt $ learn ! (λ sight. split ! $ pick ! (λ w. learn ! (λ said. let k : ℕ = w.0 in let v' : Option X.Denot = w.1 in
    move ! (1 ∷ 6 ∷ []) $ use2 𝓛 (later (‵ (flft β q))) (apply∗ 𝓤 (A.lft t.0 s) (H.⇛ (A.lft β q))) $ await ! tt $
    -- [the slot's token; the right; the mark; its token; the state; a token of the value's lives; kept; the other tokens]
    move ! (1 ∷ 4 ∷ []) $ fjoin ! $ move ! (5 ∷ 0 ∷ []) $ fjoin ! $ fpack ! Names (λ i. fsep (kept cw.code γ R Q g.counts (g.holds key) b o i β) (fsep (right_to R b o i k v') (lies R Q b o i z.1))) t $
    let pt : Ptr = block_ptr b o in let hc' : Cr.Denot = record { slot = pt; marker = record {}; name = γ; key = key; right = k; value = v'; state = z.1 } in let res : Val = vstruct (vcons (vint w64 n) (vcons (pointing pt) vnil)) in let form = shape (claim.the_type ℓ R Q V Kr g) in
    use0 𝓛 (‵ ((Pointing form ℓ R).own_val (pt, (tt, tt)) (pointing pt ∷ []))) (pointing_made form ℓ R 𝓛 pt) $ fjoin ! $ nothing ! $ flt_i ! n (2 ^ 64) fits $ feq_i ! (List Val) (vint w64 n ∷ []) (vint w64 n ∷ []) refl $ fjoin ! $
    move ! (0 ∷ 2 ∷ 1 ∷ []) $ fjoin3 ! $ feq_i ! (List Val) (res ∷ []) (res ∷ []) refl $ fjoin ! $
    fpack ! (Valss (u64 ∷ Cr ∷ [])) (λ uss. fsep (feq (List Val) (res ∷ []) (vstruct (of_list (uss.0 ++ (uss.1.0 ++ []))) ∷ [])) (owns (u64 ∷ Cr ∷ []) (n, (hc', tt)) uss)) (vint w64 n ∷ [], (pointing pt ∷ [], tt)) $
    -- [the result; the slot's token; the mark; its token; a token of the value's lives; the other tokens]
    nothing ! $ nothing ! $ fjoin ! $ nothing ! $ fjoin ! $ move ! (3 ∷ 0 ∷ []) $ fjoin ! $ nothing ! $ fjoin ! $ move ! (4 ∷ 5 ∷ []) $ join ! $ move ! (4 ∷ 0 ∷ []) $ join ! $ move ! (3 ∷ 0 ∷ []) $ join ! $
    let Left : Type 0 = (n ≡ old → Becomes r (g.counts old) (g.counts new) k) × (n ≢ old → k ≡ r) × (γ ≡ γ) × (key ≡ key) in let Sight : Type 0 = Sees r (g.counts n) in let Said : Type 0 = r ≡ 1 → k ≡ 1 → v' ≡ v in let Told : Type 0 = (m.slot ≡ m.slot) × (m.id ≡ m.id) × then n z.0 z.1 in
    use0 𝓛 (raw (shown 𝓤 Told)) (fact_i 𝓤 Told (emp 𝓤) (refl, refl, told)) $ use0 𝓛 (raw (shown 𝓤 Said)) (fact_i 𝓤 Said (emp 𝓤) said.2) $ join ! $ use0 𝓛 (raw (shown 𝓤 Sight)) (fact_i 𝓤 Sight (emp 𝓤) sight) $ join ! $ use0 𝓛 (raw (shown 𝓤 Left)) (fact_i 𝓤 Left (emp 𝓤) (said.0, said.1, refl, refl)) $ join ! $
    returns ! (look_at ! 0 refl) $ free_all ! refl $ keep ! (1 ∷ 2 ∷ 3 ∷ 0 ∷ []) $ by ! (leaves 𝓛 En hs c y res (n, hc') (tt, (knowing 𝓛 V (named 1) κs.1.0 qs.1.0 x γ asked.0 z.0, (tt, (tt, tt)))) (tt, (tt, (tt, (tt, tt))))))))))))))))))))
