-- `arrive` is one compare-exchange, by which a mark comes, and the claim has what the right became, with the state if it is out.
use Rattle.std.specs.Prelude.{IsSome}
use Rattle.event_slot.proofs.Names.{◌≡◌, ◌≢◌, ℕ, ◌+◌, ◌^◌, ◌<◌, eqb, List, [], ◌∷◌, ◌++◌, sym, refl, ap, ◌∙◌, subst, w64, Option, a_type, ty_int, dcons, dnil, Val, vint, vptr, vstruct, vcons, vnil, of_list, inst_fn, Coded, SProp, ent, wand, emp, id⊢, guard_i, via, apply∗, sem, Lft, Share, Fml, ftrue, fsep, feq, flft, shown, fact_i, fact_use, tables, WpFn, either, ‵, raw, ◌⊛◌, some, given, later, mean, at_ret, ◌$◌, ◌∵◌, !, qed, by, move, keep, drop, split, split3, join, group, fsplit, fsplit3, fjoin, fpick, fpack, pick, learn, suffices, use0, use1, use2, use3, await, rewrite, feq_i, flt_i, stop, fld, addr, of_opd, no_more, and_then, first, blocks, exec, Calls-last, returns, enter, alloc_all, pass_all, free_all, look_at, get, get_in, through, sets, lands_last, env, agg, sub, whole, yes, no, RattleType, Valss, owns, types_at, plain, Ptr, InBlock, block_ptr, block_of, count_of, at_block, nothing, heard, param, param_laws, layout, bounded, u64, uint_Tells, Stays, stay_dropped, walk_of, Goes-dropped, tail, proved_at, leaves, ◌⊑◌}
use types.RcWeak.{part, part_in}
use denote.Struct.Struct.{as_fields}
use Rattle.core.proofs.alloc.Calls.{Goes-blank}
use Rattle.counted_slot.specs.Counting.{fact}
use Rattle.atomic_table.proofs.Calls.{fm, found, finds, exchanges}
use Rattle.event_slot.specs.Ruling.{MayTurn, Becomes, Sees, Comes}
use Rattle.event_slot.specs.Holding.{Names, count, kept, right_to, lies, claim_owns}
use Rattle.event_slot.specs.contracts.owned.Owned as owned
use Rattle.event_slot.specs.contracts.rule.Mark as mark
use Rattle.event_slot.proofs.Fields.{held_placed, right_has, token, Token, token_made}
use Rattle.event_slot.proofs.Leasing.{housing, housed_had, housed_made, housing_fine, Out, out_laws}
use Rattle.event_slot.proofs.Living.{Four, lived, within_types}
use Rattle.event_slot.proofs.Entering.{J, kept_twice, reaches}
use Rattle.event_slot.proofs.Rights.{Prepared}
use Rattle.event_slot.proofs.Steps.{entered, enters, turns}
use Rattle.event_slot.proofs.Turning.{Answer, left_over, prepares, concludes}
use Rattle.event_slot.specs.contracts.owned.Owned.arrive.{ended, clauses}
use Rattle.event_slot.specs.contracts.owned.Owned.arrive.Key.{name as #self}
use Rattle.event_slot.proofs.owned.Owned.arrive.Statement.{statement}
use Rattle.event_slot.proofs.owned.Owned.arrive.Code as code

pub arrive_spec : {M : Type 1} → statement M
arrive_spec 𝓤 𝓛 𝓜 𝓡 wired T X S A' Y Ky Z LT LX _ LA _ _ _ g d f d' dd h dh _ _ _ _ =
    let H = 𝓛.H in let A = 𝓛.A in let 𝓣 = tables 𝓤 H 𝓜 𝓡 𝓡.env in let P : RattleType = param 0 T in let R : RattleType = param 1 X in let Q : RattleType = param 2 S in let B : RattleType = param 3 A' in let V : RattleType = param 4 Y in let Kr : RattleType = param 5 Ky in
    let En = ended T X S A' Y Ky Z g d f d' dd h dh in let c = clauses T X S A' Y Ky Z g d f d' dd h dh 𝓛 𝓜.mem 𝓡.returns in let cw : Coded Y.Denot = V.coded in let LP = param_laws 0 T LT in let LR = param_laws 1 X LX in let LB = param_laws 3 A' LA in let O : RattleType = Out P B f in
    let inst = bounded (a_type ∷ a_type ∷ a_type ∷ a_type ∷ a_type ∷ a_type ∷ a_type ∷ []) (T, (X, (S, (A', (Y, (Ky, (Z, tt))))))) (dcons d (dcons d' (dcons dd (dcons dh dnil)))) in let fn = inst_fn inst code.function in
    let Mr : RattleType = mark.the_row V in let number = plain (λ _. u64) in let self = plain (λ _. owned.the_row P R Q B V Kr g f) in
    let hs : Stays En.signature.params En.kept = (stay_dropped self no, (stay_dropped number yes, (stay_dropped number yes, tt))) in let goes = Goes-dropped 𝓛 7 number yes (λ κs x e. refl) in
    proved_at 𝓛 En hs c 𝓜 𝓡 (Goes-blank 𝓛 7 self no (λ κs x e. tt), (goes, (goes, tt))) (#self inst) fn (code.unfolded 𝓤 H 𝓜 𝓡 wired (T, (X, (S, (A', (Y, (Ky, (Z, tt))))))) d d' dd dh) (λ z are.
    let κs = z.0.0 in let qs = z.0.1 in let a = z.0.3 in let Or : RattleType = owned.the_row P R Q B V Kr g f in let ho : Or.Denot = a.0 in let p : Ptr = ho.slot in let b : ℕ = block_of p in let o : ℕ = count_of p in let pt : Ptr = block_ptr b o in let i : ℕ = ho.arc.life in let ρ : Lft = P.lives ++ (R.lives ++ Q.lives) in let β : Lft = i ∷ ρ in
    let γ : ℕ = ho.name in let key : Ky.Denot = ho.key in let v : Option X.Denot = ho.value in let Same : Type 0 = ho.arc.of ≡ ho.of in let vs : List Val = z.0.4.0 in
    let old : ℕ = a.1.0 in let new : ℕ = a.1.1.0 in let state : Option S.Denot = ho.state in let then = h.then old new (g.first key) state in let r : ℕ = ho.right in let up : ℕ → ℕ = λ n. either (eqb n old) new n in
    let τ : Lft = κs.0 in let τq : Share = qs.0 in let χ : Lft = κs.1.0 in let χq : Share = qs.1.0 in let χl : Share = base.Share.left χq in let χr : Share = base.Share.right χq in let σ : Lft = κs.1.1.0 in let σq : Share = qs.1.1.0 in
    let is_old : z.0.4.1.0 ≡ vint w64 old ∷ [] = uint_Tells w64 old z.0.4.1.0 are.1.0 in let is_new : z.0.4.1.1.0 ≡ vint w64 new ∷ [] = uint_Tells w64 new z.0.4.1.1.0 are.1.1.0 in
    let y : (walk_of 𝓛 En hs c).Ghost = ((κs, qs, z.0.2, a, (vs, (vint w64 old ∷ [], (vint w64 new ∷ [], tt)))), z.1) in let Post : Val → SProp 𝓤 = (walk_of 𝓛 En hs c).post y in
    let Held : Ptr → Fml = λ j. claim_owns cw.code γ R Q g.counts (g.holds key) β j r v state in let rest : List Val = vint w64 old ∷ vint w64 new ∷ [] in let Run : List Val → SProp 𝓤 = λ us. WpFn 𝓤 H 𝓣.C 𝓣.Λ fn (us ++ rest) Post in
    let others : Fml = fsep (flft κs.1.1.1.0 qs.1.1.1.0) (fsep (flft κs.1.1.1.1.0 qs.1.1.1.1.0) (fsep (flft κs.1.1.1.1.1.0 qs.1.1.1.1.1.0) (fsep (flft κs.1.1.1.1.1.1.0 qs.1.1.1.1.1.1.0) ftrue))) in
    subst (λ (w : (walk_of 𝓛 En hs c).Ghost). ent 𝓤 ((walk_of 𝓛 En hs c).pre w) (WpFn 𝓤 H 𝓣.C 𝓣.Λ fn ((walk_of 𝓛 En hs c).args w) ((walk_of 𝓛 En hs c).post w))) (λ j. ((κs, qs, z.0.2, a, (vs, (sym is_old j, (sym is_new j, tt)))), z.1))
    (qed 𝓛 (((‵ (flft τ τq) ⊛ ‵ (flft χ χq) ⊛ ‵ (flft σ σq) ⊛ ‵ others) ⊛ ‵ (owns (types_at En.signature.params κs) a y.0.4)) ∷ raw (shown 𝓤 (τ ⊑ T.lives)) ∷ raw (shown 𝓤 (χ ⊑ X.lives)) ∷ raw (shown 𝓤 (σ ⊑ S.lives)) ∷ raw (shown 𝓤 _) ∷ raw (shown 𝓤 _) ∷ raw (shown 𝓤 _) ∷ raw (shown 𝓤 _)
    ∷ given (MayTurn r (g.counts old) (g.counts new)) (‵ ftrue) ∷ given (Comes (g.holds key) state up then) (‵ ftrue) ∷ raw (shown 𝓤 _) ∷ []) ∵
    keep ! (8 ∷ 9 ∷ 1 ∷ 2 ∷ 3 ∷ 0 ∷ []) $ learn ! (λ turn. drop ! $ learn ! (λ asked. drop ! $ heard ! (τ ⊑ T.lives) (λ lt. heard ! (χ ⊑ X.lives) (λ lives. heard ! (σ ⊑ S.lives) (λ ls. split ! $ split3 ! $ move ! (2 ∷ []) $ split ! $
    -- [the state's token; others; the arc's value's; the value's; what is given]
    move ! (4 ∷ []) $ fsplit ! $ fsplit ! $ keep ! (0 ∷ 1 ∷ 3 ∷ 4 ∷ 5 ∷ 6 ∷ []) $
    housed_had ! O (out_laws P B f LP LB) p ho.arc vs (λ u is_u fine. move ! (1 ∷ []) $ fsplit3 ! $ move ! (1 ∷ []) $ fpick ! (λ e. fpick ! (λ one'.
    -- [the token; what is shared; the claim; the arc; the state's token; others; the arc's value's; the value's]
    move ! (7 ∷ []) $ use1 𝓛 (‵ (flft χ χl) ⊛ ‵ (flft χ χr)) (𝓛.lfts.lft_split χ χq) $ split ! $ move ! (2 ∷ 8 ∷ 0 ∷ 6 ∷ []) $ group ! 4 $
    use1 𝓛 (some (λ (w : Share). ‵ (flft β w) ⊛ raw (wand 𝓤 (A.lft β w) (Four 𝓛 i τ χ σ e τq χl σq)))) (lived 𝓛 i τ χ σ e τq χl σq ρ (within_types τ χ σ P.lives R.lives Q.lives lt lives ls)) $ pick ! (λ q. split ! $
    -- [the slot's token; the way back; the value's; what is shared; the claim; the arc; others]
    let Rest = raw (wand 𝓤 (A.lft β q) (Four 𝓛 i τ χ σ e τq χl σq)) ⊛ ‵ (fact Same) ⊛ ‵ (O.own_val ho.arc (u ∷ [])) ⊛ ‵ others in
    move ! (1 ∷ 3 ∷ 5 ∷ 6 ∷ []) $ group ! 4 $ use1 𝓛 Rest (id⊢ 𝓤 _) $ move ! (3 ∷ 1 ∷ 2 ∷ []) $
    -- [the claim; the slot's token; a token of the value's lives; the rest]
    use1 𝓛 (given (InBlock p) (‵ (Held p))) (fact_use 𝓤 _ (held_placed 𝓛 cw γ R Q g.counts (g.holds key) β p (λ i' j t. fsep (right_to R i' j t r v) (lies R Q i' j t state))) (guard_i 𝓤 (InBlock p) (sem 𝓛 (Held p)))) $ learn ! (λ inb. let at : p ≡ pt = at_block p inb in
    rewrite ! 0 (λ (j : Ptr). ‵ (Held j)) at refl $ let is_v : vs ≡ housing pt u ∷ [] = is_u ∙ ap (λ (j : Ptr). housing j u ∷ []) at in
    suffices ! (Run (housing pt u ∷ [])) (subst (λ (ws : List Val). ent 𝓤 (Run (housing pt u ∷ [])) (Run ws)) (sym is_v) (id⊢ 𝓤 (Run (housing pt u ∷ [])))) $
    enter ! 𝓣.C 𝓣.Λ fn (housing pt u ∷ rest) Post $ alloc_all ! (λ l. let well = housing_fine P B f pt u fine in pass_all ! refl (well, ((tt, record { fits = are.1.0.1 }), ((tt, record { fits = are.1.1.0.1 }), tt))) $ let Ev = env fn.locals l in
    fpick ! (λ t. fsplit ! $ let K : Fml = kept cw.code γ R Q g.counts (g.holds key) b o t β in use1 𝓛 (‵ K ⊛ ‵ K) (kept_twice 𝓛 cw γ R Q g.counts (g.holds key) b o t β) $ split ! $
    move ! (2 ∷ []) $ fsplit ! $ move ! (2 ∷ 4 ∷ []) $
    use2 𝓛 (later (some (λ (s : Share). raw (A.inv (J 𝓛 cw γ R Q g.counts (g.holds key) b o t β)) ⊛ ‵ (flft t.0 s) ⊛ raw (wand 𝓤 (A.lft t.0 s) (H.⇛ (A.lft β q)))))) (reaches 𝓛 cw γ R Q g.counts (g.holds key) b o t β 𝓜 𝓡 q) $ await ! tt $ pick ! (λ s. split3 ! $
    let Lie : Fml = lies R Q b o t state in let Has : Fml = Prepared 𝓛 R b o (count t) r (g.counts new) v in
    -- [the invariant; the slot's token; its way back; the right; the state; kept; a token of the value's lives; the rest]
    move ! (3 ∷ 1 ∷ 6 ∷ []) $ use3 𝓛 (later (‵ Has ⊛ ‵ (flft t.0 s) ⊛ ‵ (flft χ χr))) (prepares 𝓛 R b o t (LR.shares 𝓛) s χ χr lives r (g.counts new) v) $ await ! tt $ split3 ! $
    -- [what the step is given; the slot's token; a token of the value's lives; the invariant; the way back; the state; kept; the rest]
    let left : ℕ → Fml = left_over 𝓛 R b o t g.counts r old new v s in let right : ℕ → Fml = λ n. entered 𝓛 cw γ R Q b o t (then n) in let out : ℕ → Fml = λ n. fsep (flft t.0 s) (fsep (left n) (right n)) in
    sets ! (of_opd ! (get_in ! (fld ! refl (stop !)) (sub ! 0 refl (whole !)))) refl (tt, tt) $ sets ! (of_opd ! (get_in ! (fld ! refl (stop !)) (sub ! 1 refl (whole !)))) refl fine $
    first ! $ blocks ! $ sets ! (addr ! (through ! refl (fld ! refl (stop !)))) refl (tt, tt) $ move ! (0 ∷ 5 ∷ []) $ join ! $ move ! (3 ∷ 1 ∷ 0 ∷ []) $
    use3 𝓛 (raw (𝓣.C _ (vptr b (o + 0) ∷ vint w64 old ∷ vint w64 new ∷ []) (λ k. mean 𝓛 (found out k))))
    (via 𝓤 _ (turns 𝓛 cw γ R Q (g.holds key) b o t g.counts s LR.shr_laws r old new v turn s Lie right (enters 𝓛 cw γ R Q (g.holds key) b o t g.counts s state up then asked)) (exchanges 𝓛 𝓜 𝓡 (code.calls-atomic_table::exchange 𝓡.env wired) (block_ptr b (o + 0)) old new are.1.0.1 are.1.1.0.1 out)) $
    Calls-last ! (fm 𝓛 𝓜 𝓡) (found out) (and_then ! (get ! refl) (and_then ! (get ! refl) (and_then ! (get ! refl) (no_more !)))) (λ k. finds ! out (λ n fits.
    lands_last ! refl (tt, record { fits = fits }) $ exec ! 𝓣.C 𝓣.Λ Ev (tail (tail (tail fn.body))) (at_ret Ev Post) $
    let res : Val = vstruct (vcons (vint w64 n) (vcons (housing pt u) (vcons token vnil))) in let all_fine = as_fields (ty_int w64 ∷ layout Or ∷ layout Mr ∷ []) (vint w64 n ∷ housing pt u ∷ token ∷ []) ((tt, record { fits = fits }), (well, ((tt, (tt, tt)), tt))) in
    sets ! (of_opd ! (get ! refl)) refl (tt, record { fits = fits }) $ sets ! (agg ! (no_more !)) refl (tt, tt) $ sets ! (agg ! (and_then ! (get ! refl) (no_more !))) refl (tt, (tt, tt)) $
    sets ! (of_opd ! (get ! refl)) refl fine $ sets ! (agg ! (and_then ! (get ! refl) (and_then ! (get ! refl) (no_more !)))) refl well $ sets ! (of_opd ! (get ! refl)) refl (tt, (tt, tt)) $
    sets ! (agg ! (and_then ! (get ! refl) (and_then ! (get ! refl) (and_then ! (get ! refl) (no_more !))))) refl all_fine $
    -- [the slot's token; what is left of the right; the mark and what is out; a token of the value's lives; the way back; kept; the rest]
    fsplit3 ! $ move ! (1 ∷ 0 ∷ []) $ use2 𝓛 (later (given (Sees r (g.counts n)) (some (λ (j : ℕ × Option X.Denot). given (Answer g.counts r old new n v j.0 j.1) (‵ (right_to R b o t j.0 j.1))) ⊛ ‵ (flft t.0 s)))) (concludes 𝓛 R b o t g.counts old new v s r n) $ await ! tt $ learn ! (λ sight. split ! $ pick ! (λ j. learn ! (λ said. let k' : ℕ = j.0 in let v' : Option X.Denot = j.1 in let Has : Type 0 = 0 < k' → IsSome v' in
    use1 𝓛 (given Has (‵ (right_to R b o t k' v'))) (fact_use 𝓤 _ (right_has 𝓛 β R b o t k' v') (guard_i 𝓤 Has (sem 𝓛 (right_to R b o t k' v')))) $ learn ! (λ has.
    -- [the right; the slot's token; the mark and what is out; a token of the value's lives; the way back; kept; the rest]
    move ! (1 ∷ 4 ∷ []) $ use2 𝓛 (later (‵ (flft β q))) (apply∗ 𝓤 (A.lft t.0 s) (H.⇛ (A.lft β q))) $ await ! tt $
    move ! (2 ∷ []) $ fpick ! (λ id. fpick ! (λ w. fsplit3 ! $ fpick ! (λ told. drop ! $
    -- [the mark; the state; the slot's token; the right; a token of the value's lives; kept; the rest]
    move ! (3 ∷ 1 ∷ []) $ fjoin ! $ move ! (4 ∷ 0 ∷ []) $ fjoin ! $ fpack ! Names (λ i'. fsep (kept cw.code γ R Q g.counts (g.holds key) b o i' β) (fsep (right_to R b o i' k' v') (lies R Q b o i' w.1))) t $
    -- [the claim; the mark; the slot's token; a token of the value's lives; the rest]
    move ! (4 ∷ []) $ split ! $ move ! (4 ∷ 0 ∷ []) $ use2 𝓛 (‵ (flft (i ∷ []) e) ⊛ ‵ (flft τ τq) ⊛ ‵ (flft χ χl) ⊛ ‵ (flft σ σq)) (apply∗ 𝓤 (A.lft β q) (Four 𝓛 i τ χ σ e τq χl σq)) $ split3 ! $ move ! (2 ∷ []) $ split ! $
    move ! (0 ∷ 7 ∷ []) $ use2 𝓛 (‵ (flft χ χq)) (𝓛.lfts.lft_join χ χq) $ move ! (2 ∷ []) $ use1 𝓛 (‵ (part 63 i)) (part_in 63 𝓛 i e one') $ move ! (4 ∷ []) $ split3 ! $
    -- [what is shared; the arc; others; the part; the value's; the state's; the arc's value's; the claim; the mark]
    move ! (3 ∷ 7 ∷ []) $ fjoin ! $ move ! (1 ∷ 0 ∷ []) $ fjoin ! $ move ! (1 ∷ []) $ housed_made ! O pt ho.arc u $ fjoin ! $
    let ho' : Or.Denot = record { slot = pt; arc = ho.arc; of = ho.of; name = γ; key = key; right = k'; value = v'; state = w.1 } in let m : Mr.Denot = record { marker = record {}; slot = γ; id = id; view = w.0 } in
    move ! (5 ∷ []) $ use0 𝓛 (‵ ((Token V).own_val (tt, tt) (token ∷ []))) (token_made V 𝓛) $ fjoin ! $ nothing ! $ move ! (1 ∷ 0 ∷ []) $ fjoin ! $ move ! (1 ∷ 0 ∷ []) $ fjoin ! $
    flt_i ! n (2 ^ 64) fits $ feq_i ! (List Val) (vint w64 n ∷ []) (vint w64 n ∷ []) refl $ fjoin ! $ fjoin ! $ feq_i ! (List Val) (res ∷ []) (res ∷ []) refl $ fjoin ! $
    fpack ! (Valss (u64 ∷ Or ∷ Mr ∷ [])) (λ uss. fsep (feq (List Val) (res ∷ []) (vstruct (of_list (uss.0 ++ (uss.1.0 ++ (uss.1.1.0 ++ [])))) ∷ [])) (owns (u64 ∷ Or ∷ Mr ∷ []) (n, (ho', (m, tt))) uss)) (vint w64 n ∷ [], (housing pt u ∷ [], (token ∷ [], tt))) $
    -- [the result; others; the value's; the state's; the arc's value's]
    nothing ! $ nothing ! $ fjoin ! $ nothing ! $ fjoin ! $ nothing ! $ fjoin ! $ move ! (4 ∷ 2 ∷ []) $ join ! $ move ! (3 ∷ 0 ∷ []) $ join ! $ move ! (3 ∷ 0 ∷ []) $ join ! $
    let Left : Type 0 = (n ≡ old → Becomes r (g.counts old) (g.counts new) k') × (n ≢ old → k' ≡ r) × (γ ≡ γ) × (key ≡ key) × (ho.of ≡ ho.of) in let Sight : Type 0 = Sees r (g.counts n) in let Said : Type 0 = r ≡ 1 → k' ≡ 1 → v' ≡ v in let Told : Type 0 = (γ ≡ γ) × then n w.0 w.1 in
    use0 𝓛 (raw (shown 𝓤 Told)) (fact_i 𝓤 Told (emp 𝓤) (refl, told)) $ use0 𝓛 (raw (shown 𝓤 Has)) (fact_i 𝓤 Has (emp 𝓤) has) $ join ! $ use0 𝓛 (raw (shown 𝓤 Said)) (fact_i 𝓤 Said (emp 𝓤) said.2) $ join ! $ use0 𝓛 (raw (shown 𝓤 Sight)) (fact_i 𝓤 Sight (emp 𝓤) sight) $ join ! $ use0 𝓛 (raw (shown 𝓤 Left)) (fact_i 𝓤 Left (emp 𝓤) (said.0, said.1, refl, refl, refl)) $ join ! $
    returns ! (look_at ! 0 refl) $ free_all ! refl $ keep ! (1 ∷ 2 ∷ 3 ∷ 0 ∷ []) $ by ! (leaves 𝓛 En hs c y res (n, ho', m) ((tt, (tt, tt)), (tt, (tt, tt))) (tt, (tt, (tt, tt))))))))))))))))))))))))))))
