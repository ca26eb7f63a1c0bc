-- `split` is one load, by which the mark is cut in two.
use Rattle.event_slot.proofs.Names.{◌≡◌, ℕ, ◌+◌, [], ◌∷◌, refl, lit<, a_type, named, dcons, dnil, Val, vptr, inst_fn, Coded, SProp, wand, emp, all, via, all_e, apply∗, sym, Lft, Share, Fml, ftrue, fsep, flft, shown, fact_i, tables, fex, sep, ‵, raw, ◌⊛◌, some, given, later, mean, at_ret, ◌$◌, ◌∵◌, !, qed, by, move, keep, drop, split, split3, join, fsplit, fsplit3, fjoin, fpick, pick, sem, learn, use0, use1, use2, use3, await, stop, fld, addr, lit, no_more, and_then, first, blocks, exec, Calls-last, returns, enter, alloc_all, pass_all, free_all, look_at, get, through, sets, lands_last, env, agg, yes, RattleType, owns, types_at, plain, block_ptr, nothing, unhide, param, bounded, RefOf, shr_vals, shr_Tells, mut_vals, mut_Tells, Stays, stay_dropped, stay_ref, walk_of, Goes-dropped, Goes-ref, tail, proved, leaves}
use Rattle.atomic_table.proofs.Calls.{fm, seq_cst, found, finds, loads}
use Rattle.atomic_table.specs.Marked.{mark_owns}
use Rattle.event_slot.specs.Ruling.{MaySplit}
use Rattle.event_slot.specs.contracts.slot.Slot as slot
use Rattle.event_slot.specs.contracts.rule.Mark as mark
use Rattle.event_slot.proofs.Fields.{token, Token, token_made}
use Rattle.event_slot.proofs.Entering.{J, reaches, Back, Marked, knowing, takes_mark}
use Rattle.event_slot.proofs.Steps.{two, splits, looks_on}
use Rattle.event_slot.specs.contracts.slot.Slot.split.{ended, clauses}
use Rattle.event_slot.specs.contracts.slot.Slot.split.Key.{name as #self}
use Rattle.event_slot.proofs.slot.Slot.split.Statement.{statement}
use Rattle.event_slot.proofs.slot.Slot.split.Code as code

pub split_spec : {M : Type 1} → statement M
split_spec 𝓤 𝓛 𝓜 𝓡 wired X S Y Ky Z _ _ _ _ _ g d h d' _ _ =
    let H = 𝓛.H in let A = 𝓛.A in let 𝓣 = tables 𝓤 H 𝓜 𝓡 𝓡.env in let R : RattleType = param 0 X in let Q : RattleType = param 1 S in let V : RattleType = param 2 Y in let Kr : RattleType = param 3 Ky in let En = ended X S Y Ky Z g d h d' in let c = clauses X S Y Ky Z g d h d' 𝓛 𝓜.mem 𝓡.returns in
    let inst = bounded (a_type ∷ a_type ∷ a_type ∷ a_type ∷ a_type ∷ []) (X, (S, (Y, (Ky, (Z, tt))))) (dcons d (dcons d' dnil)) in let fn = inst_fn inst code.function in let cw : Coded Y.Denot = V.coded in
    let Row : RattleType = slot.the_row R Q V Kr g in let Mr : RattleType = mark.the_row V in let self = RefOf (0 ∷ []) tt (plain (λ _. Row)) (λ _. tt) in let marked = plain (λ _. Mr) in
    let hs : Stays En.signature.params En.kept = (stay_dropped self yes, (stay_ref (1 ∷ []) tt marked, tt)) in
    proved 𝓛 En hs c 𝓜 𝓡 (Goes-dropped 𝓛 7 self yes (λ κs x f. refl), (Goes-ref 𝓛 7 1 tt marked, tt)) (#self inst) fn (code.unfolded 𝓤 H 𝓜 𝓡 wired (X, (S, (Y, (Ky, (Z, tt))))) d d')
    (λ κs. (shr_vals, (mut_vals, tt))) (λ κs. (shr_Tells (named 0) κs.0 Row, (mut_Tells (named 1) κs.1.0 Mr, tt))) (λ κs qs bounds a gh are.
    let b : ℕ = a.0.ref_ptr.0 in let o : ℕ = a.0.ref_ptr.1 in let κ : Lft = κs.0 in let q : Share = qs.0 in let γ : ℕ = a.0.now.name in let key : Ky.Denot = a.0.now.key in let x = a.1.0 in let m : Mr.Denot = x.now in let lv : Y.Denot = h.left m.view in let rv : Y.Denot = h.right m.view in
    let y : (walk_of 𝓛 En hs c).Ghost = ((κs, qs, bounds, a, (vptr b o ∷ [], (mut_vals x, tt))), gh) in let Post : Val → SProp 𝓤 = (walk_of 𝓛 En hs c).post y in
    let others : Fml = fsep (flft κs.1.1.0 qs.1.1.0) (fsep (flft κs.1.1.1.0 qs.1.1.1.0) (fsep (flft κs.1.1.1.1.0 qs.1.1.1.1.0) (fsep (flft κs.1.1.1.1.1.0 qs.1.1.1.1.1.0) (fsep (flft κs.1.1.1.1.1.1.0 qs.1.1.1.1.1.1.0) ftrue)))) in
    qed 𝓛 (((‵ (flft κ q) ⊛ ‵ (flft κs.1.0 qs.1.0) ⊛ ‵ others) ⊛ ‵ (owns (types_at En.signature.params κs) a y.0.4)) ∷ raw (shown 𝓤 _) ∷ raw (shown 𝓤 _) ∷ raw (shown 𝓤 _) ∷ raw (shown 𝓤 _) ∷ raw (shown 𝓤 _) ∷ given ((m.slot ≡ γ) × MaySplit (g.holds key) m.id m.view lv rv) (‵ ftrue) ∷ raw (shown 𝓤 _) ∷ []) ∵
    keep ! (6 ∷ 0 ∷ []) $ learn ! (λ asked. drop ! $ split ! $ split3 ! $ move ! (3 ∷ []) $ fsplit3 ! $ fsplit ! $ keep ! (1 ∷ 4 ∷ 2 ∷ 5 ∷ 6 ∷ []) $
    -- [the slot; its token; the mark; its token; the other tokens]
    enter ! 𝓣.C 𝓣.Λ fn (vptr b o ∷ vptr x.ref_ptr.0 x.ref_ptr.1 ∷ []) Post $ alloc_all ! (λ l. pass_all ! refl ((tt, tt), ((tt, tt), tt)) $ let Ev = env fn.locals l in
    unhide ! $ fpick ! (λ t. move ! (0 ∷ 1 ∷ []) $ use2 𝓛 (later (some (λ (s : Share). raw (A.inv (J 𝓛 cw γ R Q g.counts (g.holds key) b o t κ)) ⊛ ‵ (flft t.0 s) ⊛ raw (wand 𝓤 (A.lft t.0 s) (H.⇛ (A.lft κ q)))))) (reaches 𝓛 cw γ R Q g.counts (g.holds key) b o t κ 𝓜 𝓡 q) $ await ! tt $ pick ! (λ s. split3 ! $
    let Own : Fml = mark_owns cw.code γ m.id m.view in let Marks = Marked 𝓛 V (named 1) κs.1.0 qs.1.0 x γ asked.0 in let Home = Back 𝓛 V (named 1) κs.1.0 qs.1.0 x γ asked.0 in
    move ! (3 ∷ 4 ∷ []) $ use2 𝓛 (later (‵ Own ⊛ raw (all 𝓤 Home))) (takes_mark 𝓛 V (named 1) κs.1.0 qs.1.0 x γ asked.0) $ await ! tt $ split ! $
    -- [the mark; its way home; the invariant; the slot's token; its way back; the other tokens]
    let Two : ℕ → Fml = two 𝓛 cw γ R Q (g.holds key) b o t m.id lv rv in let right : ℕ → Fml = λ _. fex ℕ Two in let out : ℕ → Fml = λ n. fsep (flft t.0 s) (fsep ftrue (right n)) in
    first ! $ blocks ! $ sets ! (addr ! (through ! refl (fld ! refl (stop !)))) refl (tt, tt) $ nothing ! $ join ! $ move ! (2 ∷ 3 ∷ 0 ∷ []) $
    use3 𝓛 (raw (𝓣.C _ (vptr b (o + 0) ∷ seq_cst ∷ []) (λ u. mean 𝓛 (found out u))))
    (via 𝓤 _ (looks_on 𝓛 cw γ R Q (g.holds key) b o t g.counts s Own right (splits 𝓛 cw γ R Q (g.holds key) b o t g.counts s m.id m.view lv rv asked.1)) (loads 𝓛 𝓜 𝓡 (code.calls-core::raw_atomic::load 𝓡.env wired) (block_ptr b (o + 0)) out)) $
    sets ! (agg ! (and_then ! (lit ! tt) (no_more !))) refl (tt, (record { fits = lit< tt }, tt)) $ Calls-last ! (fm 𝓛 𝓜 𝓡) (found out) (and_then ! (get ! refl) (and_then ! (get ! refl) (no_more !))) (λ u. finds ! out (λ n fits.
    lands_last ! refl (tt, record { fits = fits }) $ exec ! 𝓣.C 𝓣.Λ Ev (tail fn.body) (at_ret Ev Post) $ sets ! (agg ! (no_more !)) refl (tt, tt) $ sets ! (agg ! (and_then ! (get ! refl) (no_more !))) refl (tt, (tt, tt)) $
    -- [the slot's token; nothing; both marks; the way home; the way back; the other tokens]
    fsplit3 ! $ move ! (2 ∷ []) $ fpick ! (λ j. fsplit ! $ move ! (4 ∷ []) $ use1 𝓛 (raw (Home lv)) (all_e 𝓤 Home lv) $ move ! (1 ∷ 0 ∷ []) $
    use2 𝓛 (later (‵ (Marks lv) ⊛ ‵ (flft κs.1.0 qs.1.0))) (apply∗ 𝓤 (sem 𝓛 (mark_owns cw.code γ m.id lv)) (H.⇛ (sep 𝓤 (sem 𝓛 (Marks lv)) (A.lft κs.1.0 qs.1.0)))) $ await ! tt $ split ! $
    -- [the mark; its token; the new mark; the slot's token; nothing; the way back; the other tokens]
    move ! (3 ∷ 5 ∷ []) $ use2 𝓛 (later (‵ (flft κ q))) (apply∗ 𝓤 (A.lft t.0 s) (H.⇛ (A.lft κ q))) $ await ! tt $ move ! (3 ∷ []) $ use0 𝓛 (‵ ((Token V).own_val (tt, tt) (token ∷ []))) (token_made V 𝓛) $ fjoin ! $
    nothing ! $ move ! (3 ∷ 0 ∷ []) $ fjoin ! $ nothing ! $ fjoin ! $ move ! (3 ∷ 5 ∷ []) $ join ! $ move ! (3 ∷ 0 ∷ []) $ join ! $
    let r : Mr.Denot = record { marker = record {}; slot = γ; id = j; view = rv } in let Told : Type 0 = (m.slot ≡ m.slot) × (m.id ≡ m.id) × (lv ≡ lv) × (γ ≡ m.slot) × (rv ≡ rv) in use0 𝓛 (raw (shown 𝓤 Told)) (fact_i 𝓤 Told (emp 𝓤) (refl, refl, refl, sym asked.0, refl)) $
    returns ! (look_at ! 0 refl) $ free_all ! refl $ keep ! (1 ∷ 2 ∷ 3 ∷ 0 ∷ []) $ by ! (leaves 𝓛 En hs c y token r (tt, (knowing 𝓛 V (named 1) κs.1.0 qs.1.0 x γ asked.0 lv, tt)) (tt, (tt, tt)))))))))))
