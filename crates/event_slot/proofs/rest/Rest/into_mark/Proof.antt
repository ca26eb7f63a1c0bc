-- `into_mark` gives what the place of one mark owns.
use Rattle.event_slot.proofs.Names.{◌≡◌, List, [], ◌∷◌, refl, a_type, Val, inst_fn, SProp, emp, ftrue, tables, ‵, raw, ◌⊛◌, given, ◌$◌, ◌∵◌, !, qed, by, move, keep, drop, split, fsplit, fjoin, learn, use0, rewrite, no_more, and_then, returns, enter, alloc_all, pass_all, free_all, look_at, get, sets, agg, RattleType, owns, types_at, plain, nothing, param, Stays, stay_dropped, walk_of, Goes-dropped, shown, fact_i, Coded, proved, leaves}
use Rattle.atomic_table.proofs.Names.{no, layouts, alive}
use Rattle.event_slot.specs.Holding.{rest_owns}
use Rattle.event_slot.specs.contracts.rest.Rest as rest
use Rattle.event_slot.specs.contracts.rule.Mark as mark
use Rattle.event_slot.proofs.Fields.{token, Token, token_made, resting_told}
use Rattle.event_slot.specs.contracts.rest.Rest.into_mark.{ended, clauses}
use Rattle.event_slot.specs.contracts.rest.Rest.into_mark.Key.{name as #self}
use Rattle.event_slot.proofs.rest.Rest.into_mark.Statement.{statement}
use Rattle.event_slot.proofs.rest.Rest.into_mark.Code as code

pub into_mark_spec : {M : Type 1} → statement M
into_mark_spec 𝓤 𝓛 𝓜 𝓡 wired U _ =
    let H = 𝓛.H in let 𝓣 = tables 𝓤 H 𝓜 𝓡 𝓡.env in let W : RattleType = param 0 U in let En = ended U in let c = clauses U 𝓛 𝓜.mem 𝓡.returns in
    let inst = layouts (a_type ∷ []) (U, tt) in let fn = inst_fn inst code.function in let Rr : RattleType = rest.the_row W in let Mr : RattleType = mark.the_row W in let cw : Coded U.Denot = W.coded in
    let hs : Stays En.signature.params En.kept = (stay_dropped (plain (λ _. Rr)) no, tt) in
    proved 𝓛 En hs c 𝓜 𝓡 (Goes-dropped 𝓛 1 (plain (λ _. Rr)) no (λ κs x f. refl), tt) (#self inst) fn (code.unfolded 𝓤 H 𝓜 𝓡 wired (U, tt))
    (λ κs. ((λ _. token ∷ []), tt)) (λ κs. ((λ x vs so. resting_told W vs so.0), tt)) (λ κs qs bounds a gh are. let h : Rr.Denot = a.0 in
    let y : (walk_of 𝓛 En hs c).Ghost = ((κs, qs, bounds, a, (token ∷ [], tt)), gh) in let Post : Val → SProp 𝓤 = (walk_of 𝓛 En hs c).post y in
    qed 𝓛 ((raw (alive 𝓛 En.signature κs qs) ⊛ ‵ (owns (types_at En.signature.params κs) a y.0.4)) ∷ raw (shown 𝓤 _) ∷ given ((w : U.Denot) × (h.views ≡ w ∷ [])) (‵ ftrue) ∷ []) ∵
    keep ! (2 ∷ 0 ∷ []) $ learn ! (λ asked. let r : Mr.Denot = record { marker = record {}; slot = h.slot; id = h.id; view = asked.0 } in let Told : Type 0 = (h.slot ≡ h.slot) × (h.id ≡ h.id) × (h.views ≡ asked.0 ∷ []) in drop ! $ split ! $ move ! (1 ∷ []) $ fsplit ! $ fsplit ! $ keep ! (1 ∷ 3 ∷ []) $ rewrite ! 0 (λ (x : List U.Denot). ‵ (rest_owns cw.code h.slot h.id x)) asked.1 refl $
    use0 𝓛 (‵ ((Token W).own_val (tt, tt) (token ∷ []))) (token_made W 𝓛) $ fjoin ! $
    enter ! 𝓣.C 𝓣.Λ fn (token ∷ []) Post $ alloc_all ! (λ l. pass_all ! refl ((tt, (tt, tt)), tt) $
    sets ! (agg ! (no_more !)) refl (tt, tt) $ sets ! (agg ! (and_then ! (get ! refl) (no_more !))) refl (tt, (tt, tt)) $
    use0 𝓛 (raw (shown 𝓤 Told)) (fact_i 𝓤 Told (emp 𝓤) (refl, refl, asked.1)) $ nothing ! $ nothing ! $ fjoin ! $
    returns ! (look_at ! 0 refl) $ free_all ! refl $ keep ! (3 ∷ 0 ∷ 2 ∷ 1 ∷ []) $ by ! (leaves 𝓛 En hs c y token r (tt, tt) (tt, tt)))))
