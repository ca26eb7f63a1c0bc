-- `rest` gives what the mark owns to its place.
use Rattle.event_slot.proofs.Names.{◌≡◌, [], ◌∷◌, refl, a_type, Val, inst_fn, SProp, emp, tables, ‵, raw, ◌⊛◌, ◌$◌, ◌∵◌, !, qed, by, move, keep, split, fsplit, fjoin, use0, no_more, and_then, returns, enter, alloc_all, pass_all, free_all, look_at, get, sets, agg, RattleType, owns, types_at, plain, nothing, param, Stays, stay_dropped, walk_of, Goes-dropped, shown, fact_i, proved, leaves}
use Rattle.atomic_table.proofs.Names.{no, layouts, alive}
use Rattle.event_slot.specs.contracts.rest.Rest as rest
use Rattle.event_slot.specs.contracts.rule.Mark as mark
use Rattle.event_slot.proofs.Fields.{token, token_told, Resting, resting_made}
use Rattle.event_slot.specs.contracts.rule.Mark.rest.{ended, clauses}
use Rattle.event_slot.specs.contracts.rule.Mark.rest.Key.{name as #self}
use Rattle.event_slot.proofs.rule.Mark.rest.Statement.{statement}
use Rattle.event_slot.proofs.rule.Mark.rest.Code as code

pub rest_spec : {M : Type 1} → statement M
rest_spec 𝓤 𝓛 𝓜 𝓡 wired U _ =
    let H = 𝓛.H in let 𝓣 = tables 𝓤 H 𝓜 𝓡 𝓡.env in let W : RattleType = param 0 U in let En = ended U in let c = clauses U 𝓛 𝓜.mem 𝓡.returns in
    let inst = layouts (a_type ∷ []) (U, tt) in let fn = inst_fn inst code.function in let Rr : RattleType = rest.the_row W in let Mr : RattleType = mark.the_row W in
    let hs : Stays En.signature.params En.kept = (stay_dropped (plain (λ _. Mr)) no, tt) in
    proved 𝓛 En hs c 𝓜 𝓡 (Goes-dropped 𝓛 1 (plain (λ _. Mr)) no (λ κs x f. refl), tt) (#self inst) fn (code.unfolded 𝓤 H 𝓜 𝓡 wired (U, tt))
    (λ κs. ((λ _. token ∷ []), tt)) (λ κs. ((λ x vs so. token_told W vs so.0), tt)) (λ κs qs bounds a gh are. let m : Mr.Denot = a.0 in
    let y : (walk_of 𝓛 En hs c).Ghost = ((κs, qs, bounds, a, (token ∷ [], tt)), gh) in let Post : Val → SProp 𝓤 = (walk_of 𝓛 En hs c).post y in
    let r : Rr.Denot = record { marker = record {}; slot = m.slot; id = m.id; views = m.view ∷ [] } in let Told : Type 0 = (m.slot ≡ m.slot) × (m.id ≡ m.id) × (r.views ≡ r.views) in
    qed 𝓛 ((raw (alive 𝓛 En.signature κs qs) ⊛ ‵ (owns (types_at En.signature.params κs) a y.0.4)) ∷ raw ((c κs a).requires gh) ∷ []) ∵
    split ! $ move ! (1 ∷ []) $ fsplit ! $ fsplit ! $ keep ! (1 ∷ 3 ∷ []) $
    use0 𝓛 (‵ ((Resting W).own_val (tt, tt) (token ∷ []))) (resting_made W 𝓛) $ fjoin ! $
    enter ! 𝓣.C 𝓣.Λ fn (token ∷ []) Post $ alloc_all ! (λ l. pass_all ! refl ((tt, (tt, tt)), tt) $
    sets ! (agg ! (no_more !)) refl (tt, tt) $ sets ! (agg ! (and_then ! (get ! refl) (no_more !))) refl (tt, (tt, tt)) $
    use0 𝓛 (raw (shown 𝓤 Told)) (fact_i 𝓤 Told (emp 𝓤) (refl, refl, refl)) $ nothing ! $ nothing ! $ fjoin ! $
    returns ! (look_at ! 0 refl) $ free_all ! refl $ keep ! (3 ∷ 0 ∷ 2 ∷ 1 ∷ []) $ by ! (leaves 𝓛 En hs c y token r (tt, tt) (tt, tt))))
