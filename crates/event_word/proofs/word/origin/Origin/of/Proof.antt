-- `of` makes the empty struct, with the slot of the seat behind the `&`.
use Rattle.atomic_table.proofs.Names.{◌≡◌, [], ◌∷◌, List, refl, a_type, named, Val, vptr, vstruct, vnil, inst_fn, SProp, emp, ‵, raw, ◌⊛◌, ◌$◌, ◌∵◌, !, qed, by, keep, split, fjoin, fpack, use0, feq_i, no_more, returns, enter, alloc_all, pass_all, free_all, look_at, sets, agg, tables, yes, RattleType, owns, Valss, types_at, plain, nothing, param, layouts, alive, Stays, stay_dropped, walk_of, Goes-dropped, fact, fact_i, RefOf, shr_vals, shr_Tells}
use denote.Struct.Struct.{within}
use Rattle.atomic_table.proofs.Walks.{proved, leaves}
use Rattle.event_slot.specs.contracts.rule.Mark as mark
use Rattle.event_word.specs.contracts.word.origin.Origin as Origin
use Rattle.event_word.specs.contracts.word.origin.Origin.of.{ended, clauses}
use Rattle.event_word.specs.contracts.word.origin.Origin.of.Key.{name as #self}
use Rattle.event_word.proofs.word.origin.Origin.of.Statement.{statement}
use Rattle.event_word.proofs.word.origin.Origin.of.Code as code

abbrev empty : Val
empty = vstruct vnil

pub of_spec : {M : Type 1} → statement M
of_spec 𝓤 𝓛 𝓜 𝓡 wired Y _ =
    let H = 𝓛.H in let 𝓣 = tables 𝓤 H 𝓜 𝓡 𝓡.env in let R : RattleType = mark.the_row (param 0 Y) in let En = ended Y in let c = clauses Y 𝓛 𝓜.mem 𝓡.returns in
    let inst = layouts (a_type ∷ []) (Y, tt) in let fn = inst_fn inst code.function in
    let arg = RefOf (0 ∷ []) tt (plain (λ _. R)) (λ _. tt) in let hs : Stays En.signature.params En.kept = (stay_dropped arg yes, tt) in
    proved 𝓛 En hs c 𝓜 𝓡 (Goes-dropped 𝓛 2 arg yes (λ κs x f. refl), tt) (#self inst) fn (code.unfolded 𝓤 H 𝓜 𝓡 wired (Y, tt))
    (λ κs. (shr_vals, tt)) (λ κs. (shr_Tells (named 0) κs.0 R, tt)) (λ κs qs bounds a gh are.
    let p : Val = vptr a.0.ref_ptr.0 a.0.ref_ptr.1 in let of = a.0.now in let r : (Origin.the_row).Denot = record { name = of.slot } in let Told : Type 0 = of.slot ≡ of.slot in
    let y : (walk_of 𝓛 En hs c).Ghost = ((κs, qs, bounds, a, (p ∷ [], tt)), gh) in let Post : Val → SProp 𝓤 = (walk_of 𝓛 En hs c).post y in
    qed 𝓛 ((raw (alive 𝓛 En.signature κs qs) ⊛ ‵ (owns (types_at En.signature.params κs) a y.0.4)) ∷ raw ((c κs a).requires gh) ∷ []) ∵ split ! $ keep ! (0 ∷ []) $
    enter ! 𝓣.C 𝓣.Λ fn (p ∷ []) Post $ alloc_all ! (λ l. pass_all ! refl ((tt, tt), tt) $ sets ! (agg ! (no_more !)) refl (tt, tt) $
    nothing ! $ nothing ! $ feq_i ! (List Val) (empty ∷ []) (empty ∷ []) refl $ fjoin ! $
    fpack ! (Valss []) (within (record { name = []; args = []; types = []; fields = [] }) tt (empty ∷ [])) tt $ fjoin ! $
    use0 𝓛 (raw (fact 𝓤 Told)) (fact_i 𝓤 Told (emp 𝓤) refl) $ nothing ! $ nothing ! $ fjoin ! $
    returns ! (look_at ! 0 refl) $ free_all ! refl $ keep ! (3 ∷ 0 ∷ 2 ∷ 1 ∷ []) $ by ! (leaves 𝓛 En hs c y empty r (tt, tt) (tt, tt))))
