-- `into_inner` takes the value out.
use Rattle.event_slot.proofs.Names.{◌≡◌, List, [], ◌∷◌, ◌++◌, sym, refl, subst, a_type, Val, inst_fn, SProp, ent, id⊢, emp, shown, fact_i, ftrue, fsep, tables, WpFn, ‵, raw, ◌⊛◌, some, given, ◌$◌, ◌∵◌, !, qed, by, move, keep, split, fsplit, fjoin, pick, learn, use0, use1, suffices, stop, fld, of_opd, returns, enter, alloc_all, pass_all, free_all, look_at, get, get_in, sets, sub, whole, no, RattleType, plain, nothing, param, param_laws, layout, alive, Stays, stay_dropped, walk_of, Goes-dropped, proved_at, leaves}
use denote.Param.{layouts}
use denote.Struct.Members.{Member}
use Rattle.core.proofs.cell.Inside.{Good, round, Good-round}
use Rattle.event_slot.proofs.Hiding.{unhides}
use Rattle.event_slot.specs.contracts.exclusive.Exclusive as exclusive
use Rattle.event_slot.specs.contracts.exclusive.Exclusive.into_inner.{ended, clauses}
use Rattle.event_slot.specs.contracts.exclusive.Exclusive.into_inner.Key.{name as #self}
use Rattle.event_slot.proofs.exclusive.Exclusive.into_inner.Statement.{statement}
use Rattle.event_slot.proofs.exclusive.Exclusive.into_inner.Code as code

pub into_inner_spec : {M : Type 1} → statement M
into_inner_spec 𝓤 𝓛 𝓜 𝓡 wired X L =
    let H = 𝓛.H in let 𝓣 = tables 𝓤 H 𝓜 𝓡 𝓡.env in let R : RattleType = param 0 X in let En = ended X in let c = clauses X 𝓛 𝓜.mem 𝓡.returns in let m : Member = record { row = R; ty = layout X } in
    let fn = inst_fn (layouts (a_type ∷ []) (X, tt)) code.function in let self = plain (λ _. exclusive.the_row R) in let hs : Stays En.signature.params En.kept = (stay_dropped self no, tt) in
    proved_at 𝓛 En hs c 𝓜 𝓡 (Goes-dropped 𝓛 1 self no (λ κs x f. refl), tt) (#self (layouts (a_type ∷ []) (X, tt))) fn (code.unfolded 𝓤 H 𝓜 𝓡 wired (X, tt)) (λ z are.
    let x : X.Denot = z.0.3.0 in let Post : Val → SProp 𝓤 = (walk_of 𝓛 En hs c).post z in let Run : List Val → SProp 𝓤 = λ ws. WpFn 𝓤 H 𝓣.C 𝓣.Λ fn ws Post in
    qed 𝓛 ((raw (alive 𝓛 En.signature z.0.0 z.0.1) ⊛ ‵ (fsep ((exclusive.the_row R).own_val x z.0.4.0) ftrue)) ∷ raw ((c z.0.0 z.0.3).requires z.1) ∷ []) ∵ keep ! (0 ∷ []) $ split ! $ move ! (1 ∷ []) $ fsplit ! $ keep ! (0 ∷ 2 ∷ []) $
    use1 𝓛 (some (λ (v : Val). given ((z.0.4.0 ≡ round v ∷ []) × Good (layout X) v) (‵ (R.own_val x (v ∷ []))))) (unhides 𝓛 m ((param_laws 0 X L).lawful 𝓛) x z.0.4.0) $ pick ! (λ v. learn ! (λ told. let fine : Good (layout X) v = told.1 in
    suffices ! (Run (round v ∷ [])) (subst (λ (ws : List Val). ent 𝓤 (Run (round v ∷ [])) (Run ws)) (sym (λ i. told.0 i ++ [])) (id⊢ 𝓤 (Run (round v ∷ [])))) $
    enter ! 𝓣.C 𝓣.Λ fn (round v ∷ []) Post $ alloc_all ! (λ l. pass_all ! refl (Good-round [] (layout X) v fine, tt) $
    sets ! (of_opd ! (get_in ! (fld ! refl (stop !)) (sub ! 0 refl (whole !)))) refl fine $ sets ! (of_opd ! (get ! refl)) refl fine $
    use0 𝓛 (raw (shown 𝓤 (x ≡ x))) (fact_i 𝓤 (x ≡ x) (emp 𝓤) refl) $ nothing ! $ nothing ! $ fjoin ! $
    returns ! (look_at ! 0 refl) $ free_all ! refl $ keep ! (3 ∷ 0 ∷ 2 ∷ 1 ∷ []) $ by ! (leaves 𝓛 En hs c z v x (tt, tt) (tt, tt))))))
