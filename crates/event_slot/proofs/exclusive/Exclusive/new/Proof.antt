-- `new` puts the value in.
use Rattle.event_slot.proofs.Names.{◌≡◌, List, [], ◌∷◌, ◌++◌, sym, refl, subst, a_type, Val, inst_fn, SProp, ent, id⊢, emp, shown, fact_i, ftrue, fsep, tables, WpFn, ‵, raw, ◌⊛◌, ◌$◌, ◌∵◌, !, qed, by, move, keep, split, fsplit, fjoin, use0, use1, rewrite, suffices, of_opd, no_more, and_then, returns, enter, alloc_all, pass_all, free_all, look_at, get, sets, agg, no, RattleType, plain, nothing, param, layout, alive, Stays, stay_dropped, walk_of, Goes-dropped, El, lawful, Good, one, proved_at, leaves}
use denote.Param.{layouts}
use denote.Struct.Members.{Member}
use Rattle.core.proofs.cell.Inside.{round, Good-round}
use Rattle.event_slot.proofs.Hiding.{hides}
use Rattle.event_slot.specs.contracts.exclusive.Exclusive as exclusive
use Rattle.event_slot.specs.contracts.exclusive.Exclusive.new.{ended, clauses}
use Rattle.event_slot.specs.contracts.exclusive.Exclusive.new.Key.{name as #self}
use Rattle.event_slot.proofs.exclusive.Exclusive.new.Statement.{statement}
use Rattle.event_slot.proofs.exclusive.Exclusive.new.Code as code

pub new_spec : {M : Type 1} → statement M
new_spec 𝓤 𝓛 𝓜 𝓡 wired X L =
    let H = 𝓛.H in let 𝓣 = tables 𝓤 H 𝓜 𝓡 𝓡.env in let R : RattleType = param 0 X in let En = ended X in let c = clauses X 𝓛 𝓜.mem 𝓡.returns in let E : El = record { row = X; laws = L } in let m : Member = record { row = R; ty = layout X } in
    let fn = inst_fn (layouts (a_type ∷ []) (X, tt)) code.function in let item = plain (λ _. R) in let hs : Stays En.signature.params En.kept = (stay_dropped item no, tt) in
    proved_at 𝓛 En hs c 𝓜 𝓡 (Goes-dropped 𝓛 1 item no (λ κs x f. refl), tt) (#self (layouts (a_type ∷ []) (X, tt))) fn (code.unfolded 𝓤 H 𝓜 𝓡 wired (X, tt)) (λ z are.
    let x : X.Denot = z.0.3.0 in let got = one E z.0.4.0 ((lawful E 𝓛).typed x z.0.4.0 are.0) in let v : Val = got.0 in let fine : Good E v = got.2 in
    let Post : Val → SProp 𝓤 = (walk_of 𝓛 En hs c).post z in let Run : List Val → SProp 𝓤 = λ ws. WpFn 𝓤 H 𝓣.C 𝓣.Λ fn ws Post in
    qed 𝓛 ((raw (alive 𝓛 En.signature z.0.0 z.0.1) ⊛ ‵ (fsep (R.own_val x z.0.4.0) ftrue)) ∷ raw ((c z.0.0 z.0.3).requires z.1) ∷ []) ∵ keep ! (0 ∷ []) $ split ! $ move ! (1 ∷ []) $ fsplit ! $ keep ! (0 ∷ 2 ∷ []) $
    rewrite ! 0 (λ (ws : List Val). ‵ (R.own_val x ws)) got.1 refl $ suffices ! (Run (v ∷ [])) (subst (λ (ws : List Val). ent 𝓤 (Run (v ∷ [])) (Run ws)) (sym (λ i. got.1 i ++ [])) (id⊢ 𝓤 (Run (v ∷ [])))) $
    use1 𝓛 (‵ ((exclusive.the_row R).own_val x (round v ∷ []))) (hides 𝓛 m x v fine) $
    enter ! 𝓣.C 𝓣.Λ fn (v ∷ []) Post $ alloc_all ! (λ l. pass_all ! refl (fine, tt) $
    sets ! (of_opd ! (get ! refl)) refl fine $ sets ! (agg ! (and_then ! (get ! refl) (no_more !))) refl (Good-round [] (layout X) v fine) $
    use0 𝓛 (raw (shown 𝓤 (x ≡ x))) (fact_i 𝓤 (x ≡ x) (emp 𝓤) refl) $ nothing ! $ nothing ! $ fjoin ! $
    returns ! (look_at ! 0 refl) $ free_all ! refl $ keep ! (3 ∷ 0 ∷ 2 ∷ 1 ∷ []) $ by ! (leaves 𝓛 En hs c z (round v) x (tt, tt) (tt, tt))))
