-- `done` gives the token back to the `Arc`.
use Rattle.event_slot.proofs.Names.{◌≡◌, List, [], ◌∷◌, ◌++◌, sym, refl, ap, ◌∙◌, subst, a_type, dcons, dnil, Val, vstruct, of_list, inst_fn, SProp, ent, emp, id⊢, apply∗, sem, Fml, ftrue, fsep, shown, fact_i, tables, WpFn, ‵, raw, ◌⊛◌, ◌$◌, ◌∵◌, !, qed, by, move, keep, drop, split, fsplit, fsplit3, fjoin, fpick, suffices, use0, use2, stop, fld, of_opd, returns, enter, alloc_all, pass_all, free_all, look_at, get, get_in, sets, sub, whole, no, RattleType, plain, Ptr, ptr_val, nothing, param, param_laws, bounded, Stays, stay_dropped, walk_of, proved_at, leaves, alive}
use types.RcWeak.{part}
use Rattle.core.proofs.alloc.Calls.{Goes-blank}
use Rattle.event_slot.specs.contracts.leased.Leased.TheInside as Inside
use Rattle.event_slot.specs.contracts.owned.Owned as owned
use Rattle.event_slot.proofs.Leasing.{one, housing, one_had, housed_had, out_fine, housing_fine, Shared, Out, shared_laws, out_laws}
use Rattle.event_slot.specs.contracts.owned.Owned.done.{ended, clauses}
use Rattle.event_slot.specs.contracts.owned.Owned.done.Key.{name as #self}
use Rattle.event_slot.proofs.owned.Owned.done.Statement.{statement}
use Rattle.event_slot.proofs.owned.Owned.done.Code as code

pub done_spec : {M : Type 1} → statement M
done_spec 𝓤 𝓛 𝓜 𝓡 wired T X S A Y Ky LT _ _ LA _ _ g d f d' dd _ _ _ =
    let H = 𝓛.H in let 𝓣 = tables 𝓤 H 𝓜 𝓡 𝓡.env in let P : RattleType = param 0 T in let R : RattleType = param 1 X in let Q : RattleType = param 2 S in let B : RattleType = param 3 A in let V : RattleType = param 4 Y in let Kr : RattleType = param 5 Ky in
    let En = ended T X S A Y Ky g d f d' dd in let c = clauses T X S A Y Ky g d f d' dd 𝓛 𝓜.mem 𝓡.returns in let LP = param_laws 0 T LT in let LB = param_laws 3 A LA in
    let inst = bounded (a_type ∷ a_type ∷ a_type ∷ a_type ∷ a_type ∷ a_type ∷ []) (T, (X, (S, (A, (Y, (Ky, tt)))))) (dcons d (dcons d' (dcons dd dnil))) in let fn = inst_fn inst code.function in
    let self = plain (λ _. owned.the_row P R Q B V Kr g f) in let hs : Stays En.signature.params En.kept = (stay_dropped self no, tt) in
    proved_at 𝓛 En hs c 𝓜 𝓡 (Goes-blank 𝓛 6 self no (λ κs x e. tt), tt) (#self inst) fn (code.unfolded 𝓤 H 𝓜 𝓡 wired (T, (X, (S, (A, (Y, (Ky, tt)))))) d d' dd) (λ z are.
    let Or : RattleType = owned.the_row P R Q B V Kr g f in let ho : Or.Denot = z.0.3.0 in let p : Ptr = ho.slot in let F : RattleType = Shared P B f in
    let Post : Val → SProp 𝓤 = (walk_of 𝓛 En hs c).post z in let Run : List Val → SProp 𝓤 = λ ws. WpFn 𝓤 H 𝓣.C 𝓣.Λ fn ws Post in
    qed 𝓛 ((raw (alive 𝓛 En.signature z.0.0 z.0.1) ⊛ ‵ (fsep (Or.own_val ho z.0.4.0) ftrue)) ∷ raw ((c z.0.0 z.0.3).requires z.1) ∷ []) ∵ keep ! (0 ∷ []) $ split ! $ move ! (1 ∷ []) $ fsplit ! $ fsplit ! $ keep ! (1 ∷ 0 ∷ 3 ∷ []) $
    -- [the token and the claim; the bytes; the tokens]
    fsplit3 ! $ fpick ! (λ same. drop ! $ move ! (1 ∷ []) $ drop ! $ move ! (1 ∷ []) $ housed_had ! (Out P B f) (out_laws P B f LP LB) p ho.arc z.0.4.0 (λ u is good. fsplit ! $ drop ! $ fpick ! (λ i. fpick ! (λ e.
    let Whole : Fml = (Inside.the_row P B f).own_val i (u ∷ []) in move ! (1 ∷ 0 ∷ []) $ use2 𝓛 (‵ Whole) (apply∗ 𝓤 (sem 𝓛 (part 63 ho.arc.life)) (sem 𝓛 Whole)) $
    one_had ! F (shared_laws P B f LP LB) i.arc (u ∷ []) (λ w is_w fine. let vs : List Val = housing p (one w) ∷ [] in let is_v : z.0.4.0 ≡ vs = is ∙ ap (λ (us : List Val). vstruct (of_list (ptr_val p ∷ us)) ∷ []) is_w in
    suffices ! (Run vs) (subst (λ (ws : List Val). ent 𝓤 (Run vs) (Run ws)) (sym (λ j. is_v j ++ [])) (id⊢ 𝓤 (Run vs))) $
    enter ! 𝓣.C 𝓣.Λ fn vs Post $ alloc_all ! (λ k. let inner = out_fine P B f w fine in pass_all ! refl (housing_fine P B f p (one w) inner, tt) $
    sets ! (of_opd ! (get_in ! (fld ! refl (stop !)) (sub ! 1 refl (whole !)))) refl inner $ sets ! (of_opd ! (get_in ! (fld ! refl (stop !)) (sub ! 0 refl (whole !)))) refl fine $ sets ! (of_opd ! (get ! refl)) refl fine $
    let Told : Type 0 = i.arc.value ≡ ho.of in use0 𝓛 (raw (shown 𝓤 Told)) (fact_i 𝓤 Told (emp 𝓤) (e ∙ same)) $ nothing ! $ nothing ! $ fjoin ! $
    returns ! (look_at ! 0 refl) $ free_all ! refl $ keep ! (3 ∷ 0 ∷ 2 ∷ 1 ∷ []) $ by ! (leaves 𝓛 En hs c z w i.arc ((tt, (tt, tt)), tt) (tt, tt)))))))))
