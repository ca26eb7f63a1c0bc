-- `address` reads nothing.
use Rattle.event_slot.proofs.Names.{ℕ, ◌+◌, List, [], ◌∷◌, refl, a_type, named, dcons, dnil, Val, vptr, inst_fn, SProp, Lft, Share, Fml, ftrue, fsep, flft, tables, ‵, raw, ◌⊛◌, ◌$◌, ◌∵◌, !, qed, by, keep, split, fjoin, feq_i, stop, fld, addr, returns, enter, alloc_all, pass_all, free_all, look_at, through, sets, yes, RattleType, owns, types_at, plain, block_ptr, nothing, param, bounded, RefOf, shr_vals, shr_Tells, Stays, stay_dropped, walk_of, Goes-dropped, proved, leaves}
use Rattle.event_slot.specs.contracts.slot.Slot as slot
use Rattle.event_slot.specs.contracts.slot.Slot.address.{ended, clauses}
use Rattle.event_slot.specs.contracts.slot.Slot.address.Key.{name as #self}
use Rattle.event_slot.proofs.slot.Slot.address.Statement.{statement}
use Rattle.event_slot.proofs.slot.Slot.address.Code as code

pub address_spec : {M : Type 1} → statement M
address_spec 𝓤 𝓛 𝓜 𝓡 wired X S Y Ky _ _ _ _ g d _ =
    let H = 𝓛.H in let 𝓣 = tables 𝓤 H 𝓜 𝓡 𝓡.env in let R : RattleType = param 0 X in let Q : RattleType = param 1 S in let V : RattleType = param 2 Y in let Kr : RattleType = param 3 Ky in let En = ended X S Y Ky g d in let c = clauses X S Y Ky g d 𝓛 𝓜.mem 𝓡.returns in
    let inst = bounded (a_type ∷ a_type ∷ a_type ∷ a_type ∷ []) (X, (S, (Y, (Ky, tt)))) (dcons d dnil) in let fn = inst_fn inst code.function in
    let Row : RattleType = slot.the_row R Q V Kr g in let self = RefOf (0 ∷ []) tt (plain (λ _. Row)) (λ _. tt) in let hs : Stays En.signature.params En.kept = (stay_dropped self yes, tt) in
    proved 𝓛 En hs c 𝓜 𝓡 (Goes-dropped 𝓛 5 self yes (λ κs x f. refl), tt) (#self inst) fn (code.unfolded 𝓤 H 𝓜 𝓡 wired (X, (S, (Y, (Ky, tt)))) d) (λ κs. (shr_vals, tt)) (λ κs. (shr_Tells (named 0) κs.0 Row, tt)) (λ κs qs bounds a gh are.
    let b : ℕ = a.0.ref_ptr.0 in let o : ℕ = a.0.ref_ptr.1 in let κ : Lft = κs.0 in let q : Share = qs.0 in
    let y : (walk_of 𝓛 En hs c).Ghost = ((κs, qs, bounds, a, (vptr b o ∷ [], tt)), gh) in let Post : Val → SProp 𝓤 = (walk_of 𝓛 En hs c).post y in let others : Fml = fsep (flft κs.1.0 qs.1.0) (fsep (flft κs.1.1.0 qs.1.1.0) (fsep (flft κs.1.1.1.0 qs.1.1.1.0) (fsep (flft κs.1.1.1.1.0 qs.1.1.1.1.0) ftrue))) in
    qed 𝓛 (((‵ (flft κ q) ⊛ ‵ others) ⊛ ‵ (owns (types_at En.signature.params κs) a y.0.4)) ∷ raw ((c κs a).requires gh) ∷ []) ∵ split ! $ keep ! (0 ∷ []) $
    enter ! 𝓣.C 𝓣.Λ fn (vptr b o ∷ []) Post $ alloc_all ! (λ l. pass_all ! refl ((tt, tt), tt) $
    nothing ! $ nothing ! $ fjoin ! $ feq_i ! (List Val) (vptr b (o + 0) ∷ []) (vptr b (o + 0) ∷ []) refl $ nothing ! $
    sets ! (addr ! (through ! refl (fld ! refl (stop !)))) refl (tt, tt) $ returns ! (look_at ! 0 refl) $ free_all ! refl $ keep ! (3 ∷ 2 ∷ 1 ∷ 0 ∷ []) $ by ! (leaves 𝓛 En hs c y (vptr b (o + 0)) (block_ptr b (o + 0)) (tt, tt) (tt, tt))))
