-- `get_mut` lends the value, and the whole follows it.
use Rattle.event_slot.proofs.Names.{◌≡◌, ℕ, [], ◌∷◌, refl, ap, a_type, named, Val, vptr, inst_fn, SProp, emp, Lft, GName, Share, Fml, ftrue, fsep, flft, full_share, shown, fact_i, tables, ‵, raw, ◌⊛◌, some, later, ◌$◌, ◌∵◌, !, qed, by, move, keep, split, split3, join, fsplit, fsplit3, fjoin, pick, use0, use1, await, stop, fld, addr, returns, enter, alloc_all, pass_all, free_all, look_at, through, sets, is, no, RattleType, owns, types_at, plain, nothing, part_at, mem, param, param_laws, layout, RefMutOf, mut_vals, mut_Tells, Stays, stay_dropped, walk_of, proved, leaves, Lawful}
use types.Kit.{group}
use types.Mut.{open_ref}
use prog.Memory.{align}
use denote.Param.{layouts}
use denote.Ref.{MutRef}
use denote.Follow.{follows, lends_Part}
use denote.Struct.Members.{Member}
use denote.Struct.CellSteps.{first_at}
use denote.Triple.Walked.{Goes-spent_ref}
use Rattle.event_slot.proofs.Hiding.{Again, out, again}
use Rattle.event_slot.specs.contracts.exclusive.Exclusive as exclusive
use Rattle.event_slot.specs.contracts.exclusive.Exclusive.get_mut.{ended, clauses}
use Rattle.event_slot.specs.contracts.exclusive.Exclusive.get_mut.Key.{name as #self}
use Rattle.event_slot.proofs.exclusive.Exclusive.get_mut.Statement.{statement}
use Rattle.event_slot.proofs.exclusive.Exclusive.get_mut.Code as code

pub get_mut_spec : {M : Type 1} → statement M
get_mut_spec 𝓤 𝓛 𝓜 𝓡 wired X L =
    let H = 𝓛.H in let 𝓣 = tables 𝓤 H 𝓜 𝓡 𝓡.env in let R : RattleType = param 0 X in let En = ended X in let c = clauses X 𝓛 𝓜.mem 𝓡.returns in let m : Member = record { row = R; ty = layout X } in let LR : Lawful 𝓛 R = (param_laws 0 X L).lawful 𝓛 in
    let fn = inst_fn (layouts (a_type ∷ []) (X, tt)) code.function in let S : RattleType = exclusive.the_row R in let row = plain (λ _. S) in let hs : Stays En.signature.params En.kept = (stay_dropped (RefMutOf (0 ∷ []) tt row (λ _. tt)) no, tt) in
    proved 𝓛 En hs c 𝓜 𝓡 (Goes-spent_ref 𝓛 2 (0 ∷ []) tt row, tt) (#self (layouts (a_type ∷ []) (X, tt))) fn (code.unfolded 𝓤 H 𝓜 𝓡 wired (X, tt))
    (λ κs. (mut_vals, tt)) (λ κs. (mut_Tells (named 0) κs.0 S, tt)) (λ κs qs bounds a gh are.
    let x = a.0 in let b : ℕ = x.ref_ptr.0 in let o : ℕ = x.ref_ptr.1 in let κ : Lft = κs.0 in let q : Share = qs.0 in let d₀ : X.Denot = x.now in let rest : SProp 𝓤 = Again 𝓛 m LR b o in
    let y : (walk_of 𝓛 En hs c).Ghost = ((κs, qs, bounds, a, (vptr b o ∷ [], tt)), gh) in let Post : Val → SProp 𝓤 = (walk_of 𝓛 En hs c).post y in let others : Fml = fsep (flft κs.1.0 qs.1.0) ftrue in
    qed 𝓛 (((‵ (flft κ q) ⊛ ‵ others) ⊛ ‵ (owns (types_at En.signature.params κs) a y.0.4)) ∷ raw ((c κs a).requires gh) ∷ []) ∵
    split ! $ split ! $ move ! (2 ∷ []) $ fsplit ! $ fsplit3 ! $ keep ! (1 ∷ 2 ∷ 4 ∷ 5 ∷ []) $
    enter ! 𝓣.C 𝓣.Λ fn (vptr b o ∷ []) Post $ alloc_all ! (λ l. pass_all ! refl ((tt, tt), tt) $
    open_ref ! tt (mem S) $ use1 𝓛 (‵ (part_at R full_share d₀ b o) ⊛ raw rest) (out 𝓛 m LR b o d₀) $ split ! $ move ! (2 ∷ 3 ∷ 4 ∷ 0 ∷ 1 ∷ []) $ group ! 5 $
    use1 𝓛 (later (some (λ (δ : GName). ‵ ((MutRef (named 0) κ R).own_val (record { ref_ptr = (b, o); ghost_name = δ; now = d₀ }) (vptr b o ∷ [])) ⊛ ‵ (flft κ q) ⊛ ‵ (follows S R x.ghost_name δ (λ w. w)))))
    (lends_Part 𝓛 S R (λ w. w) (named 0) κ q b o b o x.ghost_name rest (again 𝓛 m LR b o) (S.coded.code d₀) (S.coded.code d₀) d₀) $ await ! tt $ pick ! (λ δ. split3 ! $ move ! (1 ∷ 3 ∷ []) $ join ! $
    let Told : Type 0 = d₀ ≡ d₀ in use0 𝓛 (raw (shown 𝓤 Told)) (fact_i 𝓤 Told (emp 𝓤) refl) $ move ! (3 ∷ 0 ∷ []) $ join ! $ nothing ! $ nothing ! $ fjoin ! $
    sets ! (is ! (addr ! (through ! refl (fld ! refl (stop !)))) (ap (vptr b) (first_at (align (layout X)) o))) refl (tt, tt) $
    returns ! (look_at ! 0 refl) $ free_all ! refl $ keep ! (2 ∷ 0 ∷ 3 ∷ 1 ∷ []) $ by ! (leaves 𝓛 En hs c y (vptr b o) (record { ref_ptr = (b, o); ghost_name = δ; now = d₀ }) (tt, tt) (tt, tt)))))
