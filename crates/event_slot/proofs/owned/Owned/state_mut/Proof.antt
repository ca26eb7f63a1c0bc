-- `state_mut` lends the state, and the `Arc` with the claim follows it.
use Rattle.std.specs.Prelude.{IsSome}
use Rattle.event_slot.proofs.Names.{◌≡◌, ℕ, List, [], ◌∷◌, ◌++◌, sym, refl, ap, ◌∙◌, subst, Option, Some, None, a_type, named, dcons, dnil, Val, vptr, inst_fn, Coded, SProp, ent, sep, emp, guard_i, sem, Lft, GName, Share, Incl, Incl-trans, ◌⊑◌, ⊑_meet, Fml, ftrue, fsep, flft, full_share, shown, fact_i, fact_use, tables, ‵, raw, ◌⊛◌, some, given, later, at_ret, ◌$◌, ◌∵◌, !, qed, by, move, keep, split, split3, join, fsplit, fsplit3, fjoin, fpick, fpack, pick, learn, heard, use0, use1, use3, await, rewrite, stop, fld, hop, addr, of_opd, first, blocks, exec, returns, enter, alloc_all, pass_all, free_all, look_at, get, through, sets, sets_last, env, sub, whole, look_in, no, RattleType, owns, types_at, plain, Ptr, InBlock, block_ptr, block_of, count_of, at_block, nothing, peeks, Is, shows, part_of, part_at, cell_at, mem, param, bounded, RefMutOf, mut_vals, mut_Tells, Stays, stay_dropped, walk_of, tail, proved, leaves}
use types.Mut.{open_ref, close_ref}
use denote.Ref.{MutRef}
use denote.Follow.{follows}
use denote.Triple.Walked.{Goes-spent_ref}
use Rattle.event_slot.specs.Holding.{behind, right_to, lies}
use Rattle.event_slot.specs.Lent.{owned_with_state}
use Rattle.event_slot.proofs.Fields.{held_placed}
use Rattle.event_slot.proofs.Handing.{Beside, With, state_takes, state_gives}
use Rattle.event_slot.proofs.Leasing.{Out as Leased, beside, housing_told}
use Rattle.event_slot.proofs.Parting as parting
use Rattle.event_slot.proofs.Passing.{passes}
use Rattle.event_slot.specs.contracts.owned.Owned.state_mut.{ended, clauses}
use Rattle.event_slot.specs.contracts.owned.Owned.state_mut.Key.{name as #self}
use Rattle.event_slot.proofs.owned.Owned.state_mut.Statement.{statement}
use Rattle.event_slot.proofs.owned.Owned.state_mut.Code as code

-- what an option has, or else d
abbrev out_of : {X : Type 0} → X → Option X → X
out_of d (Some x) = x
out_of d _ = d

there_is : {X : Type 0} (o : Option X) → IsSome o → (x : X) × (o ≡ Some x)
there_is (Some x) is = (x, refl)
there_is None is = absurd (cc)

pub state_mut_spec : {M : Type 1} → statement M
unfolding part_of
state_mut_spec 𝓤 𝓛 𝓜 𝓡 wired T X S A Y Ky _ _ _ _ _ _ g d f d' dd _ _ _ =
    let H = 𝓛.H in let 𝓣 = tables 𝓤 H 𝓜 𝓡 𝓡.env in let P : RattleType = param 0 T in let R : RattleType = param 1 X in let Q : RattleType = param 2 S in let B : RattleType = param 3 A in let V : RattleType = param 4 Y in let Kr : RattleType = param 5 Ky in let cw : Coded Y.Denot = V.coded in
    let En = ended T X S A Y Ky g d f d' dd in let c = clauses T X S A Y Ky g d f d' dd 𝓛 𝓜.mem 𝓡.returns in let Or : RattleType = parting.Or P R Q B V Kr g f in let D : RattleType = parting.D P R Q B V Kr g f in
    let inst = bounded (a_type ∷ a_type ∷ a_type ∷ a_type ∷ a_type ∷ a_type ∷ []) (T, (X, (S, (A, (Y, (Ky, tt)))))) (dcons d (dcons d' (dcons dd dnil))) in let fn = inst_fn inst code.function in
    let row = plain (λ _. Or) in let hs : Stays En.signature.params En.kept = (stay_dropped (RefMutOf (0 ∷ []) tt row (λ _. tt)) no, tt) in
    proved 𝓛 En hs c 𝓜 𝓡 (Goes-spent_ref 𝓛 7 (0 ∷ []) tt row, tt) (#self inst) fn (code.unfolded 𝓤 H 𝓜 𝓡 wired (T, (X, (S, (A, (Y, (Ky, tt)))))) d d' dd)
    (λ κs. (mut_vals, tt)) (λ κs. (mut_Tells (named 0) κs.0 Or, tt)) (λ κs qs bounds a gh are.
    let x = a.0 in let b : ℕ = x.ref_ptr.0 in let o : ℕ = x.ref_ptr.1 in let κ : Lft = κs.0 in let q : Share = qs.0 in let τ : Lft = κs.1.0 in let χ : Lft = κs.1.1.0 in let σ : Lft = κs.1.1.1.0 in let ρ : Lft = T.lives ++ (X.lives ++ S.lives) in
    let ho : Or.Denot = x.now in let p : Ptr = ho.slot in let v : Option X.Denot = ho.value in let s : Option S.Denot = ho.state in let i : ℕ = ho.arc.life in let pb : ℕ = block_of p in let po : ℕ = count_of p in let e : ℕ = behind R Q pb po in let May : Type 0 = IsSome s in let β : Lft = i ∷ ρ in
    let Bytes : Fml = parting.Bytes P R Q B V Kr g f 𝓛 b o ho in let Token : Fml = parting.Token P R Q B V Kr g f 𝓛 b o ho in let Claim : ℕ → Option X.Denot → Option S.Denot → Fml = parting.Claim P R Q B V Kr g f 𝓛 b o ho in let apart = parting.apart P R Q B V Kr g f 𝓛 b o ho in let again = parting.again P R Q B V Kr g f 𝓛 b o ho in
    let y : (walk_of 𝓛 En hs c).Ghost = ((κs, qs, bounds, a, (vptr b o ∷ [], tt)), gh) in let Post : Val → SProp 𝓤 = (walk_of 𝓛 En hs c).post y in
    let others : Fml = fsep (flft τ qs.1.0) (fsep (flft χ qs.1.1.0) (fsep (flft σ qs.1.1.1.0) (fsep (flft κs.1.1.1.1.0 qs.1.1.1.1.0) (fsep (flft κs.1.1.1.1.1.0 qs.1.1.1.1.1.0) (fsep (flft κs.1.1.1.1.1.1.0 qs.1.1.1.1.1.1.0) ftrue))))) in
    qed 𝓛 (((‵ (flft κ q) ⊛ ‵ others) ⊛ ‵ (owns (types_at En.signature.params κs) a y.0.4)) ∷ raw (shown 𝓤 (τ ⊑ T.lives)) ∷ raw (shown 𝓤 (χ ⊑ X.lives)) ∷ raw (shown 𝓤 (σ ⊑ S.lives)) ∷ raw (shown 𝓤 _) ∷ raw (shown 𝓤 _) ∷ raw (shown 𝓤 _) ∷ raw (shown 𝓤 May) ∷ []) ∵
    keep ! (7 ∷ 1 ∷ 2 ∷ 3 ∷ 0 ∷ []) $ heard ! May (λ may. heard ! (τ ⊑ T.lives) (λ lt. heard ! (χ ⊑ X.lives) (λ lx. heard ! (σ ⊑ S.lives) (λ ls. split ! $ split ! $ move ! (2 ∷ []) $ fsplit ! $ fsplit3 ! $ keep ! (1 ∷ 2 ∷ 4 ∷ 5 ∷ []) $
    let inc : Incl κ ρ = ⊑_meet κ T.lives (X.lives ++ S.lives) (Incl-trans bounds.0 lt) (⊑_meet κ X.lives S.lives (Incl-trans bounds.1.0 lx) (Incl-trans bounds.1.1.0 ls)) in
    enter ! 𝓣.C 𝓣.Λ fn (vptr b o ∷ []) Post $ alloc_all ! (λ l. pass_all ! refl ((tt, tt), tt) $ let Ev = env fn.locals l in
    open_ref ! tt (mem Or) $ use1 𝓛 (‵ Bytes ⊛ ‵ Token ⊛ ‵ (Claim ho.right v s)) apart $ split3 ! $ move ! (2 ∷ []) $ let has = there_is s may in let w : S.Denot = has.0 in let is_w : s ≡ Some w = has.1 in
    use1 𝓛 (given (InBlock p) (‵ (Claim ho.right v s))) (fact_use 𝓤 _ (held_placed 𝓛 cw ho.name R Q g.counts (g.holds ho.key) β p (λ j k t. fsep (right_to R j k t ho.right v) (lies R Q j k t s))) (guard_i 𝓤 (InBlock p) (sem 𝓛 (Claim ho.right v s)))) $ learn ! (λ inb. let at : p ≡ block_ptr pb po = at_block p inb in
    let d'' : D.Denot = (p, (ho.arc, tt)) in
    move ! (1 ∷ []) $ fsplit ! $ fpick ! (λ vs. fsplit ! $ move ! (1 ∷ []) $ peeks ! D (Is D) (shows 𝓛 D) d'' vs (λ is_so. let ws = housing_told (Leased P B f) p ho.arc vs is_so in let ev : vs ≡ beside (block_ptr pb po) ws.0 ∷ [] = ws.1 ∙ ap (λ (r : Ptr). beside r ws.0 ∷ []) at in
    -- [what the bytes own; the bytes; what is shared; the claim; the token; the borrow, open; both halves of its name; the other tokens]
    rewrite ! 1 (λ (us : List Val). ‵ (cell_at full_share D.mir us b o)) ev refl $ first ! $ blocks ! $
    sets ! (addr ! (through ! refl (fld ! refl (hop ! (look_in ! 1 (sub ! 0 refl (whole !))) (fld ! refl (stop !)))))) refl (tt, tt) $ sets_last ! (addr ! (through ! refl (stop !))) refl (tt, tt) $
    exec ! 𝓣.C 𝓣.Λ Ev (tail fn.body) (at_ret Ev Post) $ sets ! (of_opd ! (get ! refl)) refl (tt, tt) $
    rewrite ! 1 (λ (us : List Val). ‵ (cell_at full_share D.mir us b o)) (sym ev) refl $ move ! (1 ∷ 0 ∷ []) $ fjoin ! $ fpack ! (List Val) (λ us. fsep (cell_at full_share D.mir us b o) (D.own_val d'' us)) vs $ fjoin ! $
    move ! (0 ∷ 2 ∷ 1 ∷ []) $ use3 𝓛 (‵ (part_at Or full_share ho b o)) (again v s) $ close_ref ! tt (mem Or) ho $
    use3 𝓛 (later (some (λ (δ : GName). ‵ ((MutRef (named 0) κ Q).own_val (record { ref_ptr = (pb, e); ghost_name = δ; now = w }) (vptr pb e ∷ [])) ⊛ ‵ (flft κ q) ⊛ ‵ (follows Or Q x.ghost_name δ (owned_with_state ho)))))
    (passes 𝓛 cw ho.name R Q g.counts (g.holds ho.key) i ρ Q pb po e (With 𝓛 cw ho.name R Q g.counts (g.holds ho.key) β pb po ho.right v) (Beside 𝓛 cw ho.name R Q g.counts (g.holds ho.key) β pb po ho.right v) (state_takes 𝓛 cw ho.name R Q g.counts (g.holds ho.key) β pb po ho.right v) (state_gives 𝓛 cw ho.name R Q g.counts (g.holds ho.key) β pb po ho.right v) p at w
    Or (owned_with_state ho) (λ u u' same. ap (out_of u) (ap (λ (j : Or.Denot). j.state) same)) (named 0) κ inc q x Bytes (λ j. record { slot = p; arc = ho.arc; of = ho.of; name = ho.name; key = ho.key; right = ho.right; value = v; state = is_w j })
    (subst (λ (k : Option S.Denot). ent 𝓤 (sem 𝓛 (part_at Or full_share ho b o)) (sep 𝓤 (sem 𝓛 Bytes) (sep 𝓤 (sem 𝓛 Token) (sem 𝓛 (Claim ho.right v k))))) is_w apart) (λ u. again v (Some u))) $ await ! tt $ pick ! (λ δ. split3 ! $ move ! (1 ∷ 3 ∷ []) $ join ! $
    let Told : Type 0 = Some w ≡ s in use0 𝓛 (raw (shown 𝓤 Told)) (fact_i 𝓤 Told (emp 𝓤) (sym is_w)) $ move ! (3 ∷ 0 ∷ []) $ join ! $ nothing ! $ nothing ! $ fjoin ! $
    returns ! (look_at ! 0 refl) $ free_all ! refl $ keep ! (2 ∷ 0 ∷ 3 ∷ 1 ∷ []) $ by ! (leaves 𝓛 En hs c y (vptr pb e) (record { ref_ptr = (pb, e); ghost_name = δ; now = w }) (tt, tt) (tt, tt))))))))))))
