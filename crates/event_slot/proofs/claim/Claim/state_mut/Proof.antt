-- `state_mut` lends the state, and the claim follows it.
use Rattle.std.specs.Prelude.{IsSome, None}
use Rattle.event_slot.proofs.Names.{◌≡◌, ℕ, List, [], ◌∷◌, sym, refl, ap, ◌∙◌, a_type, named, dcons, dnil, Val, vptr, inst_fn, Coded, SProp, emp, guard_i, sem, Lft, GName, Share, Fml, ftrue, fsep, flft, full_share, shown, fact_i, fact_use, tables, ‵, raw, ◌⊛◌, some, given, later, at_ret, ◌$◌, ◌∵◌, !, qed, by, move, keep, split, split3, join, fsplit, fsplit3, fjoin, fpick, fpack, pick, learn, use0, use1, use2, use3, await, rewrite, stop, fld, hop, addr, of_opd, first, blocks, exec, returns, enter, alloc_all, pass_all, free_all, look_at, get, through, sets, sets_last, env, sub, whole, look_in, no, RattleType, owns, types_at, plain, named_lft, Ptr, InBlock, block_ptr, block_of, count_of, at_block, nothing, peeks, Is, shows, part_of, part_at, cell_at, mem, param, bounded, RefMutOf, mut_vals, mut_Tells, Stays, stay_dropped, walk_of, tail, proved, leaves}
use types.Mut.{open_ref, close_ref}
use denote.Ref.{MutRef}
use denote.Follow.{follows}
use denote.Struct.Owning.{shape}
use denote.Struct.OwningLaws.{part_out, part_in}
use denote.Triple.Walked.{Goes-spent_ref}
use Rattle.event_slot.specs.Holding.{behind, right_to, lies, claim_owns}
use Rattle.event_slot.proofs.Names.{Option, Some, heard, subst, ent, sep}
use Rattle.event_slot.specs.Lent.{claim_with}
use Rattle.event_slot.specs.contracts.claim.Claim as claim
use Rattle.event_slot.proofs.Fields.{pointing, Pointing, pointing_told, held_placed}
use Rattle.event_slot.proofs.Handing.{Beside, With, state_takes, state_gives, hands}
use Rattle.event_slot.specs.contracts.claim.Claim.state_mut.{ended, clauses}
use Rattle.event_slot.specs.contracts.claim.Claim.state_mut.Key.{name as #self}
use Rattle.event_slot.proofs.claim.Claim.state_mut.Statement.{statement}
use Rattle.event_slot.proofs.claim.Claim.state_mut.Code as code

-- what an option has, or else d
abbrev out_of : {X : Type 0} → X → Option X → X
out_of d (Some x) = x
out_of d _ = d

there_is : {X : Type 0} (o : Option X) → IsSome o → (x : X) × (o ≡ Some x)
there_is (Some x) is = (x, refl)
there_is None is = absurd (cc)

pub state_mut_spec : {M : Type 1} → statement M
unfolding part_of
state_mut_spec 𝓤 𝓛 𝓜 𝓡 wired X S Y Ky _ _ _ _ g d _ =
    let H = 𝓛.H in let 𝓣 = tables 𝓤 H 𝓜 𝓡 𝓡.env in let R : RattleType = param 0 X in let Q : RattleType = param 1 S in let V : RattleType = param 2 Y in let Kr : RattleType = param 3 Ky in let En = ended X S Y Ky g d in let c = clauses X S Y Ky g d 𝓛 𝓜.mem 𝓡.returns in let cw : Coded Y.Denot = V.coded in
    let inst = bounded (a_type ∷ a_type ∷ a_type ∷ a_type ∷ []) (X, (S, (Y, (Ky, tt)))) (dcons d dnil) in let fn = inst_fn inst code.function in
    let row = plain (λ κs. claim.the_row (named_lft 6 1 tt κs) R Q V Kr g) in let hs : Stays En.signature.params En.kept = (stay_dropped (RefMutOf (0 ∷ []) tt row (λ _. tt)) no, tt) in
    proved 𝓛 En hs c 𝓜 𝓡 (Goes-spent_ref 𝓛 6 (0 ∷ []) tt row, tt) (#self inst) fn (code.unfolded 𝓤 H 𝓜 𝓡 wired (X, (S, (Y, (Ky, tt)))) d)
    (λ κs. (mut_vals, tt)) (λ κs. (mut_Tells (named 0) κs.0 (claim.the_row (named_lft 6 1 tt κs) R Q V Kr g), tt)) (λ κs qs bounds a gh are.
    let ℓ = named_lft 6 1 tt κs in let Wr : RattleType = claim.the_row ℓ R Q V Kr g in let ty = claim.the_type ℓ R Q V Kr g in let form = shape ty in let D : RattleType = Pointing form ℓ R in let x = a.0 in let b : ℕ = x.ref_ptr.0 in let o : ℕ = x.ref_ptr.1 in let κ : Lft = κs.0 in let q : Share = qs.0 in let β : Lft = κs.1.0 in
    let hw : Wr.Denot = x.now in let p : Ptr = hw.slot in let pb : ℕ = block_of p in let po : ℕ = count_of p in let e : ℕ = behind R Q pb po in let k : ℕ = hw.right in let v : Option X.Denot = hw.value in let P = λ (i : ℕ) (j : ℕ) (t : Rattle.event_slot.specs.Holding.Names). fsep (right_to R i j t k v) (lies R Q i j t hw.state) in let Bytes : Fml = part_at D full_share (p, (tt, tt)) b o in let Held : Fml = claim_owns cw.code hw.name R Q g.counts (g.holds hw.key) β p k v hw.state in let Has : Type 0 = IsSome hw.state in
    let y : (walk_of 𝓛 En hs c).Ghost = ((κs, qs, bounds, a, (vptr b o ∷ [], tt)), gh) in let Post : Val → SProp 𝓤 = (walk_of 𝓛 En hs c).post y in let others : Fml = fsep (flft β qs.1.0) (fsep (flft κs.1.1.0 qs.1.1.0) (fsep (flft κs.1.1.1.0 qs.1.1.1.0) (fsep (flft κs.1.1.1.1.0 qs.1.1.1.1.0) (fsep (flft κs.1.1.1.1.1.0 qs.1.1.1.1.1.0) ftrue)))) in
    qed 𝓛 (((‵ (flft κ q) ⊛ ‵ others) ⊛ ‵ (owns (types_at En.signature.params κs) a y.0.4)) ∷ raw (shown 𝓤 _) ∷ raw (shown 𝓤 _) ∷ raw (shown 𝓤 _) ∷ raw (shown 𝓤 _) ∷ raw (shown 𝓤 Has) ∷ []) ∵
    keep ! (5 ∷ 0 ∷ []) $ heard ! Has (λ some'. let has = there_is hw.state some' in let s : S.Denot = has.0 in split ! $ split ! $ move ! (2 ∷ []) $ fsplit ! $ fsplit3 ! $ keep ! (1 ∷ 2 ∷ 4 ∷ 5 ∷ []) $
    enter ! 𝓣.C 𝓣.Λ fn (vptr b o ∷ []) Post $ alloc_all ! (λ l. pass_all ! refl ((tt, tt), tt) $ let Ev = env fn.locals l in
    open_ref ! tt (mem Wr) $ use1 𝓛 (‵ Bytes ⊛ ‵ Held) (part_out 𝓛 ty full_share hw b o) $ split ! $ move ! (1 ∷ []) $
    use1 𝓛 (given (InBlock p) (‵ Held)) (fact_use 𝓤 _ (held_placed 𝓛 cw hw.name R Q g.counts (g.holds hw.key) β p P) (guard_i 𝓤 (InBlock p) (sem 𝓛 Held))) $ learn ! (λ inb. let at : p ≡ block_ptr pb po = at_block p inb in
    move ! (1 ∷ []) $ fpick ! (λ vs. fsplit ! $ move ! (1 ∷ []) $ peeks ! D (Is D) (shows 𝓛 D) (p, (tt, tt)) vs (λ is_so. let ev : vs ≡ pointing (block_ptr pb po) ∷ [] = pointing_told form ℓ R p vs is_so ∙ ap (λ (r : Ptr). pointing r ∷ []) at in
    -- [what the bytes own; the bytes; the writer; the open borrow; both halves of its name; the other tokens]
    rewrite ! 1 (λ (ws : List Val). ‵ (cell_at full_share D.mir ws b o)) ev refl $ first ! $ blocks ! $
    sets ! (addr ! (through ! refl (fld ! refl (hop ! (look_in ! 1 (sub ! 0 refl (whole !))) (fld ! refl (stop !)))))) refl (tt, tt) $ sets_last ! (addr ! (through ! refl (stop !))) refl (tt, tt) $
    exec ! 𝓣.C 𝓣.Λ Ev (tail fn.body) (at_ret Ev Post) $ sets ! (of_opd ! (get ! refl)) refl (tt, tt) $
    rewrite ! 1 (λ (ws : List Val). ‵ (cell_at full_share D.mir ws b o)) (sym ev) refl $ move ! (1 ∷ 0 ∷ []) $ fjoin ! $ fpack ! (List Val) (λ us. fsep (cell_at full_share D.mir us b o) (D.own_val (p, (tt, tt)) us)) vs $
    use2 𝓛 (‵ (part_at Wr full_share hw b o)) (part_in 𝓛 ty full_share hw b o) $ close_ref ! tt (mem Wr) hw $
    use3 𝓛 (later (some (λ (δ : GName). ‵ ((MutRef (named 0) κ Q).own_val (record { ref_ptr = (pb, e); ghost_name = δ; now = s }) (vptr pb e ∷ [])) ⊛ ‵ (flft κ q) ⊛ ‵ (follows Wr Q x.ghost_name δ (claim_with hw)))))
    (hands 𝓛 cw hw.name R Q g.counts (g.holds hw.key) β Q pb po e (With 𝓛 cw hw.name R Q g.counts (g.holds hw.key) β pb po k v) (Beside 𝓛 cw hw.name R Q g.counts (g.holds hw.key) β pb po k v) (state_takes 𝓛 cw hw.name R Q g.counts (g.holds hw.key) β pb po k v) (state_gives 𝓛 cw hw.name R Q g.counts (g.holds hw.key) β pb po k v) p at s Wr (claim_with hw) (λ u w same. ap (out_of u) (ap (λ (z : Wr.Denot). z.state) same)) (named 0) κ bounds.0 q x Bytes
    (subst (λ (h : Option S.Denot). ent 𝓤 (sem 𝓛 (part_at Wr full_share hw b o)) (sep 𝓤 (sem 𝓛 Bytes) (sem 𝓛 (claim_owns cw.code hw.name R Q g.counts (g.holds hw.key) β p k v h)))) has.1 (part_out 𝓛 ty full_share hw b o)) (λ w. part_in 𝓛 ty full_share (claim_with hw w) b o)) $ await ! tt $ pick ! (λ δ. split3 ! $ move ! (1 ∷ 3 ∷ []) $ join ! $
    let Told : Type 0 = Some s ≡ hw.state in use0 𝓛 (raw (shown 𝓤 Told)) (fact_i 𝓤 Told (emp 𝓤) (sym has.1)) $ move ! (3 ∷ 0 ∷ []) $ join ! $ nothing ! $ nothing ! $ fjoin ! $
    returns ! (look_at ! 0 refl) $ free_all ! refl $ keep ! (2 ∷ 0 ∷ 3 ∷ 1 ∷ []) $ by ! (leaves 𝓛 En hs c y (vptr pb e) (record { ref_ptr = (pb, e); ghost_name = δ; now = s }) (tt, tt) (tt, tt)))))))))
