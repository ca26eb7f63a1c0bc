-- `get_mut` lends the value, and the writer follows it.
use Rattle.event_slot.proofs.Names.{◌≡◌, ℕ, List, [], ◌∷◌, sym, refl, ap, ◌∙◌, a_type, named, dcons, dnil, Val, vptr, inst_fn, Coded, SProp, emp, guard_i, sem, Lft, GName, Share, Fml, ftrue, fsep, flft, full_share, shown, fact_i, fact_use, tables, ‵, raw, ◌⊛◌, some, given, later, at_ret, ◌$◌, ◌∵◌, !, qed, by, move, keep, split, split3, join, fsplit, fsplit3, fjoin, fpick, fpack, pick, learn, use0, use1, use2, use3, await, rewrite, stop, fld, hop, addr, of_opd, first, blocks, exec, returns, enter, alloc_all, pass_all, free_all, look_at, get, through, sets, sets_last, env, sub, whole, look_in, no, RattleType, owns, types_at, plain, named_lft, Ptr, InBlock, block_ptr, block_of, count_of, at_block, nothing, peeks, Is, shows, part_of, part_at, cell_at, mem, param, bounded, RefMutOf, mut_vals, mut_Tells, Stays, stay_dropped, walk_of, tail, proved, leaves}
use types.Mut.{open_ref, close_ref}
use denote.Ref.{MutRef}
use denote.Follow.{follows}
use denote.Struct.Owning.{shape}
use denote.Struct.OwningLaws.{part_out, part_in}
use denote.Triple.Walked.{Goes-spent_ref}
use Rattle.event_slot.specs.Holding.{place, writer, writing_owns}
use Rattle.event_slot.specs.Lent.{writing_with}
use Rattle.event_slot.specs.contracts.writing.Writing as writing
use Rattle.event_slot.proofs.Fields.{pointing, Pointing, pointing_told, held_placed}
use Rattle.event_slot.proofs.Handing.{Out, writer_takes, writer_gives, hands}
use Rattle.event_slot.specs.contracts.writing.Writing.get_mut.{ended, clauses}
use Rattle.event_slot.specs.contracts.writing.Writing.get_mut.Key.{name as #self}
use Rattle.event_slot.proofs.writing.Writing.get_mut.Statement.{statement}
use Rattle.event_slot.proofs.writing.Writing.get_mut.Code as code

pub get_mut_spec : {M : Type 1} → statement M
unfolding part_of
get_mut_spec 𝓤 𝓛 𝓜 𝓡 wired X S Y Ky L _ _ _ g d _ =
    let H = 𝓛.H in let 𝓣 = tables 𝓤 H 𝓜 𝓡 𝓡.env in let R : RattleType = param 0 X in let Q : RattleType = param 1 S in let V : RattleType = param 2 Y in let Kr : RattleType = param 3 Ky in let En = ended X S Y Ky g d in let c = clauses X S Y Ky g d 𝓛 𝓜.mem 𝓡.returns in let cw : Coded Y.Denot = V.coded in
    let inst = bounded (a_type ∷ a_type ∷ a_type ∷ a_type ∷ []) (X, (S, (Y, (Ky, tt)))) (dcons d dnil) in let fn = inst_fn inst code.function in
    let row = plain (λ κs. writing.the_row (named_lft 6 1 tt κs) R Q V Kr g) in let hs : Stays En.signature.params En.kept = (stay_dropped (RefMutOf (0 ∷ []) tt row (λ _. tt)) no, tt) in
    proved 𝓛 En hs c 𝓜 𝓡 (Goes-spent_ref 𝓛 6 (0 ∷ []) tt row, tt) (#self inst) fn (code.unfolded 𝓤 H 𝓜 𝓡 wired (X, (S, (Y, (Ky, tt)))) d)
    (λ κs. (mut_vals, tt)) (λ κs. (mut_Tells (named 0) κs.0 (writing.the_row (named_lft 6 1 tt κs) R Q V Kr g), tt)) (λ κs qs bounds a gh are.
    let ℓ = named_lft 6 1 tt κs in let Wr : RattleType = writing.the_row ℓ R Q V Kr g in let ty = writing.the_type ℓ R Q V Kr g in let form = shape ty in let D : RattleType = Pointing form ℓ R in let x = a.0 in let b : ℕ = x.ref_ptr.0 in let o : ℕ = x.ref_ptr.1 in let κ : Lft = κs.0 in let q : Share = qs.0 in let β : Lft = κs.1.0 in
    let hw : Wr.Denot = x.now in let p : Ptr = hw.slot in let pb : ℕ = block_of p in let po : ℕ = count_of p in let e : ℕ = place R pb po in let Bytes : Fml = part_at D full_share (p, (tt, tt)) b o in let Held : Fml = writing_owns cw.code hw.name R Q g.counts (g.holds hw.key) β p hw.value in
    let y : (walk_of 𝓛 En hs c).Ghost = ((κs, qs, bounds, a, (vptr b o ∷ [], tt)), gh) in let Post : Val → SProp 𝓤 = (walk_of 𝓛 En hs c).post y in let others : Fml = fsep (flft β qs.1.0) (fsep (flft κs.1.1.0 qs.1.1.0) (fsep (flft κs.1.1.1.0 qs.1.1.1.0) (fsep (flft κs.1.1.1.1.0 qs.1.1.1.1.0) (fsep (flft κs.1.1.1.1.1.0 qs.1.1.1.1.1.0) ftrue)))) in
    qed 𝓛 (((‵ (flft κ q) ⊛ ‵ others) ⊛ ‵ (owns (types_at En.signature.params κs) a y.0.4)) ∷ raw ((c κs a).requires gh) ∷ []) ∵
    split ! $ split ! $ move ! (2 ∷ []) $ fsplit ! $ fsplit3 ! $ keep ! (1 ∷ 2 ∷ 4 ∷ 5 ∷ []) $
    enter ! 𝓣.C 𝓣.Λ fn (vptr b o ∷ []) Post $ alloc_all ! (λ l. pass_all ! refl ((tt, tt), tt) $ let Ev = env fn.locals l in
    open_ref ! tt (mem Wr) $ use1 𝓛 (‵ Bytes ⊛ ‵ Held) (part_out 𝓛 ty full_share hw b o) $ split ! $ move ! (1 ∷ []) $
    use1 𝓛 (given (InBlock p) (‵ Held)) (fact_use 𝓤 _ (held_placed 𝓛 cw hw.name R Q g.counts (g.holds hw.key) β p (λ i j t. writer R i j t hw.value)) (guard_i 𝓤 (InBlock p) (sem 𝓛 Held))) $ learn ! (λ inb. let at : p ≡ block_ptr pb po = at_block p inb in
    move ! (1 ∷ []) $ fpick ! (λ vs. fsplit ! $ move ! (1 ∷ []) $ peeks ! D (Is D) (shows 𝓛 D) (p, (tt, tt)) vs (λ is_so. let ev : vs ≡ pointing (block_ptr pb po) ∷ [] = pointing_told form ℓ R p vs is_so ∙ ap (λ (r : Ptr). pointing r ∷ []) at in
    -- [what the bytes own; the bytes; the writer; the open borrow; both halves of its name; the other tokens]
    rewrite ! 1 (λ (ws : List Val). ‵ (cell_at full_share D.mir ws b o)) ev refl $ first ! $ blocks ! $
    sets ! (addr ! (through ! refl (fld ! refl (hop ! (look_in ! 1 (sub ! 0 refl (whole !))) (fld ! refl (stop !)))))) refl (tt, tt) $ sets_last ! (addr ! (through ! refl (stop !))) refl (tt, tt) $
    exec ! 𝓣.C 𝓣.Λ Ev (tail fn.body) (at_ret Ev Post) $ sets ! (of_opd ! (get ! refl)) refl (tt, tt) $
    rewrite ! 1 (λ (ws : List Val). ‵ (cell_at full_share D.mir ws b o)) (sym ev) refl $ move ! (1 ∷ 0 ∷ []) $ fjoin ! $ fpack ! (List Val) (λ us. fsep (cell_at full_share D.mir us b o) (D.own_val (p, (tt, tt)) us)) vs $
    use2 𝓛 (‵ (part_at Wr full_share hw b o)) (part_in 𝓛 ty full_share hw b o) $ close_ref ! tt (mem Wr) hw $
    use3 𝓛 (later (some (λ (δ : GName). ‵ ((MutRef (named 0) κ R).own_val (record { ref_ptr = (pb, e); ghost_name = δ; now = hw.value }) (vptr pb e ∷ [])) ⊛ ‵ (flft κ q) ⊛ ‵ (follows Wr R x.ghost_name δ (writing_with hw)))))
    (hands 𝓛 cw hw.name R Q g.counts (g.holds hw.key) β R pb po e (λ i j t w. writer R i j t w) (Out 𝓛 cw hw.name R Q g.counts (g.holds hw.key) β pb po) (writer_takes 𝓛 cw hw.name R Q g.counts (g.holds hw.key) β pb po) (writer_gives 𝓛 cw hw.name R Q g.counts (g.holds hw.key) β pb po) p at hw.value Wr (writing_with hw) (λ u w. ap (λ (z : Wr.Denot). z.value)) (named 0) κ bounds.0 q x Bytes (part_out 𝓛 ty full_share hw b o) (λ w. part_in 𝓛 ty full_share (writing_with hw w) b o)) $ await ! tt $ pick ! (λ δ. split3 ! $ move ! (1 ∷ 3 ∷ []) $ join ! $
    let Told : Type 0 = hw.value ≡ hw.value in use0 𝓛 (raw (shown 𝓤 Told)) (fact_i 𝓤 Told (emp 𝓤) refl) $ move ! (3 ∷ 0 ∷ []) $ join ! $ nothing ! $ nothing ! $ fjoin ! $
    returns ! (look_at ! 0 refl) $ free_all ! refl $ keep ! (2 ∷ 0 ∷ 3 ∷ 1 ∷ []) $ by ! (leaves 𝓛 En hs c y (vptr pb e) (record { ref_ptr = (pb, e); ghost_name = δ; now = hw.value }) (tt, tt) (tt, tt))))))))
