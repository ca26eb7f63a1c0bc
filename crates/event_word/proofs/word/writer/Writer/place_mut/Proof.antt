-- `place_mut` lends the place; the writer and what is beside it follow it.
use Rattle.event_slot.proofs.Names.{◌≡◌, ℕ, List, [], ◌∷◌, sym, refl, ap, ◌∙◌, a_type, named, dcons, dnil, Val, vptr, inst_fn, Coded, SProp, emp, guard_i, sem, Lft, GName, Share, Fml, ftrue, fsep, flft, full_share, shown, fact_i, fact_use, tables, ‵, raw, ◌⊛◌, some, given, later, at_ret, ◌$◌, ◌∵◌, !, qed, by, move, keep, split, split3, join, fsplit, fsplit3, fjoin, fpick, fpack, pick, learn, use0, use1, use2, use3, await, rewrite, stop, fld, hop, addr, of_opd, first, blocks, exec, returns, enter, alloc_all, pass_all, free_all, look_at, get, through, sets, sets_last, env, sub, whole, look_in, no, RattleType, owns, types_at, plain, named_lft, Ptr, InBlock, block_ptr, block_of, count_of, at_block, nothing, peeks, Is, shows, part_of, part_at, cell_at, mem, param, bounded, RefMutOf, mut_vals, mut_Tells, Stays, stay_dropped, walk_of, tail, proved, leaves, Ura, Logic, ent, sep, done, NamedLft}
use types.Mut.{open_ref, close_ref}
use denote.Ref.{MutRef}
use denote.Follow.{follows}
use denote.Struct.Owning.{shape}
use denote.Struct.OwningLaws.{part_out, part_in}
use denote.Triple.Walked.{Goes-spent_ref}
use Rattle.event_slot.specs.Holding.{place, writer, writing_owns}
use Rattle.event_word.specs.Writer.{writer_with}
use Rattle.event_word.specs.Word.{Holds, counts_of}
use Rattle.event_word.specs.declared.word.kept.Kept.{Ghosts}
use Rattle.event_word.specs.contracts.word.rule.View as view
use Rattle.event_word.specs.contracts.word.writer.Writer as owner
use Rattle.event_word.proofs.Placing.{Row}
use Rattle.event_slot.proofs.Fields.{around, Carrying, carrying_told, held_placed}
use Rattle.event_slot.proofs.Handing.{Out, writer_takes, writer_gives, hands}
use Rattle.event_word.specs.contracts.word.writer.Writer.place_mut.{ended, clauses}
use Rattle.event_word.specs.contracts.word.writer.Writer.place_mut.Key.{name as #self}
use Rattle.event_word.proofs.word.writer.Writer.place_mut.Statement.{statement}
use Rattle.event_word.proofs.word.writer.Writer.place_mut.Code as code
use Rattle.counted_slot.specs.Counting.{fact}
use Rattle.event_slot.specs.declared.tied.Ties.{Ghosts as Tying}

-- the writer apart from its bytes and what ties them
module _ {M : Type 1} {𝓤 : Ura M} (𝓛 : Logic 𝓤) (ℓ : NamedLft) (R₀ Q B : RattleType) (k : Ghosts Q.Denot) (h : Tying B.Denot) (b o : ℕ) (hw : (owner.the_row ℓ R₀ Q B k h).Denot) where
  abbrev R : RattleType
  R = Row R₀

  abbrev Tr : RattleType
  Tr = owner.the_row ℓ R₀ Q B k h

  abbrev D : RattleType
  D = Carrying (shape (owner.the_type ℓ R₀ Q B k h)) ℓ R B

  abbrev Raw : Fml
  Raw = part_at D full_share (hw.slot, (tt, (hw.beside, tt))) b o

  abbrev Ties : Fml
  Ties = fact (h.ties hw.beside hw.name)

  abbrev Bytes : Fml
  Bytes = fsep Raw Ties

  abbrev Held : R.Denot → Fml
  Held = writing_owns view.the_row.coded.code hw.name R Q (counts_of k.rules) (Holds k.rules) ℓ.lft hw.slot

  apart : ent 𝓤 (sem 𝓛 (part_at Tr full_share hw b o)) (sep 𝓤 (sem 𝓛 Bytes) (sem 𝓛 (Held (record { value = hw.value }))))
  apart = qed 𝓛 (‵ (part_at Tr full_share hw b o) ∷ []) ∵ use1 𝓛 (‵ Raw ⊛ ‵ (fsep (Held (record { value = hw.value })) Ties)) (part_out 𝓛 (owner.the_type ℓ R₀ Q B k h) full_share hw b o) $ split ! $ move ! (1 ∷ []) $ fsplit ! $ move ! (2 ∷ 1 ∷ []) $ fjoin ! $ done !

  again : (w : R.Denot) → ent 𝓤 (sep 𝓤 (sem 𝓛 Bytes) (sem 𝓛 (Held w))) (sem 𝓛 (part_at Tr full_share (writer_with hw w.value) b o))
  again w = qed 𝓛 (‵ Bytes ∷ ‵ (Held w) ∷ []) ∵ fsplit ! $ move ! (2 ∷ 1 ∷ []) $ fjoin ! $ move ! (1 ∷ []) $ by ! (part_in 𝓛 (owner.the_type ℓ R₀ Q B k h) full_share (writer_with hw w.value) b o)

pub place_mut_spec : {M : Type 1} → statement M
unfolding part_of
place_mut_spec 𝓤 𝓛 𝓜 𝓡 wired X S B' L _ _ k d h d' _ _ =
    let H = 𝓛.H in let 𝓣 = tables 𝓤 H 𝓜 𝓡 𝓡.env in let R₀ : RattleType = param 0 X in let Q : RattleType = param 1 S in let B : RattleType = param 2 B' in let V : RattleType = view.the_row in let R' : RattleType = Row R₀ in let En = ended X S B' k d h d' in let c = clauses X S B' k d h d' 𝓛 𝓜.mem 𝓡.returns in let cw : Coded V.Denot = V.coded in
    let inst = bounded (a_type ∷ a_type ∷ a_type ∷ []) (X, (S, (B', tt))) (dcons d (dcons d' dnil)) in let fn = inst_fn inst code.function in
    let row = plain (λ κs. owner.the_row (named_lft 5 1 tt κs) R₀ Q B k h) in let hs : Stays En.signature.params En.kept = (stay_dropped (RefMutOf (0 ∷ []) tt row (λ _. tt)) no, tt) in
    proved 𝓛 En hs c 𝓜 𝓡 (Goes-spent_ref 𝓛 5 (0 ∷ []) tt row, tt) (#self inst) fn (code.unfolded 𝓤 H 𝓜 𝓡 wired (X, (S, (B', tt))) d d')
    (λ κs. (mut_vals, tt)) (λ κs. (mut_Tells (named 0) κs.0 (owner.the_row (named_lft 5 1 tt κs) R₀ Q B k h), tt)) (λ κs qs bounds a gh are.
    let ℓ = named_lft 5 1 tt κs in let Wr : RattleType = owner.the_row ℓ R₀ Q B k h in let form = shape (owner.the_type ℓ R₀ Q B k h) in let x = a.0 in let b : ℕ = x.ref_ptr.0 in let o : ℕ = x.ref_ptr.1 in let κ : Lft = κs.0 in let q : Share = qs.0 in let β : Lft = κs.1.0 in
    let hw : Wr.Denot = x.now in let p : Ptr = hw.slot in let pb : ℕ = block_of p in let po : ℕ = count_of p in let e : ℕ = place R' pb po in let D' : RattleType = D 𝓛 ℓ R₀ Q B k h b o hw in let d' : D'.Denot = (p, (tt, (hw.beside, tt))) in let Raw' : Fml = Raw 𝓛 ℓ R₀ Q B k h b o hw in let Ties' : Fml = Ties 𝓛 ℓ R₀ Q B k h b o hw in let v : R'.Denot = record { value = hw.value } in let Held' : Fml = Held 𝓛 ℓ R₀ Q B k h b o hw v in
    let y : (walk_of 𝓛 En hs c).Ghost = ((κs, qs, bounds, a, (vptr b o ∷ [], tt)), gh) in let Post : Val → SProp 𝓤 = (walk_of 𝓛 En hs c).post y in let others : Fml = fsep (flft β qs.1.0) (fsep (flft κs.1.1.0 qs.1.1.0) (fsep (flft κs.1.1.1.0 qs.1.1.1.0) (fsep (flft κs.1.1.1.1.0 qs.1.1.1.1.0) ftrue))) in
    qed 𝓛 (((‵ (flft κ q) ⊛ ‵ others) ⊛ ‵ (owns (types_at En.signature.params κs) a y.0.4)) ∷ raw ((c κs a).requires gh) ∷ []) ∵
    split ! $ split ! $ move ! (2 ∷ []) $ fsplit ! $ fsplit3 ! $ keep ! (1 ∷ 2 ∷ 4 ∷ 5 ∷ []) $
    enter ! 𝓣.C 𝓣.Λ fn (vptr b o ∷ []) Post $ alloc_all ! (λ l. pass_all ! refl ((tt, tt), tt) $ let Ev = env fn.locals l in
    open_ref ! tt (mem Wr) $ use1 𝓛 (‵ (Bytes 𝓛 ℓ R₀ Q B k h b o hw) ⊛ ‵ Held') (apart 𝓛 ℓ R₀ Q B k h b o hw) $ split ! $ move ! (1 ∷ []) $
    use1 𝓛 (given (InBlock p) (‵ Held')) (fact_use 𝓤 _ (held_placed 𝓛 cw hw.name R' Q (counts_of k.rules) (Holds k.rules) β p (λ i j t. writer R' i j t v)) (guard_i 𝓤 (InBlock p) (sem 𝓛 Held'))) $ learn ! (λ inb. let at : p ≡ block_ptr pb po = at_block p inb in
    move ! (1 ∷ []) $ fsplit ! $ fpick ! (λ vs. fsplit ! $ move ! (1 ∷ []) $ peeks ! D' (Is D') (shows 𝓛 D') d' vs (λ is_so. let ws = carrying_told form ℓ R' B p hw.beside vs is_so in let ev : vs ≡ around (block_ptr pb po) ws.0 ∷ [] = ws.2 ∙ ap (λ (r : Ptr). around r ws.0 ∷ []) at in
    -- [what the bytes own; the bytes; what ties them; the writer; the open borrow; both halves of its name; the other tokens]
    rewrite ! 1 (λ (ws : List Val). ‵ (cell_at full_share D'.mir ws b o)) ev refl $ first ! $ blocks ! $
    sets ! (addr ! (through ! refl (fld ! refl (hop ! (look_in ! 1 (sub ! 0 refl (whole !))) (fld ! refl (stop !)))))) refl (tt, tt) $ sets_last ! (addr ! (through ! refl (stop !))) refl (tt, tt) $
    exec ! 𝓣.C 𝓣.Λ Ev (tail fn.body) (at_ret Ev Post) $ sets ! (of_opd ! (get ! refl)) refl (tt, tt) $
    rewrite ! 1 (λ (ws : List Val). ‵ (cell_at full_share D'.mir ws b o)) (sym ev) refl $ move ! (1 ∷ 0 ∷ []) $ fjoin ! $ fpack ! (List Val) (λ us. fsep (cell_at full_share D'.mir us b o) (D'.own_val d' us)) vs $ fjoin ! $
    use2 𝓛 (‵ (part_at Wr full_share hw b o)) (again 𝓛 ℓ R₀ Q B k h b o hw v) $ close_ref ! tt (mem Wr) hw $
    use3 𝓛 (later (some (λ (δ : GName). ‵ ((MutRef (named 0) κ R').own_val (record { ref_ptr = (pb, e); ghost_name = δ; now = v }) (vptr pb e ∷ [])) ⊛ ‵ (flft κ q) ⊛ ‵ (follows Wr R' x.ghost_name δ (λ (w : R'.Denot). writer_with hw w.value)))))
    (hands 𝓛 cw hw.name R' Q (counts_of k.rules) (Holds k.rules) β R' pb po e (λ i j t w. writer R' i j t w) (Out 𝓛 cw hw.name R' Q (counts_of k.rules) (Holds k.rules) β pb po) (writer_takes 𝓛 cw hw.name R' Q (counts_of k.rules) (Holds k.rules) β pb po) (writer_gives 𝓛 cw hw.name R' Q (counts_of k.rules) (Holds k.rules) β pb po) p at v Wr (λ (w : R'.Denot). writer_with hw w.value) (λ u w e. ap (λ (z : Wr.Denot). record { value = z.value }) e) (named 0) κ bounds.0 q x (Bytes 𝓛 ℓ R₀ Q B k h b o hw) (apart 𝓛 ℓ R₀ Q B k h b o hw) (again 𝓛 ℓ R₀ Q B k h b o hw)) $ await ! tt $ pick ! (λ δ. split3 ! $ move ! (1 ∷ 3 ∷ []) $ join ! $
    let Told : Type 0 = hw.value ≡ hw.value in use0 𝓛 (raw (shown 𝓤 Told)) (fact_i 𝓤 Told (emp 𝓤) refl) $ move ! (3 ∷ 0 ∷ []) $ join ! $ nothing ! $ nothing ! $ fjoin ! $
    returns ! (look_at ! 0 refl) $ free_all ! refl $ keep ! (2 ∷ 0 ∷ 3 ∷ 1 ∷ []) $ by ! (leaves 𝓛 En hs c y (vptr pb e) (record { ref_ptr = (pb, e); ghost_name = δ; now = v }) (tt, tt) (tt, tt))))))))
