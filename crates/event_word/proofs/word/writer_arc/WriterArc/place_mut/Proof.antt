-- `place_mut` lends the place; the `Arc` with the right follows it.
use Rattle.event_slot.proofs.Names.{◌≡◌, ℕ, List, [], ◌∷◌, ◌++◌, sym, refl, ap, ◌∙◌, Some, None, a_type, named, dcons, dnil, Val, vptr, inst_fn, Coded, SProp, emp, guard_i, sem, Lft, GName, Share, Incl, Incl-trans, ◌⊑◌, ⊑_meet, Fml, ftrue, fsep, flft, full_share, shown, fact_i, fact_use, tables, ‵, raw, ◌⊛◌, some, given, later, at_ret, ◌$◌, ◌∵◌, !, qed, by, move, keep, split, split3, join, fsplit, fsplit3, fjoin, fpick, fpack, pick, learn, heard, use0, use1, use3, await, rewrite, stop, fld, hop, addr, of_opd, first, blocks, exec, returns, enter, alloc_all, pass_all, free_all, look_at, get, through, sets, sets_last, env, sub, whole, look_in, no, RattleType, owns, types_at, plain, Ptr, InBlock, block_ptr, block_of, count_of, at_block, nothing, peeks, Is, shows, part_of, part_at, cell_at, mem, param, bounded, RefMutOf, mut_vals, mut_Tells, Stays, stay_dropped, walk_of, tail, proved, leaves, Ura, Logic, ent, sep, done}
use types.Mut.{open_ref, close_ref}
use types.RcWeak.{part}
use denote.Ref.{MutRef}
use denote.Follow.{follows}
use denote.Struct.Owning.{shape}
use denote.Struct.OwningLaws.{part_out, part_in}
use denote.Struct.Struct.{Struct}
use denote.Triple.Walked.{Goes-spent_ref}
use Rattle.std.specs.contracts.alloc.Global as Heap
use Rattle.std.specs.contracts.impls.GlobalAllocator.TheImpl.{ghosts}
use Rattle.counted_slot.specs.Counting.{fact}
use Rattle.event_slot.specs.Holding.{place, claim_owns}
use Rattle.event_slot.specs.declared.exclusive.Exclusive as Exclusive
use Rattle.event_slot.specs.declared.owned.Inside.{Ghosts as Insides}
use Rattle.event_slot.proofs.Leasing.{Out as Leased, beside, housing_told}
use Rattle.event_slot.proofs.Passing.{Out, Writes, takes_writer, gives_writer, writer_has, passes}
use Rattle.event_word.specs.Word.{Holds, counts_of}
use Rattle.event_word.specs.Writer.{writer_arc_with}
use Rattle.event_word.specs.declared.word.kept.Kept.{Ghosts}
use Rattle.event_word.specs.declared.word.rule.Place as Place
use Rattle.event_word.specs.declared.word.rule.View as View
use Rattle.event_word.specs.contracts.word.rule.View as view
use Rattle.event_word.specs.contracts.word.writer_arc.WriterArc as owner
use Rattle.event_word.proofs.Placing.{Row, lives_in}
use Rattle.event_word.specs.contracts.word.writer_arc.WriterArc.place_mut.{ended, clauses}
use Rattle.event_word.specs.contracts.word.writer_arc.WriterArc.place_mut.Key.{name as #self}
use Rattle.event_word.proofs.word.writer_arc.WriterArc.place_mut.Statement.{statement}
use Rattle.event_word.proofs.word.writer_arc.WriterArc.place_mut.Code as code

-- the writer apart from its bytes and what it knows
module _ {M : Type 1} {𝓤 : Ura M} (𝓛 : Logic 𝓤) (P R₀ Q : RattleType) (h : Insides P.Denot (Place.Place (Exclusive.Exclusive R₀.Denot)) Q.Denot View.View (Unit {0})) (k : Ghosts Q.Denot) (b o : ℕ) (ht : (owner.the_row P R₀ Q h k).Denot) where
  abbrev R : RattleType
  R = Row R₀

  abbrev Tr : RattleType
  Tr = owner.the_row P R₀ Q h k

  abbrev D : RattleType
  D = Struct (shape (owner.the_type P R₀ Q h k))

  abbrev Raw : Fml
  Raw = part_at D full_share (ht.slot, (ht.arc, tt)) b o

  abbrev Same : Fml
  Same = fact ((ht.arc.of ≡ ht.of) × (ht.name ≡ (h.finds ht.of).name))

  abbrev Bytes : Fml
  Bytes = fsep Raw Same

  abbrev Token : Fml
  Token = part 63 ht.arc.life

  abbrev Claim : R.Denot → Fml
  Claim w = claim_owns view.the_row.coded.code ht.name R Q (counts_of k.rules) (Holds k.rules) (ht.arc.life ∷ (P.lives ++ (R.lives ++ Q.lives))) ht.slot 2 (Some w) None

  apart : ent 𝓤 (sem 𝓛 (part_at Tr full_share ht b o)) (sep 𝓤 (sem 𝓛 Bytes) (sep 𝓤 (sem 𝓛 Token) (sem 𝓛 (Claim (record { value = ht.value })))))
  apart = let v : R.Denot = record { value = ht.value } in qed 𝓛 (‵ (part_at Tr full_share ht b o) ∷ []) ∵ use1 𝓛 (‵ Raw ⊛ ‵ (fsep Same (fsep Token (Claim v)))) (part_out 𝓛 (owner.the_type P R₀ Q h k) full_share ht b o) $ split ! $ move ! (1 ∷ []) $ fsplit3 ! $ move ! (3 ∷ 0 ∷ []) $ fjoin ! $ done !

  again : (w : R.Denot) → ent 𝓤 (sep 𝓤 (sem 𝓛 Bytes) (sep 𝓤 (sem 𝓛 Token) (sem 𝓛 (Claim w)))) (sem 𝓛 (part_at Tr full_share (writer_arc_with ht w.value) b o))
  again w = qed 𝓛 (‵ Bytes ∷ ‵ Token ∷ ‵ (Claim w) ∷ []) ∵ fsplit ! $ move ! (2 ∷ 3 ∷ []) $ fjoin ! $ move ! (2 ∷ 0 ∷ []) $ fjoin ! $ move ! (1 ∷ []) $ by ! (part_in 𝓛 (owner.the_type P R₀ Q h k) full_share (writer_arc_with ht w.value) b o)

pub place_mut_spec : {M : Type 1} → statement M
unfolding part_of
place_mut_spec 𝓤 𝓛 𝓜 𝓡 wired L X S _ _ _ h d k d' _ _ =
    let H = 𝓛.H in let 𝓣 = tables 𝓤 H 𝓜 𝓡 𝓡.env in let P : RattleType = param 0 L in let R₀ : RattleType = param 1 X in let Q : RattleType = param 2 S in let V : RattleType = view.the_row in let R' : RattleType = Row R₀ in let cw : Coded V.Denot = V.coded in
    let En = ended L X S h d k d' in let c = clauses L X S h d k d' 𝓛 𝓜.mem 𝓡.returns in let Wr : RattleType = owner.the_row P R₀ Q h k in
    let inst = bounded (a_type ∷ a_type ∷ a_type ∷ []) (L, (X, (S, tt))) (dcons d (dcons d' dnil)) in let fn = inst_fn inst code.function in
    let row = plain (λ _. Wr) in let hs : Stays En.signature.params En.kept = (stay_dropped (RefMutOf (0 ∷ []) tt row (λ _. tt)) no, tt) in
    proved 𝓛 En hs c 𝓜 𝓡 (Goes-spent_ref 𝓛 4 (0 ∷ []) tt row, tt) (#self inst) fn (code.unfolded 𝓤 H 𝓜 𝓡 wired (L, (X, (S, tt))) d d')
    (λ κs. (mut_vals, tt)) (λ κs. (mut_Tells (named 0) κs.0 Wr, tt)) (λ κs qs bounds a gh are.
    let x = a.0 in let b : ℕ = x.ref_ptr.0 in let o : ℕ = x.ref_ptr.1 in let κ : Lft = κs.0 in let q : Share = qs.0 in let τ : Lft = κs.1.0 in let χ : Lft = κs.1.1.0 in let σ : Lft = κs.1.1.1.0 in let ρ : Lft = P.lives ++ (R'.lives ++ Q.lives) in
    let ht : Wr.Denot = x.now in let p : Ptr = ht.slot in let i : ℕ = ht.arc.life in let pb : ℕ = block_of p in let po : ℕ = count_of p in let e : ℕ = place R' pb po in let v : R'.Denot = record { value = ht.value } in let counts = counts_of k.rules in let holds = Holds k.rules in
    let D' : RattleType = D 𝓛 P R₀ Q h k b o ht in let d'' : D'.Denot = (p, (ht.arc, tt)) in let Bytes' : Fml = Bytes 𝓛 P R₀ Q h k b o ht in let Token' : Fml = Token 𝓛 P R₀ Q h k b o ht in let Claim' : Fml = Claim 𝓛 P R₀ Q h k b o ht v in
    let y : (walk_of 𝓛 En hs c).Ghost = ((κs, qs, bounds, a, (vptr b o ∷ [], tt)), gh) in let Post : Val → SProp 𝓤 = (walk_of 𝓛 En hs c).post y in let others : Fml = fsep (flft τ qs.1.0) (fsep (flft χ qs.1.1.0) (fsep (flft σ qs.1.1.1.0) ftrue)) in
    qed 𝓛 (((‵ (flft κ q) ⊛ ‵ others) ⊛ ‵ (owns (types_at En.signature.params κs) a y.0.4)) ∷ raw (shown 𝓤 (τ ⊑ L.lives)) ∷ raw (shown 𝓤 (χ ⊑ X.lives)) ∷ raw (shown 𝓤 (σ ⊑ S.lives)) ∷ raw (emp 𝓤) ∷ []) ∵
    keep ! (1 ∷ 2 ∷ 3 ∷ 0 ∷ []) $ heard ! (τ ⊑ L.lives) (λ lt. heard ! (χ ⊑ X.lives) (λ lx. heard ! (σ ⊑ S.lives) (λ ls. split ! $ split ! $ move ! (2 ∷ []) $ fsplit ! $ fsplit3 ! $ keep ! (1 ∷ 2 ∷ 4 ∷ 5 ∷ []) $
    let inc : Incl κ ρ = ⊑_meet κ P.lives (R'.lives ++ Q.lives) (Incl-trans bounds.0 lt) (⊑_meet κ R'.lives Q.lives (lives_in R₀ κ (Incl-trans bounds.1.0 lx)) (Incl-trans bounds.1.1.0 ls)) in
    enter ! 𝓣.C 𝓣.Λ fn (vptr b o ∷ []) Post $ alloc_all ! (λ l. pass_all ! refl ((tt, tt), tt) $ let Ev = env fn.locals l in
    open_ref ! tt (mem Wr) $ use1 𝓛 (‵ Bytes' ⊛ ‵ Token' ⊛ ‵ Claim') (apart 𝓛 P R₀ Q h k b o ht) $ split3 ! $ move ! (2 ∷ []) $
    let Has : Type 0 = InBlock p × ((w : R'.Denot) × (Some v ≡ Some w)) in
    use1 𝓛 (given Has (‵ Claim')) (fact_use 𝓤 _ (writer_has 𝓛 cw ht.name R' Q counts holds i ρ p (Some v)) (guard_i 𝓤 Has (sem 𝓛 Claim'))) $ learn ! (λ has. let at : p ≡ block_ptr pb po = at_block p has.0 in
    move ! (1 ∷ []) $ fsplit ! $ fpick ! (λ vs. fsplit ! $ move ! (1 ∷ []) $ peeks ! D' (Is D') (shows 𝓛 D') d'' vs (λ is_so. let ws = housing_told (Leased P Heap.the_row ghosts) p ht.arc vs is_so in let ev : vs ≡ beside (block_ptr pb po) ws.0 ∷ [] = ws.1 ∙ ap (λ (r : Ptr). beside r ws.0 ∷ []) at in
    -- [what the bytes own; the bytes; what it knows; the claim; the token; the borrow, open; both halves of its name; the other tokens]
    rewrite ! 1 (λ (us : List Val). ‵ (cell_at full_share D'.mir us b o)) ev refl $ first ! $ blocks ! $
    sets ! (addr ! (through ! refl (fld ! refl (hop ! (look_in ! 1 (sub ! 0 refl (whole !))) (fld ! refl (stop !)))))) refl (tt, tt) $ sets_last ! (addr ! (through ! refl (stop !))) refl (tt, tt) $
    exec ! 𝓣.C 𝓣.Λ Ev (tail fn.body) (at_ret Ev Post) $ sets ! (of_opd ! (get ! refl)) refl (tt, tt) $
    rewrite ! 1 (λ (us : List Val). ‵ (cell_at full_share D'.mir us b o)) (sym ev) refl $ move ! (1 ∷ 0 ∷ []) $ fjoin ! $ fpack ! (List Val) (λ us. fsep (cell_at full_share D'.mir us b o) (D'.own_val d'' us)) vs $ fjoin ! $
    move ! (0 ∷ 2 ∷ 1 ∷ []) $ use3 𝓛 (‵ (part_at Wr full_share ht b o)) (again 𝓛 P R₀ Q h k b o ht v) $ close_ref ! tt (mem Wr) ht $
    use3 𝓛 (later (some (λ (δ : GName). ‵ ((MutRef (named 0) κ R').own_val (record { ref_ptr = (pb, e); ghost_name = δ; now = v }) (vptr pb e ∷ [])) ⊛ ‵ (flft κ q) ⊛ ‵ (follows Wr R' x.ghost_name δ (λ (w : R'.Denot). writer_arc_with ht w.value)))))
    (passes 𝓛 cw ht.name R' Q counts holds i ρ R' pb po e (Writes 𝓛 cw ht.name R' Q counts holds i ρ pb po) (Out 𝓛 cw ht.name R' Q counts holds i ρ pb po) (takes_writer 𝓛 cw ht.name R' Q counts holds i ρ pb po) (gives_writer 𝓛 cw ht.name R' Q counts holds i ρ pb po) p at v
    Wr (λ (w : R'.Denot). writer_arc_with ht w.value) (λ u w same. ap (λ (z : Wr.Denot). record { value = z.value }) same) (named 0) κ inc q x Bytes' refl (apart 𝓛 P R₀ Q h k b o ht) (again 𝓛 P R₀ Q h k b o ht)) $ await ! tt $ pick ! (λ δ. split3 ! $ move ! (1 ∷ 3 ∷ []) $ join ! $
    let Told : Type 0 = ht.value ≡ ht.value in use0 𝓛 (raw (shown 𝓤 Told)) (fact_i 𝓤 Told (emp 𝓤) refl) $ move ! (3 ∷ 0 ∷ []) $ join ! $ nothing ! $ nothing ! $ fjoin ! $
    returns ! (look_at ! 0 refl) $ free_all ! refl $ keep ! (2 ∷ 0 ∷ 3 ∷ 1 ∷ []) $ by ! (leaves 𝓛 En hs c y (vptr pb e) (record { ref_ptr = (pb, e); ghost_name = δ; now = v }) (tt, tt) (tt, tt)))))))))))
