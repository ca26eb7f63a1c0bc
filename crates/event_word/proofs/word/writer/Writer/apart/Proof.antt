-- `apart` takes the writer and what is beside it apart.
use Rattle.event_slot.proofs.Names.{◌≡◌, ℕ, List, [], ◌∷◌, refl, ap, a_type, dcons, dnil, Val, inst_fn, Coded, SProp, emp, guard_i, sem, Lft, Fml, ftrue, fsep, shown, fact_i, fact_use, tables, ‵, raw, ◌⊛◌, some, given, ◌$◌, ◌∵◌, !, qed, by, move, keep, drop, split, fsplit, fjoin, fpick, fpack, pick, learn, use0, use1, rewrite, stop, fld, of_opd, no_more, and_then, returns, enter, alloc_all, pass_all, free_all, look_at, get, get_in, sets, agg, sub, whole, no, RattleType, owns, plain, named_lft, Ptr, InBlock, block_ptr, block_of, count_of, at_block, nothing, param, bounded, Stays, stay_dropped, walk_of, leaves, El, Good, proved_at, alive, layout, T, true, ◌&&◌, has_ty, ent, id⊢, subst, feq, Valss, vstruct, vcons, vnil, of_list, ◌++◌, WpFn, suffices, fjoin3, feq_i, sym, ◌∙◌}
use Rattle.std.proofs.ResultValues.{and_tt}
use Rattle.core.proofs.alloc.Calls.{Goes-blank}
use denote.Struct.Owning.{shape}
use Rattle.event_slot.specs.Holding.{writer, writing_owns}
use Rattle.event_slot.specs.contracts.writing.Writing as writing
use denote.Builtin.{unit}
use Rattle.event_word.specs.contracts.word.rule.View as view
use Rattle.event_word.specs.contracts.word.writer.Writer as owner
use Rattle.event_word.proofs.Placing.{Row, rule}
use Rattle.event_slot.proofs.Fields.{pointing, Pointing, pointing_made, carrying, carrying_shown, held_placed}
use Rattle.event_word.specs.contracts.word.writer.Writer.apart.{ended, clauses}
use Rattle.event_word.specs.contracts.word.writer.Writer.apart.Key.{name as #self}
use Rattle.event_word.proofs.word.writer.Writer.apart.Statement.{statement}
use Rattle.event_word.proofs.word.writer.Writer.apart.Code as code

pub apart_spec : {M : Type 1} → statement M
apart_spec 𝓤 𝓛 𝓜 𝓡 wired X S B' _ _ N k d h d' _ _ =
    let H = 𝓛.H in let 𝓣 = tables 𝓤 H 𝓜 𝓡 𝓡.env in let R₀ : RattleType = param 0 X in let Q : RattleType = param 1 S in let V : RattleType = view.the_row in let R : RattleType = Row R₀ in let B : RattleType = param 2 B' in let g = rule R₀ Q k in let En = ended X S B' k d h d' in let c = clauses X S B' k d h d' 𝓛 𝓜.mem 𝓡.returns in let E : El = record { row = B'; laws = N } in let cw : Coded V.Denot = V.coded in
    let inst = bounded (a_type ∷ a_type ∷ a_type ∷ []) (X, (S, (B', tt))) (dcons d (dcons d' dnil)) in let fn = inst_fn inst code.function in let self = plain (λ κs. owner.the_row (named_lft 4 0 tt κs) R₀ Q B k h) in let hs : Stays En.signature.params En.kept = (stay_dropped self no, tt) in
    let fine : (v : Val) → Good E v → T (has_ty (layout B') v && true) = λ v k. and_tt (has_ty (layout B') v) k.0 in
    proved_at 𝓛 En hs c 𝓜 𝓡 (Goes-blank 𝓛 4 self no (λ κs x f. tt), tt) (#self inst) fn (code.unfolded 𝓤 H 𝓜 𝓡 wired (X, (S, (B', tt))) d d') (λ z are.
    let ℓ = named_lft 4 0 tt z.0.0 in let β : Lft = z.0.0.0 in let Tr : RattleType = owner.the_row ℓ R₀ Q B k h in let Wr : RattleType = writing.the_row ℓ R Q V unit g in let ht : Tr.Denot = z.0.3.0 in let p : Ptr = ht.slot in let b : ℕ = block_of p in let o : ℕ = count_of p in let pt : Ptr = block_ptr b o in let l : B'.Denot = ht.beside in let γ : ℕ = ht.name in let key = tt {0} in let x : R.Denot = record { value = ht.value } in
    let Post : Val → SProp 𝓤 = (walk_of 𝓛 En hs c).post z in let Run : List Val → SProp 𝓤 = λ ws. WpFn 𝓤 H 𝓣.C 𝓣.Λ fn ws Post in let Held : Fml = writing_owns cw.code γ R Q g.counts (g.holds key) β p x in let Ties : Type 0 = h.ties l γ in let form = shape (owner.the_type ℓ R₀ Q B k h) in
    qed 𝓛 ((raw (alive 𝓛 En.signature z.0.0 z.0.1) ⊛ ‵ (fsep (Tr.own_val ht z.0.4.0) ftrue)) ∷ raw ((c z.0.0 z.0.3).requires z.1) ∷ []) ∵ keep ! (0 ∷ []) $ split ! $ move ! (1 ∷ []) $ fsplit ! $ fsplit ! $ keep ! (1 ∷ 0 ∷ 3 ∷ []) $
    -- [the right and what ties them; the bytes; the tokens]
    fsplit ! $ move ! (1 ∷ []) $ fpick ! (λ ties. drop ! $
    use1 𝓛 (given (InBlock p) (‵ Held)) (fact_use 𝓤 _ (held_placed 𝓛 cw γ R Q g.counts (g.holds key) β p (λ i j t. writer R i j t x)) (guard_i 𝓤 (InBlock p) (sem 𝓛 Held))) $ learn ! (λ inb. let at : p ≡ pt = at_block p inb in
    rewrite ! 0 (λ (r : Ptr). ‵ (writing_owns cw.code γ R Q g.counts (g.holds key) β r x)) at refl $ move ! (1 ∷ []) $
    use1 𝓛 (some (λ (v : Val). given ((z.0.4.0 ≡ carrying p v ∷ []) × Good E v) (‵ (B.own_val l (v ∷ []))))) (carrying_shown form ℓ R E 2 𝓛 p l z.0.4.0) $ pick ! (λ vy. learn ! (λ told. let fy : Good E vy = told.1 in let is_v : z.0.4.0 ≡ carrying pt vy ∷ [] = told.0 ∙ ap (λ (r : Ptr). carrying r vy ∷ []) at in
    suffices ! (Run (carrying pt vy ∷ [])) (subst (λ (ws : List Val). ent 𝓤 (Run (carrying pt vy ∷ [])) (Run ws)) (sym (λ i. is_v i ++ [])) (id⊢ 𝓤 (Run (carrying pt vy ∷ [])))) $
    enter ! 𝓣.C 𝓣.Λ fn (carrying pt vy ∷ []) Post $ alloc_all ! (λ k. pass_all ! refl ((fine vy fy, (tt, (tt, (fy.1, tt)))), tt) $
    sets ! (of_opd ! (get_in ! (fld ! refl (stop !)) (sub ! 0 refl (whole !)))) refl (tt, tt) $ sets ! (of_opd ! (get_in ! (fld ! refl (stop !)) (sub ! 1 refl (whole !)))) refl (tt, tt) $ sets ! (of_opd ! (get_in ! (fld ! refl (stop !)) (sub ! 2 refl (whole !)))) refl fy $
    sets ! (agg ! (and_then ! (get ! refl) (and_then ! (get ! refl) (no_more !)))) refl (tt, (tt, (tt, tt))) $ sets ! (of_opd ! (get ! refl)) refl fy $ sets ! (agg ! (and_then ! (get ! refl) (and_then ! (get ! refl) (no_more !)))) refl (fine vy fy, ((tt, (tt, tt)), (fy.1, tt))) $
    let hw : Wr.Denot = record { slot = pt; marker = record {}; name = γ; key = key; value = x } in let r : Val = vstruct (vcons (pointing pt) (vcons vy vnil)) in
    -- [what is beside; the right; the tokens]
    move ! (1 ∷ []) $ use0 𝓛 (‵ ((Pointing (shape (writing.the_type ℓ R Q V unit g)) ℓ R).own_val (pt, (tt, tt)) (pointing pt ∷ []))) (pointing_made (shape (writing.the_type ℓ R Q V unit g)) ℓ R 𝓛 pt) $ fjoin ! $ nothing ! $ move ! (1 ∷ 2 ∷ 0 ∷ []) $ fjoin3 ! $
    feq_i ! (List Val) (r ∷ []) (r ∷ []) refl $ fjoin ! $ fpack ! (Valss (Wr ∷ B ∷ [])) (λ vss. fsep (feq (List Val) (r ∷ []) (vstruct (of_list (vss.0 ++ (vss.1.0 ++ []))) ∷ [])) (owns (Wr ∷ B ∷ []) (hw, (l, tt)) vss)) (pointing pt ∷ [], (vy ∷ [], tt)) $
    let Told : Type 0 = (γ ≡ γ) × (x.value ≡ x.value) × Ties in use0 𝓛 (raw (shown 𝓤 Told)) (fact_i 𝓤 Told (emp 𝓤) (refl, refl, ties)) $ nothing ! $ nothing ! $ fjoin ! $
    returns ! (look_at ! 0 refl) $ free_all ! refl $ keep ! (3 ∷ 0 ∷ 2 ∷ 1 ∷ []) $ by ! (leaves 𝓛 En hs c z r (hw, l) ((tt, (tt, (tt, tt))), tt) (tt, tt))))))))
