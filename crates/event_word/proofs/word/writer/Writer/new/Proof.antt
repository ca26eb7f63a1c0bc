-- `new` puts beside the right what belongs to it.
use Rattle.event_slot.proofs.Names.{◌≡◌, ℕ, List, [], ◌∷◌, refl, ap, a_type, dcons, dnil, Val, inst_fn, Coded, SProp, emp, guard_i, sem, Lft, Fml, ftrue, shown, fact_i, fact_use, tables, ‵, raw, ◌⊛◌, given, ◌$◌, ◌∵◌, !, qed, by, move, keep, split, fsplit, fjoin, fpack, learn, use0, use1, rewrite, stop, fld, of_opd, no_more, and_then, returns, enter, alloc_all, pass_all, free_all, look_at, get, get_in, sets, agg, sub, whole, no, RattleType, owns, types_at, plain, named_lft, Ptr, InBlock, block_ptr, block_of, count_of, at_block, nothing, heard, param, bounded, Stays, stay_dropped, walk_of, Goes-dropped, leaves, El, Good, one, lawful, proved_at, alive, layout, T, true, ◌&&◌, has_ty, ent, id⊢, subst, ◌++◌, WpFn, suffices, sym, ◌∙◌}
use Rattle.std.proofs.ResultValues.{and_tt}
use denote.Struct.Owning.{shape}
use Rattle.event_slot.specs.Holding.{writer, writing_owns}
use Rattle.event_slot.specs.contracts.writing.Writing as writing
use denote.Builtin.{unit}
use Rattle.event_word.specs.contracts.word.rule.View as view
use Rattle.event_word.specs.contracts.word.writer.Writer as owner
use Rattle.event_word.proofs.Placing.{Row, rule}
use Rattle.event_slot.proofs.Fields.{pointing, points, pointing_told, carrying, Carrying, carrying_made, held_placed}
use Rattle.event_word.specs.contracts.word.writer.Writer.new.{ended, clauses}
use Rattle.event_word.specs.contracts.word.writer.Writer.new.Key.{name as #self}
use Rattle.event_word.proofs.word.writer.Writer.new.Statement.{statement}
use Rattle.event_word.proofs.word.writer.Writer.new.Code as code

pub new_spec : {M : Type 1} → statement M
new_spec 𝓤 𝓛 𝓜 𝓡 wired X S B' _ _ N k d h d' _ _ =
    let H = 𝓛.H in let 𝓣 = tables 𝓤 H 𝓜 𝓡 𝓡.env in let R₀ : RattleType = param 0 X in let Q : RattleType = param 1 S in let V : RattleType = view.the_row in let R : RattleType = Row R₀ in let B : RattleType = param 2 B' in let g = rule R₀ Q k in let En = ended X S B' k d h d' in let c = clauses X S B' k d h d' 𝓛 𝓜.mem 𝓡.returns in let E : El = record { row = B'; laws = N } in let cw : Coded V.Denot = V.coded in
    let inst = bounded (a_type ∷ a_type ∷ a_type ∷ []) (X, (S, (B', tt))) (dcons d (dcons d' dnil)) in let fn = inst_fn inst code.function in let self = plain (λ κs. writing.the_row (named_lft 4 0 tt κs) R Q V unit g) in let with = plain (λ _. B) in let hs : Stays En.signature.params En.kept = (stay_dropped self no, (stay_dropped with no, tt)) in
    let fine : (v : Val) → Good E v → T (has_ty (layout B') v && true) = λ v k. and_tt (has_ty (layout B') v) k.0 in
    proved_at 𝓛 En hs c 𝓜 𝓡 (Goes-dropped 𝓛 4 self no (λ κs x f. refl), (Goes-dropped 𝓛 4 with no (λ κs x f. refl), tt)) (#self inst) fn (code.unfolded 𝓤 H 𝓜 𝓡 wired (X, (S, (B', tt))) d d') (λ z are.
    let ℓ = named_lft 4 0 tt z.0.0 in let β : Lft = z.0.0.0 in let Tr : RattleType = owner.the_row ℓ R₀ Q B k h in let Wr : RattleType = writing.the_row ℓ R Q V unit g in let hw : Wr.Denot = z.0.3.0 in let p : Ptr = hw.slot in let b : ℕ = block_of p in let o : ℕ = count_of p in let pt : Ptr = block_ptr b o in let l : B'.Denot = z.0.3.1.0 in let γ : ℕ = hw.name in let key = hw.key in let x : R.Denot = hw.value in
    let got = one E z.0.4.1.0 ((lawful E 𝓛).typed l z.0.4.1.0 are.1.0) in let vy : Val = got.0 in let fy : Good E vy = got.2 in let form = shape (owner.the_type ℓ R₀ Q B k h) in let from = pointing_told (shape (writing.the_type ℓ R Q V unit g)) ℓ R p z.0.4.0 are.0.0 in
    let Post : Val → SProp 𝓤 = (walk_of 𝓛 En hs c).post z in let Run : List Val → SProp 𝓤 = λ ws. WpFn 𝓤 H 𝓣.C 𝓣.Λ fn ws Post in let Held : Fml = writing_owns cw.code γ R Q g.counts (g.holds key) β p x in let Ties : Type 0 = h.ties l γ in
    qed 𝓛 ((raw (alive 𝓛 En.signature z.0.0 z.0.1) ⊛ ‵ (owns (types_at En.signature.params z.0.0) z.0.3 z.0.4)) ∷ raw (shown 𝓤 _) ∷ raw (shown 𝓤 _) ∷ raw (shown 𝓤 _) ∷ raw (shown 𝓤 Ties) ∷ []) ∵
    keep ! (4 ∷ 0 ∷ []) $ heard ! Ties (λ ties. split ! $ move ! (1 ∷ []) $ fsplit ! $ fsplit ! $ move ! (2 ∷ []) $ fsplit ! $ keep ! (3 ∷ 0 ∷ 4 ∷ []) $
    -- [the right; what is beside; the tokens]
    use1 𝓛 (given (InBlock p) (‵ Held)) (fact_use 𝓤 _ (held_placed 𝓛 cw γ R Q g.counts (g.holds key) β p (λ i j t. writer R i j t x)) (guard_i 𝓤 (InBlock p) (sem 𝓛 Held))) $ learn ! (λ inb. let at : p ≡ pt = at_block p inb in let is_p : z.0.4.0 ≡ pointing pt ∷ [] = from ∙ ap (λ (r : Ptr). pointing r ∷ []) at in
    rewrite ! 0 (λ (r : Ptr). ‵ (writing_owns cw.code γ R Q g.counts (g.holds key) β r x)) at refl $ rewrite ! 1 (λ (ws : List Val). ‵ (B.own_val l ws)) got.1 refl $
    suffices ! (Run (pointing pt ∷ vy ∷ [])) (subst (λ (ws : List Val). ent 𝓤 (Run (pointing pt ∷ vy ∷ [])) (Run ws)) (sym (λ i. is_p i ++ (got.1 i ++ []))) (id⊢ 𝓤 (Run (pointing pt ∷ vy ∷ [])))) $
    enter ! 𝓣.C 𝓣.Λ fn (pointing pt ∷ vy ∷ []) Post $ alloc_all ! (λ k. pass_all ! refl (points pt tt, (fy, tt)) $
    sets ! (of_opd ! (get_in ! (fld ! refl (stop !)) (sub ! 0 refl (whole !)))) refl (tt, tt) $ sets ! (of_opd ! (get_in ! (fld ! refl (stop !)) (sub ! 1 refl (whole !)))) refl (tt, tt) $ sets ! (of_opd ! (get ! refl)) refl fy $
    sets ! (agg ! (and_then ! (get ! refl) (and_then ! (get ! refl) (and_then ! (get ! refl) (no_more !))))) refl (fine vy fy, (tt, (tt, (fy.1, tt)))) $
    let ht : Tr.Denot = record { slot = pt; marker = record {}; beside = l; name = γ; value = x.value } in
    nothing ! $ fpack ! Ties (λ _. ftrue) ties $ move ! (1 ∷ 0 ∷ []) $ fjoin ! $ move ! (1 ∷ []) $ use1 𝓛 (‵ ((Carrying form ℓ R B).own_val (pt, (tt, (l, tt))) (carrying pt vy ∷ []))) (carrying_made form ℓ R B 𝓛 pt l vy) $ fjoin ! $
    let Told : Type 0 = (γ ≡ γ) × (x.value ≡ x.value) in use0 𝓛 (raw (shown 𝓤 Told)) (fact_i 𝓤 Told (emp 𝓤) (refl, refl)) $ nothing ! $ nothing ! $ fjoin ! $ nothing ! $ fjoin ! $
    returns ! (look_at ! 0 refl) $ free_all ! refl $ keep ! (3 ∷ 0 ∷ 2 ∷ 1 ∷ []) $ by ! (leaves 𝓛 En hs c z (carrying pt vy) ht (tt, (tt, tt)) (tt, (tt, tt)))))))
