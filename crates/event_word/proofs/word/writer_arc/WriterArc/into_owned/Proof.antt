-- `into_owned` gives back the owned claim.
use Rattle.event_slot.proofs.Names.{◌≡◌, ℕ, List, [], ◌∷◌, ◌++◌, sym, refl, ap, ◌∙◌, subst, Some, None, a_type, dcons, dnil, Val, inst_fn, Coded, SProp, ent, emp, id⊢, guard_i, sem, Lft, Fml, ftrue, fsep, shown, fact_i, fact_use, tables, WpFn, ‵, raw, ◌⊛◌, given, ◌$◌, ◌∵◌, !, qed, by, move, keep, drop, split, fsplit, fsplit3, fjoin, join, fpick, fpack, learn, suffices, use0, use1, rewrite, stop, fld, of_opd, no_more, and_then, returns, enter, alloc_all, pass_all, free_all, look_at, get, get_in, sets, agg, sub, whole, no, RattleType, plain, Ptr, InBlock, block_ptr, block_of, count_of, at_block, nothing, param, param_laws, bounded, Stays, stay_dropped, walk_of, proved_at, leaves, alive}
use denote.Builtin.{unit}
use Rattle.core.proofs.alloc.Calls.{Goes-blank}
use Rattle.std.specs.contracts.alloc.Global as Heap
use Rattle.std.specs.contracts.impls.GlobalAllocator.TheImpl.{ghosts}
use Rattle.std.proofs.alloc.Global.TheLaws as heap
use Rattle.event_slot.specs.Holding.{claim_owns}
use Rattle.event_slot.specs.contracts.owned.Owned as owned
use Rattle.event_slot.proofs.Leasing.{housing, housed_had, housed_made, housing_fine, Out, out_laws}
use Rattle.event_slot.proofs.Passing.{writer_has}
use Rattle.event_word.specs.contracts.word.rule.View as view
use Rattle.event_word.specs.contracts.word.writer_arc.WriterArc as owner
use Rattle.event_word.proofs.Placing.{Row, rule}
use Rattle.event_word.specs.contracts.word.writer_arc.WriterArc.into_owned.{ended, clauses}
use Rattle.event_word.specs.contracts.word.writer_arc.WriterArc.into_owned.Key.{name as #self}
use Rattle.event_word.proofs.word.writer_arc.WriterArc.into_owned.Statement.{statement}
use Rattle.event_word.proofs.word.writer_arc.WriterArc.into_owned.Code as code

pub into_owned_spec : {M : Type 1} → statement M
into_owned_spec 𝓤 𝓛 𝓜 𝓡 wired L X S LL _ _ h d k d' _ _ =
    let H = 𝓛.H in let 𝓣 = tables 𝓤 H 𝓜 𝓡 𝓡.env in let P : RattleType = param 0 L in let R₀ : RattleType = param 1 X in let Q : RattleType = param 2 S in let B : RattleType = Heap.the_row in let V : RattleType = view.the_row in let R : RattleType = Row R₀ in let g = rule R₀ Q k in let cw : Coded V.Denot = V.coded in
    let En = ended L X S h d k d' in let c = clauses L X S h d k d' 𝓛 𝓜.mem 𝓡.returns in let LP = param_laws 0 L LL in let O : RattleType = Out P B ghosts in
    let inst = bounded (a_type ∷ a_type ∷ a_type ∷ []) (L, (X, (S, tt))) (dcons d (dcons d' dnil)) in let fn = inst_fn inst code.function in
    let self = plain (λ _. owner.the_row P R₀ Q h k) in let hs : Stays En.signature.params En.kept = (stay_dropped self no, tt) in
    proved_at 𝓛 En hs c 𝓜 𝓡 (Goes-blank 𝓛 3 self no (λ κs x e. tt), tt) (#self inst) fn (code.unfolded 𝓤 H 𝓜 𝓡 wired (L, (X, (S, tt))) d d') (λ z are.
    let Or : RattleType = owned.the_row P R Q B V unit g ghosts in let Tr : RattleType = owner.the_row P R₀ Q h k in let ht : Tr.Denot = z.0.3.0 in let p : Ptr = ht.slot in let pt : Ptr = block_ptr (block_of p) (count_of p) in let i : ℕ = ht.arc.life in let ρ : Lft = P.lives ++ (R.lives ++ Q.lives) in
    let w : R.Denot = record { value = ht.value } in let vs : List Val = z.0.4.0 in let Claim : Ptr → Fml = λ j. claim_owns cw.code ht.name R Q g.counts (g.holds (record {})) (i ∷ ρ) j 2 (Some w) None in
    let Same : Type 0 = (ht.arc.of ≡ ht.of) × (ht.name ≡ (h.finds ht.of).name) in
    let Post : Val → SProp 𝓤 = (walk_of 𝓛 En hs c).post z in let Run : List Val → SProp 𝓤 = λ ws. WpFn 𝓤 H 𝓣.C 𝓣.Λ fn ws Post in
    qed 𝓛 ((raw (alive 𝓛 En.signature z.0.0 z.0.1) ⊛ ‵ (fsep (Tr.own_val ht vs) ftrue)) ∷ raw ((c z.0.0 z.0.3).requires z.1) ∷ []) ∵
    keep ! (0 ∷ []) $ split ! $ move ! (1 ∷ []) $ fsplit ! $ fsplit ! $ keep ! (1 ∷ 0 ∷ 3 ∷ []) $
    -- [the token and the claim; the bytes; the tokens]
    fsplit3 ! $ fpick ! (λ same. drop ! $ move ! (1 ∷ []) $
    let Has : Type 0 = InBlock p × ((v : R.Denot) × (Some w ≡ Some v)) in
    use1 𝓛 (given Has (‵ (Claim p))) (fact_use 𝓤 _ (writer_has 𝓛 cw ht.name R Q g.counts (g.holds (record {})) i ρ p (Some w)) (guard_i 𝓤 Has (sem 𝓛 (Claim p)))) $ learn ! (λ has. let at : p ≡ pt = at_block p has.0 in
    rewrite ! 0 (λ (j : Ptr). ‵ (Claim j)) at refl $ move ! (2 ∷ []) $
    housed_had ! O (out_laws P B ghosts LP heap.the_row_laws) p ht.arc vs (λ u is_u fine. let is_v : vs ≡ housing pt u ∷ [] = is_u ∙ ap (λ (j : Ptr). housing j u ∷ []) at in let well = housing_fine P B ghosts pt u fine in
    suffices ! (Run (housing pt u ∷ [])) (subst (λ (ws : List Val). ent 𝓤 (Run (housing pt u ∷ [])) (Run ws)) (sym (λ j. is_v j ++ [])) (id⊢ 𝓤 (Run (housing pt u ∷ [])))) $
    enter ! 𝓣.C 𝓣.Λ fn (housing pt u ∷ []) Post $ alloc_all ! (λ l. pass_all ! refl (well, tt) $
    sets ! (of_opd ! (get_in ! (fld ! refl (stop !)) (sub ! 0 refl (whole !)))) refl (tt, tt) $ sets ! (of_opd ! (get_in ! (fld ! refl (stop !)) (sub ! 1 refl (whole !)))) refl fine $
    sets ! (of_opd ! (get ! refl)) refl fine $ sets ! (agg ! (and_then ! (get ! refl) (and_then ! (get ! refl) (no_more !)))) refl well $
    let ho : Or.Denot = record { slot = pt; arc = ht.arc; of = ht.of; name = ht.name; key = record {}; right = 2; value = Some w; state = None } in
    -- [the arc; the claim; the token; the tokens]
    move ! (2 ∷ 1 ∷ []) $ fjoin ! $ nothing ! $ fpack ! (ht.arc.of ≡ ht.of) (λ _. ftrue) same.0 $ fjoin ! $ move ! (1 ∷ []) $ housed_made ! O pt ht.arc u $ fjoin ! $
    let Right : Type 0 = (ho.right ≡ 2) × (ho.state ≡ None) in let Of : Type 0 = (ht.of ≡ ht.of) × (ht.name ≡ ht.name) in let Finds : Type 0 = ht.name ≡ (h.finds ht.of).name in
    use0 𝓛 (raw (shown 𝓤 Finds)) (fact_i 𝓤 Finds (emp 𝓤) same.1) $ use0 𝓛 (raw (shown 𝓤 Of)) (fact_i 𝓤 Of (emp 𝓤) (refl, refl)) $ join ! $ use0 𝓛 (raw (shown 𝓤 Right)) (fact_i 𝓤 Right (emp 𝓤) (refl, refl)) $ join ! $ nothing ! $ nothing ! $ fjoin ! $
    returns ! (look_at ! 0 refl) $ free_all ! refl $ keep ! (3 ∷ 0 ∷ 2 ∷ 1 ∷ []) $ by ! (leaves 𝓛 En hs c z (housing pt u) ho ((tt, (tt, tt)), tt) (tt, tt)))))))
