-- `write` hands the right on.
use Rattle.event_slot.proofs.Names.{◌≡◌, ℕ, [], ◌∷◌, refl, ap, Option, Some, a_type, dcons, dnil, Val, inst_fn, Coded, SProp, emp, guard_i, sem, Lft, Fml, ftrue, fsep, flft, shown, fact_i, fact_use, tables, ‵, raw, ◌⊛◌, some, given, ◌$◌, ◌∵◌, !, qed, by, move, keep, split, fsplit, fjoin, fpick, fpack, pick, learn, use0, use1, rewrite, stop, fld, of_opd, no_more, and_then, returns, enter, alloc_all, pass_all, free_all, look_at, get, get_in, sets, is, agg, sub, whole, no, RattleType, owns, types_at, plain, named_lft, Ptr, InBlock, block_ptr, ptr_val, block_of, count_of, at_block, nothing, heard, param, bounded, Stays, stay_dropped, walk_of, Goes-dropped, proved, leaves}
use denote.Struct.Owning.{shape}
use Rattle.event_slot.specs.Holding.{Names, right_to, lies, writer, kept, claim_owns}
use Rattle.event_slot.proofs.Names.{None, drop}
use Rattle.event_slot.specs.contracts.claim.Claim as claim
use Rattle.event_slot.specs.contracts.writing.Writing as writing
use Rattle.event_slot.proofs.Fields.{pointing, points, Pointing, pointing_told, pointing_made, held_placed, writes_some}
use Rattle.event_slot.specs.contracts.claim.Claim.write.{ended, clauses}
use Rattle.event_slot.specs.contracts.claim.Claim.write.Key.{name as #self}
use Rattle.event_slot.proofs.claim.Claim.write.Statement.{statement}
use Rattle.event_slot.proofs.claim.Claim.write.Code as code

pub write_spec : {M : Type 1} → statement M
write_spec 𝓤 𝓛 𝓜 𝓡 wired X S Y Ky _ _ _ _ g d _ =
    let H = 𝓛.H in let 𝓣 = tables 𝓤 H 𝓜 𝓡 𝓡.env in let R : RattleType = param 0 X in let Q : RattleType = param 1 S in let V : RattleType = param 2 Y in let Kr : RattleType = param 3 Ky in let En = ended X S Y Ky g d in let c = clauses X S Y Ky g d 𝓛 𝓜.mem 𝓡.returns in let cw : Coded Y.Denot = V.coded in
    let inst = bounded (a_type ∷ a_type ∷ a_type ∷ a_type ∷ []) (X, (S, (Y, (Ky, tt)))) (dcons d dnil) in let fn = inst_fn inst code.function in let self = plain (λ κs. claim.the_row (named_lft 5 0 tt κs) R Q V Kr g) in let hs : Stays En.signature.params En.kept = (stay_dropped self no, tt) in
    proved 𝓛 En hs c 𝓜 𝓡 (Goes-dropped 𝓛 5 self no (λ κs x f. refl), tt) (#self inst) fn (code.unfolded 𝓤 H 𝓜 𝓡 wired (X, (S, (Y, (Ky, tt)))) d)
    (λ κs. ((λ x. pointing x.slot ∷ []), tt)) (λ κs. ((λ x vs so. pointing_told (shape (claim.the_type (named_lft 5 0 tt κs) R Q V Kr g)) (named_lft 5 0 tt κs) R x.slot vs so.0), tt)) (λ κs qs bounds a gh are.
    let ℓ = named_lft 5 0 tt κs in let Cr : RattleType = claim.the_row ℓ R Q V Kr g in let Wr : RattleType = writing.the_row ℓ R Q V Kr g in let hc : Cr.Denot = a.0 in let p : Ptr = hc.slot in let b : ℕ = block_of p in let o : ℕ = count_of p in let β : Lft = κs.0 in let γ : ℕ = hc.name in let key : Ky.Denot = hc.key in let v : Option X.Denot = hc.value in
    let y : (walk_of 𝓛 En hs c).Ghost = ((κs, qs, bounds, a, (pointing p ∷ [], tt)), gh) in let Post : Val → SProp 𝓤 = (walk_of 𝓛 En hs c).post y in let tokens : Fml = fsep (flft β qs.0) (fsep (flft κs.1.0 qs.1.0) (fsep (flft κs.1.1.0 qs.1.1.0) (fsep (flft κs.1.1.1.0 qs.1.1.1.0) (fsep (flft κs.1.1.1.1.0 qs.1.1.1.1.0) ftrue)))) in
    qed 𝓛 ((‵ tokens ⊛ ‵ (owns (types_at En.signature.params κs) a y.0.4)) ∷ raw (shown 𝓤 _) ∷ raw (shown 𝓤 _) ∷ raw (shown 𝓤 _) ∷ raw (shown 𝓤 _) ∷ raw (shown 𝓤 ((hc.right ≡ 2) × (hc.state ≡ None))) ∷ []) ∵
    keep ! (5 ∷ 0 ∷ []) $ heard ! ((hc.right ≡ 2) × (hc.state ≡ None)) (λ may. split ! $ move ! (1 ∷ []) $ fsplit ! $ fsplit ! $ keep ! (1 ∷ 3 ∷ []) $
    use1 𝓛 (given (InBlock p) (‵ (claim_owns cw.code γ R Q g.counts (g.holds key) β p hc.right v hc.state))) (fact_use 𝓤 _ (held_placed 𝓛 cw γ R Q g.counts (g.holds key) β p (λ i j t. fsep (right_to R i j t hc.right v) (lies R Q i j t hc.state))) (guard_i 𝓤 (InBlock p) (sem 𝓛 (claim_owns cw.code γ R Q g.counts (g.holds key) β p hc.right v hc.state)))) $ learn ! (λ inb. let at : p ≡ block_ptr b o = at_block p inb in
    rewrite ! 0 (λ (z : Ptr × ℕ). ‵ (claim_owns cw.code γ R Q g.counts (g.holds key) β z.0 z.1 v hc.state)) (λ i. (at i, may.0 i)) refl $
    enter ! 𝓣.C 𝓣.Λ fn (pointing p ∷ []) Post $ alloc_all ! (λ l. pass_all ! refl (points p inb, tt) $
    sets ! (is ! (of_opd ! (get_in ! (fld ! refl (stop !)) (sub ! 0 refl (whole !)))) (ap ptr_val at)) refl (tt, tt) $ sets ! (of_opd ! (get_in ! (fld ! refl (stop !)) (sub ! 1 refl (whole !)))) refl (tt, tt) $ sets ! (agg ! (and_then ! (get ! refl) (and_then ! (get ! refl) (no_more !)))) refl (tt, (tt, (tt, tt))) $
    fpick ! (λ t. fsplit ! $ move ! (1 ∷ []) $ fsplit ! $ move ! (1 ∷ []) $ drop ! $ use1 𝓛 (some (λ (x : X.Denot). given (Some x ≡ v) (‵ (writer R b o t x)))) (writes_some 𝓛 β R b o t v) $ pick ! (λ x. learn ! (λ same. move ! (1 ∷ 0 ∷ []) $ fjoin ! $ fpack ! Names (λ i. fsep (kept cw.code γ R Q g.counts (g.holds key) b o i β) (writer R b o i x)) t $
    let pt : Ptr = block_ptr b o in let hw : Wr.Denot = record { slot = pt; marker = record {}; name = γ; key = key; value = x } in let form = shape (writing.the_type ℓ R Q V Kr g) in
    use0 𝓛 (‵ ((Pointing form ℓ R).own_val (pt, (tt, tt)) (pointing pt ∷ []))) (pointing_made form ℓ R 𝓛 pt) $ fjoin ! $
    let Told : Type 0 = (γ ≡ γ) × (key ≡ key) × (Some x ≡ v) in use0 𝓛 (raw (shown 𝓤 Told)) (fact_i 𝓤 Told (emp 𝓤) (refl, refl, same)) $ nothing ! $ nothing ! $ fjoin ! $
    returns ! (look_at ! 0 refl) $ free_all ! refl $ keep ! (3 ∷ 0 ∷ 2 ∷ 1 ∷ []) $ by ! (leaves 𝓛 En hs c y (pointing pt) hw (tt, tt) (tt, tt)))))))))
