-- `claim` takes the slot's address, and nothing of what it lends.
use Rattle.event_slot.proofs.Names.{◌≡◌, ℕ, [], ◌∷◌, refl, None, a_type, named, dcons, dnil, Val, vptr, inst_fn, Coded, SProp, emp, Lft, Share, Fml, ftrue, fsep, flft, shown, fact_i, tables, ‵, raw, ◌⊛◌, ◌$◌, ◌∵◌, !, qed, by, move, keep, split, fsplit, fjoin, fpick, fpack, use0, stop, addr, no_more, and_then, returns, enter, alloc_all, pass_all, free_all, look_at, get, through, sets, agg, yes, RattleType, owns, types_at, plain, named_lft, Ptr, block_ptr, nothing, unhide, param, bounded, RefOf, shr_vals, shr_Tells, Stays, stay_dropped, walk_of, Goes-dropped, proved, leaves}
use denote.Struct.Owning.{shape}
use Rattle.event_slot.specs.Holding.{Names, kept, right_to, lies}
use Rattle.event_slot.specs.contracts.slot.Slot as slot
use Rattle.event_slot.specs.contracts.claim.Claim as claim
use Rattle.event_slot.proofs.Fields.{pointing, Pointing, pointing_made}
use Rattle.event_slot.specs.contracts.slot.Slot.claim.{ended, clauses}
use Rattle.event_slot.specs.contracts.slot.Slot.claim.Key.{name as #self}
use Rattle.event_slot.proofs.slot.Slot.claim.Statement.{statement}
use Rattle.event_slot.proofs.slot.Slot.claim.Code as code

pub claim_spec : {M : Type 1} → statement M
claim_spec 𝓤 𝓛 𝓜 𝓡 wired X S Y Ky _ _ _ _ g d _ =
    let H = 𝓛.H in let 𝓣 = tables 𝓤 H 𝓜 𝓡 𝓡.env in let R : RattleType = param 0 X in let Q : RattleType = param 1 S in let V : RattleType = param 2 Y in let Kr : RattleType = param 3 Ky in let En = ended X S Y Ky g d in let c = clauses X S Y Ky g d 𝓛 𝓜.mem 𝓡.returns in
    let inst = bounded (a_type ∷ a_type ∷ a_type ∷ a_type ∷ []) (X, (S, (Y, (Ky, tt)))) (dcons d dnil) in let fn = inst_fn inst code.function in let cw : Coded Y.Denot = V.coded in
    let Row : RattleType = slot.the_row R Q V Kr g in let self = RefOf (0 ∷ []) tt (plain (λ _. Row)) (λ _. tt) in let hs : Stays En.signature.params En.kept = (stay_dropped self yes, tt) in
    proved 𝓛 En hs c 𝓜 𝓡 (Goes-dropped 𝓛 5 self yes (λ κs x f. refl), tt) (#self inst) fn (code.unfolded 𝓤 H 𝓜 𝓡 wired (X, (S, (Y, (Ky, tt)))) d) (λ κs. (shr_vals, tt)) (λ κs. (shr_Tells (named 0) κs.0 Row, tt)) (λ κs qs bounds a gh are.
    let b : ℕ = a.0.ref_ptr.0 in let o : ℕ = a.0.ref_ptr.1 in let κ : Lft = κs.0 in let q : Share = qs.0 in let γ : ℕ = a.0.now.name in let key : Ky.Denot = a.0.now.key in let ℓ = named_lft 5 0 tt κs in let Cr : RattleType = claim.the_row ℓ R Q V Kr g in let p : Ptr = block_ptr b o in
    let y : (walk_of 𝓛 En hs c).Ghost = ((κs, qs, bounds, a, (vptr b o ∷ [], tt)), gh) in let Post : Val → SProp 𝓤 = (walk_of 𝓛 En hs c).post y in let others : Fml = fsep (flft κs.1.0 qs.1.0) (fsep (flft κs.1.1.0 qs.1.1.0) (fsep (flft κs.1.1.1.0 qs.1.1.1.0) (fsep (flft κs.1.1.1.1.0 qs.1.1.1.1.0) ftrue))) in
    qed 𝓛 (((‵ (flft κ q) ⊛ ‵ others) ⊛ ‵ (owns (types_at En.signature.params κs) a y.0.4)) ∷ raw ((c κs a).requires gh) ∷ []) ∵ split ! $ move ! (1 ∷ []) $ fsplit ! $ fsplit ! $ keep ! (1 ∷ 3 ∷ []) $
    enter ! 𝓣.C 𝓣.Λ fn (vptr b o ∷ []) Post $ alloc_all ! (λ l. pass_all ! refl ((tt, tt), tt) $
    unhide ! $ fpick ! (λ t. nothing ! $ nothing ! $ fjoin ! $ move ! (1 ∷ 0 ∷ []) $ fjoin ! $ fpack ! Names (λ i. fsep (kept cw.code γ R Q g.counts (g.holds key) b o i κ) (fsep (right_to R b o i 0 None) (lies R Q b o i None))) t $
    let hc : Cr.Denot = record { slot = p; marker = record {}; name = γ; key = key; right = 0; value = None; state = None } in let form = shape (claim.the_type ℓ R Q V Kr g) in
    use0 𝓛 (‵ ((Pointing form ℓ R).own_val (p, (tt, tt)) (pointing p ∷ []))) (pointing_made form ℓ R 𝓛 p) $ fjoin ! $
    let Told : Type 0 = (γ ≡ γ) × (key ≡ key) × (0 ≡ 0) × (hc.state ≡ None) in use0 𝓛 (raw (shown 𝓤 Told)) (fact_i 𝓤 Told (emp 𝓤) (refl, refl, refl, refl)) $ nothing ! $ nothing ! $ fjoin ! $
    sets ! (addr ! (through ! refl (stop !))) refl (tt, tt) $ sets ! (agg ! (no_more !)) refl (tt, tt) $ sets ! (agg ! (and_then ! (get ! refl) (and_then ! (get ! refl) (no_more !)))) refl (tt, (tt, (tt, tt))) $
    returns ! (look_at ! 0 refl) $ free_all ! refl $ keep ! (3 ∷ 0 ∷ 2 ∷ 1 ∷ []) $ by ! (leaves 𝓛 En hs c y (pointing p) hc (tt, tt) (tt, tt)))))
