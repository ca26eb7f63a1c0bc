-- `get` lends what a `&` to a reader's claim shows.
use Rattle.event_slot.proofs.Names.{◌≡◌, ℕ, List, [], ◌∷◌, ◌++◌, sym, refl, ap, ◌∙◌, Option, Some, a_type, named, dcons, dnil, Val, vptr, inst_fn, Coded, SProp, emp, guard_i, sem, Lft, Incl-refl, Fml, ftrue, fsep, flft, fhide, ⊑_meet, shown, fact_i, fact_use, tables, ‵, raw, ◌⊛◌, given, at_ret, ◌$◌, ◌∵◌, !, qed, by, move, keep, drop, split, join, fsplit, fjoin, learn, use0, use1, rewrite, feq_i, stop, fld, hop, addr, of_opd, first, blocks, exec, returns, enter, alloc_all, pass_all, free_all, look_at, get, through, sets, sets_last, env, sub, whole, look_in, yes, RattleType, owns, types_at, plain, named_lft, Ptr, InBlock, block_ptr, block_of, count_of, at_block, nothing, peeks, heard, looks, shuts, unhide, Is, shows, cell_at, hidden_shr, shared_of, param, param_laws, bounded, RefOf, ShrRef, shr_vals, shr_Tells, shortens, lent_out, Stays, stay_dropped, walk_of, Goes-dropped, tail, proved, leaves}
use denote.Struct.Owning.{shape}
use Rattle.core.specs.contracts.marker.PhantomData as marker
use Rattle.event_slot.specs.Holding.{place, claim_shares}
use Rattle.event_slot.specs.contracts.claim.Claim as claim
use Rattle.event_slot.proofs.Fields.{pointing, Pointing, pointing_told, pointing_opens, reader_sees}
use Rattle.event_slot.specs.contracts.claim.Claim.get.{ended, clauses}
use Rattle.event_slot.specs.contracts.claim.Claim.get.Key.{name as #self}
use Rattle.event_slot.proofs.claim.Claim.get.Statement.{statement}
use Rattle.event_slot.proofs.claim.Claim.get.Code as code

pub get_spec : {M : Type 1} → statement M
get_spec 𝓤 𝓛 𝓜 𝓡 wired X S Y Ky L _ _ _ g d _ =
    let H = 𝓛.H in let 𝓣 = tables 𝓤 H 𝓜 𝓡 𝓡.env in let R : RattleType = param 0 X in let Q : RattleType = param 1 S in let V : RattleType = param 2 Y in let Kr : RattleType = param 3 Ky in let En = ended X S Y Ky g d in let c = clauses X S Y Ky g d 𝓛 𝓜.mem 𝓡.returns in let LR = param_laws 0 X L in let cw : Coded Y.Denot = V.coded in
    let inst = bounded (a_type ∷ a_type ∷ a_type ∷ a_type ∷ []) (X, (S, (Y, (Ky, tt)))) (dcons d dnil) in let fn = inst_fn inst code.function in
    let self = RefOf (0 ∷ []) tt (plain (λ κs. claim.the_row (named_lft 6 1 tt κs) R Q V Kr g)) (λ _. tt) in let hs : Stays En.signature.params En.kept = (stay_dropped self yes, tt) in
    proved 𝓛 En hs c 𝓜 𝓡 (Goes-dropped 𝓛 6 self yes (λ κs x f. refl), tt) (#self inst) fn (code.unfolded 𝓤 H 𝓜 𝓡 wired (X, (S, (Y, (Ky, tt)))) d)
    (λ κs. (shr_vals, tt)) (λ κs. (shr_Tells (named 0) κs.0 (claim.the_row (named_lft 6 1 tt κs) R Q V Kr g), tt)) (λ κs qs bounds a gh are.
    let ℓ = named_lft 6 1 tt κs in let Cr : RattleType = claim.the_row ℓ R Q V Kr g in let form = shape (claim.the_type ℓ R Q V Kr g) in let D : RattleType = Pointing form ℓ R in let b : ℕ = a.0.ref_ptr.0 in let o : ℕ = a.0.ref_ptr.1 in let κ : Lft = κs.0 in let β : Lft = κs.1.0 in
    let hc : Cr.Denot = a.0.now in let p : Ptr = hc.slot in let v : Option X.Denot = hc.value in let pb : ℕ = block_of p in let po : ℕ = count_of p in let e : ℕ = place R pb po in let Seen : Type 0 = InBlock p × ((x : X.Denot) × (v ≡ Some x)) in
    let y : (walk_of 𝓛 En hs c).Ghost = ((κs, qs, bounds, a, (vptr b o ∷ [], tt)), gh) in let Post : Val → SProp 𝓤 = (walk_of 𝓛 En hs c).post y in let others : Fml = fsep (flft β qs.1.0) (fsep (flft κs.1.1.0 qs.1.1.0) (fsep (flft κs.1.1.1.0 qs.1.1.1.0) (fsep (flft κs.1.1.1.1.0 qs.1.1.1.1.0) (fsep (flft κs.1.1.1.1.1.0 qs.1.1.1.1.1.0) ftrue)))) in
    qed 𝓛 (((‵ (flft κ qs.0) ⊛ ‵ others) ⊛ ‵ (owns (types_at En.signature.params κs) a y.0.4)) ∷ raw (shown 𝓤 _) ∷ raw (shown 𝓤 _) ∷ raw (shown 𝓤 _) ∷ raw (shown 𝓤 _) ∷ raw (shown 𝓤 (hc.right ≡ 1)) ∷ []) ∵
    keep ! (5 ∷ 0 ∷ []) $ heard ! (hc.right ≡ 1) (λ reads. split ! $ split ! $ move ! (2 ∷ []) $ fsplit ! $ fsplit ! $ keep ! (1 ∷ 3 ∷ 4 ∷ []) $
    enter ! 𝓣.C 𝓣.Λ fn (vptr b o ∷ []) Post $ alloc_all ! (λ l. pass_all ! refl ((tt, tt), tt) $ let Ev = env fn.locals l in
    use1 𝓛 (‵ (hidden_shr D κ (p, (tt, tt)) b o) ⊛ ‵ (fhide (claim_shares β R p hc.right v κ))) (lent_out 𝓛 (claim.struct ℓ R Q V Kr g) (claim.the_codes X.Denot S.Denot Y.Denot Ky.Denot R.coded Q.coded V.coded Kr.coded (marker.the_row (ShrRef ℓ.mir ℓ.lft R)).coded) (claim.the_heap β R Q V Kr g) (claim.the_lent β R Q V Kr g) κ hc b o) $
    split ! $ move ! (1 ∷ []) $ unhide ! $ rewrite ! 0 (λ (k : ℕ). ‵ (claim_shares β R p k v κ)) reads refl $
    use1 𝓛 (given Seen (‵ (claim_shares β R p 1 v κ))) (fact_use 𝓤 _ (reader_sees 𝓛 β R p v κ) (guard_i 𝓤 Seen (sem 𝓛 (claim_shares β R p 1 v κ)))) $ learn ! (λ so. let x : X.Denot = so.1.0 in let at : p ≡ block_ptr pb po = at_block p so.0 in
    rewrite ! 0 (λ (z : Ptr × Option X.Denot). ‵ (claim_shares β R z.0 1 z.1 κ)) (λ i. (at i, so.1.1 i)) refl $ fsplit ! $ drop ! $
    use1 𝓛 (‵ (hidden_shr R κ x pb e)) (shortens 𝓛 (shared_of R x pb e) (LR.shr_laws x pb e) (κ ++ β) κ (⊑_meet κ κ β (Incl-refl κ) bounds.0)) $ move ! (1 ∷ 2 ∷ []) $
    looks ! tt D (pointing_opens form ℓ R 𝓛) (p, (tt, tt)) b o (λ q vs. move ! (1 ∷ []) $ peeks ! D (Is D) (shows 𝓛 D) (p, (tt, tt)) vs (λ is_so. let ev : vs ≡ pointing (block_ptr pb po) ∷ [] = pointing_told form ℓ R p vs is_so ∙ ap (λ (r : Ptr). pointing r ∷ []) at in
    rewrite ! 1 (λ (ws : List Val). ‵ (cell_at q D.mir ws b o)) ev refl $ first ! $ blocks ! $
    sets_last ! (addr ! (through ! refl (fld ! refl (hop ! (look_in ! 1 (sub ! 0 refl (whole !))) (fld ! refl (stop !)))))) refl (tt, tt) $ exec ! 𝓣.C 𝓣.Λ Ev (tail fn.body) (at_ret Ev Post) $ sets ! (of_opd ! (get ! refl)) refl (tt, tt) $
    rewrite ! 1 (λ (ws : List Val). ‵ (cell_at q D.mir ws b o)) (sym ev) refl $ move ! (1 ∷ 0 ∷ 2 ∷ []) $ shuts ! tt D q (p, (tt, tt)) vs b o $ move ! (0 ∷ 3 ∷ []) $ join ! $
    move ! (2 ∷ []) $ feq_i ! (List Val) (vptr pb e ∷ []) (vptr pb e ∷ []) refl $ fjoin ! $ use0 𝓛 (raw (shown 𝓤 (Some x ≡ v))) (fact_i 𝓤 (Some x ≡ v) (emp 𝓤) (sym so.1.1)) $ nothing ! $ nothing ! $ fjoin ! $
    returns ! (look_at ! 0 refl) $ free_all ! refl $ keep ! (3 ∷ 0 ∷ 2 ∷ 1 ∷ []) $ by ! (leaves 𝓛 En hs c y (vptr pb e) (record { ref_ptr = (pb, e); now = x }) (tt, tt) (tt, tt))))))))
