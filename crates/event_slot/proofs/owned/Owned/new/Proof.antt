-- `new` takes the `Arc` apart, and makes a claim on the slot in its value for as long as that is shared.
use Rattle.event_slot.proofs.Names.{◌≡◌, ℕ, ◌+◌, List, [], ◌∷◌, ◌++◌, sym, refl, ap, subst, None, a_type, dcons, dnil, Val, vptr, inst_fn, Coded, SProp, ent, wand, emp, id⊢, apply∗, guard_i, sem, Lft, Share, Incl, Incl-refl, Incl-trans, Fml, ftrue, fsep, flft, meet_⊑_left, meet_⊑_right, ◌⊑◌, shown, fact_i, fact_use, tables, WpFn, ‵, raw, ◌⊛◌, some, given, later, at_ret, ◌$◌, ◌∵◌, !, qed, by, move, keep, drop, split, split3, join, group, fsplit, fjoin, fpick, fpack, pick, learn, heard, suffices, use0, use1, use2, use3, await, rewrite, feq_i, stop, fld, addr, of_opd, no_more, and_then, first, blocks, exec, returns, enter, alloc_all, pass_all, free_all, look_at, get, get_in, through, sets, sets_last, env, is, agg, sub, whole, look_in, no, RattleType, plain, named_lft, Ptr, InBlock, block_ptr, ptr_val, block_of, count_of, at_block, nothing, peeks, Is, shows, hidden_shr, shared_of, shortens, param, param_laws, bounded, Stays, stay_dropped, walk_of, tail, proved_at, leaves}
use base.Share
use types.RcWeak.{part, part_in}
use types.Run.{from, load}
use types.ByLocal.{take_at, give_at, lands_as}
use denote.RawPtr.{◌+ₚ◌}
use denote.Steps.{only}
use denote.Struct.Lending.{lent_at}
use denote.Struct.Owning.{shape}
use denote.Triple.Call.{calls_at}
use denote.Triple.Spec.{triple_of}
use Rattle.core.proofs.alloc.Calls.{Goes-blank}
use Rattle.atomic_table.proofs.Calls.{fm}
use Rattle.std_alloc.proofs.RcSteps.{Ptr-Good}
use Rattle.std_alloc.specs.Arc.Ownership.{value_offset}
use Rattle.event_slot.specs.Holding.{right_to, lies, claim_owns}
use Rattle.event_slot.specs.contracts.claim.Claim as claim
use Rattle.event_slot.specs.contracts.owned.Owned as owned
use Rattle.event_slot.specs.contracts.owned.find as found
use Rattle.event_slot.proofs.owned.find.Met as find-thm
use Rattle.event_slot.proofs.Fields.{pointing, points, Pointing, pointing_told, held_placed}
use Rattle.event_slot.proofs.Leasing.{one, pointer_had, housing, housed_made, pointer_fine, out_fine, housing_fine, Shared, Out}
use Rattle.event_slot.proofs.Living.{Four, lived, within_types}
use Rattle.event_slot.proofs.Opening.{lease, at_value, opens}
use Rattle.event_slot.specs.contracts.owned.Owned.new.{ended, clauses}
use Rattle.event_slot.specs.contracts.owned.Owned.new.Key.{name as #self}
use Rattle.event_slot.proofs.owned.Owned.new.Statement.{statement}
use Rattle.event_slot.proofs.owned.Owned.new.Code as code

pub new_spec : {M : Type 1} → statement M
new_spec 𝓤 𝓛 𝓜 𝓡 wired T X S A' Y Ky LT LX LS LA LY LK g d f d' dd h dh ruled _ _ inside =
    let H = 𝓛.H in let A = 𝓛.A in let 𝓣 = tables 𝓤 H 𝓜 𝓡 𝓡.env in let P : RattleType = param 0 T in let R : RattleType = param 1 X in let Q : RattleType = param 2 S in let B : RattleType = param 3 A' in let V : RattleType = param 4 Y in let Kr : RattleType = param 5 Ky in
    let En = ended T X S A' Y Ky g d f d' dd h dh in let c = clauses T X S A' Y Ky g d f d' dd h dh 𝓛 𝓜.mem 𝓡.returns in let cw : Coded Y.Denot = V.coded in let LP = param_laws 0 T LT in let LB = param_laws 3 A' LA in let F : RattleType = Shared P B f in let O : RattleType = Out P B f in
    let inst = bounded (a_type ∷ a_type ∷ a_type ∷ a_type ∷ a_type ∷ a_type ∷ []) (T, (X, (S, (A', (Y, (Ky, tt)))))) (dcons d (dcons d' (dcons dd (dcons dh dnil)))) in let fn = inst_fn inst code.function in
    let self = plain (λ _. F) in let hs : Stays En.signature.params En.kept = (stay_dropped self no, tt) in
    proved_at 𝓛 En hs c 𝓜 𝓡 (Goes-blank 𝓛 6 self no (λ κs x e. tt), tt) (#self inst) fn (code.unfolded 𝓤 H 𝓜 𝓡 wired (T, (X, (S, (A', (Y, (Ky, tt)))))) d d' dd dh) (λ z are.
    let κs = z.0.0 in let qs = z.0.1 in let τ : Lft = κs.0 in let τq : Share = qs.0 in let χ : Lft = κs.1.0 in let χq : Share = qs.1.0 in let σ : Lft = κs.1.1.0 in let σq : Share = qs.1.1.0 in let α : Lft = κs.1.1.1.0 in let αq : Share = qs.1.1.1.0 in let ν : Lft = κs.1.1.1.1.0 in let νq : Share = qs.1.1.1.1.0 in let κ : Lft = κs.1.1.1.1.1.0 in let κq : Share = qs.1.1.1.1.1.0 in
    let de : F.Denot = z.0.3.0 in let vs : List Val = z.0.4.0 in let p : Ptr = de.ptr in let x : T.Denot = de.value in let b : ℕ = block_of p in let o : ℕ = count_of p in let pt : Ptr = block_ptr b o in let e : ℕ = o + value_offset B P in let ρ : Lft = P.lives ++ (R.lives ++ Q.lives) in
    let Post : Val → SProp 𝓤 = (walk_of 𝓛 En hs c).post z in let Run : List Val → SProp 𝓤 = λ us. WpFn 𝓤 H 𝓣.C 𝓣.Λ fn us Post in let toks = ‵ (flft τ τq) ⊛ ‵ (flft χ χq) ⊛ ‵ (flft σ σq) ⊛ ‵ (flft α αq) ⊛ ‵ (flft ν νq) ⊛ ‵ (flft κ κq) ⊛ ‵ ftrue in
    qed 𝓛 ((toks ⊛ ‵ (fsep (F.own_val de vs) ftrue)) ∷ (raw (shown 𝓤 (τ ⊑ T.lives)) ⊛ raw (shown 𝓤 (χ ⊑ X.lives)) ⊛ raw (shown 𝓤 (σ ⊑ S.lives)) ⊛ raw (shown 𝓤 (α ⊑ A'.lives)) ⊛ raw (shown 𝓤 (ν ⊑ Y.lives)) ⊛ raw (shown 𝓤 (κ ⊑ Ky.lives)) ⊛ raw (emp 𝓤)) ∷ []) ∵
    split ! $ move ! (2 ∷ []) $ split3 ! $ heard ! (τ ⊑ T.lives) (λ lt. heard ! (χ ⊑ X.lives) (λ lx. split3 ! $ heard ! (σ ⊑ S.lives) (λ ls. heard ! (α ⊑ A'.lives) (λ la. split3 ! $ heard ! (ν ⊑ Y.lives) (λ ly. heard ! (κ ⊑ Ky.lives) (λ lk. drop ! $
    split3 ! $ move ! (2 ∷ []) $ split3 ! $ move ! (2 ∷ []) $ split3 ! $ move ! (7 ∷ []) $ fsplit ! $
    -- [the arc; nothing; the view's; the key's; nothing; the state's; the allocator's; the arc's value's; the value's]
    fsplit ! $ pointer_had ! p vs (λ so. let w : Val = one (ptr_val p) in let fine = pointer_fine P B f p in
    suffices ! (Run (w ∷ [])) (subst (λ (us : List Val). ent 𝓤 (Run (w ∷ [])) (Run us)) (sym (λ j. so j ++ [])) (id⊢ 𝓤 (Run (w ∷ [])))) $
    enter ! 𝓣.C 𝓣.Λ fn (w ∷ []) Post $ alloc_all ! (λ l. pass_all ! refl (fine, tt) $ let Ev = env fn.locals l in
    move ! (0 ∷ 7 ∷ 6 ∷ []) $
    use3 𝓛 (later (some (λ (a : ℕ). given (InBlock p) (‵ (part 63 a) ⊛ ‵ (at_value P B f LP LB 𝓛 de (a ∷ [])) ⊛ ‵ (O.own_val (lease P B f LP LB 𝓛 de a) (one w ∷ [])) ⊛ ‵ (flft τ τq) ⊛ ‵ (flft α αq)))))
    (opens P B f LP LB 𝓛 de τ α τq αq lt la) $ await ! tt $ pick ! (λ a. learn ! (λ inb. let at : p ≡ pt = at_block p inb in let β : Lft = a ∷ ρ in
    split3 ! $ move ! (2 ∷ []) $ split3 ! $ move ! (4 ∷ []) $ rewrite ! 0 (λ (r : Ptr). ‵ (lent_at P (r +ₚ value_offset B P) x (a ∷ []))) at refl $ fsplit ! $ drop ! $
    use1 𝓛 (‵ (hidden_shr P β x b e)) (shortens 𝓛 (shared_of P x b e) (LP.shr_laws x b e) (a ∷ []) β (meet_⊑_left (a ∷ []) ρ)) $
    -- [the value, shared; the arc; the arc's value's; the allocator's; the part; nothing; the view's; the key's; nothing; the state's; the value's]
    sets ! (of_opd ! (get ! refl)) refl fine $ first ! $ blocks ! $ sets ! (addr ! (from ! (stop !))) refl (tt, tt) $ take_at ! 2 $
    sets_last ! (of_opd ! (load ! (through ! refl (stop !)) (look_in ! 0 (sub ! 0 refl (whole !))))) refl (Ptr-Good p) $ give_at ! 2 $
    exec ! 𝓣.C 𝓣.Λ Ev (tail (tail fn.body)) (at_ret Ev Post) $ sets ! (is ! (of_opd ! (get ! refl)) (ap ptr_val at)) refl (tt, tt) $
    first ! $ blocks ! $ sets_last ! (addr ! (through ! refl (fld ! refl (stop !)))) refl (tt, tt) $ exec ! 𝓣.C 𝓣.Λ Ev (tail (tail (tail (tail fn.body)))) (at_ret Ev Post) $
    sets ! (of_opd ! (get ! refl)) refl (tt, tt) $
    move ! (4 ∷ []) $ fpick ! (λ ps. fpick ! (λ one'. move ! (0 ∷ 3 ∷ 10 ∷ 9 ∷ []) $ group ! 4 $
    use1 𝓛 (some (λ (j : Share). ‵ (flft β j) ⊛ raw (wand 𝓤 (A.lft β j) (Four 𝓛 a τ χ σ ps τq χq σq)))) (lived 𝓛 a τ χ σ ps τq χq σq ρ (within_types τ χ σ P.lives R.lives Q.lives lt lx ls)) $ pick ! (λ v. split ! $
    let l' : Share = Share.left v in let r' : Share = Share.right v in let ll : Share = Share.left l' in let lr : Share = Share.right l' in let rl : Share = Share.left r' in let rr : Share = Share.right r' in
    use1 𝓛 (‵ (flft β l') ⊛ ‵ (flft β r')) (𝓛.lfts.lft_split β v) $ split ! $ use1 𝓛 (‵ (flft β ll) ⊛ ‵ (flft β lr)) (𝓛.lfts.lft_split β l') $ split ! $ move ! (2 ∷ []) $ use1 𝓛 (‵ (flft β rl) ⊛ ‵ (flft β rr)) (𝓛.lfts.lft_split β r') $ split ! $
    -- [four of the claim's; the way back; the value, shared; the arc; the allocator's; nothing; the view's; the key's; nothing]
    let k = triple_of 𝓛 (found.signature T X S Y Ky h dh g d) (found.spec T X S Y Ky h dh g d 𝓛 𝓜.mem 𝓡.returns) in
    let y : k.Ghost = (((β, (β, (β, (β, (ν, (κ, tt)))))), (ll, (lr, (rl, (rr, (νq, (κq, tt)))))), (Incl-refl β, (Incl-refl β, (Incl-refl β, tt))), (record { ref_ptr = (b, e); now = x }, tt), (vptr b e ∷ [], tt)), tt) in
    let more : Lft = X.lives ++ S.lives in let down : Incl β ρ = meet_⊑_right (a ∷ []) ρ in let in_T : Incl β T.lives = Incl-trans down (meet_⊑_left T.lives more) in let in_X : Incl β X.lives = Incl-trans down (Incl-trans (meet_⊑_right T.lives more) (meet_⊑_left X.lives S.lives)) in let in_S : Incl β S.lives = Incl-trans down (Incl-trans (meet_⊑_right T.lives more) (meet_⊑_right X.lives S.lives)) in
    move ! (5 ∷ []) $ feq_i ! (List Val) (vptr b e ∷ []) (vptr b e ∷ []) refl $ fjoin ! $ nothing ! $ move ! (1 ∷ 0 ∷ []) $ fjoin ! $
    use0 𝓛 (raw (emp 𝓤)) (id⊢ 𝓤 (emp 𝓤)) $ use0 𝓛 (raw (shown 𝓤 (κ ⊑ Ky.lives))) (fact_i 𝓤 (κ ⊑ Ky.lives) (emp 𝓤) lk) $ join ! $ use0 𝓛 (raw (shown 𝓤 (ν ⊑ Y.lives))) (fact_i 𝓤 (ν ⊑ Y.lives) (emp 𝓤) ly) $ join ! $ use0 𝓛 (raw (shown 𝓤 (β ⊑ S.lives))) (fact_i 𝓤 (β ⊑ S.lives) (emp 𝓤) in_S) $ join ! $
    use0 𝓛 (raw (shown 𝓤 (β ⊑ X.lives))) (fact_i 𝓤 (β ⊑ X.lives) (emp 𝓤) in_X) $ join ! $ use0 𝓛 (raw (shown 𝓤 (β ⊑ T.lives))) (fact_i 𝓤 (β ⊑ T.lives) (emp 𝓤) in_T) $ join ! $
    move ! (4 ∷ 5 ∷ 2 ∷ 3 ∷ 10 ∷ 11 ∷ 12 ∷ []) $ group ! 7 $ move ! (0 ∷ 2 ∷ []) $ join ! $ join ! $ use1 𝓛 (raw (k.pre y)) (id⊢ 𝓤 _) $
    let ℓ = named_lft 6 0 tt y.0.0 in let V' : RattleType = param 3 Y in let K' : RattleType = param 4 Ky in let Cr : RattleType = claim.the_row ℓ R Q V' K' g in let form = shape (claim.the_type ℓ R Q V' K' g) in let D : RattleType = Pointing form ℓ R in
    let Said : Cr.Denot → Type 0 = λ j. (j.name ≡ (h.finds x).name) × (j.key ≡ (h.finds x).key) × (j.right ≡ 0) × (j.state ≡ None) in let kept = ‵ (flft β ll) ⊛ ‵ (flft β lr) ⊛ ‵ (flft β rl) ⊛ ‵ (flft β rr) ⊛ ‵ (flft ν νq) ⊛ ‵ (flft κ κq) ⊛ ‵ ftrue in
    calls_at ! (fm 𝓛 𝓜 𝓡) k (find-thm.met 𝓤 𝓛 𝓜 𝓡 (code.calls-event_slot::owned::find 𝓡.env wired) T X S Y Ky LT LX LS LY LK h dh g d inside ruled) y (and_then ! (get ! refl) (no_more !)) (λ u.
    use1 𝓛 (later (some (λ (j : Cr.Denot). (kept ⊛ ‵ (Cr.own_val j (u ∷ []))) ⊛ some (λ (_ : Unit {0} × Unit {0}). ‵ (fsep ftrue ftrue) ⊛ raw (shown 𝓤 (Said j)))))) (id⊢ 𝓤 (k.post y u)) $ await ! tt $ pick ! (λ hc. split ! $ split ! $ move ! (2 ∷ []) $ pick ! (λ _. split ! $ drop ! $ heard ! (Said hc) (λ said.
    move ! (1 ∷ []) $ fsplit ! $ peeks ! D (Is D) (shows 𝓛 D) (hc.slot, (tt, tt)) (u ∷ []) (λ is_so. drop ! $ let ev : u ≡ pointing hc.slot = ap only (pointing_told form ℓ R hc.slot (u ∷ []) is_so) in let Held : Fml = claim_owns cw.code hc.name R Q g.counts (g.holds hc.key) β hc.slot hc.right hc.value hc.state in
    use1 𝓛 (given (InBlock hc.slot) (‵ Held)) (fact_use 𝓤 _ (held_placed 𝓛 cw hc.name R Q g.counts (g.holds hc.key) β hc.slot (λ i j t. fsep (right_to R i j t hc.right hc.value) (lies R Q i j t hc.state))) (guard_i 𝓤 (InBlock hc.slot) (sem 𝓛 Held))) $ learn ! (λ inb'.
    lands_as ! ev refl (points hc.slot inb') $
    let sp : Ptr = hc.slot in let good = Ptr-Good sp in let out = out_fine P B f w fine in let Or : RattleType = owned.the_row P R Q B V Kr g f in let ho : Or.Denot = record { slot = sp; arc = lease P B f LP LB 𝓛 de a; of = x; name = hc.name; key = hc.key; right = hc.right; value = hc.value; state = hc.state } in
    sets ! (of_opd ! (get_in ! (fld ! refl (stop !)) (sub ! 0 refl (whole !)))) refl good $ sets ! (of_opd ! (get ! refl)) refl good $ sets ! (of_opd ! (get ! refl)) refl fine $ sets ! (agg ! (and_then ! (get ! refl) (no_more !))) refl out $
    sets ! (agg ! (and_then ! (get ! refl) (and_then ! (get ! refl) (no_more !)))) refl (housing_fine P B f sp (one w) out) $
    -- [the claim; the tokens; the way back; the arc; the allocator's; nothing]
    move ! (1 ∷ []) $ split3 ! $ use2 𝓛 (‵ (flft β l')) (𝓛.lfts.lft_join β l') $ move ! (1 ∷ []) $ split3 ! $ use2 𝓛 (‵ (flft β r')) (𝓛.lfts.lft_join β r') $ move ! (2 ∷ 0 ∷ []) $ use2 𝓛 (‵ (flft β v)) (𝓛.lfts.lft_join β v) $
    move ! (0 ∷ 3 ∷ []) $ use2 𝓛 (‵ (flft (a ∷ []) ps) ⊛ ‵ (flft τ τq) ⊛ ‵ (flft χ χq) ⊛ ‵ (flft σ σq)) (apply∗ 𝓤 (A.lft β v) (Four 𝓛 a τ χ σ ps τq χq σq)) $ split3 ! $ use1 𝓛 (‵ (part 63 a)) (part_in 63 𝓛 a ps one') $
    -- [the part; the arc's value's; the value's and the state's; the view's and the key's; the claim; the arc; the allocator's; nothing]
    move ! (0 ∷ 4 ∷ []) $ fjoin ! $ nothing ! $ fpack ! (x ≡ x) (λ _. ftrue) refl $ fjoin ! $ move ! (4 ∷ []) $ housed_made ! O sp (lease P B f LP LB 𝓛 de a) (one w) $ fjoin ! $ nothing ! $ nothing ! $ fjoin ! $
    move ! (3 ∷ []) $ split ! $ move ! (4 ∷ 0 ∷ 1 ∷ 6 ∷ 5 ∷ []) $ group ! 5 $
    let Told : Type 0 = (x ≡ x) × (hc.name ≡ (h.finds x).name) × (hc.key ≡ (h.finds x).key) × (hc.right ≡ 0) × (hc.state ≡ None) in use0 𝓛 (raw (shown 𝓤 Told)) (fact_i 𝓤 Told (emp 𝓤) (refl, said.0, said.1, said.2, said.3)) $
    returns ! (look_at ! 0 refl) $ free_all ! refl $ keep ! (1 ∷ 2 ∷ 3 ∷ 0 ∷ []) $ by ! (leaves 𝓛 En hs c z (housing sp (one w)) ho (tt, tt) (tt, tt))))))))))))))))))))))
