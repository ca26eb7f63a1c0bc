-- `beside` lends what is beside the right.
use Rattle.event_slot.proofs.Names.{◌≡◌, ℕ, ◌+◌, List, [], ◌∷◌, refl, a_type, named, dcons, dnil, Val, vptr, inst_fn, Coded, SProp, emp, Lft, Fml, ftrue, fsep, flft, fhide, shown, fact_i, tables, ‵, raw, ◌⊛◌, ◌$◌, ◌∵◌, !, qed, by, move, keep, drop, split, join, fsplit, fjoin, use0, use1, feq_i, stop, fld, addr, returns, enter, alloc_all, pass_all, free_all, look_at, through, sets, env, yes, RattleType, owns, types_at, plain, named_lft, Ptr, nothing, unhide, hidden_shr, param, bounded, RefOf, ShrRef, shr_vals, shr_Tells, lent_out, Stays, stay_dropped, walk_of, Goes-dropped, proved, leaves}
use prog.Memory.{up, align}
use denote.Param.{layout}
use denote.Struct.Owning.{shape}
use Rattle.core.specs.contracts.marker.PhantomData as marker
use Rattle.event_slot.specs.Holding.{writing_shares}
use Rattle.event_slot.specs.contracts.tied.Tied as tied
use Rattle.event_slot.proofs.Fields.{Carrying}
use denote.Opens.{hide}
use Rattle.event_slot.specs.contracts.tied.Tied.beside.{ended, clauses}
use Rattle.event_slot.specs.contracts.tied.Tied.beside.Key.{name as #self}
use Rattle.event_slot.proofs.tied.Tied.beside.Statement.{statement}
use Rattle.event_slot.proofs.tied.Tied.beside.Code as code

pub beside_spec : {M : Type 1} → statement M
beside_spec 𝓤 𝓛 𝓜 𝓡 wired X S B' Y Ky L _ _ _ _ g d h d' _ _ =
    let H = 𝓛.H in let 𝓣 = tables 𝓤 H 𝓜 𝓡 𝓡.env in let R : RattleType = param 0 X in let Q : RattleType = param 1 S in let B : RattleType = param 2 B' in let V : RattleType = param 3 Y in let Kr : RattleType = param 4 Ky in let En = ended X S B' Y Ky g d h d' in let c = clauses X S B' Y Ky g d h d' 𝓛 𝓜.mem 𝓡.returns in
    let inst = bounded (a_type ∷ a_type ∷ a_type ∷ a_type ∷ a_type ∷ []) (X, (S, (B', (Y, (Ky, tt))))) (dcons d (dcons d' dnil)) in let fn = inst_fn inst code.function in
    let self = RefOf (0 ∷ []) tt (plain (λ κs. tied.the_row (named_lft 7 1 tt κs) R Q B V Kr g h)) (λ _. tt) in let hs : Stays En.signature.params En.kept = (stay_dropped self yes, tt) in
    proved 𝓛 En hs c 𝓜 𝓡 (Goes-dropped 𝓛 7 self yes (λ κs x f. refl), tt) (#self inst) fn (code.unfolded 𝓤 H 𝓜 𝓡 wired (X, (S, (B', (Y, (Ky, tt))))) d d')
    (λ κs. (shr_vals, tt)) (λ κs. (shr_Tells (named 0) κs.0 (tied.the_row (named_lft 7 1 tt κs) R Q B V Kr g h), tt)) (λ κs qs bounds a gh are.
    let ℓ = named_lft 7 1 tt κs in let Tr : RattleType = tied.the_row ℓ R Q B V Kr g h in let form = shape (tied.the_type ℓ R Q B V Kr g h) in let D : RattleType = Carrying form ℓ R B in let b : ℕ = a.0.ref_ptr.0 in let o : ℕ = a.0.ref_ptr.1 in let κ : Lft = κs.0 in let β : Lft = κs.1.0 in
    let ht : Tr.Denot = a.0.now in let p : Ptr = ht.slot in let x : X.Denot = ht.value in let e : ℕ = o + up (align (layout B')) 8 in
    let y : (walk_of 𝓛 En hs c).Ghost = ((κs, qs, bounds, a, (vptr b o ∷ [], tt)), gh) in let Post : Val → SProp 𝓤 = (walk_of 𝓛 En hs c).post y in let others : Fml = fsep (flft β qs.1.0) (fsep (flft κs.1.1.0 qs.1.1.0) (fsep (flft κs.1.1.1.0 qs.1.1.1.0) (fsep (flft κs.1.1.1.1.0 qs.1.1.1.1.0) (fsep (flft κs.1.1.1.1.1.0 qs.1.1.1.1.1.0) (fsep (flft κs.1.1.1.1.1.1.0 qs.1.1.1.1.1.1.0) ftrue))))) in
    qed 𝓛 (((‵ (flft κ qs.0) ⊛ ‵ others) ⊛ ‵ (owns (types_at En.signature.params κs) a y.0.4)) ∷ raw ((c κs a).requires gh) ∷ []) ∵ split ! $ split ! $ move ! (2 ∷ []) $ fsplit ! $ fsplit ! $ keep ! (1 ∷ 3 ∷ 4 ∷ []) $
    enter ! 𝓣.C 𝓣.Λ fn (vptr b o ∷ []) Post $ alloc_all ! (λ l. pass_all ! refl ((tt, tt), tt) $ let Ev = env fn.locals l in
    use1 𝓛 (‵ (hidden_shr D κ (p, (tt, (ht.beside, tt))) b o) ⊛ ‵ (fhide (writing_shares β R p x κ))) (lent_out 𝓛 (tied.struct ℓ R Q B V Kr g h) (tied.the_codes X.Denot S.Denot B'.Denot Y.Denot Ky.Denot R.coded Q.coded B.coded V.coded Kr.coded (marker.the_row (ShrRef ℓ.mir ℓ.lft R)).coded) (tied.the_heap β R Q B V Kr g h) (tied.the_lent β R Q B V Kr g h) κ ht b o) $
    split ! $ move ! (1 ∷ []) $ drop ! $ unhide ! $ fsplit ! $ move ! (1 ∷ []) $ drop ! $ fsplit ! $ drop ! $ fsplit ! $ drop ! $ fsplit ! $ move ! (1 ∷ []) $ drop ! $ hide ! $
    -- [what is beside, lent; the token; the other tokens]
    move ! (1 ∷ 2 ∷ []) $ join ! $ move ! (1 ∷ []) $ feq_i ! (List Val) (vptr b e ∷ []) (vptr b e ∷ []) refl $ fjoin ! $ use0 𝓛 (raw (shown 𝓤 (ht.beside ≡ ht.beside))) (fact_i 𝓤 (ht.beside ≡ ht.beside) (emp 𝓤) refl) $ nothing ! $ nothing ! $ fjoin ! $
    sets ! (addr ! (through ! refl (fld ! refl (stop !)))) refl (tt, tt) $
    returns ! (look_at ! 0 refl) $ free_all ! refl $ keep ! (3 ∷ 0 ∷ 2 ∷ 1 ∷ []) $ by ! (leaves 𝓛 En hs c y (vptr b e) (record { ref_ptr = (b, e); now = ht.beside }) (tt, tt) (tt, tt))))
