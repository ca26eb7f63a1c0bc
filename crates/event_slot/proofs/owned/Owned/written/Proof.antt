-- `written` lends what its writer finds.
use Rattle.event_slot.proofs.Names.{◌≡◌, ℕ, ◌+◌, List, [], ◌∷◌, ◌++◌, sym, refl, ap, ◌∙◌, Option, Some, None, a_type, named, dcons, dnil, Val, vptr, inst_fn, SProp, emp, Lft, Incl, Incl-trans, Fml, ftrue, fsep, flft, fhide, ◌⊑◌, ⊑_meet, shown, fact_i, tables, ‵, raw, ◌⊛◌, some, given, at_ret, ◌$◌, ◌∵◌, !, qed, by, move, keep, drop, split, join, fsplit, fjoin, pick, learn, heard, use0, use1, rewrite, feq_i, stop, fld, hop, addr, of_opd, first, blocks, exec, returns, enter, alloc_all, pass_all, free_all, look_at, get, through, sets, sets_last, env, yes, RattleType, owns, types_at, plain, Ptr, InBlock, block_ptr, ptr_val, block_of, count_of, at_block, nothing, peeks, looks, shuts, unhide, Is, shows, cell_at, hidden_shr, param, param_laws, bounded, RefOf, shr_vals, shr_Tells, lent_out, Stays, stay_dropped, walk_of, Goes-dropped, tail, proved, leaves}
use types.Run.{look}
use denote.Opens.{hide}
use denote.Copied.{plain_Copied}
use denote.RawPtr.{RawPtr, coded_ptr, ptr_own, rawptr_pure}
use denote.Struct.Laws.{RawPtr-laws}
use denote.Struct.Owning.{shape}
use denote.Struct.Struct.{Struct}
use mir.Syntax.{ty_ptr}
use Rattle.event_slot.specs.Holding.{place}
use Rattle.event_slot.specs.Owning.{owned_shares}
use Rattle.event_slot.specs.contracts.leased.Leased as leased
use Rattle.event_slot.specs.contracts.owned.Owned as owned
use Rattle.event_slot.proofs.Owning.{writer_sees_it}
use Rattle.event_slot.specs.contracts.owned.Owned.written.{ended, clauses}
use Rattle.event_slot.specs.contracts.owned.Owned.written.Key.{name as #self}
use Rattle.event_slot.proofs.owned.Owned.written.Statement.{statement}
use Rattle.event_slot.proofs.owned.Owned.written.Code as code

pub written_spec : {M : Type 1} → statement M
written_spec 𝓤 𝓛 𝓜 𝓡 wired T X S A Y Ky _ LX _ _ _ _ g d f d' dd _ _ _ =
    let H = 𝓛.H in let 𝓣 = tables 𝓤 H 𝓜 𝓡 𝓡.env in let P : RattleType = param 0 T in let R : RattleType = param 1 X in let Q : RattleType = param 2 S in let B : RattleType = param 3 A in let V : RattleType = param 4 Y in let Kr : RattleType = param 5 Ky in let LR = param_laws 1 X LX in
    let En = ended T X S A Y Ky g d f d' dd in let c = clauses T X S A Y Ky g d f d' dd 𝓛 𝓜.mem 𝓡.returns in let Or : RattleType = owned.the_row P R Q B V Kr g f in
    let inst = bounded (a_type ∷ a_type ∷ a_type ∷ a_type ∷ a_type ∷ a_type ∷ []) (T, (X, (S, (A, (Y, (Ky, tt)))))) (dcons d (dcons d' (dcons dd dnil))) in let fn = inst_fn inst code.function in
    let self = RefOf (0 ∷ []) tt (plain (λ _. Or)) (λ _. tt) in let hs : Stays En.signature.params En.kept = (stay_dropped self yes, tt) in
    proved 𝓛 En hs c 𝓜 𝓡 (Goes-dropped 𝓛 7 self yes (λ κs x e. refl), tt) (#self inst) fn (code.unfolded 𝓤 H 𝓜 𝓡 wired (T, (X, (S, (A, (Y, (Ky, tt)))))) d d' dd)
    (λ κs. (shr_vals, tt)) (λ κs. (shr_Tells (named 0) κs.0 Or, tt)) (λ κs qs bounds a gh are.
    let D : RattleType = Struct (shape (owned.the_type P R Q B V Kr g f)) in let b : ℕ = a.0.ref_ptr.0 in let o : ℕ = a.0.ref_ptr.1 in let κ : Lft = κs.0 in let τ : Lft = κs.1.0 in let χ : Lft = κs.1.1.0 in let σ : Lft = κs.1.1.1.0 in let ρ : Lft = T.lives ++ (X.lives ++ S.lives) in
    let ho : Or.Denot = a.0.now in let p : Ptr = ho.slot in let v : Option X.Denot = ho.value in let i : ℕ = ho.arc.life in let pb : ℕ = block_of p in let po : ℕ = count_of p in let e : ℕ = place R pb po in let May : Type 0 = (ho.right ≡ 2) × (ho.state ≡ None) in
    let y : (walk_of 𝓛 En hs c).Ghost = ((κs, qs, bounds, a, (vptr b o ∷ [], tt)), gh) in let Post : Val → SProp 𝓤 = (walk_of 𝓛 En hs c).post y in
    let others : Fml = fsep (flft τ qs.1.0) (fsep (flft χ qs.1.1.0) (fsep (flft σ qs.1.1.1.0) (fsep (flft κs.1.1.1.1.0 qs.1.1.1.1.0) (fsep (flft κs.1.1.1.1.1.0 qs.1.1.1.1.1.0) (fsep (flft κs.1.1.1.1.1.1.0 qs.1.1.1.1.1.1.0) ftrue))))) in
    qed 𝓛 (((‵ (flft κ qs.0) ⊛ ‵ others) ⊛ ‵ (owns (types_at En.signature.params κs) a y.0.4)) ∷ raw (shown 𝓤 (τ ⊑ T.lives)) ∷ raw (shown 𝓤 (χ ⊑ X.lives)) ∷ raw (shown 𝓤 (σ ⊑ S.lives)) ∷ raw (shown 𝓤 _) ∷ raw (shown 𝓤 _) ∷ raw (shown 𝓤 _) ∷ raw (shown 𝓤 May) ∷ []) ∵
    keep ! (7 ∷ 1 ∷ 2 ∷ 3 ∷ 0 ∷ []) $ heard ! May (λ may. heard ! (τ ⊑ T.lives) (λ lt. heard ! (χ ⊑ X.lives) (λ lx. heard ! (σ ⊑ S.lives) (λ ls. split ! $ split ! $ move ! (2 ∷ []) $ fsplit ! $ fsplit ! $ keep ! (1 ∷ 3 ∷ 4 ∷ []) $
    let inc : Incl κ ρ = ⊑_meet κ T.lives (X.lives ++ S.lives) (Incl-trans bounds.0 lt) (⊑_meet κ X.lives S.lives (Incl-trans bounds.1.0 lx) (Incl-trans bounds.1.1.0 ls)) in
    enter ! 𝓣.C 𝓣.Λ fn (vptr b o ∷ []) Post $ alloc_all ! (λ l. pass_all ! refl ((tt, tt), tt) $ let Ev = env fn.locals l in
    use1 𝓛 (‵ (hidden_shr D κ (p, (ho.arc, tt)) b o) ⊛ ‵ (fhide (owned_shares R ρ i p ho.right v ho.state κ)))
    (lent_out 𝓛 (owned.struct P R Q B V Kr g f) (owned.the_codes T.Denot X.Denot S.Denot A.Denot Y.Denot Ky.Denot P.coded R.coded Q.coded B.coded V.coded Kr.coded (leased.the_row P B f).coded) (owned.the_heap P R Q B V Kr g f) (owned.the_lent P R Q B V Kr g f) κ ho b o) $
    split ! $ move ! (1 ∷ []) $ unhide ! $ rewrite ! 0 (λ (k : ℕ × Option S.Denot). ‵ (owned_shares R ρ i p k.0 v k.1 κ)) (λ j. (may.0 j, may.1 j)) refl $
    use1 𝓛 (some (λ (x : X.Denot). given (InBlock p × (v ≡ Some x)) (‵ (hidden_shr R κ x pb e)))) (writer_sees_it 𝓛 S.Denot R LR.shr_laws ρ i κ inc p v) $ pick ! (λ x. learn ! (λ so. let at : p ≡ block_ptr pb po = at_block p so.0 in
    -- [the value, lent; the bytes; the token; the other tokens]. Of the bytes the pointer is read
    move ! (1 ∷ []) $ unhide ! $ fsplit ! $ move ! (1 ∷ []) $ drop ! $ fsplit ! $ move ! (1 ∷ []) $ drop ! $ hide ! $ move ! (0 ∷ 2 ∷ []) $
    looks ! tt RawPtr (plain_Copied 𝓛 Ptr coded_ptr (ty_ptr ∷ []) ptr_own rawptr_pure ptr_val RawPtr-laws.tells).opens p b (o + 0) (λ q vs. move ! (1 ∷ []) $ peeks ! RawPtr (Is RawPtr) (shows 𝓛 RawPtr) p vs (λ is_so. let ev : vs ≡ vptr pb po ∷ [] = is_so ∙ ap (λ (r : Ptr). ptr_val r ∷ []) at in
    rewrite ! 1 (λ (ws : List Val). ‵ (cell_at q RawPtr.mir ws b (o + 0))) ev refl $ first ! $ blocks ! $
    sets_last ! (addr ! (through ! refl (fld ! refl (hop ! (look ! 1 refl) (fld ! refl (stop !)))))) refl (tt, tt) $ exec ! 𝓣.C 𝓣.Λ Ev (tail fn.body) (at_ret Ev Post) $ sets ! (of_opd ! (get ! refl)) refl (tt, tt) $
    rewrite ! 1 (λ (ws : List Val). ‵ (cell_at q RawPtr.mir ws b (o + 0))) (sym ev) refl $ move ! (1 ∷ 0 ∷ 2 ∷ []) $ shuts ! tt RawPtr q p vs b (o + 0) $ move ! (0 ∷ 3 ∷ []) $ join ! $
    move ! (2 ∷ []) $ feq_i ! (List Val) (vptr pb e ∷ []) (vptr pb e ∷ []) refl $ fjoin ! $ use0 𝓛 (raw (shown 𝓤 (Some x ≡ v))) (fact_i 𝓤 (Some x ≡ v) (emp 𝓤) (sym so.1)) $ nothing ! $ nothing ! $ fjoin ! $
    returns ! (look_at ! 0 refl) $ free_all ! refl $ keep ! (3 ∷ 0 ∷ 2 ∷ 1 ∷ []) $ by ! (leaves 𝓛 En hs c y (vptr pb e) (record { ref_ptr = (pb, e); now = x }) (tt, tt) (tt, tt))))))))))))
