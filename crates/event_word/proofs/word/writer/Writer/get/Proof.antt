-- `get` lends what a `&` to it shows.
use Rattle.event_slot.proofs.Names.{◌≡◌, ℕ, ◌+◌, List, [], ◌∷◌, ◌++◌, sym, refl, ap, ◌∙◌, a_type, named, dcons, dnil, Val, vptr, inst_fn, SProp, emp, guard_i, sem, Lft, Incl-refl, Fml, ftrue, fsep, flft, fhide, ⊑_meet, shown, fact_i, fact_use, tables, ‵, raw, ◌⊛◌, given, at_ret, ◌$◌, ◌∵◌, !, qed, by, move, keep, drop, split, join, fsplit, fjoin, learn, use0, use1, rewrite, feq_i, stop, fld, hop, addr, of_opd, first, blocks, exec, returns, enter, alloc_all, pass_all, free_all, look_at, get, through, sets, sets_last, env, yes, RattleType, owns, types_at, plain, named_lft, Ptr, InBlock, block_ptr, ptr_val, block_of, count_of, at_block, nothing, peeks, looks, shuts, unhide, Is, shows, cell_at, hidden_shr, shared_of, param, param_laws, bounded, RefOf, ShrRef, shr_vals, shr_Tells, shortens, lent_out, Stays, stay_dropped, walk_of, Goes-dropped, tail, proved, leaves}
use types.Run.{look}
use denote.Struct.Owning.{shape}
use Rattle.core.specs.contracts.marker.PhantomData as marker
use Rattle.event_slot.specs.Holding.{place, inner_shares}
use Rattle.event_word.specs.contracts.word.writer.Writer as owner
use Rattle.event_slot.specs.contracts.exclusive.Exclusive as exclusive
use Rattle.event_word.proofs.Placing.{Row}
use Rattle.event_slot.proofs.Fields.{Carrying, inner_sees}
use denote.Opens.{hide}
use denote.Copied.{plain_Copied}
use denote.Struct.Laws.{RawPtr-laws}
use denote.RawPtr.{RawPtr, coded_ptr, ptr_own, rawptr_pure}
use mir.Syntax.{ty_ptr}
use Rattle.event_word.specs.contracts.word.writer.Writer.get.{ended, clauses}
use Rattle.event_word.specs.contracts.word.writer.Writer.get.Key.{name as #self}
use Rattle.event_word.proofs.word.writer.Writer.get.Statement.{statement}
use Rattle.event_word.proofs.word.writer.Writer.get.Code as code

pub get_spec : {M : Type 1} → statement M
get_spec 𝓤 𝓛 𝓜 𝓡 wired X S B' L _ _ k d h d' _ _ =
    let H = 𝓛.H in let 𝓣 = tables 𝓤 H 𝓜 𝓡 𝓡.env in let R₀ : RattleType = param 0 X in let Q : RattleType = param 1 S in let B : RattleType = param 2 B' in let R : RattleType = Row R₀ in let En = ended X S B' k d h d' in let c = clauses X S B' k d h d' 𝓛 𝓜.mem 𝓡.returns in let LR = param_laws 0 X L in
    let inst = bounded (a_type ∷ a_type ∷ a_type ∷ []) (X, (S, (B', tt))) (dcons d (dcons d' dnil)) in let fn = inst_fn inst code.function in
    let self = RefOf (0 ∷ []) tt (plain (λ κs. owner.the_row (named_lft 5 1 tt κs) R₀ Q B k h)) (λ _. tt) in let hs : Stays En.signature.params En.kept = (stay_dropped self yes, tt) in
    proved 𝓛 En hs c 𝓜 𝓡 (Goes-dropped 𝓛 5 self yes (λ κs x f. refl), tt) (#self inst) fn (code.unfolded 𝓤 H 𝓜 𝓡 wired (X, (S, (B', tt))) d d')
    (λ κs. (shr_vals, tt)) (λ κs. (shr_Tells (named 0) κs.0 (owner.the_row (named_lft 5 1 tt κs) R₀ Q B k h), tt)) (λ κs qs bounds a gh are.
    let ℓ = named_lft 5 1 tt κs in let Tr : RattleType = owner.the_row ℓ R₀ Q B k h in let form = shape (owner.the_type ℓ R₀ Q B k h) in let D : RattleType = Carrying form ℓ R B in let b : ℕ = a.0.ref_ptr.0 in let o : ℕ = a.0.ref_ptr.1 in let κ : Lft = κs.0 in let β : Lft = κs.1.0 in
    let ht : Tr.Denot = a.0.now in let p : Ptr = ht.slot in let x : X.Denot = ht.value in let pb : ℕ = block_of p in let po : ℕ = count_of p in let e : ℕ = place R pb po in
    let y : (walk_of 𝓛 En hs c).Ghost = ((κs, qs, bounds, a, (vptr b o ∷ [], tt)), gh) in let Post : Val → SProp 𝓤 = (walk_of 𝓛 En hs c).post y in let others : Fml = fsep (flft β qs.1.0) (fsep (flft κs.1.1.0 qs.1.1.0) (fsep (flft κs.1.1.1.0 qs.1.1.1.0) (fsep (flft κs.1.1.1.1.0 qs.1.1.1.1.0) ftrue))) in
    qed 𝓛 (((‵ (flft κ qs.0) ⊛ ‵ others) ⊛ ‵ (owns (types_at En.signature.params κs) a y.0.4)) ∷ raw ((c κs a).requires gh) ∷ []) ∵ split ! $ split ! $ move ! (2 ∷ []) $ fsplit ! $ fsplit ! $ keep ! (1 ∷ 3 ∷ 4 ∷ []) $
    enter ! 𝓣.C 𝓣.Λ fn (vptr b o ∷ []) Post $ alloc_all ! (λ l. pass_all ! refl ((tt, tt), tt) $ let Ev = env fn.locals l in
    use1 𝓛 (‵ (hidden_shr D κ (p, (tt, (ht.beside, tt))) b o) ⊛ ‵ (fhide (inner_shares β R R₀ p x κ))) (lent_out 𝓛 (owner.struct ℓ R₀ Q B k h) (owner.the_codes X.Denot S.Denot B'.Denot R₀.coded Q.coded B.coded (marker.the_row (ShrRef ℓ.mir ℓ.lft R)).coded R.coded (exclusive.the_row R₀).coded) (owner.the_heap β R₀ Q B k h) (owner.the_lent β R₀ Q B k h) κ ht b o) $
    split ! $ move ! (1 ∷ []) $ unhide ! $ use1 𝓛 (given (InBlock p) (‵ (inner_shares β R R₀ p x κ))) (fact_use 𝓤 _ (inner_sees 𝓛 β R R₀ p x κ) (guard_i 𝓤 (InBlock p) (sem 𝓛 (inner_shares β R R₀ p x κ)))) $ learn ! (λ inb. let at : p ≡ block_ptr pb po = at_block p inb in
    rewrite ! 0 (λ (z : Ptr). ‵ (inner_shares β R R₀ z x κ)) at refl $ use1 𝓛 (‵ (hidden_shr R₀ κ x pb e)) (shortens 𝓛 (shared_of R₀ x pb e) (LR.shr_laws x pb e) (κ ++ β) κ (⊑_meet κ κ β (Incl-refl κ) bounds.0)) $
    -- [the value, lent; the bytes; the token; the other tokens]. Of the bytes the pointer is read
    move ! (1 ∷ []) $ unhide ! $ fsplit ! $ move ! (1 ∷ []) $ drop ! $ fsplit ! $ move ! (1 ∷ []) $ drop ! $ hide ! $ move ! (0 ∷ 2 ∷ []) $
    looks ! tt RawPtr (plain_Copied 𝓛 Ptr coded_ptr (ty_ptr ∷ []) ptr_own rawptr_pure ptr_val RawPtr-laws.tells).opens p b (o + 0) (λ q vs. move ! (1 ∷ []) $ peeks ! RawPtr (Is RawPtr) (shows 𝓛 RawPtr) p vs (λ is_so. let ev : vs ≡ vptr pb po ∷ [] = is_so ∙ ap (λ (r : Ptr). ptr_val r ∷ []) at in
    rewrite ! 1 (λ (ws : List Val). ‵ (cell_at q RawPtr.mir ws b (o + 0))) ev refl $ first ! $ blocks ! $
    sets ! (addr ! (through ! refl (fld ! refl (hop ! (look ! 1 refl) (fld ! refl (stop !)))))) refl (tt, tt) $ sets_last ! (addr ! (through ! refl (stop !))) refl (tt, tt) $ exec ! 𝓣.C 𝓣.Λ Ev (tail fn.body) (at_ret Ev Post) $ sets ! (of_opd ! (get ! refl)) refl (tt, tt) $
    rewrite ! 1 (λ (ws : List Val). ‵ (cell_at q RawPtr.mir ws b (o + 0))) (sym ev) refl $ move ! (1 ∷ 0 ∷ 2 ∷ []) $ shuts ! tt RawPtr q p vs b (o + 0) $ move ! (0 ∷ 3 ∷ []) $ join ! $
    move ! (2 ∷ []) $ feq_i ! (List Val) (vptr pb e ∷ []) (vptr pb e ∷ []) refl $ fjoin ! $ use0 𝓛 (raw (shown 𝓤 (x ≡ x))) (fact_i 𝓤 (x ≡ x) (emp 𝓤) refl) $ nothing ! $ nothing ! $ fjoin ! $
    returns ! (look_at ! 0 refl) $ free_all ! refl $ keep ! (3 ∷ 0 ∷ 2 ∷ 1 ∷ []) $ by ! (leaves 𝓛 En hs c y (vptr pb e) (record { ref_ptr = (pb, e); now = x }) (tt, tt) (tt, tt)))))))
