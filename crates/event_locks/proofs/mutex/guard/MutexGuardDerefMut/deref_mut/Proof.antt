-- `deref_mut` lends the writer inside, and calls the writer's `get_mut`. The guard follows the writer, which follows the result.
use mathlib.Core.Path.{◌≡◌, refl, ap, ◌∙◌}
use mathlib.Core.List.{List, [], ◌∷◌}
use Prim.Native.Nat.{ℕ}
use mir.Syntax.{a_type, named, dcons, dnil}
use mir.Raw.{raw as bare}
use mir.Val.{Val, vptr}
use mir.MapTy.{inst_fn}
use prog.Memory.{align}
use base.Logic.{SProp, emp, id⊢}
use base.Fml.{Lft, GName, Share, Fml, ftrue, fsep, flft}
use base.Fraction.{full_share}
use base.Share
use contract.BorrowLft.{◌⊑◌, ⊑_refl, ⊑_trans, ⊑_static}
use contract.Monad.{fact as shown, fact_i}
use contract.Running.{tables}
use types.Logic.{sem}
use types.Kit.{‵, raw, ◌⊛◌, some, later, ◌$◌, ◌∵◌, !, qed, by, move, keep, drop, split, split3, join, fsplit, fsplit3, fjoin, fjoin3, feq_l, feq_i, pick, use0, use1, use2, use3, await}
use types.Run.{stop, fld, addr, no_more, and_then, returns, enter}
use types.ByLocal.{alloc_all, pass_all, free_all, look_at, get, through, sets, lands_as, is}
use denote.Exit.{no}
use denote.RattleType.{RattleType, owns}
use denote.Signature.{types_at, plain, named_lft}
use denote.Builtin.{RefMutOf}
use denote.Laws.{Lawful}
use denote.Memory.{part_of, part_at, lone}
use denote.MutBor.{MutBor}
use denote.Param.{bounded, layout, param, arg}
use denote.Param.Laws.{Laws, param_laws, arg_laws}
use denote.Struct.Members.{Member}
use denote.Struct.CellSteps.{first_at}
use denote.Ref.{NamedLft, MutRef, mut_vals, mut_Tells}
use denote.Follow.{follows, follows_then}
use denote.Steps.{nothing, heard, only}
use denote.Triple.Call.{calls_at}
use denote.Triple.Spec.{triple_of}
use denote.Triple.Table.{framed}
use denote.Triple.Walked.{Stays, stay_dropped, walk_of, Goes-spent_ref}
use Rattle.std.proofs.raw_atomic.Walks.{proved, leaves}
use Rattle.event_word.specs.Writer.{writer_with}
use Rattle.event_word.specs.declared.word.kept.Kept.{Ghosts as Keeping}
use Rattle.event_slot.specs.declared.tied.Ties.{Ghosts as Tying}
use Rattle.event_word.specs.contracts.competing.Competing as competing
use Rattle.event_word.specs.contracts.competing.OneValue as one_value
use Rattle.event_word.specs.contracts.competing.CompetingKept.TheImpl as keeping
use Rattle.event_word.specs.contracts.competing.OneValueCounted.TheImpl as counting
use Rattle.event_word.specs.contracts.word.writer.Writer as writer
use Rattle.event_word.specs.contracts.word.writer.Writer.get_mut as called
use Rattle.event_word.proofs.competing.Competing.TheLaws.{the_row_laws as competing_laws}
use Rattle.event_word.proofs.competing.OneValue.TheLaws.{the_row_laws as one_value_laws}
use Rattle.event_word.proofs.competing.CompetingKept.TheImpl.Met as keeping-thm
use Rattle.event_word.proofs.competing.OneValueCounted.TheImpl.Met as counting-thm
use Rattle.event_word.proofs.word.writer.Writer.TheLaws.{the_row_laws as writer_laws}
use Rattle.event_word.proofs.word.writer.Writer.get_mut.Met as called-thm
use Rattle.event_locks.specs.contracts.lending.Lending as lending
use Rattle.event_locks.specs.contracts.mutex.Mutex as mutex
use Rattle.event_locks.specs.contracts.mutex.MutexSlot as slot
use Rattle.event_locks.specs.contracts.mutex.guard.LendingMutexTies.TheImpl as tying
use Rattle.event_locks.specs.contracts.mutex.guard.MutexGuard as guard
use Rattle.event_locks.specs.contracts.mutex.guard.MutexGuard.TheInside as inside
use Rattle.event_locks.specs.declared.mutex.guard.MutexGuard as declared
use Rattle.event_locks.specs.declared.mutex.guard.MutexGuard.TheView as viewed
use Rattle.event_locks.proofs.lending.Lending.TheLaws as lending_laws
use Rattle.event_locks.proofs.mutex.Mutex.TheLaws as mutex_laws
use Rattle.event_locks.proofs.mutex.MutexSlot.TheLaws.{the_row_laws as slot_laws}
use Rattle.event_locks.proofs.OneField.{Alone, lends}
use Rattle.event_locks.specs.contracts.mutex.guard.MutexGuardDerefMut.deref_mut.{ended, clauses}
use Rattle.event_locks.specs.contracts.mutex.guard.MutexGuardDerefMut.deref_mut.Key.{name as #self}
use Rattle.event_locks.proofs.mutex.guard.MutexGuardDerefMut.deref_mut.Statement.{statement}
use Rattle.event_locks.proofs.mutex.guard.MutexGuardDerefMut.deref_mut.Code as code

-- a type as it is passed for a parameter
abbrev passed : RattleType → RattleType
passed R = arg (bare (layout R)) no R

-- the queue of a mutex, and what it keeps
abbrev Slot : RattleType
Slot = one_value.the_row slot.the_row

abbrev Line : RattleType
Line = competing.the_row Slot

abbrev keeps : Keeping Line.Denot
keeps = keeping.ghosts Slot (counting.ghosts slot.the_row) keeping.no_dict

-- The guard in memory is its writer.
module _ (a : NamedLft) (P Q : RattleType) where
  abbrev Hold : RattleType
  Hold = lending.the_row a (mutex.the_row P) Q

  abbrev Hd : RattleType
  Hd = writer.the_row a P Line Hold keeps (tying.ghosts P Q)

  abbrev me : Member
  me = record { row = Hd; ty = lone Hd.mir }

  abbrev I : RattleType
  I = inside.the_row a P Q

  lies : Alone me I (λ d. d.writer) (λ h. record { writer = h })
  unfolding part_of
  lies = record { eta = λ d. refl; bare = λ {M} {𝓤} 𝓛 d b o. id⊢ 𝓤 (sem 𝓛 (part_at I full_share d b o)); laid = λ {M} {𝓤} 𝓛 h b o. id⊢ 𝓤 (sem 𝓛 (part_at I full_share (record { writer = h }) b o)) }

pub deref_mut_spec : {M : Type 1} → statement M
deref_mut_spec {M} 𝓤 𝓛 𝓜 𝓡 wired X Y LX LY gw dw gc dc mw mc =
    let H = 𝓛.H in let 𝓣 = tables 𝓤 H 𝓜 𝓡 𝓡.env in let P : RattleType = param 0 X in let Q : RattleType = param 1 Y in let En = ended X Y gw dw gc dc in let c = clauses X Y gw dw gc dc 𝓛 𝓜.mem 𝓡.returns in
    let inst = bounded (a_type ∷ a_type ∷ []) (X, (Y, tt)) (dcons dw (dcons dc dnil)) in let fn = inst_fn inst code.function in
    let row = plain (λ κs. guard.the_row (named_lft 4 1 tt κs) P Q) in let hs : Stays En.signature.params En.kept = (stay_dropped (RefMutOf (0 ∷ []) tt row (λ _. tt)) no, tt) in
    proved 𝓛 En hs c 𝓜 𝓡 (Goes-spent_ref 𝓛 4 (0 ∷ []) tt row, tt) (#self inst) fn (code.unfolded 𝓤 H 𝓜 𝓡 wired (X, (Y, tt)) dw dc)
    (λ κs. (mut_vals, tt)) (λ κs. (mut_Tells (named 0) κs.0 (guard.the_row (named_lft 4 1 tt κs) P Q), tt)) (λ κs qs bounds a gh are.
    let ℓ = named_lft 4 1 tt κs in let Gr : RattleType = guard.the_row ℓ P Q in let hd : RattleType = Hd ℓ P Q in let x = a.0 in let b : ℕ = x.ref_ptr.0 in let o : ℕ = x.ref_ptr.1 in
    let κ : Lft = κs.0 in let q : Share = qs.0 in let α : Lft = κs.1.0 in let αq : Share = qs.1.0 in let τ : Lft = κs.1.1.0 in let τq : Share = qs.1.1.0 in let ρ : Lft = κs.1.1.1.0 in let ρq : Share = qs.1.1.1.0 in
    let y : (walk_of 𝓛 En hs c).Ghost = ((κs, qs, bounds, a, (vptr b o ∷ [], tt)), gh) in let Post : Val → SProp 𝓤 = (walk_of 𝓛 En hs c).post y in let others : Fml = fsep (flft α αq) (fsep (flft τ τq) (fsep (flft ρ ρq) ftrue)) in
    qed 𝓛 (((‵ (flft κ q) ⊛ ‵ others) ⊛ ‵ (owns (types_at En.signature.params κs) a y.0.4)) ∷ (raw (shown 𝓤 (τ ⊑ X.lives)) ⊛ raw (shown 𝓤 (ρ ⊑ Y.lives)) ⊛ raw (emp 𝓤)) ∷ []) ∵
    move ! (1 ∷ []) $ split3 ! $ heard ! (τ ⊑ X.lives) (λ lx. heard ! (ρ ⊑ Y.lives) (λ ly. drop ! $
    split ! $ split ! $ move ! (2 ∷ []) $ fsplit ! $ fsplit3 ! $ keep ! (1 ∷ 2 ∷ 4 ∷ 5 ∷ []) $
    enter ! 𝓣.C 𝓣.Λ fn (vptr b o ∷ []) Post $ alloc_all ! (λ l. pass_all ! refl ((tt, tt), tt) $
    -- [the guard, in two parts; the reference's token; the other tokens]
    let LP : Laws P = param_laws 0 X LX in let LQ : Laws Q = param_laws 1 Y LY in let LS : Laws Slot = one_value_laws slot.the_row slot_laws in let LN : Laws Line = competing_laws Slot LS in
    let LB : Laws (Hold ℓ P Q) = lending_laws.the_row_laws ℓ (mutex.the_row P) Q (mutex_laws.the_row_laws P LP) LQ in let Lh : Lawful 𝓛 hd = (writer_laws ℓ P Line (Hold ℓ P Q) keeps (tying.ghosts P Q) LP LN LB).lawful 𝓛 in
    let F : hd.Denot → X.Denot = λ h. h.value in let Out : Type 0 = (h : hd.Denot) × (h.value ≡ x.now) in
    use3 𝓛 (later (some (λ (h : Out). some (λ (δ : GName). ‵ ((MutRef (named 0) κ hd).own_val (record { ref_ptr = (b, o); ghost_name = δ; now = h.0 }) (vptr b o ∷ [])) ⊛ ‵ (flft κ q) ⊛ ‵ (follows Gr hd x.ghost_name δ F)))))
    (lends (me ℓ P Q) (I ℓ P Q) (lies ℓ P Q) (declared.MutexGuard X.Denot Y.Denot) (declared.the_code X.Denot Y.Denot P.coded Q.coded) (viewed.view X.Denot Y.Denot) (viewed.invariant X.Denot Y.Denot) (λ h. tt) 𝓛 Lh b o (named 0) κ q x.ghost_name x.now) $ await ! tt $ pick ! (λ h. pick ! (λ δ. split3 ! $
    sets ! (is ! (addr ! (through ! refl (fld ! refl (stop !)))) (ap (vptr b) (first_at (align (lone hd.mir)) o))) refl (tt, tt) $
    -- [the writer's reference; its token; what the guard follows; the other tokens]
    let S' : RattleType = passed Line in let B' : RattleType = passed (Hold ℓ P Q) in let LS' : Laws S' = arg_laws (bare (layout Line)) no Line LN refl in let LB' : Laws B' = arg_laws (bare (layout (Hold ℓ P Q))) no (Hold ℓ P Q) LB refl in
    let O' : RattleType = passed Slot in let M' : RattleType = passed slot.the_row in let LO' : Laws O' = arg_laws (bare (layout Slot)) no Slot LS refl in let LM' : Laws M' = arg_laws (bare (layout slot.the_row)) no slot.the_row slot_laws refl in
    let g' = keeping.ghosts O' (counting.ghosts M') (counting.dict M') in let d' = keeping.dict O' (counting.ghosts M') (counting.dict M') in
    let X' : RattleType = arg (layout X) no P in let Y' : RattleType = arg (layout Y) no Q in let h' = tying.ghosts X' Y' in let e' = tying.dict X' Y' in
    let in_X : κ ⊑ X.lives = ⊑_trans κ τ X.lives bounds.1.0 lx in let in_Y : κ ⊑ Y.lives = ⊑_trans κ ρ Y.lives bounds.1.1.0 ly in
    let in_B : κ ⊑ B'.lives = lending_laws.the_within ℓ (mutex.the_row P) Q κ bounds.0 (mutex_laws.the_within P κ in_X) in_Y in let in_S : α ⊑ S'.lives = ⊑_static α in
    let αl : Share = Share.left αq in let αr : Share = Share.right αq in let ql : Share = Share.left q in let qr : Share = Share.right q in
    let k = triple_of 𝓛 (called.signature X S' B' g' d' h' e') (called.spec X S' B' g' d' h' e' 𝓛 𝓜.mem 𝓡.returns) in
    let z : k.Ghost = (((κ, (α, (τ, (α, (κ, tt))))), (ql, (αl, (τq, (αr, (qr, tt))))), (bounds.0, (bounds.1.0, (bounds.0, (⊑_refl κ, (bounds.1.1.1.0, tt))))), (record { ref_ptr = (b, o); ghost_name = δ; now = h.0 }, tt), (vptr b o ∷ [], tt)), tt) in
    move ! (3 ∷ []) $ fsplit3 ! $ use1 𝓛 (‵ (flft α αl) ⊛ ‵ (flft α αr)) (𝓛.lfts.lft_split α αq) $ split ! $ move ! (5 ∷ []) $ use1 𝓛 (‵ (flft κ ql) ⊛ ‵ (flft κ qr)) (𝓛.lfts.lft_split κ q) $ split ! $
    -- [both halves of the reference's; both of the lock's; the value's; the other token; the writer's reference; what the guard follows]
    use0 𝓛 (raw (emp 𝓤)) (id⊢ 𝓤 (emp 𝓤)) $ use0 𝓛 (raw (shown 𝓤 (κ ⊑ B'.lives))) (fact_i 𝓤 (κ ⊑ B'.lives) (emp 𝓤) in_B) $ join ! $ use0 𝓛 (raw (shown 𝓤 (α ⊑ S'.lives))) (fact_i 𝓤 (α ⊑ S'.lives) (emp 𝓤) in_S) $ join ! $ use0 𝓛 (raw (shown 𝓤 (τ ⊑ X.lives))) (fact_i 𝓤 (τ ⊑ X.lives) (emp 𝓤) lx) $ join ! $
    nothing ! $ move ! (8 ∷ 0 ∷ []) $ join ! $ nothing ! $ move ! (4 ∷ 0 ∷ []) $ join ! $ move ! (5 ∷ 0 ∷ []) $ join ! $ move ! (5 ∷ 0 ∷ []) $ join ! $ move ! (4 ∷ 0 ∷ []) $ join ! $ move ! (3 ∷ 0 ∷ []) $ join ! $ join ! $ use2 𝓛 (raw (k.pre z)) (id⊢ 𝓤 _) $
    let counted = counting-thm.bound 𝓡.env (code.calls-event_word::competing::OneValueCounted::ARE_MANY 𝓡.env wired) (code.calls-event_word::competing::OneValueCounted::CLOSES 𝓡.env wired) M' LM' M 𝓤 𝓛 𝓜 𝓡 in
    let kept = keeping-thm.bound 𝓡.env (code.calls-event_word::competing::CompetingKept::number 𝓡.env wired) (code.calls-event_word::competing::CompetingKept::shut 𝓡.env wired) (code.calls-event_word::competing::CompetingKept::settle 𝓡.env wired) (code.calls-event_word::competing::CompetingKept::swap_room 𝓡.env wired) O' LO' (counting.ghosts M') (counting.dict M') M 𝓤 𝓛 𝓜 𝓡
    (record { ARE_MANY = counted.ARE_MANY; CLOSES = counted.CLOSES }) in
    calls_at ! (framed 𝓤 H 𝓜 𝓣) k (called-thm.met 𝓤 𝓛 𝓜 𝓡 (code.calls-event_word::word::writer::Writer::get_mut 𝓡.env wired) X S' B' LX LS' LB' g' d' h' e' (record { promises = kept.promises; number = kept.number; shut = kept.shut; settle = kept.settle; swap_room = kept.swap_room }) (record {})) z (and_then ! (get ! refl) (no_more !)) (λ u.
    use1 𝓛 (later (some (λ (j : MutBor X.Denot). ((‵ (flft κ ql) ⊛ ‵ (flft α αl) ⊛ ‵ (flft τ τq) ⊛ ‵ (flft α αr) ⊛ ‵ (flft κ qr) ⊛ ‵ ftrue) ⊛ ‵ ((MutRef (named 0) κ P).own_val j (u ∷ []))) ⊛ some (λ (_ : Unit {0} × Unit {0}). ‵ (fsep ftrue ftrue) ⊛ ‵ (follows hd P δ j.ghost_name (writer_with h.0)) ⊛ raw (shown 𝓤 (j.now ≡ h.0.value)))))) (id⊢ 𝓤 (k.post z u)) $
    await ! tt $ pick ! (λ j. split ! $ split ! $ move ! (2 ∷ []) $ pick ! (λ _. split3 ! $ drop ! $ move ! (1 ∷ []) $ heard ! (j.now ≡ h.0.value) (λ same.
    -- [what the writer follows; the tokens; the result; the other token; what the guard follows]
    move ! (4 ∷ 0 ∷ []) $ use2 𝓛 (‵ (follows Gr P x.ghost_name j.ghost_name (λ w. w))) (follows_then 𝓛 Gr hd P F (writer_with h.0) x.ghost_name δ j.ghost_name) $
    move ! (2 ∷ []) $ fsplit3 ! $ feq_l ! (λ told. lands_as ! (ap only told) refl (tt, tt) $ feq_i ! (List Val) (mut_vals j) (mut_vals j) refl $ fjoin3 ! $
    let Told : Type 0 = j.now ≡ x.now in use0 𝓛 (raw (shown 𝓤 Told)) (fact_i 𝓤 Told (emp 𝓤) (same ∙ h.1)) $ move ! (2 ∷ 0 ∷ []) $ join ! $
    move ! (2 ∷ []) $ split3 ! $ move ! (2 ∷ []) $ split3 ! $ move ! (2 ∷ []) $ split ! $ move ! (1 ∷ []) $ drop ! $ move ! (3 ∷ 0 ∷ []) $ use2 𝓛 (‵ (flft κ q)) (𝓛.lfts.lft_join κ q) $ move ! (3 ∷ 2 ∷ []) $ use2 𝓛 (‵ (flft α αq)) (𝓛.lfts.lft_join α αq) $
    -- [the lock's; the reference's; the value's; what the clauses say; the result; the other token]
    move ! (2 ∷ 5 ∷ []) $ join ! $ move ! (1 ∷ 0 ∷ []) $ join ! $ move ! (1 ∷ 0 ∷ []) $ join ! $ nothing ! $ nothing ! $ fjoin ! $
    -- [what is left of the parameter; the tokens; what the clauses say; the result]
    returns ! (look_at ! 0 refl) $ free_all ! refl $ keep ! (1 ∷ 0 ∷ 3 ∷ 2 ∷ []) $ by ! (leaves 𝓛 En hs c y (vptr j.ref_ptr.0 j.ref_ptr.1) j (tt, tt) (tt, tt)))))))))))))
