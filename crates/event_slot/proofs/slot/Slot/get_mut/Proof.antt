-- `get_mut` lends the value; the slot keeps its name, its key and its state.
use Rattle.event_slot.proofs.Names.{ℕ, ◌+◌, [], ◌∷◌, refl, a_type, named, dcons, dnil, Val, vptr, inst_fn, SProp, sem, Lft, GName, Share, Fml, ftrue, fsep, flft, full_share, tables, ‵, raw, ◌⊛◌, some, later, ◌$◌, ◌∵◌, !, qed, by, move, keep, split, split3, join, fsplit, fsplit3, fjoin, pick, use1, use2, await, stop, fld, addr, returns, enter, alloc_all, pass_all, free_all, look_at, through, sets, no, RattleType, owns, types_at, plain, nothing, part_at, mem, param, bounded, RefMutOf, mut_vals, mut_Tells, Stays, stay_dropped, walk_of, proved, leaves, Ura, Logic, ent, sep, all, layout, Lawful, ex, word, show, done, param_laws}
use types.Kit.{group}
use base.Logic.{all_e, apply∗, id⊢}
use types.Mut.{open_ref}
use denote.Ref.{MutRef}
use denote.Follow.{follows, lends_Part}
use denote.Struct.Members.{Member, row_of}
use denote.Triple.Walked.{Goes-spent_ref}
use Rattle.event_slot.specs.Holding.{Named, place}
use Rattle.event_slot.specs.declared.rule.Ruled.{Ghosts}
use Rattle.event_slot.specs.contracts.slot.Slot as slot
use Rattle.event_slot.proofs.InMemory as memory
use Rattle.event_slot.specs.contracts.slot.Slot.get_mut.{ended, clauses}
use Rattle.event_slot.specs.contracts.slot.Slot.get_mut.Key.{name as #self}
use Rattle.event_slot.proofs.slot.Slot.get_mut.Statement.{statement}
use Rattle.event_slot.proofs.slot.Slot.get_mut.Code as code

module _ {M : Type 1} {𝓤 : Ura M} (𝓛 : Logic 𝓤) (m k : Member) (V Y : RattleType) (g : Ghosts m.row.Denot k.row.Denot V.Denot Y.Denot) (d : Named Y.Denot) (L : Lawful 𝓛 (row_of m)) (K : Lawful 𝓛 (row_of k)) (b o : ℕ) where
  abbrev R : RattleType
  R = row_of m

  abbrev Sr : RattleType
  Sr = slot.the_row R (row_of k) V Y g

  abbrev ⟦◌⟧ : Fml → SProp 𝓤
  ⟦ P ⟧ = sem 𝓛 P

  abbrev Three : Type 0
  Three = memory.Three 𝓛 m k V Y g d L K b o

  abbrev Whole : Fml
  Whole = memory.Whole 𝓛 m k V Y g d L K b o

  abbrev At : R.Denot → Fml
  At = memory.At 𝓛 m k V Y g d L K b o

  abbrev Behind : Three → Fml
  Behind s = memory.Behind 𝓛 m k V Y g d L K b o s.2

  abbrev Agreed : Three → Fml
  Agreed = memory.Agreed 𝓛 m k V Y g d L K b o

  abbrev Again : Three → SProp 𝓤
  Again = memory.Again 𝓛 m k V Y g d L K b o

  abbrev Rest : Three → SProp 𝓤
  Rest s = sep 𝓤 ⟦ word b (o + 0) s.0 ⟧ (sep 𝓤 ⟦ Behind s ⟧ (sep 𝓤 ⟦ Agreed s ⟧ (all 𝓤 Again)))

  taken : ent 𝓤 ⟦ part_at Sr full_share d b o ⟧ (ex 𝓤 (λ (s : Three). sep 𝓤 ⟦ At s.1 ⟧ (Rest s)))
  taken = qed 𝓛 (‵ (part_at Sr full_share d b o) ∷ []) ∵ use1 𝓛 (‵ Whole) (memory.bare 𝓛 m k V Y g d L K b o) $
      use1 𝓛 (some (λ (s : Three). ‵ (word b (o + 0) s.0) ⊛ ‵ (At s.1) ⊛ ‵ (Behind s) ⊛ ‵ (Agreed s) ⊛ raw (all 𝓤 Again))) (memory.apart 𝓛 m k V Y g d L K b o) $ pick ! (λ s. split3 ! $ move ! (2 ∷ []) $ split3 ! $
      show ! (λ (z : Three). sep 𝓤 ⟦ At z.1 ⟧ (Rest z)) s $ move ! (4 ∷ 3 ∷ 0 ∷ 1 ∷ 2 ∷ []) $ done !)

  back : (s : Three) (w : R.Denot) → ent 𝓤 (sep 𝓤 ⟦ At w ⟧ (Rest s)) ⟦ part_at Sr full_share d b o ⟧
  back s w = let z : Three = (s.0, w, s.2) in qed 𝓛 (‵ (At w) ∷ raw (Rest s) ∷ []) ∵ move ! (1 ∷ []) $ use1 𝓛 (‵ (word b (o + 0) s.0) ⊛ ‵ (Behind s) ⊛ ‵ (Agreed s) ⊛ raw (all 𝓤 Again)) (id⊢ 𝓤 _) $ split3 ! $ move ! (2 ∷ []) $ split ! $ move ! (1 ∷ []) $
      use1 𝓛 (raw (Again z)) (all_e 𝓤 Again z) $ move ! (2 ∷ 4 ∷ 3 ∷ 1 ∷ 0 ∷ []) $ group ! 4 $
      use2 𝓛 (‵ Whole) (apply∗ 𝓤 (sep 𝓤 ⟦ word b (o + 0) s.0 ⟧ (sep 𝓤 ⟦ At w ⟧ (sep 𝓤 ⟦ Behind s ⟧ ⟦ Agreed s ⟧))) ⟦ Whole ⟧) $ by ! (memory.laid 𝓛 m k V Y g d L K b o)

pub get_mut_spec : {M : Type 1} → statement M
get_mut_spec 𝓤 𝓛 𝓜 𝓡 wired X Q Y Ky L K _ _ g d _ =
    let H = 𝓛.H in let 𝓣 = tables 𝓤 H 𝓜 𝓡 𝓡.env in let T : RattleType = param 0 X in let U : RattleType = param 1 Q in let V : RattleType = param 2 Y in let Kr : RattleType = param 3 Ky in let En = ended X Q Y Ky g d in let c = clauses X Q Y Ky g d 𝓛 𝓜.mem 𝓡.returns in
    let m : Member = record { row = T; ty = layout X } in let k : Member = record { row = U; ty = layout Q } in let LR : Lawful 𝓛 T = (param_laws 0 X L).lawful 𝓛 in let LQ : Lawful 𝓛 U = (param_laws 1 Q K).lawful 𝓛 in
    let inst = bounded (a_type ∷ a_type ∷ a_type ∷ a_type ∷ []) (X, (Q, (Y, (Ky, tt)))) (dcons d dnil) in let fn = inst_fn inst code.function in
    let S : RattleType = slot.the_row T U V Kr g in let row = plain (λ _. S) in let hs : Stays En.signature.params En.kept = (stay_dropped (RefMutOf (0 ∷ []) tt row (λ _. tt)) no, tt) in
    proved 𝓛 En hs c 𝓜 𝓡 (Goes-spent_ref 𝓛 5 (0 ∷ []) tt row, tt) (#self inst) fn (code.unfolded 𝓤 H 𝓜 𝓡 wired (X, (Q, (Y, (Ky, tt)))) d)
    (λ κs. (mut_vals, tt)) (λ κs. (mut_Tells (named 0) κs.0 S, tt)) (λ κs qs bounds a gh are.
    let x = a.0 in let b : ℕ = x.ref_ptr.0 in let o : ℕ = x.ref_ptr.1 in let κ : Lft = κs.0 in let q : Share = qs.0 in let d₀ : Named Ky.Denot = x.now in let e : ℕ = place T b o in let Held : Type 0 = Three 𝓛 m k V Kr g d₀ LR LQ b o in let rest : Held → SProp 𝓤 = Rest 𝓛 m k V Kr g d₀ LR LQ b o in
    let y : (walk_of 𝓛 En hs c).Ghost = ((κs, qs, bounds, a, (vptr b o ∷ [], tt)), gh) in let Post : Val → SProp 𝓤 = (walk_of 𝓛 En hs c).post y in let others : Fml = fsep (flft κs.1.0 qs.1.0) (fsep (flft κs.1.1.0 qs.1.1.0) (fsep (flft κs.1.1.1.0 qs.1.1.1.0) (fsep (flft κs.1.1.1.1.0 qs.1.1.1.1.0) ftrue))) in
    qed 𝓛 (((‵ (flft κ q) ⊛ ‵ others) ⊛ ‵ (owns (types_at En.signature.params κs) a y.0.4)) ∷ raw ((c κs a).requires gh) ∷ []) ∵
    split ! $ split ! $ move ! (2 ∷ []) $ fsplit ! $ fsplit3 ! $ keep ! (1 ∷ 2 ∷ 4 ∷ 5 ∷ []) $
    enter ! 𝓣.C 𝓣.Λ fn (vptr b o ∷ []) Post $ alloc_all ! (λ l. pass_all ! refl ((tt, tt), tt) $
    open_ref ! tt (mem S) $ use1 𝓛 (some (λ (s : Held). ‵ (part_at T full_share s.1 b e) ⊛ raw (rest s))) (taken 𝓛 m k V Kr g d₀ LR LQ b o) $ pick ! (λ s. split ! $ move ! (2 ∷ 3 ∷ 4 ∷ 0 ∷ 1 ∷ []) $ group ! 5 $
    use1 𝓛 (later (some (λ (δ : GName). ‵ ((MutRef (named 0) κ T).own_val (record { ref_ptr = (b, e); ghost_name = δ; now = s.1 }) (vptr b e ∷ [])) ⊛ ‵ (flft κ q) ⊛ ‵ (follows S T x.ghost_name δ (λ _. d₀)))))
    (lends_Part 𝓛 S T (λ _. d₀) (named 0) κ q b o b e x.ghost_name (rest s) (back 𝓛 m k V Kr g d₀ LR LQ b o s) (S.coded.code d₀) (S.coded.code d₀) s.1) $ await ! tt $ pick ! (λ δ. split3 ! $ move ! (1 ∷ 3 ∷ []) $ join ! $ nothing ! $ nothing ! $ fjoin ! $
    sets ! (addr ! (through ! refl (fld ! refl (stop !)))) refl (tt, tt) $ returns ! (look_at ! 0 refl) $ free_all ! refl $ keep ! (1 ∷ 0 ∷ 2 ∷ 3 ∷ []) $ by ! (leaves 𝓛 En hs c y (vptr b e) (record { ref_ptr = (b, e); ghost_name = δ; now = s.1 }) (tt, tt) (tt, tt))))))
