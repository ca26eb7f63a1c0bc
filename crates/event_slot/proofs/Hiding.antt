-- An `Exclusive` is what it holds, by value and where it lies. Assumes `Logic`.
use Rattle.event_slot.proofs.Names.{◌≡◌, ◌∙◌, ◌++◌, vstruct, of_list, drop, feq_l, ℕ, List, [], ◌∷◌, refl, Ura, Val, full_share, SProp, ent, sep, wand, all, ex, ex_i, guard, guard_i, via, all_e, apply∗, Fml, ftrue, fsep, Logic, sem, ‵, raw, ◌⊛◌, ◌$◌, ◌∵◌, !, qed, by, move, keep, split, fsplit, fsplit3, fjoin, fpick, fpack, frame, each, assume, use1, use2, rewrite, done, RattleType, Lawful, Typed, part_of, part_at, cell_at, nothing, peeks, Is, shows}
use denote.Struct.Struct.{Struct, Struct-Lawful}
use denote.Struct.Members.{Member, row_of}
use denote.Struct.Parts.{shape_of}
use denote.Struct.CellSteps.{BackTo, only_out}
use Rattle.core.proofs.cell.Inside.{Good, one, round, Good-round, wraps}
use Rattle.event_slot.specs.contracts.exclusive.Exclusive as exclusive

module _ {M : Type 1} {𝓤 : Ura M} (𝓛 : Logic 𝓤) (m : Member) where
  abbrev R : RattleType
  R = row_of m

  abbrev Row : RattleType
  Row = exclusive.the_row R

  abbrev Data : RattleType
  Data = Struct (shape_of [] (m ∷ []))

  -- by value
  pub hides : (x : R.Denot) (v : Val) → Good m.ty v → ent 𝓤 (sem 𝓛 (R.own_val x (v ∷ []))) (sem 𝓛 (Row.own_val x (round v ∷ [])))
  hides x v fine = qed 𝓛 (‵ (R.own_val x (v ∷ [])) ∷ []) ∵ use1 𝓛 (‵ (Data.own_val (x, tt) (round v ∷ []))) (wraps m 𝓛 [] [] x v) $
      nothing ! $ fpack ! (Typed Data.mir (round v ∷ [])) (λ _. ftrue) (Good-round [] m.ty v fine, tt) $ fjoin ! $ done !

  pub unhides : Lawful 𝓛 R → (x : R.Denot) (vs : List Val) → ent 𝓤 (sem 𝓛 (Row.own_val x vs)) (ex 𝓤 (λ (v : Val). guard 𝓤 ((vs ≡ round v ∷ []) × Good m.ty v) (sem 𝓛 (R.own_val x (v ∷ [])))))
  unhides L x vs = qed 𝓛 (‵ (Row.own_val x vs) ∷ []) ∵ fsplit ! $ drop ! $ fpick ! (λ vss. fsplit ! $ feq_l ! (λ ev. fsplit ! $ peeks ! R (Is R) (shows 𝓛 R) x vss.0 (λ is.
      let got = one m.ty vss.0 (L.typed x vss.0 is) in let Own : Val → SProp 𝓤 = λ v. sem 𝓛 (R.own_val x (v ∷ [])) in let Told : Val → Type 0 = λ v. (vs ≡ round v ∷ []) × Good m.ty v in
      rewrite ! 0 (λ (ws : List Val). ‵ (R.own_val x ws)) got.1 refl $ keep ! (0 ∷ []) $
      by ! (via 𝓤 _ (guard_i 𝓤 (Told got.0) (Own got.0) (ev ∙ (λ j. vstruct (of_list (got.1 j ++ [])) ∷ []), got.2)) (ex_i 𝓤 (λ (v : Val). guard 𝓤 (Told v) (Own v)) got.0)))))

  -- where it lies
  module _ (L : Lawful 𝓛 R) (b o : ℕ) where
    abbrev At : R.Denot → Fml
    At x = part_at R full_share x b o

    abbrev Bare : R.Denot → Fml
    Bare x = part_at Data full_share (x, tt) b o

    abbrev Laid : R.Denot → Fml
    Laid x = part_at Row full_share x b o

    abbrev pub Again : SProp 𝓤
    Again = all 𝓤 (λ (y : R.Denot). wand 𝓤 (sem 𝓛 (At y)) (sem 𝓛 (Laid y)))

    bare : (x : R.Denot) → ent 𝓤 (sem 𝓛 (Laid x)) (sem 𝓛 (Bare x))
    unfolding part_of
    bare x = qed 𝓛 (‵ (Laid x) ∷ []) ∵ fpick ! (λ vs. fsplit3 ! $ keep ! (0 ∷ 2 ∷ []) $ fjoin ! $ fpack ! (List Val) (λ us. fsep (cell_at full_share Data.mir us b o) (Data.own_val (x, tt) us)) vs $ done !)

    laid : (x : R.Denot) → ent 𝓤 (sem 𝓛 (Bare x)) (sem 𝓛 (Laid x))
    unfolding part_of
    laid x = qed 𝓛 (‵ (Bare x) ∷ []) ∵ fpick ! (λ vs. fsplit ! $ move ! (1 ∷ []) $ peeks ! Data (Is Data) (shows 𝓛 Data) (x, tt) vs (λ is. let t : Typed Data.mir vs = (Struct-Lawful 𝓛 (shape_of [] (m ∷ [])) (L, tt)).typed (x, tt) vs is in
        nothing ! $ fpack ! (Typed Data.mir vs) (λ _. ftrue) t $ fjoin ! $ move ! (1 ∷ 0 ∷ []) $ fjoin ! $ fpack ! (List Val) (λ us. fsep (cell_at full_share Data.mir us b o) (Row.own_val x us)) vs $ done !))

    pub out : (x : R.Denot) → ent 𝓤 (sem 𝓛 (Laid x)) (sep 𝓤 (sem 𝓛 (At x)) Again)
    out x = let Back : SProp 𝓤 = BackTo 𝓛 [] [] [] m (λ y. sem 𝓛 (Bare y)) b o in qed 𝓛 (‵ (Laid x) ∷ []) ∵ use1 𝓛 (‵ (Bare x)) (bare x) $ use1 𝓛 (‵ (At x) ⊛ raw Back) (only_out 𝓛 [] [] [] m L b o x) $ split ! $ frame ! $
        each ! (λ (y : R.Denot). wand 𝓤 (sem 𝓛 (At y)) (sem 𝓛 (Laid y))) (λ y. assume ! (‵ (At y)) $ move ! (1 ∷ []) $ use1 𝓛 (raw (wand 𝓤 (sem 𝓛 (At y)) (sem 𝓛 (Bare y)))) (all_e 𝓤 (λ (z : R.Denot). wand 𝓤 (sem 𝓛 (At z)) (sem 𝓛 (Bare z))) y) $
        move ! (1 ∷ 0 ∷ []) $ use2 𝓛 (‵ (Bare y)) (apply∗ 𝓤 (sem 𝓛 (At y)) (sem 𝓛 (Bare y))) $ by ! (laid y))

    pub again : (y : R.Denot) → ent 𝓤 (sep 𝓤 (sem 𝓛 (At y)) Again) (sem 𝓛 (Laid y))
    again y = qed 𝓛 (‵ (At y) ∷ raw Again ∷ []) ∵ move ! (1 ∷ []) $ use1 𝓛 (raw (wand 𝓤 (sem 𝓛 (At y)) (sem 𝓛 (Laid y)))) (all_e 𝓤 (λ (z : R.Denot). wand 𝓤 (sem 𝓛 (At z)) (sem 𝓛 (Laid z))) y) $ move ! (1 ∷ 0 ∷ []) $ by ! (apply∗ 𝓤 (sem 𝓛 (At y)) (sem 𝓛 (Laid y)))
