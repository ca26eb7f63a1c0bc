-- A `Place` of an `Exclusive` in memory is the value where it lies, and is one again with any other. Assumes `Logic`.
use Rattle.event_slot.proofs.Names.{◌≡◌, ℕ, List, [], ◌∷◌, ◌++◌, Lft, Incl, ⊑_meet, sym, subst, Ura, full_share, SProp, ent, sep, wand, all, all_e, apply∗, id⊢, Fml, Logic, sem, ‵, raw, ◌⊛◌, ◌$◌, ◌∵◌, !, qed, by, move, split, frame, each, assume, use1, use2, done, RattleType, Laws, Lawful, layout, part_of, part_at}
use mir.Syntax.{Ty}
use contract.BorrowLft.{⊑_static}
use denote.Memory.{lone}
use denote.Struct.Struct.{Struct}
use denote.Struct.Members.{Member, row_of}
use denote.Struct.Parts.{shape_of}
use denote.Struct.CellSteps.{BackTo, only_out}
use Rattle.event_slot.specs.contracts.exclusive.Exclusive as exclusive
use Rattle.event_slot.proofs.Hiding as hiding
use Rattle.event_slot.proofs.exclusive.Exclusive.TheLaws.{the_row_laws as exclusive_laws}
use Rattle.event_slot.specs.declared.rule.Ruled.{Ghosts as Ruling}
use Rattle.event_word.specs.declared.word.kept.Kept.{Ghosts}
use Rattle.event_word.specs.contracts.word.rule.Place as place
use Rattle.event_word.specs.contracts.word.rule.PlaceRuled.TheImpl as TheImpl
use Rattle.event_word.specs.contracts.word.rule.View as view

-- where a `Place` shows nothing of the value
abbrev pub Row : RattleType → RattleType
Row T = place.the_row (exclusive.the_row T)

-- it lives as long as the value does
pub lives_in : (T : RattleType) (l : Lft) → Incl l T.lives → Incl l (Row T).lives
lives_in T l i = let to : (k : Lft) → Incl l k → Incl l (k ++ []) = λ k j. ⊑_meet l k [] j (⊑_static l) in let twice : (k : Lft) → Incl l k → Incl l ((k ++ []) ++ (k ++ [])) = λ k j. ⊑_meet l (k ++ []) (k ++ []) (to k j) (to k j) in twice (exclusive.the_row T).lives (twice T.lives i)

module _ {M : Type 1} {𝓤 : Ura M} (𝓛 : Logic 𝓤) (m : Member) (L : Laws (row_of m)) (b o : ℕ) where
  abbrev R : RattleType
  R = row_of m

  abbrev E : RattleType
  E = exclusive.the_row R

  abbrev me : Member
  me = record { row = E; ty = lone E.mir }

  abbrev LE : Lawful 𝓛 E
  LE = (exclusive_laws R L).lawful 𝓛

  abbrev At : R.Denot → Fml
  At x = part_at R full_share x b o

  abbrev Hidden : R.Denot → Fml
  Hidden x = part_at E full_share x b o

  abbrev Bare : R.Denot → Fml
  Bare x = part_at (Struct (shape_of [] (me ∷ []))) full_share (x, tt) b o

  abbrev Laid : (Row R).Denot → Fml
  Laid p = part_at (Row R) full_share p b o

  abbrev pub Again : SProp 𝓤
  Again = all 𝓤 (λ (p : (Row R).Denot). wand 𝓤 (sem 𝓛 (At p.value)) (sem 𝓛 (Laid p)))

  bare : (p : (Row R).Denot) → ent 𝓤 (sem 𝓛 (Laid p)) (sem 𝓛 (Bare p.value))
  unfolding part_of
  bare p = id⊢ 𝓤 (sem 𝓛 (Laid p))

  laid : (p : (Row R).Denot) → ent 𝓤 (sem 𝓛 (Bare p.value)) (sem 𝓛 (Laid p))
  unfolding part_of
  laid p = id⊢ 𝓤 (sem 𝓛 (Laid p))

  abbrev Back : SProp 𝓤
  Back = BackTo 𝓛 [] [] [] me (λ y. sem 𝓛 (Bare y)) b o

  pub out : (p : (Row R).Denot) → ent 𝓤 (sem 𝓛 (Laid p)) (sep 𝓤 (sem 𝓛 (At p.value)) Again)
  out p = qed 𝓛 (‵ (Laid p) ∷ []) ∵ use1 𝓛 (‵ (Bare p.value)) (bare p) $ use1 𝓛 (‵ (Hidden p.value) ⊛ raw Back) (only_out 𝓛 [] [] [] me LE b o p.value) $ split ! $
      use1 𝓛 (‵ (At p.value) ⊛ raw (hiding.Again 𝓛 m (L.lawful 𝓛) b o)) (hiding.out 𝓛 m (L.lawful 𝓛) b o p.value) $ split ! $ frame ! $
      each ! (λ (z : (Row R).Denot). wand 𝓤 (sem 𝓛 (At z.value)) (sem 𝓛 (Laid z))) (λ z. assume ! (‵ (At z.value)) $ use2 𝓛 (‵ (Hidden z.value)) (hiding.again 𝓛 m (L.lawful 𝓛) b o z.value) $ move ! (1 ∷ []) $
      use1 𝓛 (raw (wand 𝓤 (sem 𝓛 (Hidden z.value)) (sem 𝓛 (Bare z.value)))) (all_e 𝓤 (λ (y : R.Denot). wand 𝓤 (sem 𝓛 (Hidden y)) (sem 𝓛 (Bare y))) z.value) $ move ! (1 ∷ 0 ∷ []) $
      use2 𝓛 (‵ (Bare z.value)) (apply∗ 𝓤 (sem 𝓛 (Hidden z.value)) (sem 𝓛 (Bare z.value))) $ by ! (laid z))

  pub again : (p : (Row R).Denot) → ent 𝓤 (sep 𝓤 (sem 𝓛 (At p.value)) Again) (sem 𝓛 (Laid p))
  again p = qed 𝓛 (‵ (At p.value) ∷ raw Again ∷ []) ∵ move ! (1 ∷ []) $ use1 𝓛 (raw (wand 𝓤 (sem 𝓛 (At p.value)) (sem 𝓛 (Laid p)))) (all_e 𝓤 (λ (z : (Row R).Denot). wand 𝓤 (sem 𝓛 (At z.value)) (sem 𝓛 (Laid z))) p) $ move ! (1 ∷ 0 ∷ []) $ by ! (apply∗ 𝓤 (sem 𝓛 (At p.value)) (sem 𝓛 (Laid p)))

  apart : (p : (Row R).Denot) → ent 𝓤 (sem 𝓛 (Laid p)) (sep 𝓤 (sem 𝓛 (At p.value)) (wand 𝓤 (sem 𝓛 (At p.value)) (sem 𝓛 (Laid p))))
  apart p = qed 𝓛 (‵ (Laid p) ∷ []) ∵ use1 𝓛 (‵ (At p.value) ⊛ raw Again) (out p) $ split ! $ move ! (1 ∷ []) $ use1 𝓛 (raw (wand 𝓤 (sem 𝓛 (At p.value)) (sem 𝓛 (Laid p)))) (all_e 𝓤 (λ (z : (Row R).Denot). wand 𝓤 (sem 𝓛 (At z.value)) (sem 𝓛 (Laid z))) p) $ move ! (1 ∷ 0 ∷ []) $ done !

-- the same for any type
module _ (T : RattleType) (L : Laws T) {M : Type 1} {𝓤 : Ura M} (𝓛 : Logic 𝓤) where
  abbrev Splits : List Ty → Type 1
  Splits τ = (p : (Row T).Denot) (b o : ℕ) → ent 𝓤 (sem 𝓛 (part_at (Row (record T { mir = τ })) full_share p b o))
      (sep 𝓤 (sem 𝓛 (part_at (record T { mir = τ }) full_share p.value b o)) (wand 𝓤 (sem 𝓛 (part_at (record T { mir = τ }) full_share p.value b o)) (sem 𝓛 (part_at (Row (record T { mir = τ })) full_share p b o))))

  pub splits : (p : (Row T).Denot) (b o : ℕ) → ent 𝓤 (sem 𝓛 (part_at (Row T) full_share p b o)) (sep 𝓤 (sem 𝓛 (part_at T full_share p.value b o)) (wand 𝓤 (sem 𝓛 (part_at T full_share p.value b o)) (sem 𝓛 (part_at (Row T) full_share p b o))))
  splits = let m : Member = record { row = T; ty = layout T } in
      let same : T ≡ row_of m = λ i. record { Denot = T.Denot; mir = L.one i; written = T.written; reaches = T.reaches; lives = T.lives; own_val = T.own_val; exit = T.exit; coded = T.coded; shr_at = T.shr_at } in
      subst Splits (sym L.one) (λ p b o. apart 𝓛 m (subst Laws same L) b o p)

-- the rule of such a slot
abbrev pub rule : (T Q : RattleType) (k : Ghosts Q.Denot) → Ruling (Row T).Denot Q.Denot view.the_row.Denot (Unit {0})
rule T Q k = TheImpl.ghosts Q (exclusive.the_row T) k TheImpl.no_dict
