-- A slot in memory is its word, its value, its state and what is known of them, and is one again with any others that agree. Assumes `Logic`.
use Rattle.event_slot.proofs.Names.{ℕ, zero, ◌+◌, List, [], ◌∷◌, Ura, Val, full_share, SProp, ent, Option, sep, wand, ex, all, all_e, apply∗, Fml, ftrue, fsep, Logic, sem, ‵, raw, ◌⊛◌, ◌$◌, ◌∵◌, !, qed, by, move, keep, split, split3, fsplit, fjoin, fjoin3, fpick, fpack, show, frame, each, assume, use1, use2, done, RattleType, Denots, Lawful, part_of, part_at, cell_at, nothing, word, fsplit3, peeks, Is, shows}
use denote.Laws.{Typed}
use denote.Struct.Struct.{Struct, Struct-Lawful}
use denote.Struct.Laws.{u64-laws}
use denote.Struct.Members.{Member, row_of, rows_of, parts_at}
use denote.Struct.Parts.{PartsBack, Struct-parts, shape_of}
use Rattle.core.proofs.cell.Borrows.{flag}
use Rattle.core.proofs.tally.Steps.{word_out, word_in}
use Rattle.counted_slot.specs.Counting.{fact}
use Rattle.event_slot.specs.Holding.{Named, place, behind, Agrees, knowing}
use Rattle.event_slot.specs.declared.rule.Ruled.{Ghosts}
use Rattle.event_slot.specs.contracts.slot.Slot as slot

module _ {M : Type 1} {𝓤 : Ura M} (𝓛 : Logic 𝓤) (m k : Member) (V Y : RattleType) (g : Ghosts m.row.Denot k.row.Denot V.Denot Y.Denot) (d : Named Y.Denot) (L : Lawful 𝓛 (row_of m)) (K : Lawful 𝓛 (row_of k)) (b o : ℕ) where
  abbrev R : RattleType
  R = row_of m

  abbrev Q : RattleType
  Q = row_of k

  abbrev ⟦◌⟧ : Fml → SProp 𝓤
  ⟦ P ⟧ = sem 𝓛 P

  abbrev ks : List Member
  ks = flag ∷ m ∷ k ∷ []

  abbrev Data : RattleType
  Data = Struct (shape_of [] ks)

  abbrev pub Whole : Fml
  Whole = part_at (slot.the_written R Q V Y g) full_share d b o

  abbrev pub Known : (Option Q.Denot → Fml) → ℕ → Fml
  Known = knowing V.coded.code d.name (g.holds d.key)

  abbrev pub At : R.Denot → Fml
  At x = part_at R full_share x b (place R b o)

  abbrev pub Behind : Q.Denot → Fml
  Behind y = part_at Q full_share y b (behind R Q b o)

  abbrev pub Three : Type 0
  Three = ℕ × R.Denot × Q.Denot

  abbrev pub Agreed : Three → Fml
  Agreed s = Known (λ home. fact (Agrees home s.2)) s.0

  abbrev Values : Three → Denots (rows_of ks)
  Values s = (s.0, (s.1, (s.2, tt)))

  abbrev Fields : Three → Fml
  Fields s = part_at Data full_share (Values s) b o

  abbrev pub Again : Three → SProp 𝓤
  Again s = wand 𝓤 (sep 𝓤 ⟦ word b (o + 0) s.0 ⟧ (sep 𝓤 ⟦ At s.1 ⟧ (sep 𝓤 ⟦ Behind s.2 ⟧ ⟦ Agreed s ⟧))) ⟦ Whole ⟧

  abbrev pub Apart : Three → SProp 𝓤
  Apart s = sep 𝓤 ⟦ word b (o + 0) s.0 ⟧ (sep 𝓤 ⟦ At s.1 ⟧ (sep 𝓤 ⟦ Behind s.2 ⟧ (sep 𝓤 ⟦ Agreed s ⟧ (all 𝓤 Again))))

  whole : (s : Three) → ent 𝓤 (sep 𝓤 ⟦ Fields s ⟧ ⟦ Agreed s ⟧) ⟦ Whole ⟧
  unfolding part_of
  whole s = qed 𝓛 (‵ (Fields s) ∷ ‵ (Agreed s) ∷ []) ∵ fpick ! (λ vs. fsplit ! $ move ! (1 ∷ 2 ∷ []) $ fjoin ! $ fpack ! Three (λ z. fsep (Data.own_val (Values z) vs) (Agreed z)) s $ move ! (1 ∷ 0 ∷ []) $ fjoin ! $
      fpack ! (List Val) (λ us. fsep (cell_at full_share Data.mir us b o) ((slot.the_written R Q V Y g).own_val d us)) vs $ done !)

  pub apart : ent 𝓤 ⟦ Whole ⟧ (ex 𝓤 Apart)
  unfolding part_of
  apart = qed 𝓛 (‵ Whole ∷ []) ∵ fpick ! (λ vs. fsplit ! $ move ! (1 ∷ []) $ fpick ! (λ s. fsplit ! $ move ! (2 ∷ 0 ∷ []) $ fjoin ! $ fpack ! (List Val) (λ us. fsep (cell_at full_share Data.mir us b o) (Data.own_val (Values s) us)) vs $
      use1 𝓛 ((‵ (part_at (row_of flag) full_share s.0 b (o + 0)) ⊛ ‵ (At s.1) ⊛ ‵ (Behind s.2) ⊛ ‵ ftrue) ⊛ raw (PartsBack 𝓛 full_share [] ks b o)) (Struct-parts 𝓛 full_share [] ks (u64-laws.lawful 𝓛, (L, (K, tt))) (Values s) b o) $ split ! $ split3 ! $
      use1 𝓛 (‵ (word b (o + 0) s.0)) (word_out 𝓛 b (o + 0) s.0) $ move ! (2 ∷ []) $ split ! $ move ! (2 ∷ 3 ∷ 0 ∷ 5 ∷ 4 ∷ []) $ show ! Apart s $ frame ! $ frame ! $ frame ! $ frame ! $
      each ! Again (λ z. assume ! (‵ (word b (o + 0) z.0) ⊛ ‵ (At z.1) ⊛ ‵ (Behind z.2) ⊛ ‵ (Agreed z)) $ split3 ! $ use1 𝓛 (‵ (part_at (row_of flag) full_share z.0 b (o + 0))) (word_in 𝓛 b (o + 0) z.0) $ move ! (2 ∷ []) $ split ! $ move ! (0 ∷ 5 ∷ []) $ fjoin ! $ move ! (2 ∷ 3 ∷ 0 ∷ []) $ fjoin3 ! $ move ! (2 ∷ []) $
      use1 𝓛 (raw (wand 𝓤 ⟦ parts_at full_share ks zero (Values z) b o ⟧ ⟦ Fields z ⟧)) (all_e 𝓤 (λ (a : Denots (rows_of ks)). wand 𝓤 ⟦ parts_at full_share ks zero a b o ⟧ ⟦ part_at Data full_share a b o ⟧) (Values z)) $
      move ! (1 ∷ 0 ∷ []) $ use2 𝓛 (‵ (Fields z)) (apply∗ 𝓤 ⟦ parts_at full_share ks zero (Values z) b o ⟧ ⟦ Fields z ⟧) $ by ! (whole z))))

  abbrev pub Row : RattleType
  Row = slot.the_row R Q V Y g

  pub bare : ent 𝓤 ⟦ part_at Row full_share d b o ⟧ ⟦ Whole ⟧
  unfolding part_of
  bare = qed 𝓛 (‵ (part_at Row full_share d b o) ∷ []) ∵ fpick ! (λ vs. fsplit3 ! $ keep ! (0 ∷ 2 ∷ []) $ fjoin ! $ fpack ! (List Val) (λ us. fsep (cell_at full_share Data.mir us b o) ((slot.the_written R Q V Y g).own_val d us)) vs $ done !)

  -- what lies in memory is of the slot's type
  pub laid : ent 𝓤 ⟦ Whole ⟧ ⟦ part_at Row full_share d b o ⟧
  unfolding part_of
  laid = qed 𝓛 (‵ Whole ∷ []) ∵ fpick ! (λ vs. fsplit ! $ move ! (1 ∷ []) $ fpick ! (λ s. fsplit ! $ peeks ! Data (Is Data) (shows 𝓛 Data) (Values s) vs (λ is. let t : Typed Data.mir vs = (Struct-Lawful 𝓛 (shape_of [] ks) (u64-laws.lawful 𝓛, (L, (K, tt)))).typed (Values s) vs is in
      fjoin ! $ fpack ! Three (λ z. fsep (Data.own_val (Values z) vs) (Agreed z)) s $ nothing ! $ fpack ! (Typed Data.mir vs) (λ _. ftrue) t $ fjoin ! $ move ! (1 ∷ 0 ∷ []) $ fjoin ! $
      fpack ! (List Val) (λ us. fsep (cell_at full_share Data.mir us b o) (Row.own_val d us)) vs $ done !)))
