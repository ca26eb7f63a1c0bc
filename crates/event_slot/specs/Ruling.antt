-- What a step may change, what it gains, and what it asks of the rule.
use Rattle.std.specs.Prelude.{◌≡◌, ◌≢◌, ◌⊎◌, ℕ, zero, suc, ◌+◌, ◌%◌, ◌^◌, ◌<◌, ◌≤◌, Bool, true, if◌then◌else◌, Option, List, [], ◌∷◌, ◌++◌, slice_set}
use mathlib.Core.Option.{some}
use lib.ListN.{get_elem?}
use Rattle.counted_slot.specs.Counting.{readers}

-- What the words of these are is what `counts` makes of a slot's word: its low two bits say who may come, and the next 30 count the
-- readers.

-- What one may do who has no right. A word comes to the state 3, a writer's, only from where nobody reads. A turn takes it neither
-- from there nor to the state 0 from another. In the states 1 and 2, where readers may come, as many are counted as before, or one
-- more.
abbrev pub IsTurn : ℕ → ℕ → Type 0
IsTurn old new =
    (old % 4 ≡ 3 → new % 4 ≡ 3)
    × (new % 4 ≡ 0 → old % 4 ≡ 0)
    × (new % 4 ≡ 3 → 0 < old % 4 → old % 4 < 3 → readers old ≡ 0)
    × (0 < new % 4 → new % 4 < 3 → (0 < old % 4) × (readers old ≤ readers new) × (readers new ≤ readers old + 1))

-- and what it gains: 2, to write, where it goes to the state 3; 1, to read, where one more reads; else 0
abbrev pub Gains : ℕ → ℕ → ℕ → Type 0
Gains old new right =
    (new % 4 ≡ 3 → old % 4 < 3 → right ≡ 2)
    × (0 < new % 4 → new % 4 < 3 → readers old < readers new → right ≡ 1)
    × (new % 4 < 3 → readers new ≤ readers old → right ≡ 0)
    × (new % 4 ≡ 0 → right ≡ 0)
    × (old % 4 ≡ 3 → right ≡ 0)

-- What a reader may do: it goes, stays a reader or becomes the writer, if it is the only reader.
abbrev pub IsReadersTurn : ℕ → ℕ → Type 0
IsReadersTurn old new =
    (0 < new % 4)
    × (new % 4 ≡ 3 → readers old ≡ 1)
    × (new % 4 < 3 → (readers new ≤ readers old) × (readers old ≤ readers new + 1))

-- and its right then
abbrev pub ReaderBecomes : ℕ → ℕ → ℕ → Type 0
ReaderBecomes old new right =
    (new % 4 ≡ 3 → right ≡ 2)
    × (new % 4 < 3 → readers new < readers old → right ≡ 0)
    × (new % 4 < 3 → readers old ≤ readers new → right ≡ 1)

-- What the writer may do: it goes, or goes on as the only reader.
abbrev pub IsWritersTurn : ℕ → Type 0
IsWritersTurn new = (new % 4 < 3) × (0 < new % 4 → readers new ≤ 1)

-- and its right then
abbrev pub WriterBecomes : ℕ → ℕ → Type 0
WriterBecomes new right =
    (new % 4 ≡ 0 → right ≡ 0)
    × (0 < new % 4 → right ≡ readers new)

-- what one may do who has this right, and its right then
abbrev pub MayTurn : ℕ → ℕ → ℕ → Type 0
MayTurn zero old new = IsTurn old new
MayTurn (suc zero) old new = IsReadersTurn old new
MayTurn (suc (suc k)) old new = IsWritersTurn new

abbrev pub Becomes : ℕ → ℕ → ℕ → ℕ → Type 0
Becomes zero old new right = Gains old new right
Becomes (suc zero) old new right = ReaderBecomes old new right
Becomes (suc (suc k)) old new right = WriterBecomes new right

-- What a thread with this right sees in each word that it finds: a reader, that readers are counted; the writer, that the word is a writer's.
abbrev pub Sees : ℕ → ℕ → Type 0
Sees right word = (right ≡ 1 → (0 < word % 4) × (word % 4 < 3) × (0 < readers word)) × (right ≡ 2 → word % 4 ≡ 3)

module _ {S W : Type 0} where
  -- Whatever word and state there are, and whatever the marks know: the mark id, which knew v, can know something by which the rule
  -- holds, and `tells` holds of the word found and of that
  abbrev pub Keeps : (ℕ → Option S → List W → Type 0) → ℕ → W → (ℕ → W → Type 0) → Type 0
  Keeps holds id v tells = (n : ℕ) (home : Option S) (views : List W) → holds n home views → get_elem? views id ≡ some v → n < 2 ^ 64
      → (w : W) × holds n home (slice_set views id w) × tells n w

  -- the same for a mark that this very step makes
  abbrev pub Enters : (ℕ → Option S → List W → Type 0) → (ℕ → W → Type 0) → Type 0
  Enters holds tells = (n : ℕ) (home : Option S) (views : List W) → holds n home views → n < 2 ^ 64
      → (w : W) × holds n home (views ++ w ∷ []) × tells n w

  -- Whatever word and state there are: the mark id, which knew v, can know `left`, and a new mark `right`
  abbrev pub MaySplit : (ℕ → Option S → List W → Type 0) → ℕ → W → W → W → Type 0
  MaySplit holds id v left right = (n : ℕ) (home : Option S) (views : List W) → holds n home views → get_elem? views id ≡ some v → n < 2 ^ 64
      → holds n home (slice_set views id left ++ right ∷ [])

  -- Whatever word and state there are: the mark id, which knew v, can know `both`, and another mark, which knew w, `spent`
  abbrev pub MayJoin : (ℕ → Option S → List W → Type 0) → ℕ → W → ℕ → W → W → W → Type 0
  MayJoin holds id v other w both spent = (n : ℕ) (home : Option S) (views : List W) → holds n home views → get_elem? views id ≡ some v
      → other ≢ id → get_elem? (slice_set views id both) other ≡ some w → n < 2 ^ 64
      → holds n home (slice_set (slice_set views id both) other spent)

  -- The same as `Keeps` where the word becomes f of what it was, and what is at home may change places with what this one has out.
  abbrev pub MayTrade : (ℕ → Option S → List W → Type 0) → ℕ → W → Option S → (ℕ → ℕ) → (ℕ → W → Option S → Type 0) → Type 0
  MayTrade holds id v out f tells = (n : ℕ) (home : Option S) (views : List W) → holds n home views → get_elem? views id ≡ some v → n < 2 ^ 64
      → (w : W) × (change : Bool) × holds (f n) (if change then out else home) (slice_set views id w)
      × tells n w (if change then home else out)

  -- the same for a mark that this very step makes
  abbrev pub Comes : (ℕ → Option S → List W → Type 0) → Option S → (ℕ → ℕ) → (ℕ → W → Option S → Type 0) → Type 0
  Comes holds out f tells = (n : ℕ) (home : Option S) (views : List W) → holds n home views → n < 2 ^ 64
      → (w : W) × (change : Bool) × holds (f n) (if change then out else home) (views ++ w ∷ [])
      × tells n w (if change then home else out)

-- What a step owes that wakes nobody, by whether a mark owes a wake, and whether a word announces that threads may sleep. What is due stays due.
module _ {W : Type 0} (owes : W → Bool) where
  -- a load: who owes a wake owes it still
  abbrev pub OwesStill : W → (ℕ → W → Type 0) → Type 0
  OwesStill v tells = owes v ≡ true → (n : ℕ) (w : W) → tells n w → owes w ≡ true

  module _ (announces : ℕ → Bool) where
    -- a wake is due where a mark knows v and the word is n: the mark owes it, or the word has whoever changes it owe it
    abbrev pub IsDue : W → ℕ → Type 0
    IsDue v n = (owes v ≡ true) ⊎ (announces n ≡ true)

    -- A compare-exchange from one word to another. Where it found the one, a debt may pass to the word, and the word's to the mark; else who owes a wake owes it still.
    pub record StaysDue {S : Type 0} (old new : ℕ) (v : W) (tells : ℕ → W → Option S → Type 0) : Type 0 where
      pub made : (w : W) (out : Option S) → tells old w out → IsDue v old → IsDue w new
      pub missed : (n : ℕ) (w : W) (out : Option S) → n ≢ old → tells n w out → owes v ≡ true → owes w ≡ true
