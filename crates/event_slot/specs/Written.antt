-- What a cell that is written once shares, and what whoever comes to it holds. The cell is a word, 0 while nobody writes, 1 while one does and 2 from then on, and a value.
use Rattle.std.specs.Prelude.{ℕ, zero, suc, ◌+◌, Option, Some, None}
use base.Fml.{Lft, Fml, ftrue, ffalse, fsep, fex, fbor}
use denote.RattleType.{RattleType}
use denote.Memory.{shared_of}
use denote.RawPtr.{Ptr, block_ptr, null_ptr}
use denote.Sharing.{said, beside, some, ends, always}
use Rattle.core.specs.Sync.RawAtomic.{word}
use Rattle.counted_slot.specs.Counting.{fact, offset, cell, slot_owns}

-- a cell that nobody shares: its fields, and that the value is `ok`
abbrev pub cell_owns : (R : RattleType) → (R.Denot → Type 0) → (ℕ → R.Denot → Fml) → Fml
cell_owns = slot_owns

module _ (R : RattleType) (ok : R.Denot → Type 0) (b o : ℕ) where
  -- where the value lies, in the block b
  abbrev pub place : ℕ
  place = o + offset R

  module _ (α : Lft) where
    -- the right to write the value, until α ends
    abbrev pub blank : Fml
    blank = fbor α (cell R ok b o)

    -- x is what was written, and stays in its place until α ends
    abbrev pub written : R.Denot → Fml
    written x = fsep (shared_of R x b place α) (fact (ok x))

    -- what stands behind the word: the right to write, nothing while one has that, or what was written
    abbrev pub stands : ℕ → Fml
    stands zero = blank
    stands (suc zero) = ftrue
    stands (suc (suc k)) = fex R.Denot written

    -- the invariant: some word, and what stands behind it
    abbrev pub Inv : Fml
    Inv = fex ℕ (λ n. fsep (word b (o + 0) n) (stands n))

    -- whoever has a cell for β has this: β ends before α does, and the invariant holds until then
    abbrev pub kept : Lft → Fml
    kept = beside (ends α) (always (fbor α Inv))

    -- what the right 0, 1 or 2 consists of: nothing, the value that was written, the right to write
    abbrev pub right_to : ℕ → Option R.Denot → Fml
    right_to zero v = ftrue
    right_to (suc zero) (Some x) = written x
    right_to (suc zero) None = ffalse
    right_to (suc (suc k)) v = blank

-- what a `&` to a cell shows
abbrev pub cell_shares : (R : RattleType) → (R.Denot → Type 0) → Ptr → Lft → Fml
cell_shares R ok (block_ptr b o) = some Lft (kept R ok b o)
cell_shares R ok null_ptr = said ffalse

-- what a hold owns: the cell for β, and its right
abbrev pub hold_owns : Lft → (R : RattleType) → (R.Denot → Type 0) → Ptr → ℕ → Option R.Denot → Fml
hold_owns β R ok (block_ptr b o) right v = fex Lft (λ α. fsep (kept R ok b o α β) (right_to R ok b o α right v))
hold_owns β R ok null_ptr right v = ffalse
