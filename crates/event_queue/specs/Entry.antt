-- What a contract sees of an `Entry`. No public clause cites this module.
use Rattle.std.specs.Prelude.{ℕ}
use Rattle.event_queue.specs.declared.node.entries.Packed.{Packed}
use Rattle.event_queue.specs.declared.node.entries.Packed.TheVariants as packed

-- a value before the cursor, or one that may be absent after it; the root and a spare node hold nothing
pub data Held (A B : Type 0) : Type 0 where
  Nothing : Held A B
  Before : A → Held A B
  AfterWithout : Held A B
  After : B → Held A B

-- what a node carries: the slot that it keeps, and an entry's serial and value
pub record Payload (A B : Type 0) : Type 0 where
  pub slot : ℕ
  pub serial : ℕ
  pub held : Held A B

module _ {A B : Type 0} where
  abbrev pub slot_of : Packed A B → ℕ
  slot_of (packed.Spare slot) = slot
  slot_of (packed.Before slot value) = slot
  slot_of (packed.AfterWithout slot) = slot
  slot_of (packed.After slot value) = slot

  abbrev pub held_of : Packed A B → Held A B
  held_of (packed.Spare slot) = Nothing
  held_of (packed.Before slot value) = Before value
  held_of (packed.AfterWithout slot) = AfterWithout
  held_of (packed.After slot value) = After value
