-- What one that waits asks for, and its place in a queue.
use Rattle.std.specs.Prelude.{◌≡◌, Option, IsSome}
use Rattle.event_queue.specs.declared.key.Key.{Key}

-- the key is that of its place, if it has one
pub record Asking (X : Type 0) : Type 0 where
  pub asked : X
  pub key : Option Key

module _ {X : Type 0} where
  abbrev pub HasPlace : Asking X → Type 0
  HasPlace asking = IsSome asking.key

  -- it asks for the same, at any place
  abbrev pub AsksOn : Asking X → Asking X → Type 0
  AsksOn before after = after.asked ≡ before.asked
