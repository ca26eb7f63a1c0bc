-- What one that receives many messages has got.
use Rattle.std.specs.Prelude.{◌≡◌, ℕ, ◌+◌, ◌<◌, ◌≤◌, List, length, take, Option, Some, None}

-- where the messages go, and how many beside the first it takes at most
pub record Many (T : Type 0) : Type 0 where
  pub into : List T
  pub more : ℕ

module _ {T : Type 0} where
  -- so many were put behind those that were there
  pub record Appends (count : ℕ) (before after : List T) : Type 0 where
    pub front : take (length before) after ≡ before
    pub length : length after ≡ length before + count

  -- it got one at least, and no more than it takes; or nothing, at the end
  abbrev pub Collects : Many T → Option ℕ → Many T → Type 0
  Collects before (Some count) after = (0 < count) × (count ≤ before.more + 1) × Appends count before.into after.into
  Collects before None after = after ≡ before
