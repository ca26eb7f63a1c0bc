-- What a contract sees of a `Woken`: the first tasks woken, and a count of the others.
use Rattle.std.specs.Prelude.{ℕ, ◌+◌, ◌-◌, ◌^◌, min, List, [], ◌∷◌, ◌++◌, take, length, nat_lt, if◌then◌else◌}

-- the tasks kept, how many are kept at most, and how many came after
pub record Kept (W : Type 0) : Type 0 where
  pub tasks : List W
  pub room : ℕ
  pub missed : ℕ

module _ {W : Type 0} where
  -- once one more task was woken: it is kept if there is room, and else counted, as far as a `usize` counts
  abbrev pub after_one : W → Kept W → Kept W
  after_one task kept =
      if nat_lt (length kept.tasks) kept.room
      then record kept { tasks = kept.tasks ++ task ∷ [] }
      else record kept { missed = min (kept.missed + 1) (2 ^ 64 - 1) }

  -- the first `room` of these tasks, and a count of the others
  abbrev pub first_of : ℕ → List W → Kept W
  first_of room tasks =
      record { tasks = take room tasks; room = room; missed = min (length tasks - room) (2 ^ 64 - 1) }
