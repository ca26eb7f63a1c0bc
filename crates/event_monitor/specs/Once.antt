-- What a contract sees of the state under a cell's lock.
use Rattle.std.specs.Prelude.{◌≡◌, ℕ, ◌+◌, ◌<◌, ◌≤◌, length, Bool, true, false, if◌then◌else◌}
use Rattle.event_queue.specs.Queue.{Queue}
use Rattle.event_monitor.specs.declared.once_cell.once.Turn.{Turn}
use Rattle.event_monitor.specs.declared.once_cell.once.Turn.TheVariants.{Make, Use}

-- at which source tasks wait for a cell, and by which name a proof knows what is set
pub record Cell : Type 0 where
  pub source : ℕ
  pub id : ℕ

-- how many make the value, whether it is set, those that would make it, and those that wait for it
pub record State (W : Type 0) : Type 0 where
  pub making : ℕ
  pub is_set : Bool
  pub makers : Queue (Unit {0}) W
  pub readers : Queue (Unit {0}) W

module _ {W : Type 0} where
  -- those that make the value or were handed the turn to
  abbrev pub turns : State W → ℕ
  turns s = s.making + length s.makers.told

  -- what one is to do whose turn it is
  abbrev pub turn_at : State W → Turn
  turn_at s = (if s.is_set then Use else Make)

  -- how many make the value once one has that turn; and once one has it or not
  abbrev pub making_at : State W → ℕ
  making_at s = (if s.is_set then s.making else 1)

  abbrev pub making_by : Bool → State W → ℕ
  making_by has_turn s = (if has_turn then making_at s else s.making)

  -- those that make or would make the value are as they were
  abbrev pub MakersStay : State W → State W → Type 0
  MakersStay old new = (new.making ≡ old.making) × (new.makers ≡ old.makers)

  pub record NobodyWaitsInVain (s : State W) : Type 0 where
    -- while it is not set, one at most makes it, and who waits to make it waits for one that does
    pub one : s.is_set ≡ false → turns s ≤ 1
    pub made : s.is_set ≡ false → 0 < length s.makers.waiting → 0 < turns s
    -- once it is set, nobody waits
    pub over : s.is_set ≡ true → length s.makers.waiting ≡ 0
    pub seen : s.is_set ≡ true → length s.readers.waiting ≡ 0
