-- Who has the value of a read-write lock, counted in the number of its word: one for a writer, 2 for each reader, 2 ^ 31 for a writer that is parked, and 2 ^ 32 for each reader that is. One who is parked has the value, and no right to it where it lies.
use Rattle.std.specs.Prelude.{◌≡◌, ◌==◌, ℕ, ◌+◌, ◌*◌, ◌/◌, ◌%◌, ◌<◌, ◌≤◌, ◌^◌, if◌then◌else◌}

-- the readers that have a right to the value
abbrev pub active_readers_of : ℕ → ℕ
active_readers_of n = n / 2 % 2 ^ 30

-- the readers and the writers that a number counts, parked ones too
abbrev pub readers_of : ℕ → ℕ
readers_of n = active_readers_of n + n / 2 ^ 32

abbrev pub writers_of : ℕ → ℕ
writers_of n = n % 2 + n / 2 ^ 31 % 2

-- as a slot counts it: 3 while one may write, else 1 and four times so many as may read
abbrev pub counted : ℕ → ℕ
counted n = if n % 2 == 1 then 3 else 1 + 4 * active_readers_of n

-- a number counts readers, or one writer
pub record IsCount (n : ℕ) : Type 0 where
  pub alone : 0 < writers_of n → readers_of n ≡ 0
  pub one : writers_of n ≤ 1
  pub room : readers_of n < 2 ^ 29
