-- How a source gives numbers.
use Rattle.std.specs.Prelude.{◌≡◌, ℕ, ◌+◌, ◌<◌, ◌^◌}

-- a source with this next number gives that number, and has that next number afterwards; the greatest `u64` is
-- never given
abbrev pub GivesNumber : ℕ → ℕ → ℕ → Type 0
GivesNumber before number after = (number ≡ before) × (after ≡ before + 1) × (number + 1 < 2 ^ 64)

-- the next number is the greatest `u64`, which is never given
abbrev pub IsLastNumber : ℕ → Type 0
IsLastNumber next = next + 1 ≡ 2 ^ 64
