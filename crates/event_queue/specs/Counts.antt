-- What a contract sees of a `Steps`.
use Rattle.std.specs.Prelude.{◌≡◌, ℕ, ◌+◌, ◌-◌, ◌<◌, ◌^◌, min}
use Rattle.std.specs.declared.sync.ledger.Blank.{Blank}

-- how many visits were counted so far, and how many looks by key
pub record Counts : Type 0 where
  pub visits : ℕ
  pub looks : ℕ

-- a count of looks with this many more: it stays at the greatest `u64`
abbrev pub counted_on : ℕ → ℕ → ℕ
counted_on looks more = min (looks + more) (2 ^ 64 - 1)

-- a ledger of this name and number of parts can be opened on the blank
abbrev pub Opens : Blank → ℕ → ℕ → Type 0
Opens blank name parts = (blank.name ≡ name) × (blank.parts ≡ parts) × (0 < blank.parts)
