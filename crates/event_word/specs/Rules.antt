-- What a lock on one word says of its number and of the state behind it.
use Rattle.std.specs.Prelude.{ℕ}

pub record Rules (S : Type 0) : Type 1 where
  -- what holds of the number at any time
  pub fits : ℕ → Type 0
  -- what holds of number and state between any two steps while the state is at home: nobody waits in vain
  pub stands : ℕ → S → Type 0
  -- nobody has to be notified of what others give back
  pub quiet : S → Type 0
  -- what whoever has the state out knows of it and of the number
  pub promised : ℕ → S → Type 0
  -- the number shows newcomers what it has to of the state
  pub tells : ℕ → S → Type 0
  -- what the slot counts at this number: 3 while one has the right to write, else 1 and 4 more for each that has the right to read; a
  -- lock that nobody reads counts 0 in place of that 1
  pub counts : ℕ → ℕ
