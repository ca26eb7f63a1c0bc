-- What a contract sees of a lock.
use Rattle.std.specs.Prelude.{ℕ}

-- the source at which tasks that wait are registered, the name of the lock, and what was given of its start
pub record LockId (Start : Type 0) : Type 0 where
  pub source : ℕ
  pub table : ℕ
  pub start : Start
