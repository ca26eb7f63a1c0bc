-- Permits of a semaphore.
use Rattle.std.specs.Prelude.{◌≡◌, ℕ}

-- permits that were taken at once: of which word, and how many
pub record Taken : Type 0 where
  pub origin : ℕ
  pub count : ℕ

-- one permit of the word of that name
pub record IsOne (name : ℕ) (permit : Taken) : Type 0 where
  pub own : permit.origin ≡ name
  pub one : permit.count ≡ 1
