-- How each client stands in a line, and how that fits its place. Worlds keep it in their types; no public clause
-- cites this module.
use Rattle.std.specs.Prelude.{◌≡◌, ℕ, ◌+◌, ◌<◌, Bool, true, false, cond, eqb, List, [], ◌∷◌, slice_get, Option, Some, None}
use Rattle.std.specs.Map.{keys_of}
use Rattle.event_worlds.specs.Line.{Line, has_wake}

-- how often a client is among these
abbrev pub times : ℕ → List ℕ → ℕ
times client [] = 0
times client (first ∷ rest) = cond (eqb client first) 1 0 + times client rest

-- how often a client is among these and not registered
abbrev pub times_unregistered : ℕ → List (ℕ × Bool) → ℕ
times_unregistered client [] = 0
times_unregistered client (first ∷ rest) =
    cond first.1 0 (cond (eqb client first.0) 1 0) + times_unregistered client rest

-- how often a client is notified, waits, and waits unregistered, and whether it has its wake-up
pub record Standing : Type 0 where
  pub told : ℕ
  pub waiting : ℕ
  pub unregistered : ℕ
  pub awake : Bool

abbrev pub standing : ℕ → Line → Standing
standing client line = record {
  told = times client line.told;
  waiting = times client (keys_of line.waiting);
  unregistered = times_unregistered client line.waiting;
  awake = has_wake client line;
}

-- a client that listens, or not, stands in line once, or not at all; one that is parked is registered where it
-- waits, and has its wake-up where it is notified
pub record Fits (listens parks : Bool) (client : Standing) : Type 0 where
  pub once : client.told + client.waiting ≡ cond listens 1 0
  pub registered : parks ≡ true → client.unregistered ≡ 0
  pub awake : parks ≡ true → 0 < client.told → client.awake ≡ true

module _ {P : Type 0} (listens parks : P → Bool) where
  -- the same by the client's place; where no client is, nobody stands in line
  abbrev pub FitsAt : Option P → Standing → Type 0
  FitsAt None client = Fits false false client
  FitsAt (Some place) client = Fits (listens place) (parks place) client

  -- each client's place fits
  abbrev pub AllFit : List P → Line → Type 0
  AllFit places line = (client : ℕ) → FitsAt (slice_get places client) (standing client line)

module _ {P : Type 0} where
  -- how many clients are at places that pass a test
  abbrev pub number : (P → Bool) → List P → ℕ
  number test [] = 0
  number test (place ∷ places) = cond (test place) 1 0 + number test places
