-- What a contract sees of an `Until`.
use Rattle.std.specs.Prelude.{ℕ, Option, Some, None}
use Rattle.event_listener.specs.Listening.{Listening, Standing}

-- the standing of a listener, if there is one
abbrev pub standing_of : {T : Type 0} → Option (Listening T) → Option Standing
standing_of (Some listener) = Some listener.standing
standing_of None = None

-- the state of its attempts, the number of its event, and the standing of the listener that a pending poll left in the
-- queue
pub record Trying (A : Type 0) : Type 0 where
  pub attempt : A
  pub event_number : ℕ
  pub listener : Option Standing
