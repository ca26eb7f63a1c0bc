-- What a wait for a lock obtained.
use Rattle.std.specs.Prelude.{◌⊎◌, Some}
use Rattle.event_wait.specs.Rounds.{Rules, Trying}

-- an attempt of some request gave it, which would have waited or not, or leaving at the limit did
pub record Obtained {Q G E : Type 0} (rules : Rules Q G E) (trying : Trying Q G) (output : G) : Type 0 where
  pub before : Q
  pub after : Q
  pub gave : rules.succeeds before output after ⊎ trying.gives before output after ⊎ rules.leaves before (Some output) after
