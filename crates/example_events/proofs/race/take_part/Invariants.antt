use Rattle.event_listener.specs.Noting.{Owns}
use Rattle.example_events.proofs.race.take_part.Given as goal

-- each call leaves the hand one of the flag's
abbrev pub invariant-loop : goal.invariant-loop
invariant-loop g l =
    (goal.iterator-loop g).can_next l.iterator' × (goal.iterator-loop g).is_finite l.iterator' × Owns l.flag l.hand
