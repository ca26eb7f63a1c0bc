use Rattle.event_wait.specs.Rounds.{SomeRounds}
use Rattle.event_monitor.proofs.asking.wait.Given as goal

-- some rounds have found that it waits on, and it may be made here still
abbrev pub invariant-loop : goal.invariant-loop
invariant-loop g l =
    (goal.iterator-loop g).can_next l.iterator' × (goal.iterator-loop g).is_finite l.iterator'
    × (g.L.Waitable.rules l.lock).fits l.request
    × SomeRounds (g.L.Waitable.rules l.lock).waits l.initial.request l.request
