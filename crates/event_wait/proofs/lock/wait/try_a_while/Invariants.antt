use Rattle.event_wait.specs.Rounds.{SomeRounds, Tries}
use Rattle.event_wait.proofs.lock.wait.try_a_while.Given as goal

-- some tries have got nothing
abbrev pub invariant-loop : goal.invariant-loop
invariant-loop g l =
    (g.L.Waitable.rules l.lock).fits l.request
    × SomeRounds (Tries (g.L.Waitable.rules l.lock) (g.L.Obtainable.trying l.lock)) l.initial.request l.request
