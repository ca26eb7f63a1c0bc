use Rattle.event_until.specs.Attempts.{SomeFail}
use Rattle.event_until.proofs.until.blocking.attempt_again.Given as goal

-- some attempts have failed
abbrev pub invariant-loop : goal.invariant-loop
invariant-loop g l = SomeFail g.A.Attempt.fails l.initial.attempt l.attempt
