use Rattle.std.proofs.Common.{rules, refl, inr}
use Rattle.std.proofs.lemmas.Result.{err_from_is_err_and}
use Rattle.event_until.proofs.AttemptLemmas.{SomeFail-append}
use Rattle.event_until.proofs.until.turn.poll_turns.Goals as goal

pub returns-in_err-output-clause-failed : goal.returns-in_err-output-clause-failed
returns-in_err-output-clause-failed g c =
    let error = err_from_is_err_and c.from_residual-in_err-output.result c.from_residual-in_err-output.ensures.1 in
    rw (error.1) (rw (c.in_err-output.ensures.refused) (SomeFail-append _ 1 _ _ _ c.loop.invariant.0 (c.loop.attempt, refl, c.in_default-attempt.ensures.failed)))

pub returns-in-Succeeded-clause-ready : goal.returns-in-Succeeded-clause-ready
returns-in-Succeeded-clause-ready g c =
    record { between = c.attempt.new.self; failed = SomeFail-append _ 1 _ _ _ c.loop.invariant.0 (c.loop.attempt, refl, c.in_default-attempt.ensures.failed); succeeded = rw c.in-Succeeded.is at c.in_ok-output.ensures.attempted }

pub loop-preserved : goal.loop-preserved
loop-preserved g c =
    let failed = rw c.in-Listens.is at c.in_ok-output.ensures.attempted in
    let event = rw c.in-Listens.is at c.in_ok-output.ensures.event in (
      SomeFail-append _ 2 _ _ _ c.loop.invariant.0 (c.attempt.new.self, (c.loop.attempt, refl, c.in_default-attempt.ensures.failed), failed),
      inr (c.loop.attempt, c.loop.invariant.0, (c.attempt.new.self, (c.loop.attempt, refl, c.in_default-attempt.ensures.failed), failed)),
      (λ _. event),
      Prim.search (rules),
    )
