use Rattle.std.proofs.Common.{refl}
use Rattle.std.proofs.lemmas.Result.{err_from_is_err_and}
use Rattle.event_until.specs.declared.error.UntilError.{UntilError}
use Rattle.event_until.proofs.AttemptLemmas.{SomeFail-append, Succeeded-last}
use Rattle.event_until.proofs.until.blocking.attempt_again.Goals as goal

pub returns-in_err-wait_until-clause-failed : goal.returns-in_err-wait_until-clause-failed
returns-in_err-wait_until-clause-failed g c =
    let error = err_from_is_err_and c.from_residual-in_err-wait_until.result c.from_residual-in_err-wait_until.ensures.1 in
    let failed = rw c.in-Listens.is at c.in_ok-output.ensures.attempted in
    rw (error.1) (SomeFail-append _ 1 _ _ _ c.loop.invariant (c.loop.attempt, refl, failed))

pub returns-then-is_none-clause-succeeded : goal.returns-then-is_none-clause-succeeded
returns-then-is_none-clause-succeeded g c =
    let failed = rw c.in-Listens.is at c.in_ok-output.ensures.attempted in
    Succeeded-last _ _ UntilError _ _ _ _ (SomeFail-append _ 1 _ _ _ c.loop.invariant (c.loop.attempt, refl, failed)) c.attempt_at_limit.ensures.succeeded

pub returns-in-Some-attempt-clause-succeeded : goal.returns-in-Some-attempt-clause-succeeded
returns-in-Some-attempt-clause-succeeded g c =
    let failed = rw c.in-Listens.is at c.in_ok-output.ensures.attempted in
    record { between = c.listen_and_attempt.new.attempt; failed = SomeFail-append _ 1 _ _ _ c.loop.invariant (c.loop.attempt, refl, failed); succeeded = c.in-Some-attempt.ensures.succeeded }

pub loop-preserved : goal.loop-preserved
loop-preserved g c =
    let failed = rw c.in-Listens.is at c.in_ok-output.ensures.attempted in
    SomeFail-append _ 2 _ _ _ c.loop.invariant (c.listen_and_attempt.new.attempt, (c.loop.attempt, refl, failed), c.in_default.ensures.failed)
