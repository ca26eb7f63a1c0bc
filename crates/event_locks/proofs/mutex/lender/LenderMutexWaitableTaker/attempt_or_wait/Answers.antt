use Rattle.event_locks.proofs.LossLemmas.{loses-undone}
use Rattle.event_locks.proofs.mutex.lender.LenderMutexWaitableTaker.attempt_or_wait.Goals as goal

pub returns-clause-waited : goal.returns-clause-waited
returns-clause-waited g c =
    rw (← c.request.view_is) (loses-undone c.request.inside.place _ _ c.take-held.result.1 c.attempt_held-attempted.result c.attempt_held-attempted.ensures.loses)
