use Rattle.event_until.proofs.AttemptLemmas.{OnPending-gives}
use Rattle.event_until.proofs.until.polling.UntilFuture.poll.Goals as goal

pub returns-clause-same : goal.returns-clause-same
returns-clause-same g c = OnPending-gives _ _ _ _ _ _ c.poll_in.ensures.pending
