use Rattle.event_listener.proofs.WaitLemmas.{by_any_limit}
use Rattle.event_listener.proofs.listener.queue_listener.QueueListenerListener.wait_deadline.Goals as goal

pub returns-clause-waits : goal.returns-clause-waits
returns-clause-waits g c unfinished =
    let waited = c.wait_until.ensures.waits unfinished in
    (waited.0, by_any_limit _ _ _ _ _ waited.1)
