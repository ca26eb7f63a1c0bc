use Rattle.event_listener.proofs.listener.queue_listener.QueueListenerListener.discard.Goals as goal

pub returns-clause-removed : goal.returns-clause-removed
returns-clause-removed g c unfinished =
    let left = c.leave-told.ensures.removed unfinished in
    (left.0, c.leave-told.result.1.mark.view, left.1, left.2)
