use Rattle.event_listener.proofs.listener.queue_listener.QueueListener.drop.Goals as goal

pub returns : goal.returns
returns g c = record {
  removed = λ unfinished.
      let left = c.leave-hand.ensures.removed unfinished in
      (c.leave-hand.result.0, (left.0, c.leave-hand.result.1.mark.view, left.1, left.2));
}
