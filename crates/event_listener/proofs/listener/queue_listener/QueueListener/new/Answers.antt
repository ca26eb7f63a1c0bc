use Rattle.std.proofs.Common.{rules}
use Rattle.event_listener.proofs.HandLemmas.{leaves_first, owns_first}
use Rattle.event_listener.proofs.listener.queue_listener.QueueListener.new.Goals as goal

pub invariant_of-result : goal.invariant_of-result
invariant_of-result g c = (
  Prim.search (rules),
  (
    c.args.hand.mark.view,
    c.rest.ensures.1,
    (λ _. owns_first c.args.key c.new.result.key c.args.hand.mark.view.mine c.new.ensures.key c.requires.joined),
    leaves_first c.args.key c.new.result c.args.hand.mark.view.mine c.new.ensures.key c.new.ensures.unfinished c.requires.joined,
  ),
)
