use Rattle.std.proofs.Common.{rules}
use Rattle.event_history.specs.Queue.{NoneLeft}
use Rattle.event_history.proofs.LawsLeft.{none_kept}
use Rattle.event_listener.proofs.event.hand.EventHand.counts.Goals as goal

pub invariant_of-self : goal.invariant_of-self
invariant_of-self g c =
    let here : NoneLeft c.self.inside.hand.mark.view.mine = c.self.invariant.1 in
    let called = c.perform-end.ensures.call in
    (Prim.search (rules), none_kept _ _ _ _ _ called.2 tt (Prim.search (rules)))
