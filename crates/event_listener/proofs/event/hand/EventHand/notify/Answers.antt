use Rattle.std.proofs.Common.{rules}
use Rattle.event_history.specs.Queue.{NoneLeft}
use Rattle.event_history.proofs.LawsLeft.{none_kept}
use Rattle.event_listener.proofs.EventLemmas.{tells_some}
use Rattle.event_listener.proofs.event.hand.EventHand.notify.Goals as goal

pub perform-end-requires-clause-made : goal.perform-end-requires-clause-made
perform-end-requires-clause-made g c =
    rw c.perform-of.ensures (rw c.perform-of-2.ensures (c.perform-state_mut-queue.result.now, c.notify_uncounted-told.new.self, search rules, search rules, search rules, search rules, search rules, search rules))

pub returns-clause-tells : goal.returns-clause-tells
returns-clause-tells g c =
    rw c.into_notification.ensures at (tells_some g.N.Notify.Notification.tag_gives (g.N.Notify.Notification.count c.into_notification.result) (g.N.Notify.Notification.is_additional c.into_notification.result) _ c.into_notification.result c.notify_uncounted-told.result _ _ c.notify_uncounted-told.ensures.step)

pub invariant_of-self : goal.invariant_of-self
invariant_of-self g c =
    let here : NoneLeft c.self.inside.hand.mark.view.mine = c.self.invariant.1 in
    let called = c.perform-end.ensures.call in
    (Prim.search (rules), none_kept _ _ _ _ _ called.2 tt (Prim.search (rules)))
