use Rattle.std.proofs.Common.{rules}
use Rattle.event_listener.proofs.EventLemmas.{tells_some}
use Rattle.event_listener.proofs.event.Event.notify.Goals as goal

pub returns : goal.returns
returns g c =
    rw c.into_notification-notification.ensures at (tells_some g.N.Notify.Notification.tag_gives (g.N.Notify.Notification.count c.into_notification-notification.result) (g.N.Notify.Notification.is_additional c.into_notification-notification.result) _ c.into_notification-notification.result c.notify_uncounted-told.result _ _ c.notify_uncounted-told.ensures.step)

pub perform_first-end-requires-clause-made : goal.perform_first-end-requires-clause-made
perform_first-end-requires-clause-made g c =
    rw c.perform_first-of.ensures (rw c.perform_first-of-2.ensures (c.perform_first-state_mut-queue.result.now, c.notify_uncounted-told.new.self, search rules, search rules, search rules, search rules, search rules, search rules))
