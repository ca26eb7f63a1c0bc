use Rattle.std.proofs.Common.{ℕ, true, false, ap, ◌∙◌}
use Rattle.event_worlds.specs.Line.{notified}
use Rattle.event_worlds.proofs.StepLemmas.{GivesUnit, notifies-now}
use Rattle.event_worlds.proofs.world.line.ClientLine.notify.Goals as goal

pub invariant_of-self : goal.invariant_of-self
invariant_of-self c =
    (notifies-now c.self.inside.additional c.self.inside.list c.self.inside.keys.items c.self.inside.wakes c.self.invariant c.args.self.now c.self.view_is GivesUnit c.additional-notification.result true c.if-self.true c.additional-notification.result c.notify_uncounted-told.new.n c.notify_uncounted-told.result c.notify_uncounted-told.new.self c.notify_uncounted-told.new.sink c.notify_uncounted-told.ensures.step (c.notify_uncounted-told.ensures.unrefused (λ before after refused. absurd (cc))) c.notify_uncounted-told.ensures.wakes).tied

pub returns-then-self : goal.returns-then-self
returns-then-self c =
    record { changed = (notifies-now c.self.inside.additional c.self.inside.list c.self.inside.keys.items c.self.inside.wakes c.self.invariant c.args.self.now c.self.view_is GivesUnit c.additional-notification.result true c.if-self.true c.additional-notification.result c.notify_uncounted-told.new.n c.notify_uncounted-told.result c.notify_uncounted-told.new.self c.notify_uncounted-told.new.sink c.notify_uncounted-told.ensures.step (c.notify_uncounted-told.ensures.unrefused (λ before after refused. absurd (cc))) c.notify_uncounted-told.ensures.wakes).is ∙ ap (λ (n : ℕ). notified n c.args.self.now) c.additional-notification.ensures }

pub invariant_of-self-else-self : goal.invariant_of-self-else-self
invariant_of-self-else-self c =
    (notifies-now c.self.inside.additional c.self.inside.list c.self.inside.keys.items c.self.inside.wakes c.self.invariant c.args.self.now c.self.view_is GivesUnit c.into_notification-notification.result false c.if-self.false c.into_notification-notification.result c.notify_uncounted-told-else-self.new.n c.notify_uncounted-told-else-self.result c.notify_uncounted-told-else-self.new.self c.notify_uncounted-told-else-self.new.sink c.notify_uncounted-told-else-self.ensures.step (c.notify_uncounted-told-else-self.ensures.unrefused (λ before after refused. absurd (cc))) c.notify_uncounted-told-else-self.ensures.wakes).tied

pub returns-else-self : goal.returns-else-self
returns-else-self c =
    record { changed = (notifies-now c.self.inside.additional c.self.inside.list c.self.inside.keys.items c.self.inside.wakes c.self.invariant c.args.self.now c.self.view_is GivesUnit c.into_notification-notification.result false c.if-self.false c.into_notification-notification.result c.notify_uncounted-told-else-self.new.n c.notify_uncounted-told-else-self.result c.notify_uncounted-told-else-self.new.self c.notify_uncounted-told-else-self.new.sink c.notify_uncounted-told-else-self.ensures.step (c.notify_uncounted-told-else-self.ensures.unrefused (λ before after refused. absurd (cc))) c.notify_uncounted-told-else-self.ensures.wakes).is ∙ ap (λ (n : ℕ). notified n c.args.self.now) c.into_notification-notification.ensures }
