use Rattle.std.proofs.Common.{◌∙◌}
use Rattle.event_queue.proofs.QueueLemmas.{IsQueue-push_storing}
use Rattle.event_queue.proofs.list.List.join.Goals as goal

pub invariant_of-self : goal.invariant_of-self
invariant_of-self g c =
    let pushed = c.push_spare-key.ensures in
    let fits = rw (pushed.before, pushed.after) at pushed.slots_fit in
    let left = rw (← c.self.view_is) at c.requires.left in
    let next = rw (← c.self.view_is) at c.requires.serial in
    rw (pushed.before, pushed.after) (IsQueue-push_storing _ c.push_spare-key.result c.args.stored _ c.self.invariant (pushed.serial ∙ next) left fits)

pub returns-clause-queue : goal.returns-clause-queue
returns-clause-queue g c =
    let pushed = c.push_spare-key.ensures in
    let fits = rw (pushed.before, pushed.after) at pushed.slots_fit in
    let left = rw (← c.self.view_is) at c.requires.left in
    let next = rw (← c.self.view_is) at c.requires.serial in
    rw (pushed.before, pushed.after) (IsQueue-push_storing _ c.push_spare-key.result c.args.stored _ c.self.invariant (pushed.serial ∙ next) left fits)
