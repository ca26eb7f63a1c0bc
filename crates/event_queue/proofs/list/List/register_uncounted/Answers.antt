use Rattle.event_queue.proofs.Calls.Taken.{IsQueue-taken_or_changed, IsRegistration-found, Registers-found}
use Rattle.event_queue.proofs.list.List.register_uncounted.Goals as goal

pub invariant_of-self : goal.invariant_of-self
invariant_of-self g c =
    IsQueue-taken_or_changed _ _ _ _ _ _ _ _ c.self.invariant c.take_or_change.ensures.step

pub returns : goal.returns
returns g c =
    rw (← c.self.view_is, c.answer.ensures.value)
    (IsRegistration-found _ c.args.key _ _ c.take_or_change.result _ _ _ c.self.invariant c.take_or_change.ensures.step
    (Registers-found c.args.task c.args.key _ _ c.take_or_change.result _ _ _ c.take_or_change.ensures.step))
