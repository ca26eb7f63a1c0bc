use Rattle.std.proofs.Common.{arith}
use Rattle.event_queue.proofs.Calls.Bounds.{visits_of_registration-most}
use Rattle.event_queue.proofs.Calls.Taken.{IsQueue-taken_or_changed, IsRegistration-found, Registers-found}
use Rattle.event_queue.proofs.list.List.register.Goals as goal

pub invariant_of-self : goal.invariant_of-self
invariant_of-self g c =
    IsQueue-taken_or_changed _ _ _ _ _ _ _ _ c.self.invariant c.take_or_change.ensures.step

pub returns-clause-law : goal.returns-clause-law
returns-clause-law g c =
    rw (← c.self.view_is, c.answer.ensures.value)
    (IsRegistration-found _ c.args.key _ _ c.take_or_change.result _ _ _ c.self.invariant c.take_or_change.ensures.step
    (Registers-found c.args.task c.args.key _ _ c.take_or_change.result _ _ _ c.take_or_change.ensures.step))

pub returns-clause-visits : goal.returns-clause-visits
returns-clause-visits g c =
    omega (arith, c.take_or_change.ensures.visits, c.answer.ensures.visits, visits_of_registration-most c.answer.result)
