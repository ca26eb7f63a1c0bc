use Rattle.event_queue.proofs.Calls.Taken.{IsQueue-taken_or_changed, IsRegistration-found, RegistersWith-found}
use Rattle.event_queue.proofs.list.List.register_with_uncounted.Goals as goal

pub invariant_of-self : goal.invariant_of-self
invariant_of-self g c =
    IsQueue-taken_or_changed _ _ _ _ _ _ _ _ c.self.invariant c.take_or_change.ensures.step

pub returns : goal.returns
returns g c =
    let exchanged = g.X.TaskExchange.exchanged c.args.exchange.now in
    rw (← c.self.view_is, c.answer.ensures.value)
    (IsRegistration-found _ c.args.key _ c.args.on.now c.take_or_change.result _ c.take_or_change.new.on _ c.self.invariant c.take_or_change.ensures.step
    (RegistersWith-found exchanged c.args.key _ c.args.on.now c.take_or_change.result _ c.take_or_change.new.on _ c.take_or_change.ensures.step))
