use Rattle.std.proofs.Common.{ap, is_some, refl}
use Rattle.event_wait.proofs.LineLemmas.{stays}
use Rattle.event_channel.proofs.messages.turns.wait_at_place.Goals as goal

pub returns-in-Registered-clause-waits : goal.returns-in-Registered-clause-waits
returns-in-Registered-clause-waits g c =
    let call = c.in-Registered.ensures in
    (refl, stays (g.X.TaskExchange.exchanged c.args.exchange.now) c.args.line.now c.register_with_uncounted.new.self c.args.key c.args.on.now c.register_with_uncounted.new.on call.queue call.order_kept call.step, ap is_some call.step.found)
