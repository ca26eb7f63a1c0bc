use Rattle.event_wait.proofs.LengthLemmas.{looked}
use Rattle.event_wait.proofs.LineLemmas.{not_in-looked}
use Rattle.event_wait.proofs.waiters.look_for.Goals as goal

pub returns-clause-told : goal.returns-clause-told
returns-clause-told g c =
    (looked (g.X.TaskExchange.exchanged c.args.exchange.now) c.args.line.now c.register_with_uncounted.new.self c.args.key c.args.on.now c.register_with_uncounted.new.on c.register_with_uncounted.result c.register_with_uncounted.ensures.step).1.0

pub returns-clause-waiting : goal.returns-clause-waiting
returns-clause-waiting g c =
    (looked (g.X.TaskExchange.exchanged c.args.exchange.now) c.args.line.now c.register_with_uncounted.new.self c.args.key c.args.on.now c.register_with_uncounted.new.on c.register_with_uncounted.result c.register_with_uncounted.ensures.step).1.1

pub returns-clause-gone : goal.returns-clause-gone
returns-clause-gone g c =
    let call = c.register_with_uncounted.ensures in
    not_in-looked (g.X.TaskExchange.exchanged c.args.exchange.now) c.args.line.now c.register_with_uncounted.new.self c.args.key c.args.on.now c.register_with_uncounted.new.on c.register_with_uncounted.result call.step call.order_without
