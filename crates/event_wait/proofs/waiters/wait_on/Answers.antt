use Rattle.event_wait.proofs.LineLemmas.{stays, goes_last, told_has_left, absent_left, cannot_wait}
use Rattle.event_wait.proofs.waiters.wait_on.Goals as goal

pub returns-in-Registered-clause-waits : goal.returns-in-Registered-clause-waits
returns-in-Registered-clause-waits g c =
    let call = c.in-Registered.ensures in
    stays (g.X.TaskExchange.exchanged c.args.exchange.now) c.args.line.now c.register_with_uncounted.new.self c.args.key c.args.on.now c.register_with_uncounted.new.on call.queue call.order_kept call.step

pub returns-in-Notified-clause-refused : goal.returns-in-Notified-clause-refused
returns-in-Notified-clause-refused g c =
    let call = c.in-Notified.ensures in
    let left = told_has_left c.args.line.now c.register_with_uncounted.new.self c.args.key call.step.1 call.gone call.order_without in
    cannot_wait c.args.line.now c.register_with_uncounted.new.self c.join_line.new.line c.args.key c.join_line.result left.0 left.1 c.join_line.ensures.refused c.join_line.ensures.reason

pub returns-in-NeverInserted-clause-waits : goal.returns-in-NeverInserted-clause-waits
returns-in-NeverInserted-clause-waits g c =
    let call = c.in-NeverInserted.ensures in
    let end = c.join_line-in-NeverInserted in
    let left = absent_left c.args.line.now c.register_with_uncounted.new.self c.args.key call.step.1 call.step.0 in
    rw call.step.2 at (goes_last (g.X.TaskExchange.exchanged c.args.exchange.now) c.args.line.now c.register_with_uncounted.new.self end.new.line c.args.key end.result c.register_with_uncounted.new.on end.new.on left call.step.0.unwaiting end.ensures.waits)

pub returns-in-NeverInserted-clause-refused : goal.returns-in-NeverInserted-clause-refused
returns-in-NeverInserted-clause-refused g c =
    let call = c.in-NeverInserted.ensures in
    let end = c.join_line-in-NeverInserted in
    let left = absent_left c.args.line.now c.register_with_uncounted.new.self c.args.key call.step.1 call.step.0 in
    cannot_wait c.args.line.now c.register_with_uncounted.new.self end.new.line c.args.key end.result left call.step.0.unwaiting end.ensures.refused end.ensures.reason
