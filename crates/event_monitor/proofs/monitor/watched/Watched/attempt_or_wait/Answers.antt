use Rattle.std.proofs.Common.{refl}
use Rattle.event_monitor.proofs.WatchedLemmas.{waited}
use Rattle.event_monitor.proofs.monitor.watched.Watched.attempt_or_wait.Goals as goal

pub invariant_of-self-in-None : goal.invariant_of-self-in-None
invariant_of-self-in-None g c =
    let failed = c.in-None.ensures.failed refl in
    let same = c.in-None.ensures.kept refl in
    let call = c.watch_in_line in
    rw same (waited g.C.Condition.fails c.self.inside.value (g.X.TaskExchange.exchanged c.args.exchange.now) c.args.condition failed c.args.key c.self.inside.line c.args.on.now call.result call.new.line call.new.on call.ensures.waits call.ensures.refused c.self.invariant)
