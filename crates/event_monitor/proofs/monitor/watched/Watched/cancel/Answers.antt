use Rattle.event_monitor.proofs.WatchedLemmas.{left}
use Rattle.event_monitor.proofs.monitor.watched.Watched.cancel.Goals as goal

pub invariant_of-self : goal.invariant_of-self
invariant_of-self g c =
    left g.C.Condition.fails c.self.inside.value c.args.key c.self.inside.line c.leave.new.line c.leave.ensures.left c.self.invariant
