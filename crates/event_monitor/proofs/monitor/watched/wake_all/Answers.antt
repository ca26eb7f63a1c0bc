use Rattle.std.proofs.Common.{rules}
use Rattle.event_wait.proofs.LineLemmas.{woken_within}
use Rattle.event_wait.specs.Line.{woken_at_once}
use Rattle.event_monitor.proofs.monitor.watched.wake_all.Goals as goal

pub returns-clause-wakes : goal.returns-clause-wakes
returns-clause-wakes g c =
    let within = woken_within (λ tasks. tasks.sink.ghost_name) (λ tasks. tasks.sink.now) (λ waiter. waiter.task) g.K.WakeSink.woke _ (woken_at_once c.args.line.now) _ c.tell_all.ensures.wakes in
    search rules
