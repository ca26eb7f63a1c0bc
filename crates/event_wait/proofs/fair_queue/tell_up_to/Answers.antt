use Rattle.std.proofs.Common.{rules}
use Rattle.event_wait.proofs.LineLemmas.{woken_within}
use Rattle.event_wait.specs.Line.{woken_up_to}
use Rattle.event_wait.proofs.fair_queue.tell_up_to.Goals as goal

pub returns-clause-wakes : goal.returns-clause-wakes
returns-clause-wakes g c =
    let within = woken_within (λ tasks. tasks.sink.ghost_name) (λ tasks. tasks.sink.now) (λ waiter. waiter.task) g.S.WakeSink.woke _ (woken_up_to c.args.n c.args.queue.now) _ c.tell.ensures.wakes in
    search rules
