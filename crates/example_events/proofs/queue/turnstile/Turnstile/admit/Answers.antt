use Rattle.std.proofs.Common.{◌≡◌, ◌≤◌, min, length, ap, ◌∙◌, arith}
use Rattle.event_queue.specs.Queue.{tasks_of}
use Rattle.event_queue.proofs.WokenLemmas.{kept_first}
use Rattle.example_events.proofs.TurnstileLemmas.{admitted}
use Rattle.example_events.proofs.queue.turnstile.Turnstile.admit.Goals as goal

pub returns-clause-numbers : goal.returns-clause-numbers
returns-clause-numbers c =
    let told : c.unwrap.result ≡ min c.args.n (length c.self.inside.line.waiting) =
    (rw (c.unwrap.ensures, c.additional.ensures) at c.notify_uncounted.ensures.step).0 in
    let within : c.unwrap.result ≤ c.min-room.result =
    omega (arith, told, c.min-room.ensures, c.total_listeners.ensures.value) in
    let chain = rw (c.unwrap.ensures, c.in_ok-admitted.ensures) at c.notify_uncounted.ensures.wakes in
    let kept = kept_first c.min-room.result (tasks_of c.unwrap.result c.self.inside.line) c.notify_uncounted.new.sink chain in
    rw (← c.self.view_is) (ap (λ sink. sink.tasks) kept ∙ admitted c.args.n c.min-room.result c.unwrap.result c.self.inside.line told within)
