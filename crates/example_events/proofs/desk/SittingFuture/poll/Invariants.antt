use Rattle.futures.specs.Task.{Keeps}
use Rattle.example_events.proofs.desk.SittingFuture.poll.Given as goal

-- each poll keeps what the context that was handed in has
abbrev pub invariant-loop : goal.invariant-loop
invariant-loop g l =
    (goal.iterator-loop g).can_next l.iterator' × (goal.iterator-loop g).is_finite l.iterator' × Keeps l.fn.cx l.cx
