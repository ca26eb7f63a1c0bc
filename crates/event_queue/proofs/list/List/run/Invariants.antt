use Rattle.std.proofs.Common.{◌≡◌, ◌+◌, ◌≤◌, length, vec_len, vec_capacity}
use Rattle.std.specs.Vec.Iter.{into_iter_items}
use Rattle.event_queue.proofs.Calls.Runs.{RunsSoFar}
use Rattle.event_queue.proofs.list.List.run.Given as goal

abbrev pub invariant-loop-call : goal.invariant-loop-call
invariant-loop-call g l = record {
  made : RunsSoFar g.S.WakeSink.woke l.fn.calls.items l.initial.self l.initial.replies.items l.initial.sink l.yielded (into_iter_items l.call-iterator) l.self l.replies.items l.sink;
  one_each : vec_len l.replies ≡ vec_len l.initial.replies + length l.yielded;
  room : vec_len l.replies + length (into_iter_items l.call-iterator) ≤ vec_capacity l.replies;
}
