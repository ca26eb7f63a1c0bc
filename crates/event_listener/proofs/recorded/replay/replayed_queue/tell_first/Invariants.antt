use Rattle.std.proofs.Common.{◌≡◌, ◌+◌, ◌++◌, map, take, vec_len, vec_capacity}
use Rattle.event_listener.proofs.recorded.replay.replayed_queue.tell_first.Given as goal

abbrev pub invariant-loop-key : goal.invariant-loop-key
invariant-loop-key g l = record {
  told : l.told.items ≡ l.initial.told.items ++ map (λ entry. (entry.0, record { additional = l.additional; tag = l.tag })) (take l.key-index l.key-items);
  len : vec_len l.told ≡ vec_len l.initial.told + l.key-index;
  capacity : vec_capacity l.told ≡ vec_capacity l.initial.told;
}
