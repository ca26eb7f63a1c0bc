use Rattle.std.proofs.Common.{◌≡◌, ◌+◌, ◌≤◌, ◌++◌, take, drop, vec_len, vec_capacity}
use Rattle.std.specs.VecDeque.{deque_capacity}
use Rattle.event_channel.proofs.messages.move_first.Given as goal

abbrev pub invariant-loop : goal.invariant-loop
invariant-loop g l = record {
  left : l.items.items ≡ drop l.counter l.fn.items.items;
  moved : l.into.items ≡ l.fn.into.items ++ take l.counter l.fn.items.items;
  count : vec_len l.into ≡ vec_len l.fn.into + l.counter;
  room : vec_len l.fn.into + l.count ≤ vec_capacity l.into;
  places : deque_capacity l.items ≡ deque_capacity l.fn.items;
}
