use Rattle.std.proofs.Common.{refl, sym}
use Rattle.event_queue.proofs.Nodes.Takes.{reached, has_none, stands, within, has_room, is_after_it, is_before_it, stands_spare, some_were_before, sound_before, was_before, left_before, had_value, sound_changed, left_changed}
use Rattle.event_queue.proofs.node.Chain.take_or_change.Goals as goal

pub returns-in_err-own-clause-step : goal.returns-in_err-own-clause-step
returns-in_err-own-clause-step g c =
    let none = has_none c.args.key c.self.invariant (rw c.in_err-own.was at c.find.ensures.node) in
    rw (← c.self.view_is, c.from_residual.ensures) (none, refl, refl)

pub is_after-requires : goal.is_after-requires
is_after-requires g c =
    let node = reached c.self.invariant (sym (rw c.unwrap-entries.ensures at c.as_mut.ensures.value)) (rw c.in_ok-own.was at c.find.ensures.node) in
    stands node

pub take_before-value-requires : goal.take_before-value-requires
take_before-value-requires g c =
    let node = reached c.self.invariant (sym (rw c.unwrap-entries.ensures at c.as_mut.ensures.value)) (rw c.in_ok-own.was at c.find.ensures.node) in
    is_before_it node c.is_after.result c.is_after.ensures c.if-is_after.false

pub recycle-requires-clause-slot : goal.recycle-requires-clause-slot
recycle-requires-clause-slot g c =
    let node = reached c.self.invariant (sym (rw c.unwrap-entries.ensures at c.as_mut.ensures.value)) (rw c.in_ok-own.was at c.find.ensures.node) in
    within node

pub recycle-requires-clause-room : goal.recycle-requires-clause-room
recycle-requires-clause-room g c =
    let node = reached c.self.invariant (sym (rw c.unwrap-entries.ensures at c.as_mut.ensures.value)) (rw c.in_ok-own.was at c.find.ensures.node) in
    has_room node

pub overflow_sub-self : goal.overflow_sub-self
overflow_sub-self g c =
    let node = reached c.self.invariant (sym (rw c.unwrap-entries.ensures at c.as_mut.ensures.value)) (rw c.in_ok-own.was at c.find.ensures.node) in
    some_were_before node c.take_before-value.ensures.taken c.take_before-value.result.0 c.take_before-value.ensures.value

pub invariant_of-self-2 : goal.invariant_of-self-2
invariant_of-self-2 g c =
    let node = reached c.self.invariant (sym (rw c.unwrap-entries.ensures at c.as_mut.ensures.value)) (rw c.in_ok-own.was at c.find.ensures.node) in
    rw (c.recycle.ensures.slots, c.recycle.ensures.spares)
    (sound_before node c.take_before-value.ensures.taken c.take_before-value.result.0 c.take_before-value.ensures.value _ c.take_before-value.ensures.cursor)

pub returns-clause-step : goal.returns-clause-step
returns-clause-step g c =
    let node = reached c.self.invariant (sym (rw c.unwrap-entries.ensures at c.as_mut.ensures.value)) (rw c.in_ok-own.was at c.find.ensures.node) in
    let found = was_before node c.take_before-value.ensures.taken c.take_before-value.result.0 c.take_before-value.ensures.value in
    let left = left_before node c.take_before-value.ensures.taken c.take_before-value.result.0 c.take_before-value.ensures.value _ in
    rw (← c.self.view_is, c.recycle.ensures.spares) (found, left, refl)

pub hand_out-requires : goal.hand_out-requires
hand_out-requires g c =
    let node = reached c.self.invariant (sym (rw c.unwrap-entries.ensures at c.as_mut.ensures.value)) (rw c.in_ok-own.was at c.find.ensures.node) in
    is_after_it node c.is_after.result c.is_after.ensures c.if-is_after.true

pub hand_in-requires : goal.hand_in-requires
hand_in-requires g c =
    let node = reached c.self.invariant (sym (rw c.unwrap-entries.ensures at c.as_mut.ensures.value)) (rw c.in_ok-own.was at c.find.ensures.node) in
    stands_spare node c.hand_out.ensures

pub invariant_of-self : goal.invariant_of-self
invariant_of-self g c =
    let node = reached c.self.invariant (sym (rw c.unwrap-entries.ensures at c.as_mut.ensures.value)) (rw c.in_ok-own.was at c.find.ensures.node) in
    sound_changed node c.hand_out.ensures c.hand_in.ensures

pub returns-then-is_after-clause-step : goal.returns-then-is_after-clause-step
returns-then-is_after-clause-step g c =
    let node = reached c.self.invariant (sym (rw c.unwrap-entries.ensures at c.as_mut.ensures.value)) (rw c.in_ok-own.was at c.find.ensures.node) in
    let found = had_value node c.hand_out.ensures c.hand_in.ensures in
    let changed = left_changed node c.hand_out.ensures c.hand_in.ensures in
    record {
      former = c.hand_out.result;
      value = c.change-value.result;
      found = rw (← c.self.view_is) found;
      made = c.change-value.ensures;
      stored = rw (← c.self.view_is) changed;
    }
