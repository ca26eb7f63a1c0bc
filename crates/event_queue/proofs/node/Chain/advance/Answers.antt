use Rattle.std.proofs.Common.{sym}
use Rattle.event_queue.proofs.Nodes.Takes.{some_after_it, has_next, next_stands, read_within, key_of_first, sound_advanced, next_was_first, next_is_last}
use Rattle.event_queue.proofs.node.Chain.advance.Goals as goal

pub first-slot-requires : goal.first-slot-requires
first-slot-requires g c =
    let is = sym (rw c.unwrap-entries.ensures at c.as_mut.ensures.value) in
    let some = rw (← c.self.view_is) at c.requires in
    next_stands c.self.invariant is some

pub serial_in-requires : goal.serial_in-requires
serial_in-requires g c =
    let is = sym (rw c.unwrap-entries.ensures at c.as_mut.ensures.value) in
    let some = rw (← c.self.view_is) at c.requires in
    read_within c.self.invariant is some c.first-slot.ensures.slot

pub advance-requires-clause-node : goal.advance-requires-clause-node
advance-requires-clause-node g c =
    let is = sym (rw c.unwrap-entries.ensures at c.as_mut.ensures.value) in
    let some = rw (← c.self.view_is) at c.requires in
    has_next c.self.invariant is some

pub overflow_sub-self : goal.overflow_sub-self
overflow_sub-self g c =
    let is = sym (rw c.unwrap-entries.ensures at c.as_mut.ensures.value) in
    let some = rw (← c.self.view_is) at c.requires in
    some_after_it c.self.invariant is some

pub invariant_of-self : goal.invariant_of-self
invariant_of-self g c =
    let is = sym (rw c.unwrap-entries.ensures at c.as_mut.ensures.value) in
    let some = rw (← c.self.view_is) at c.requires in
    let key = key_of_first c.self.inside.table.slots.items c.self.invariant is some c.first-slot.ensures.slot c.serial_in.ensures in
    sound_advanced c.self.invariant is some key c.advance.ensures

pub returns-clause-first : goal.returns-clause-first
returns-clause-first g c =
    let is = sym (rw c.unwrap-entries.ensures at c.as_mut.ensures.value) in
    let some = rw (← c.self.view_is) at c.requires in
    let key = key_of_first c.self.inside.table.slots.items c.self.invariant is some c.first-slot.ensures.slot c.serial_in.ensures in
    rw (← c.self.view_is) (next_was_first c.self.invariant is some key c.advance.ensures)

pub returns-clause-told : goal.returns-clause-told
returns-clause-told g c =
    let is = sym (rw c.unwrap-entries.ensures at c.as_mut.ensures.value) in
    let some = rw (← c.self.view_is) at c.requires in
    let key = key_of_first c.self.inside.table.slots.items c.self.invariant is some c.first-slot.ensures.slot c.serial_in.ensures in
    rw (← c.self.view_is) (next_is_last c.self.invariant is some key c.advance.ensures)
