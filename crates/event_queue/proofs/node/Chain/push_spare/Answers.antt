use Rattle.std.proofs.Common.{Some, sym, set, ◌≡◌, ◌+◌, arith, refl, ap, ◌∙◌}
use Rattle.std.proofs.lemmas.List.{length-set}
use denote.RawPtr.{Ptr}
use Rattle.event_queue.specs.Nodes.{held_after}
use Rattle.event_queue.specs.Ring.{placed}
use Rattle.event_queue.specs.Nodes.{shown_in, value_before, value_after}
use Rattle.event_queue.proofs.Nodes.ChainSteps.{length-before_of, length-after_of, total_is, spare_is, spare_slot_within, spare_is_free, after_pushed, before_pushed, IsSound-pushed}
use Rattle.event_queue.proofs.Nodes.Slots.{length-shown_in}
use Rattle.event_queue.proofs.node.Chain.push_spare.Goals as goal

pub append-slot-requires-clause-alone : goal.append-slot-requires-clause-alone
append-slot-requires-clause-alone g c =
    rw c.unwrap-node.ensures at c.take_spare.ensures.alone

pub append-slot-requires-clause-spare : goal.append-slot-requires-clause-spare
append-slot-requires-clause-spare g c =
    let i = c.self.inside in
    let node = c.unwrap-node.result in
    let spares = rw c.unwrap-node.ensures at c.take_spare.ensures.spares in
    spare_is i.entries (shown_in i.table.slots.items) i.table.spares c.take_spare.new.self.spares (placed node.at node.entry) i.before_len i.after_len c.self.invariant spares

pub fill-requires-clause-slot : goal.fill-requires-clause-slot
fill-requires-clause-slot g c =
    let i = c.self.inside in
    let node = c.unwrap-node.result in
    let spares = rw c.unwrap-node.ensures at c.take_spare.ensures.spares in
    rw (c.append-slot.ensures.slot, c.take_spare.ensures.slots)
    (spare_slot_within i.entries (shown_in i.table.slots.items) i.table.spares c.take_spare.new.self.spares (placed node.at node.entry) i.before_len i.after_len c.self.invariant spares)

pub invariant_of-self : goal.invariant_of-self
invariant_of-self g c =
    let i = c.self.inside in
    let is = sym (rw c.unwrap-entries.ensures at c.as_mut.ensures.value) in
    let sound = rw is at c.self.invariant in
    let node = c.unwrap-node.result in
    let spares = rw c.unwrap-node.ensures at c.take_spare.ensures.spares in
    let there = rw (c.take_spare.ensures.slots, c.append-slot.ensures.slot) at c.fill.ensures.slots in
    let slots_are : shown_in c.fill.new.self.slots.items ≡ set (shown_in i.table.slots.items) node.entry.slot (Some (c.args.serial, record { ptr = node.at })) =
    there ∙ ap (λ (p : Ptr). set (shown_in i.table.slots.items) node.entry.slot (Some (c.args.serial, record { ptr = p }))) c.append-slot.ensures.place in
    let later = IsSound-pushed c.unwrap-entries.result.now (shown_in i.table.slots.items) i.table.spares i.before_len i.after_len sound c.append-slot.new.self
    (placed node.at (record {
      slot = node.entry.slot;
      serial = c.args.serial;
      held = held_after c.args.value;
    })) c.args.value c.append-slot.ensures.nodes refl (placed node.at node.entry) c.take_spare.new.self.spares spares refl refl c.append-slot.ensures.root c.append-slot.ensures.cursor in
    rw (slots_are, c.fill.ensures.spares) later

pub returns-clause-before : goal.returns-clause-before
returns-clause-before g c =
    let i = c.self.inside in
    let is = sym (rw c.unwrap-entries.ensures at c.as_mut.ensures.value) in
    let sound = rw is at c.self.invariant in
    let node = c.unwrap-node.result in
    rw (← c.self.view_is, is)
    (before_pushed c.unwrap-entries.result.now (shown_in i.table.slots.items) i.table.spares i.before_len i.after_len sound c.append-slot.new.self
    (placed node.at (record { slot = node.entry.slot; serial = c.args.serial; held = held_after c.args.value })) c.args.value c.append-slot.ensures.nodes refl)

pub returns-clause-after : goal.returns-clause-after
returns-clause-after g c =
    let i = c.self.inside in
    let is = sym (rw c.unwrap-entries.ensures at c.as_mut.ensures.value) in
    let sound = rw is at c.self.invariant in
    let node = c.unwrap-node.result in
    rw (← c.self.view_is, is, c.append-slot.ensures.slot)
    (after_pushed c.unwrap-entries.result.now (shown_in i.table.slots.items) i.table.spares i.before_len i.after_len sound c.append-slot.new.self
    (placed node.at (record { slot = node.entry.slot; serial = c.args.serial; held = held_after c.args.value })) c.args.value c.append-slot.ensures.nodes refl)

pub returns-clause-slot_before : goal.returns-clause-slot_before
returns-clause-slot_before g c =
    let i = c.self.inside in
    let node = c.unwrap-node.result in
    let spares = rw c.unwrap-node.ensures at c.take_spare.ensures.spares in
    rw (← c.self.view_is, c.append-slot.ensures.slot)
    (spare_is_free i.entries (shown_in i.table.slots.items) i.table.spares c.take_spare.new.self.spares (placed node.at node.entry) i.before_len i.after_len c.self.invariant spares value_before)

pub returns-clause-slot_after : goal.returns-clause-slot_after
returns-clause-slot_after g c =
    let i = c.self.inside in
    let node = c.unwrap-node.result in
    let spares = rw c.unwrap-node.ensures at c.take_spare.ensures.spares in
    rw (← c.self.view_is, c.append-slot.ensures.slot)
    (spare_is_free i.entries (shown_in i.table.slots.items) i.table.spares c.take_spare.new.self.spares (placed node.at node.entry) i.before_len i.after_len c.self.invariant spares value_after)

pub returns-clause-slots_fit : goal.returns-clause-slots_fit
returns-clause-slots_fit g c =
    let i = c.self.inside in
    let is = sym (rw c.unwrap-entries.ensures at c.as_mut.ensures.value) in
    let sound = rw is at c.self.invariant in
    let node = c.unwrap-node.result in
    let spares = rw c.unwrap-node.ensures at c.take_spare.ensures.spares in
    let there = rw (c.take_spare.ensures.slots, c.append-slot.ensures.slot) at c.fill.ensures.slots in
    let slots_are : shown_in c.fill.new.self.slots.items ≡ set (shown_in i.table.slots.items) node.entry.slot (Some (c.args.serial, record { ptr = node.at })) =
    there ∙ ap (λ (p : Ptr). set (shown_in i.table.slots.items) node.entry.slot (Some (c.args.serial, record { ptr = p }))) c.append-slot.ensures.place in
    let later = IsSound-pushed c.unwrap-entries.result.now (shown_in i.table.slots.items) i.table.spares i.before_len i.after_len sound c.append-slot.new.self
    (placed node.at (record {
      slot = node.entry.slot;
      serial = c.args.serial;
      held = held_after c.args.value;
    })) c.args.value c.append-slot.ensures.nodes refl (placed node.at node.entry) c.take_spare.new.self.spares spares refl refl c.append-slot.ensures.root c.append-slot.ensures.cursor in
    let slots = i.table.slots in
    let all = set (shown_in slots.items) node.entry.slot (Some (c.args.serial, record { ptr = node.at })) in
    let rest = c.take_spare.new.self.spares in
    let after = i.after_len + 1 in
    let entries = c.append-slot.new.self in
    let total = total_is (Some entries) all rest i.before_len after later in
    rw c.fill.ensures.spares
    (omega (
      arith,
      length-before_of (Some entries) all rest i.before_len after later,
      length-after_of (Some entries) all rest i.before_len after later,
      total,
      length-set (shown_in slots.items) node.entry.slot (Some (c.args.serial, record { ptr = node.at })),
      length-shown_in slots.items,
      slots.ok.0,
      slots.ok.1,
      slots.small,
    ))
