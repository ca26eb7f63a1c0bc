use Rattle.std.proofs.Common.{arith, sym}
use Rattle.event_queue.specs.Nodes.{shown_in, GrowsTo}
use Rattle.event_queue.proofs.Nodes.ChainSteps.{length-before_of, length-after_of, total_is, IsSound-started}
use Rattle.event_queue.proofs.Nodes.Slots.{length-shown_in}
use Rattle.event_queue.proofs.node.Chain.grow.Goals as goal

pub returns-in_err-start-clause-slots_fit : goal.returns-in_err-start-clause-slots_fit
returns-in_err-start-clause-slots_fit g c =
    let i = c.self.inside in
    let slots = i.table.slots in
    let total = total_is i.entries (shown_in slots.items) i.table.spares i.before_len i.after_len c.self.invariant in
    rw c.start.ensures.nodes
    (omega (
      arith,
      length-before_of i.entries (shown_in slots.items) i.table.spares i.before_len i.after_len c.self.invariant,
      length-after_of i.entries (shown_in slots.items) i.table.spares i.before_len i.after_len c.self.invariant,
      total,
      length-shown_in slots.items,
      slots.ok.0,
      slots.ok.1,
      slots.small,
    ))

pub returns-clause-slots_fit : goal.returns-clause-slots_fit
returns-clause-slots_fit g c =
    let i = c.self.inside in
    let slots = c.grow.new.self.slots in
    let grows : GrowsTo (shown_in i.table.slots.items) i.table.spares (shown_in slots.items) c.grow.new.self.spares =
    rw (sym c.start.ensures.slots) (rw (sym c.start.ensures.spares) c.grow.ensures.grows) in
    let sound =
    IsSound-started i.entries c.start.new.entries (shown_in i.table.slots.items) (shown_in slots.items) i.table.spares c.grow.new.self.spares i.before_len i.after_len c.self.invariant
    c.in_ok-start.ensures.started c.start.ensures.nodes grows in
    let total = total_is c.start.new.entries (shown_in slots.items) c.grow.new.self.spares i.before_len i.after_len sound in
    omega (
      arith,
      length-before_of c.start.new.entries (shown_in slots.items) c.grow.new.self.spares i.before_len i.after_len sound,
      length-after_of c.start.new.entries (shown_in slots.items) c.grow.new.self.spares i.before_len i.after_len sound,
      total,
      length-shown_in slots.items,
      slots.ok.0,
      slots.ok.1,
      slots.small,
    )
