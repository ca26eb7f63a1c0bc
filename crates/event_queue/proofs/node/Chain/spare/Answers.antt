use Rattle.std.proofs.Common.{arith}
use Rattle.event_queue.specs.Nodes.{shown_in}
use Rattle.event_queue.proofs.Nodes.ChainSteps.{length-before_of, length-after_of, total_is}
use Rattle.event_queue.proofs.Nodes.Slots.{length-shown_in}
use Rattle.event_queue.proofs.node.Chain.spare.Goals as goal

pub returns-clause-slots_fit : goal.returns-clause-slots_fit
returns-clause-slots_fit g c =
    let inside = c.self.inside in
    let slots = inside.table.slots in
    let total = total_is inside.entries (shown_in slots.items) inside.table.spares inside.before_len inside.after_len c.self.invariant in
    rw (← c.self.view_is)
    (omega (
      arith,
      length-before_of inside.entries (shown_in slots.items) inside.table.spares inside.before_len inside.after_len c.self.invariant,
      length-after_of inside.entries (shown_in slots.items) inside.table.spares inside.before_len inside.after_len c.self.invariant,
      total,
      length-shown_in slots.items,
      slots.ok.0,
      slots.ok.1,
      slots.small,
    ))
