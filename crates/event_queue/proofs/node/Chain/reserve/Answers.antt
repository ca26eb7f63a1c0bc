use Rattle.std.proofs.Common.{arith}
use Rattle.event_queue.specs.Nodes.{shown_in}
use Rattle.event_queue.proofs.Nodes.ChainSteps.{length-before_of, length-after_of, total_is}
use Rattle.event_queue.proofs.Nodes.Slots.{length-shown_in}
use Rattle.event_queue.proofs.node.Chain.reserve.Goals as goal

pub returns-then-n-spare-clause-slots_fit : goal.returns-then-n-spare-clause-slots_fit
returns-then-n-spare-clause-slots_fit g c =
    let i = c.self.inside in
    let slots = i.table.slots in
    let total = total_is i.entries (shown_in slots.items) i.table.spares i.before_len i.after_len c.self.invariant in
    rw (← c.self.view_is)
    (omega (
      arith,
      length-before_of i.entries (shown_in slots.items) i.table.spares i.before_len i.after_len c.self.invariant,
      length-after_of i.entries (shown_in slots.items) i.table.spares i.before_len i.after_len c.self.invariant,
      total,
      length-shown_in slots.items,
      slots.ok.0,
      slots.ok.1,
      slots.small,
    ))
