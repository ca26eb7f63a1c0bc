use Rattle.std.proofs.Common.{arith}
use Rattle.event_queue.specs.Nodes.{shown_in}
use Rattle.event_queue.proofs.Nodes.ChainSteps.{length-before_of, length-after_of}
use Rattle.event_queue.proofs.node.Chain.len.Goals as goal

pub returns : goal.returns
returns g c =
    let i = c.self.inside in
    let before = length-before_of i.entries (shown_in i.table.slots.items) i.table.spares i.before_len i.after_len c.self.invariant in
    let after = length-after_of i.entries (shown_in i.table.slots.items) i.table.spares i.before_len i.after_len c.self.invariant in
    rw (← c.self.view_is) (omega (arith, before, after))
