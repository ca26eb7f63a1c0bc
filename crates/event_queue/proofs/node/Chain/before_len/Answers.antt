use Rattle.std.proofs.Common.{sym}
use Rattle.event_queue.specs.Nodes.{shown_in}
use Rattle.event_queue.proofs.Nodes.ChainSteps.{length-before_of}
use Rattle.event_queue.proofs.node.Chain.before_len.Goals as goal

pub returns : goal.returns
returns g c =
    let i = c.self.inside in
    rw (← c.self.view_is)
    (sym (length-before_of i.entries (shown_in i.table.slots.items) i.table.spares i.before_len i.after_len c.self.invariant))
