use Rattle.event_queue.proofs.Nodes.Slots.{shown_in-unused}
use Rattle.event_queue.proofs.node.table.Table.recycle.Goals as goal

pub returns-clause-slots : goal.returns-clause-slots
returns-clause-slots g c =
    shown_in-unused c.args.self.now.slots.items c.args.slot c.index_mut.result.now.place
