use Rattle.std.proofs.Common.{Some, set, ap, ◌∙◌}
use denote.RawPtr.{Ptr}
use Rattle.event_queue.specs.Nodes.{shown_in}
use Rattle.event_queue.proofs.Nodes.Slots.{shown_in-used}
use Rattle.event_queue.proofs.node.table.Table.fill.Goals as goal

pub returns-clause-slots : goal.returns-clause-slots
returns-clause-slots g c =
    let slots = c.args.self.now.slots.items in
    shown_in-used slots c.args.key.slot c.args.key.serial c.place.result c.requires.serial
    ∙ ap (λ (p : Ptr). set (shown_in slots) c.args.key.slot (Some (c.args.key.serial, record { ptr = p }))) c.place.ensures
