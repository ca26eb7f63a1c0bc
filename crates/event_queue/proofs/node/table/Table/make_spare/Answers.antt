use Rattle.std.proofs.Common.{length, arith, ◌≡◌, ap, ◌∙◌}
use Rattle.event_queue.specs.Nodes.{spare_entry, shown_in}
use Rattle.event_queue.proofs.Nodes.Slots.{IsTable-grown, length-shown_in, shown_in-longer}
use Rattle.event_queue.proofs.node.table.Table.make_spare.Goals as goal

pub returns-clause-grows : goal.returns-clause-grows
returns-clause-grows g c = λ nodes table.
    let slots = c.args.self.now.slots in
    let is : c.spare.result ≡ spare_entry (length (shown_in slots.items)) =
    c.spare.ensures ∙ ap spare_entry (omega (arith, c.if-len, c.len-len.ensures, slots.ok.0, length-shown_in slots.items)) in
    rw (c.push_reserved.ensures.items, c.push-place.ensures.nodes, shown_in-longer slots.items c.push-place.result)
    (IsTable-grown (shown_in slots.items) nodes c.args.self.now.spares _ is table)
