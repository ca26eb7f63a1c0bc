-- What the table has gained so far, and that there is room for the rest.
use Rattle.std.proofs.Common.{◌≡◌, ◌+◌, ◌≤◌, length, vec_capacity, vec_len}
use Rattle.event_queue.specs.Nodes.{shown_in, GrowsTo}
use Rattle.event_queue.proofs.node.table.Table.grow.Given as goal

abbrev pub invariant-loop : goal.invariant-loop
invariant-loop g l =
    GrowsTo (shown_in l.fn.self.slots.items) l.fn.self.spares (shown_in l.self.slots.items) l.self.spares
    × (length l.self.spares ≡ length l.fn.self.spares + l.counter)
    × (vec_len l.self.slots ≡ vec_len l.fn.self.slots + l.counter)
    × (vec_len l.fn.self.slots + l.n ≤ vec_capacity l.self.slots)
    × (l.blocks.granted ≡ l.fn.blocks.granted + l.counter)
