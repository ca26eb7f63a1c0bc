use Rattle.event_queue.specs.Nodes.{shown_in, value_before}
use Rattle.event_queue.proofs.Nodes.ChainSteps.{stands_at, tests_lookup, leads_nowhere}
use Rattle.event_queue.proofs.node.Chain.is_before.Goals as goal

pub is_before-requires : goal.is_before-requires
is_before-requires g c =
    let i = c.self.inside in
    let sound = rw c.in-Some-Some.is-0 at c.self.invariant in
    stands_at c.in-Some-Some.entries (shown_in i.table.slots.items) i.table.spares i.before_len i.after_len sound c.args.key (record { ptr = c.in-Some-Some.own.ptr })
    (rw c.in-Some-Some.is-1 at c.find-own.ensures.node)

pub returns-in_default-clause-value : goal.returns-in_default-clause-value
returns-in_default-clause-value g c =
    let i = c.self.inside in
    let none = leads_nowhere i.entries (shown_in i.table.slots.items) i.table.spares i.before_len i.after_len c.self.invariant c.args.key (rw c.in_default.is-1 at c.find-own.ensures.node) value_before in
    rw (← c.self.view_is, none) (λ e. e, λ e. e)

pub returns-clause-value : goal.returns-clause-value
returns-clause-value g c =
    let i = c.self.inside in
    let sound = rw c.in-Some-Some.is-0 at c.self.invariant in
    rw (← c.self.view_is, c.in-Some-Some.is-0)
    (tests_lookup c.in-Some-Some.entries (shown_in i.table.slots.items) i.table.spares i.before_len i.after_len sound c.args.key (record { ptr = c.in-Some-Some.own.ptr })
    (rw c.in-Some-Some.is-1 at c.find-own.ensures.node) value_before c.is_before.result c.is_before.ensures)
