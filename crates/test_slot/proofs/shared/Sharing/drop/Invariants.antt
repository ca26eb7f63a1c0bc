use Rattle.std.proofs.Common.{◌≡◌, ◌%◌, ◌≤◌, None}
use Rattle.test_slot.proofs.shared.Sharing.drop.Given as goal

abbrev pub invariant-loop : goal.invariant-loop
invariant-loop g l =
    (goal.iterator-loop g).can_next l.iterator' × (goal.iterator-loop g).is_finite l.iterator'
    × (l.owned.right ≡ 1) × (l.owned.state ≡ None) × (l.mark.slot ≡ l.owned.name) × (l.seen % 4 ≡ 1) × (4 ≤ l.seen % 4294967296)
