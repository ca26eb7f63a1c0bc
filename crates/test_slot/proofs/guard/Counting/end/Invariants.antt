use Rattle.std.proofs.Common.{◌≡◌, Some}
use Rattle.test_slot.proofs.guard.Counting.end.Given as goal

abbrev pub invariant-loop : goal.invariant-loop
invariant-loop g l =
    (goal.iterator-loop g).can_next l.iterator' × (goal.iterator-loop g).is_finite l.iterator'
    × (l.claim.right ≡ 0) × (l.claim.state ≡ Some (record { count = l.count })) × (l.mark.slot ≡ l.claim.name)
