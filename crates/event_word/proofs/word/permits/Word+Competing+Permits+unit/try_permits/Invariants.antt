use Rattle.std.specs.Prelude.{◌≡◌}
use Rattle.event_word.proofs.word.permits.Word+Competing+Permits+unit.try_permits.Given as goal

abbrev pub invariant-loop : goal.invariant-loop
invariant-loop l = l.seat.slot ≡ l.initial.seat.slot
