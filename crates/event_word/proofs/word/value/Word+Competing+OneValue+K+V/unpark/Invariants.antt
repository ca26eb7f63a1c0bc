use Rattle.std.specs.Prelude.{◌≡◌}
use Rattle.event_word.proofs.word.value.Word+Competing+OneValue+K+V.unpark.Given as goal

abbrev pub invariant-loop : goal.invariant-loop
invariant-loop g l = l.seat.slot ≡ l.initial.seat.slot
