use Rattle.std.specs.Prelude.{◌≡◌}
use Rattle.event_word.specs.Free.{unshut_of}
use Rattle.event_word.specs.Word.{number_of}
use Rattle.event_word.proofs.word.value.Word+Competing+OneValue+K+V.park.Given as goal

abbrev pub invariant-loop : goal.invariant-loop
invariant-loop g l = (l.seat.slot ≡ l.initial.seat.slot) × (l.lent.name ≡ l.initial.lent.name) × (unshut_of (number_of l.seen) ≡ 0)
