use Rattle.std.specs.Prelude.{◌≡◌}
use Rattle.event_word.specs.Free.{unshut_of}
use Rattle.event_word.specs.Word.{number_of}
use Rattle.event_word.proofs.MoveLemmas.{FitsOne}
use Rattle.event_word.proofs.word.value.Word+Competing+OneValue+K+V.try_value_again.Given as goal

abbrev pub invariant-loop : goal.invariant-loop
invariant-loop g l = (l.seat.slot ≡ l.initial.seat.slot) × FitsOne (unshut_of (number_of l.seen))
