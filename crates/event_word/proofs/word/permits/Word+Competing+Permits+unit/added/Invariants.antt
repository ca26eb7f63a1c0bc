use Rattle.std.specs.Prelude.{◌≡◌}
use Rattle.event_word.specs.Word.{nothing}
use Rattle.event_word.proofs.word.permits.Word+Competing+Permits+unit.added.Given as goal

abbrev pub invariant-loop : goal.invariant-loop
invariant-loop g l = (l.seat.slot ≡ l.initial.seat.slot) × (l.seat.view ≡ nothing)
