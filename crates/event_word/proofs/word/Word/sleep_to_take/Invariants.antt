use Rattle.std.specs.Prelude.{◌≡◌, None}
use Rattle.event_word.proofs.word.Word.sleep_to_take.Given as goal

abbrev pub invariant-loop : goal.invariant-loop
invariant-loop g l = (l.seat.slot ≡ l.initial.seat.slot) × (l.seat.id ≡ l.initial.seat.id) × (l.seat.view.number ≡ None)
