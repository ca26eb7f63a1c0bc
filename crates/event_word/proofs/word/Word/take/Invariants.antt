use Rattle.std.specs.Prelude.{◌≡◌}
use Rattle.event_word.specs.Word.{nothing, number_of}
use Rattle.event_word.proofs.word.Word.take.Given as goal

abbrev pub invariant-loop-pauses : goal.invariant-loop-pauses
invariant-loop-pauses g l = (l.seat.slot ≡ l.initial.seat.slot) × (l.seat.view ≡ nothing) × g.S.Kept.rules.fits (number_of l.seen)
