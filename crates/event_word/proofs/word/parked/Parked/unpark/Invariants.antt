use Rattle.std.specs.Prelude.{◌≡◌}
use Rattle.event_word.proofs.word.parked.Parked.unpark.Given as goal

abbrev pub invariant-loop : goal.invariant-loop
invariant-loop g l = l.lock.value ≡ l.initial.lock.value
