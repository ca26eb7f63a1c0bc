use Rattle.std.specs.Prelude.{◌≡◌, ◌≤◌, ◌<◌, ◌^◌}
use Rattle.event_word.specs.Free.{unshut_of}
use Rattle.event_word.specs.Word.{number_of}
use Rattle.event_word.proofs.MoveLemmas.{FitsOne}
use Rattle.event_word.proofs.competing.OneValue.come.Given as goal

abbrev pub invariant-loop : goal.invariant-loop
invariant-loop g l = (l.lock.value ≡ l.initial.lock.value) × FitsOne (unshut_of (number_of l.expected)) × (4 ≤ l.expected) × (l.expected < 2 ^ 62)
