use Rattle.std.specs.Prelude.{◌≡◌, ◌≢◌, ◌%◌, None}
use Rattle.event_word.specs.Free.{unshut_of}
use Rattle.event_word.specs.Word.{number_of}
use Rattle.event_word.proofs.competing.OneValue.go.Given as goal

abbrev pub invariant-loop : goal.invariant-loop
invariant-loop g l =
    (l.owned.of ≡ l.initial.owned.of) × (l.owned.name ≡ l.initial.owned.name) × (l.owned.right ≡ 2) × (l.owned.state ≡ None) × (unshut_of (number_of l.expected) ≡ 0) × (l.expected % 4 ≢ 2)
