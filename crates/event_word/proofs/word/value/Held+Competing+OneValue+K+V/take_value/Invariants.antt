use Rattle.std.specs.Prelude.{◌≡◌}
use Rattle.event_word.specs.Free.{ServesWith}
use Rattle.event_word.specs.Held.{HasState}
use Rattle.event_word.specs.Word.{count}
use Rattle.event_word.proofs.word.value.Held+Competing+OneValue+K+V.take_value.Given as goal

abbrev pub invariant-loop : goal.invariant-loop
invariant-loop g l = (l.self.word ≡ l.initial.self.word) × HasState (λ n q. ServesWith (count l.initial.notified) n q.line) l.self
