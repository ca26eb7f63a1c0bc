use Rattle.std.specs.Prelude.{◌≡◌}
use Rattle.event_word.specs.Free.{ServesTheStarving}
use Rattle.event_word.specs.Held.{HasState}
use Rattle.event_word.proofs.word.permits.Held+Competing+Permits+unit.mark_closed.Given as goal

abbrev pub invariant-loop : goal.invariant-loop
invariant-loop g l = (l.self.word ≡ l.initial.self.word) × HasState (λ n q. ServesTheStarving n q.line) l.self
