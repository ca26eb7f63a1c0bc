use Rattle.std.specs.Prelude.{◌≡◌}
use Rattle.event_word.specs.Queues.{CountsMore, IsExclusive}
use Rattle.event_word.specs.Held.{HasState}
use Rattle.event_word.proofs.shares.steps.Held+Queues+Task+V.upgrade.Given as goal

abbrev pub invariant-loop : goal.invariant-loop
invariant-loop g l = (l.grant.claim.name ≡ l.initial.grant.claim.name) × (l.self.word ≡ l.initial.self.word) × (l.self.claim.state ≡ l.initial.self.claim.state) × HasState IsExclusive l.self × CountsMore 0 l.initial.self.seat.view l.self.seat.view
