use Rattle.std.specs.Prelude.{◌≡◌}
use Rattle.event_word.specs.Queues.{CountsOne}
use Rattle.event_word.specs.Word.{nothing}
use Rattle.event_word.proofs.shares.steps.Word+Queues+Task+V.end_slowly.Given as goal

abbrev pub invariant-loop : goal.invariant-loop
invariant-loop g l = (l.seat.slot ≡ l.initial.seat.slot) × (l.seat.view ≡ nothing) × CountsOne g.K.Right.RIGHT l.seen × (l.grant.claim.name ≡ l.initial.grant.claim.name)
