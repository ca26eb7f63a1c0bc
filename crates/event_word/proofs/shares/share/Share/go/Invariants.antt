use Rattle.std.specs.Prelude.{◌≡◌, None}
use Rattle.event_word.specs.Queues.{CountsOne}
use Rattle.event_word.proofs.shares.share.Share.go.Given as goal

abbrev pub invariant-loop : goal.invariant-loop
invariant-loop g l =
    (l.owned.of ≡ l.initial.owned.of) × (l.owned.name ≡ l.initial.owned.name) × (l.owned.right ≡ g.K.Right.RIGHT) × (l.owned.state ≡ None) × (l.seat.slot ≡ l.owned.name) × CountsOne g.K.Right.RIGHT l.seen
