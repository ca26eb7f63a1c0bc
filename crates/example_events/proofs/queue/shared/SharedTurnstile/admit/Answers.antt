use Rattle.example_events.proofs.TurnstileLemmas.{at_most}
use Rattle.example_events.proofs.queue.shared.SharedTurnstile.admit.Goals as goal

pub returns : goal.returns
returns g c = record { at_most = at_most c.admit.result c.args.n c.deref_mut.result.now c.admit.ensures.numbers }
