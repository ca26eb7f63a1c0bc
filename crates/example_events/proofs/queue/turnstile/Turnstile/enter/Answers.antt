use Rattle.example_events.proofs.TurnstileLemmas.{registered}
use Rattle.example_events.proofs.queue.turnstile.Turnstile.enter.Goals as goal

pub returns-clause-entered : goal.returns-clause-entered
returns-clause-entered c =
    rw (← c.self.view_is) (λ yes. (registered _ _ c.args.ticket c.args.visitor c.register_uncounted.result c.is_told_uncounted-is_admitted.ensures.queue c.register_uncounted.ensures.step).0 (c.is_told_uncounted-is_admitted.ensures.value.0 yes))

pub returns-clause-waits : goal.returns-clause-waits
returns-clause-waits c =
    rw (← c.self.view_is) (λ no. (registered _ _ c.args.ticket c.args.visitor c.register_uncounted.result c.is_told_uncounted-is_admitted.ensures.queue c.register_uncounted.ensures.step).1 (λ told. let yes = c.is_told_uncounted-is_admitted.ensures.value.1 told in cc))
