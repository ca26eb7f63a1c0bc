use Rattle.example_events.proofs.TurnstileLemmas.{joined}
use Rattle.example_events.proofs.queue.turnstile.Turnstile.join.Goals as goal

pub returns-clause-last : goal.returns-clause-last
returns-clause-last c =
    rw (← c.self.view_is) (joined _ _ _ c.in_ok-ticket.ticket c.args.visitor c.register_uncounted.result c.in_ok-ticket.ensures.step c.in_ok-ticket.ensures.queue c.register_uncounted.ensures.step).0

pub returns-clause-told : goal.returns-clause-told
returns-clause-told c =
    rw (← c.self.view_is) (joined _ _ _ c.in_ok-ticket.ticket c.args.visitor c.register_uncounted.result c.in_ok-ticket.ensures.step c.in_ok-ticket.ensures.queue c.register_uncounted.ensures.step).1
