use Rattle.event_listener.proofs.recording.ExchangeLemmas.{registers_with_some}
use Rattle.event_listener.proofs.recorded.step.PollStepMakesStep.make.Goals as goal

pub returns-clause-is_step : goal.returns-clause-is_step
returns-clause-is_step g c = registers_with_some (g.X.TaskExchange.exchanged c.args.self.exchange.now) c.args.list.now c.args.self.key c.args.on.now
    c.register_with_uncounted.result c.register_with_uncounted.new.self c.register_with_uncounted.new.on c.register_with_uncounted.ensures.step
