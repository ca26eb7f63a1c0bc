use Rattle.event_channel.proofs.StepLemmas.{many_taken, none_will_come}
use Rattle.event_channel.proofs.receiving.take.Goals as goal

pub returns-in-Ok-clause-takes : goal.returns-in-Ok-clause-takes
returns-in-Ok-clause-takes g c = many_taken _ _ _ _ _ _ _ _ c.in-Ok.ensures.popped c.in-Ok.ensures.may c.pop_into_as.ensures.count c.pop_into_as.ensures.popped

pub returns-in-Err-Closed-clause-takes : goal.returns-in-Err-Closed-clause-takes
returns-in-Err-Closed-clause-takes g c = none_will_come _ _ _ _ c.in-Err-Closed.field-0-is c.in-Err-Closed.ensures.reason c.in-Err-Closed.ensures.empty.0
