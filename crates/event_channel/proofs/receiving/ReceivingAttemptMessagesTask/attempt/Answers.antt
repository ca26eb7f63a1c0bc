use Rattle.std.proofs.Common.{rules, refl, Some, None}
use Rattle.event_channel.specs.Places.{receiver_at}
use Rattle.event_channel.proofs.PlaceLemmas.{trying}
use Rattle.event_channel.proofs.StepLemmas.{receives_none, receives_one}
use Rattle.event_channel.proofs.receiving.ReceivingAttemptMessagesTask.attempt.Goals as goal

pub returns-in-Ok-clause-goes : goal.returns-in-Ok-clause-goes
returns-in-Ok-clause-goes g c = trying (receiver_at c.args.self.now.asked) refl _ _ (search rules) (receives_one _ _ c.args.self.now.asked (Some (Some c.in-Ok.message)) (c.in-Ok.ensures.popped, c.in-Ok.ensures.may))

pub returns-in-Err-Empty-clause-goes : goal.returns-in-Err-Empty-clause-goes
returns-in-Err-Empty-clause-goes g c = trying (receiver_at c.args.self.now.asked) refl _ _ (search rules) (receives_none _ _ c.args.self.now.asked None _ _ c.in-Err-Empty.field-0-is refl c.in-Err-Empty.ensures.reason c.in-Err-Empty.ensures.empty)

pub returns-in-Err-Closed-clause-goes : goal.returns-in-Err-Closed-clause-goes
returns-in-Err-Closed-clause-goes g c = trying (receiver_at c.args.self.now.asked) refl _ _ (search rules) (receives_none _ _ c.args.self.now.asked (Some None) _ _ c.in-Err-Closed.field-0-is refl c.in-Err-Closed.ensures.reason c.in-Err-Closed.ensures.empty)
