use Rattle.std.proofs.Common.{◌+◌, Some, None, false, refl, rules}
use Rattle.event_channel.specs.Places.{receiver_at}
use Rattle.event_channel.proofs.PlaceLemmas.{trying}
use Rattle.event_channel.proofs.StepLemmas.{many_at_the_end, many_of_none, many_taken, many_tried, many_tried_and_taken, many_without_room}
use Rattle.event_channel.proofs.receiving.ReceivingManyAttemptMessagesTask.attempt.Goals as goal

pub returns-then-len-capacity-clause-goes : goal.returns-then-len-capacity-clause-goes
returns-then-len-capacity-clause-goes g c = trying (receiver_at false) refl _ _ (search rules) (many_tried _ _ None (many_without_room _))

pub returns-in-Ok-clause-goes : goal.returns-in-Ok-clause-goes
returns-in-Ok-clause-goes g c = trying (receiver_at false) refl _ _ (search rules) (many_tried _ _ (Some (Some (1 + c.pop_into.result))) (many_tried_and_taken _ _ _ (many_taken None _ _ _ _ _ _ _ c.in-Ok.ensures.popped c.in-Ok.ensures.may c.pop_into.ensures.count c.pop_into.ensures.popped)))

pub returns-in-Err-Empty-clause-goes : goal.returns-in-Err-Empty-clause-goes
returns-in-Err-Empty-clause-goes g c = trying (receiver_at false) refl _ _ (search rules) (many_tried _ _ None (many_of_none _ _ _ c.in-Err-Empty.field-0-is c.in-Err-Empty.ensures.reason c.in-Err-Empty.ensures.empty))

pub returns-in-Err-Closed-clause-goes : goal.returns-in-Err-Closed-clause-goes
returns-in-Err-Closed-clause-goes g c = trying (receiver_at false) refl _ _ (search rules) (many_tried _ _ (Some None) (many_at_the_end _ _ _ c.in-Err-Closed.field-0-is c.in-Err-Closed.ensures.reason c.in-Err-Closed.ensures.empty))
