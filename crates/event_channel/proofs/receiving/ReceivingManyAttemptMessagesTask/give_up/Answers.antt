use Rattle.std.proofs.Common.{rules, false, refl}
use Rattle.event_channel.proofs.PlaceLemmas.{keeping}
use Rattle.event_channel.proofs.StepLemmas.{gives_up_receiving}
use Rattle.event_channel.proofs.receiving.ReceivingManyAttemptMessagesTask.give_up.Goals as goal

pub returns-clause-goes : goal.returns-clause-goes
returns-clause-goes g c = keeping _ _ _ _ (search rules) (search rules) (gives_up_receiving false false c.take.result _ _ refl (c.cancel_receiver.ensures.others, c.cancel_receiver.ensures.left))
