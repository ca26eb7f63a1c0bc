use Rattle.std.proofs.Common.{rules}
use Rattle.event_channel.proofs.PlaceLemmas.{keeping}
use Rattle.event_channel.proofs.StepLemmas.{many_leaves_late, many_or_leaves}
use Rattle.event_channel.proofs.receiving.ReceivingManyRequestMessagesTask.leave.Goals as goal

pub returns-then-len-capacity-clause-goes : goal.returns-then-len-capacity-clause-goes
returns-then-len-capacity-clause-goes g c = keeping _ _ _ _ (search rules) (search rules) (many_leaves_late c.take-key.result _ _ (c.cancel_receiver.ensures.others, c.cancel_receiver.ensures.left))

pub returns-clause-goes : goal.returns-clause-goes
returns-clause-goes g c = keeping _ _ _ _ (search rules) (search rules) (many_or_leaves _ c.take-key.result _ _ _ c.take-received.ensures.takes c.take-received.ensures.nothing (c.cancel_receiver-2.ensures.others, c.cancel_receiver-2.ensures.left))
