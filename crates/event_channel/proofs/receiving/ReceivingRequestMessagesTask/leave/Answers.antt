use Rattle.std.proofs.Common.{rules}
use Rattle.event_channel.proofs.PlaceLemmas.{keeping}
use Rattle.event_channel.proofs.StepLemmas.{receives_or_leaves}
use Rattle.event_channel.proofs.receiving.ReceivingRequestMessagesTask.leave.Goals as goal

pub returns-clause-goes : goal.returns-clause-goes
returns-clause-goes g c = keeping _ _ _ _ (search rules) (search rules) (receives_or_leaves _ _ _ c.take-key.result _ _ _ (search rules) c.receive_at_once-received.ensures c.leave.ensures)
