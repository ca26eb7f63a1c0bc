use Rattle.std.proofs.Common.{rules}
use Rattle.event_channel.proofs.PlaceLemmas.{keeping}
use Rattle.event_channel.proofs.StepLemmas.{sends_or_leaves}
use Rattle.event_channel.proofs.sending.SendingRequestMessagesTask.leave.Goals as goal

pub returns-clause-goes : goal.returns-clause-goes
returns-clause-goes g c = keeping _ _ _ _ (search rules) (search rules) (sends_or_leaves _ _ _ c.take-key.result _ _ _ (search rules) c.send_at_once-sent.ensures.sends c.send_at_once-sent.ensures.absent (c.cancel_sender.ensures.others, c.cancel_sender.ensures.left))
