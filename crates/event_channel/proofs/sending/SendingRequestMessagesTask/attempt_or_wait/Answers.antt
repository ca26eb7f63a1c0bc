use Rattle.std.proofs.Common.{rules}
use Rattle.event_channel.proofs.PlaceLemmas.{keeping}
use Rattle.event_channel.proofs.StepLemmas.{sends_or_waits}
use Rattle.event_channel.proofs.sending.SendingRequestMessagesTask.attempt_or_wait.Goals as goal

pub returns-clause-goes : goal.returns-clause-goes
returns-clause-goes g c = keeping _ _ _ _ (search rules) (search rules) (sends_or_waits _ _ _ _ _ _ _ _ _ _ _ (search rules) c.push_or_wait-attempted.ensures.sends c.push_or_wait-attempted.ensures.absent)
