use Rattle.std.proofs.Common.{rules}
use Rattle.event_channel.proofs.PlaceLemmas.{keeping}
use Rattle.event_channel.proofs.StepLemmas.{waits_as_asked}
use Rattle.event_channel.proofs.receiving.ReceivingRequestMessagesTask.attempt_or_wait.Goals as goal

pub returns-clause-goes : goal.returns-clause-goes
returns-clause-goes g c = keeping _ _ _ _ (search rules) (search rules) (waits_as_asked c.args.self.now.asked c.self.inside.is_stream c.self.inside.key _ _ _ (search rules) c.receive_or_wait-attempted.ensures.receives)
