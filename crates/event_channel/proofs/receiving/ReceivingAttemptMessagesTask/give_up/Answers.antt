use Rattle.std.proofs.Common.{rules}
use Rattle.event_channel.proofs.PlaceLemmas.{keeping}
use Rattle.event_channel.proofs.StepLemmas.{gives_up_receiving}
use Rattle.event_channel.proofs.receiving.ReceivingAttemptMessagesTask.give_up.Goals as goal

pub returns-clause-goes : goal.returns-clause-goes
returns-clause-goes g c = keeping _ _ _ _ (search rules) (search rules) (gives_up_receiving _ c.self.inside.is_stream c.take.result _ _ (search rules) c.leave.ensures)
