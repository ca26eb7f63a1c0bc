use Rattle.std.proofs.Common.{refl, rules}
use Rattle.event_channel.specs.Places.{sender_at}
use Rattle.event_channel.proofs.PlaceLemmas.{trying}
use Rattle.event_channel.proofs.StepLemmas.{tries_to_send}
use Rattle.event_channel.proofs.sending.SendingAttemptMessagesTask.attempt.Goals as goal

pub returns-clause-goes : goal.returns-clause-goes
returns-clause-goes g c = trying sender_at refl _ _ (search rules) (tries_to_send _ _ _ _ _ (search rules) c.send_at_once.ensures.sends c.send_at_once.ensures.absent)
