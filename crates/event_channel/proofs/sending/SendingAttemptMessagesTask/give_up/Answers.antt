use Rattle.std.proofs.Common.{rules}
use Rattle.event_channel.proofs.PlaceLemmas.{keeping}
use Rattle.event_channel.proofs.StepLemmas.{gives_up_sending}
use Rattle.event_channel.proofs.sending.SendingAttemptMessagesTask.give_up.Goals as goal

pub returns-clause-goes : goal.returns-clause-goes
returns-clause-goes g c = keeping _ _ _ _ (search rules) (search rules) (gives_up_sending c.args.self.now.asked c.take.result _ _ (c.cancel_sender.ensures.others, c.cancel_sender.ensures.left))
