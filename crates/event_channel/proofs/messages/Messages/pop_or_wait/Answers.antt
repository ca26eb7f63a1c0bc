use Rattle.event_channel.proofs.WakeLemmas.{wakes_as_receiver}
use Rattle.event_channel.proofs.messages.Messages.pop_or_wait.Goals as goal

pub returns-in-Ok-clause-wakes : goal.returns-in-Ok-clause-wakes
returns-in-Ok-clause-wakes g c = wakes_as_receiver _ _ _ _ _ _ _ _ _ c.in-Ok.ensures.popped c.in-Ok.ensures.wakes c.cancel_receiver.ensures.others c.cancel_receiver.ensures.wakes
