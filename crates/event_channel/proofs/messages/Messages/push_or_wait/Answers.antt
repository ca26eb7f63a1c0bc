use Rattle.std.proofs.Common.{None}
use Rattle.event_channel.proofs.WakeLemmas.{wakes_as_sender}
use Rattle.event_channel.proofs.messages.Messages.push_or_wait.Goals as goal

pub returns-in-Ok-clause-wakes : goal.returns-in-Ok-clause-wakes
returns-in-Ok-clause-wakes g c = wakes_as_sender _ _ _ _ _ _ _ _ _ c.in-Ok.ensures.pushed c.in-Ok.ensures.wakes c.cancel_sender-in-Ok.ensures.others c.cancel_sender-in-Ok.ensures.wakes None
