use Rattle.std.proofs.Common.{rules}
use Rattle.event_channel.proofs.StepLemmas.{next_or_waits, receives_or_waits}
use Rattle.event_channel.proofs.receiving.receive_or_wait.Goals as goal

pub returns-then-is_stream-clause-receives : goal.returns-then-is_stream-clause-receives
returns-then-is_stream-clause-receives g c = next_or_waits _ _ _ _ _ _ _ _ (search rules) c.next_or_wait.ensures.receives

pub returns-clause-receives : goal.returns-clause-receives
returns-clause-receives g c = receives_or_waits _ _ _ _ _ _ _ _ _ _ (search rules) c.pop_or_wait.ensures.receives
