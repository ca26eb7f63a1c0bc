use Rattle.event_history.specs.Hands.{SameTable}
use Rattle.event_channel.proofs.channel.Channel.drop_messages.Given as goal

abbrev pub invariant-loop : goal.invariant-loop
invariant-loop g l = SameTable l.fn.hand l.hand
