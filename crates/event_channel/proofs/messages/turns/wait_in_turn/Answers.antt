use Rattle.event_channel.proofs.TurnLemmas.{as_many}
use Rattle.event_channel.proofs.messages.turns.wait_in_turn.Goals as goal

pub returns-in-Some-clause-as_many : goal.returns-in-Some-clause-as_many
returns-in-Some-clause-as_many g c untold = as_many (g.X.TaskExchange.exchanged c.args.exchange.now) c.args.key _ _ _ _ _ untold c.wait_in_line.ensures.waits c.wait_in_line.ensures.refused
