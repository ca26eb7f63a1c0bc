use Rattle.event_channel.proofs.OrderLemmas.{in_order}
use Rattle.event_channel.proofs.messages.received_in_order.Goals as goal

pub returns : goal.returns
returns g c = in_order
