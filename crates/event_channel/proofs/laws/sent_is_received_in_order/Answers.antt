use Rattle.std.proofs.Common.{ap, ◌++◌, ◌∙◌}
use Rattle.event_channel.proofs.HistoryLemmas.{all_received, end_comes_last, in_order_as_seen, in_order_between, in_order_from_start, none_waits, received_was_sent, seen_to_be_sent}
use Rattle.event_channel.proofs.laws.sent_is_received_in_order.Goals as goal

pub returns-clause-in_order : goal.returns-clause-in_order
returns-clause-in_order g c = in_order_from_start

pub returns-clause-from_any_state : goal.returns-clause-from_any_state
returns-clause-from_any_state g c = in_order_between

pub returns-clause-all_received : goal.returns-clause-all_received
returns-clause-all_received g c capacity log q leads none = in_order_from_start capacity log q leads ∙ ap (λ xs. xs ++ q.messages) (all_received log none)

pub returns-clause-as_seen : goal.returns-clause-as_seen
returns-clause-as_seen g c = in_order_as_seen

pub returns-clause-received_was_sent : goal.returns-clause-received_was_sent
returns-clause-received_was_sent g c = received_was_sent

pub returns-clause-seen_to_be_sent : goal.returns-clause-seen_to_be_sent
returns-clause-seen_to_be_sent g c = seen_to_be_sent

pub returns-clause-finds_none : goal.returns-clause-finds_none
returns-clause-finds_none g c = none_waits

pub returns-clause-finds_the_end : goal.returns-clause-finds_the_end
returns-clause-finds_the_end g c = end_comes_last
