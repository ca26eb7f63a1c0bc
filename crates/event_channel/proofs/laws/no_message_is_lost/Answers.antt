use Rattle.event_channel.proofs.KnownLemmas.{received, received_blocking, sent}
use Rattle.event_channel.proofs.laws.no_message_is_lost.Goals as goal

pub returns-clause-received : goal.returns-clause-received
returns-clause-received g c = received

pub returns-clause-received_blocking : goal.returns-clause-received_blocking
returns-clause-received_blocking g c = received_blocking

pub returns-clause-sent : goal.returns-clause-sent
returns-clause-sent g c = sent
