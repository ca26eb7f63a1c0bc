use Rattle.event_channel.proofs.KnownLemmas.{absorbed, before_a_call, before_receiving, before_sending, by_a_call, by_sending, kept}
use Rattle.event_channel.proofs.laws.sent_is_known.Goals as goal

pub returns-clause-by_a_call : goal.returns-clause-by_a_call
returns-clause-by_a_call g c = by_a_call

pub returns-clause-by_sending : goal.returns-clause-by_sending
returns-clause-by_sending g c = by_sending

pub returns-clause-before_a_call : goal.returns-clause-before_a_call
returns-clause-before_a_call g c = before_a_call

pub returns-clause-before_receiving : goal.returns-clause-before_receiving
returns-clause-before_receiving g c = before_receiving

pub returns-clause-before_sending : goal.returns-clause-before_sending
returns-clause-before_sending g c = before_sending

pub returns-clause-joined : goal.returns-clause-joined
returns-clause-joined g c = absorbed

pub returns-clause-kept : goal.returns-clause-kept
returns-clause-kept g c = kept
