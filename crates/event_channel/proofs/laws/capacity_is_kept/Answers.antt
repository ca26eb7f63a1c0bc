use Rattle.event_channel.proofs.CapacityLemmas.{closed_was_closed, full, full_was_sent, kept}
use Rattle.event_channel.proofs.laws.capacity_is_kept.Goals as goal

pub returns-clause-kept : goal.returns-clause-kept
returns-clause-kept g c capacity log q leads = (kept capacity log q leads).0

pub returns-clause-at_most : goal.returns-clause-at_most
returns-clause-at_most g c capacity log q leads = (kept capacity log q leads).1

pub returns-clause-full : goal.returns-clause-full
returns-clause-full g c = full

pub returns-clause-full_was_sent : goal.returns-clause-full_was_sent
returns-clause-full_was_sent g c = full_was_sent

pub returns-clause-closed_was_closed : goal.returns-clause-closed_was_closed
returns-clause-closed_was_closed g c = closed_was_closed
