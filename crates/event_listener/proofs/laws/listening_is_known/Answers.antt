use Rattle.event_listener.specs.Heard.{HasListened}
use Rattle.event_listener.proofs.HeardLemmas.{listened, listened_on, knows_joined, knows_forked, knows_kept, knows_before}
use Rattle.event_listener.proofs.laws.listening_is_known.Goals as goal

pub returns-clause-listened : goal.returns-clause-listened
returns-clause-listened g c = listened

pub returns-clause-joined : goal.returns-clause-joined
returns-clause-joined g c = knows_joined HasListened listened_on

pub returns-clause-forked : goal.returns-clause-forked
returns-clause-forked g c = knows_forked HasListened listened_on

pub returns-clause-kept : goal.returns-clause-kept
returns-clause-kept g c = knows_kept HasListened listened_on

pub returns-clause-before_a_call : goal.returns-clause-before_a_call
returns-clause-before_a_call g c = knows_before HasListened listened_on
