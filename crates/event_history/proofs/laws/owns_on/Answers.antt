use Rattle.event_history.proofs.LawsOwn.{own_joined, own_kept, own_rests, own_stored}
use Rattle.event_history.proofs.laws.owns_on.Goals as goal

pub returns-clause-joined : goal.returns-clause-joined
returns-clause-joined g c = own_joined

pub returns-clause-kept : goal.returns-clause-kept
returns-clause-kept g c = own_kept

pub returns-clause-stored : goal.returns-clause-stored
returns-clause-stored g c = own_stored

pub returns-clause-may_call : goal.returns-clause-may_call
returns-clause-may_call g c = own_rests
