use Rattle.event_history.proofs.LawsOwn.{own_is_in, own_at_call, own_at_look, own_registered, own_removed}
use Rattle.event_history.proofs.laws.own_listener_stays.Goals as goal

pub returns-clause-stands : goal.returns-clause-stands
returns-clause-stands g c = own_is_in

pub returns-clause-called : goal.returns-clause-called
returns-clause-called g c = own_at_call

pub returns-clause-looked : goal.returns-clause-looked
returns-clause-looked g c = own_at_look

pub returns-clause-registered : goal.returns-clause-registered
returns-clause-registered g c = own_registered

pub returns-clause-removed : goal.returns-clause-removed
returns-clause-removed g c = own_removed
