use Rattle.event_history.proofs.LawsUntil.{other_at_call, other_at_look, other_registered, other_removed}
use Rattle.event_history.proofs.laws.told_by_another.Goals as goal

pub returns-clause-called : goal.returns-clause-called
returns-clause-called g c = other_at_call

pub returns-clause-looked : goal.returns-clause-looked
returns-clause-looked g c = other_at_look

pub returns-clause-registered : goal.returns-clause-registered
returns-clause-registered g c = other_registered

pub returns-clause-removed : goal.returns-clause-removed
returns-clause-removed g c = other_removed
