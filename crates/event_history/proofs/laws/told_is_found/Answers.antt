use Rattle.event_history.proofs.LawsUntil.{told_registered, told_removed}
use Rattle.event_history.proofs.laws.told_is_found.Goals as goal

pub returns-clause-registered : goal.returns-clause-registered
returns-clause-registered g c = told_registered

pub returns-clause-removed : goal.returns-clause-removed
returns-clause-removed g c = told_removed
