use Rattle.event_history.proofs.LawsPassing.{passes_on_wanted, passes_on_unwanted}
use Rattle.event_history.proofs.LawsNext.{next_removed}
use Rattle.event_history.proofs.laws.passes_on.Goals as goal

pub returns-clause-wanted : goal.returns-clause-wanted
returns-clause-wanted g c = passes_on_wanted

pub returns-clause-unwanted : goal.returns-clause-unwanted
returns-clause-unwanted g c = passes_on_unwanted

pub returns-clause-next : goal.returns-clause-next
returns-clause-next g c = next_removed
