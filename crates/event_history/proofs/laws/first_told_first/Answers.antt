use Rattle.event_history.proofs.LawsOrder.{serials_rise, told_first}
use Rattle.event_history.proofs.laws.first_told_first.Goals as goal

pub returns-clause-serials : goal.returns-clause-serials
returns-clause-serials g c = serials_rise

pub returns-clause-told : goal.returns-clause-told
returns-clause-told g c = told_first
