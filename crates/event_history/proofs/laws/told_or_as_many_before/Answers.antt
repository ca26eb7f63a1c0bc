use Rattle.event_history.proofs.LawsStays.{tells_me, tells_first}
use Rattle.event_history.proofs.laws.told_or_as_many_before.Goals as goal

pub returns-clause-default_one : goal.returns-clause-default_one
returns-clause-default_one g c = tells_me

pub returns-clause-additional_one : goal.returns-clause-additional_one
returns-clause-additional_one g c = tells_first
