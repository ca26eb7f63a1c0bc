use Rattle.event_history.proofs.LawsUntil.{tells_enough, tells_greatest}
use Rattle.event_history.proofs.laws.tells_all.Goals as goal

pub returns-clause-enough : goal.returns-clause-enough
returns-clause-enough g c = tells_enough

pub returns-clause-greatest : goal.returns-clause-greatest
returns-clause-greatest g c = tells_greatest
