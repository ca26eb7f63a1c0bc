use Rattle.event_history.proofs.LawsOneOrder.{one_order}
use Rattle.event_history.proofs.laws.one_history_one_order.Goals as goal

pub returns-clause-told : goal.returns-clause-told
returns-clause-told g c = λ log q other a b. (one_order log q other a b).0

pub returns-clause-waiting : goal.returns-clause-waiting
returns-clause-waiting g c = λ log q other a b. (one_order log q other a b).1
