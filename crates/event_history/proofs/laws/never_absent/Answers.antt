use Rattle.event_history.proofs.LawsStays.{listened, not_never, finds_it}
use Rattle.event_history.proofs.laws.never_absent.Goals as goal

pub returns-clause-registered : goal.returns-clause-registered
returns-clause-registered g c = λ key log q next reply leads l s. not_never key q next reply s (listened key log q leads l)

pub returns-clause-removed : goal.returns-clause-removed
returns-clause-removed g c = λ key log q next propagate reply leads l s. finds_it key q next propagate reply s (listened key log q leads l)
