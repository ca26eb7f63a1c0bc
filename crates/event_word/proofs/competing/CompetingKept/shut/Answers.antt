use Rattle.std.proofs.Common.{ap, arith, if◌then◌else◌}
use Rattle.event_word.proofs.competing.CompetingKept.shut.Goals as goal

pub returns-clause-counts : goal.returns-clause-counts
returns-clause-counts g c = ap (λ m. if g.C.Counted.taken m then 3 else 0) (omega arith)
