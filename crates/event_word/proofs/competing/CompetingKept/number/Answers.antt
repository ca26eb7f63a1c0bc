use Rattle.std.proofs.Common.{ap, arith, if◌then◌else◌}
use Rattle.event_word.proofs.competing.CompetingKept.number.Goals as goal

pub returns-then-starving-gt0-clause-counts : goal.returns-then-starving-gt0-clause-counts
returns-then-starving-gt0-clause-counts g c = ap (λ m. if g.C.Counted.taken m then 3 else 0) (omega arith)

pub returns-else-starving-gt0-clause-counts : goal.returns-else-starving-gt0-clause-counts
returns-else-starving-gt0-clause-counts g c = ap (λ m. if g.C.Counted.taken m then 3 else 0) (omega arith)
