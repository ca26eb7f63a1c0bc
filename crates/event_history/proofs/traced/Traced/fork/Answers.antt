use Rattle.std.proofs.Common.{rules}
use Rattle.event_history.proofs.Keeps.{tells}
use Rattle.event_history.proofs.traced.Traced.fork.Goals as goal

pub split-requires-clause-keeps : goal.split-requires-clause-keeps
split-requires-clause-keeps g c = (search rules, tells _ _ _)
