use Rattle.std.proofs.Common.{rules}
use Rattle.event_history.proofs.Keeps.{absorbs}
use Rattle.event_history.proofs.traced.Traced.join.Goals as goal

pub join-requires-clause-keeps : goal.join-requires-clause-keeps
join-requires-clause-keeps g c = (search rules, search rules, absorbs _ _ _ _ _ (search rules) (search rules) (search rules))
