use Rattle.std.proofs.Common.{rules}
use Rattle.event_history.proofs.Keeps.{looks}
use Rattle.event_history.proofs.traced.Traced.look.Goals as goal

pub load-requires-clause-keeps : goal.load-requires-clause-keeps
load-requires-clause-keeps g c = (search rules, looks _ _ c.requires.begins _ _ (search rules))
