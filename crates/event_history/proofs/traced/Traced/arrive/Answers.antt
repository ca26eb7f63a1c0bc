use Rattle.std.proofs.Common.{rules, [], inl, refl}
use Rattle.event_history.specs.History.{newcomer}
use Rattle.event_history.proofs.Keeps.{arrives}
use Rattle.event_history.proofs.traced.Traced.arrive.Goals as goal

pub arrive-found-requires-clause-keeps : goal.arrive-found-requires-clause-keeps
arrive-found-requires-clause-keeps g c = arrives _ (newcomer []) 1 _ (inl refl) (search rules)
