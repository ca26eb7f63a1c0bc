use Rattle.std.proofs.Common.{[]}
use Rattle.event_history.specs.History.{newcomer}
use Rattle.event_history.proofs.Keeps.{sits}
use Rattle.event_history.proofs.traced.Traced.hand.Goals as goal

pub enter-requires-clause-keeps : goal.enter-requires-clause-keeps
enter-requires-clause-keeps g c = sits _ (newcomer [])
