use Rattle.event_listener.proofs.recording.SameCallLemmas.{derived_same_call}
use Rattle.event_listener.proofs.recorded.laws.equal_calls.Goals as goal

pub returns : goal.returns
returns g c = derived_same_call g.row.T g.T.PartialEq g.T.PartialEq-dict
