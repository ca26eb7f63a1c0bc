use Rattle.event_listener.proofs.recording.SameReplyLemmas.{derived_same}
use Rattle.event_listener.proofs.recorded.laws.equal_replies.Goals as goal

pub returns : goal.returns
returns g c = derived_same g.row.T g.T.PartialEq g.T.PartialEq-dict
