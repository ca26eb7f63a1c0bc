use Rattle.event_listener.proofs.recording.StateLemmas.{IsRecording-empty}
use Rattle.event_listener.proofs.recorded.state.RecordedState.new.Goals as goal

pub invariant_of-result : goal.invariant_of-result
invariant_of-result g c = IsRecording-empty g.T.PartialEq.eq _ c.new.result _ _ c.new-2.ensures.items c.new.ensures.empty c.new.ensures.queue c.new-2.ensures.len
