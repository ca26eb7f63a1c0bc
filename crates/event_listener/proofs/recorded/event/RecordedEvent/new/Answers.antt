use Rattle.std.proofs.Common.{arith}
use Rattle.event_listener.proofs.recording.HandLemmas.{new_hands_are_owned}
use Rattle.event_listener.proofs.recorded.event.RecordedEvent.new.Goals as goal

pub returns-clause-owned : goal.returns-clause-owned
returns-clause-owned g c = rw (c.in_ok-made.ensures, c.number.ensures.value) (new_hands_are_owned c.args.id c.args.hands c.args.hands (omega arith))
