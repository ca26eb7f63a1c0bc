use Rattle.test_slot.proofs.Closing.{enters}
use Rattle.test_slot.proofs.lock.Lock.mark.Goals as goal

-- src/lock.rt:122:19
pub enter-requires-clause-keeps : goal.enter-requires-clause-keeps
enter-requires-clause-keeps g c = enters
