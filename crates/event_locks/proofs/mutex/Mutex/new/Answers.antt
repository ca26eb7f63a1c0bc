use Rattle.std.proofs.Common.{arith, false}
use Rattle.event_locks.proofs.mutex.Mutex.new.Goals as goal

pub new-requires-2-clause-state : goal.new-requires-2-clause-state
new-requires-2-clause-state g c = (c.new-line.ensures.stands false 1 (omega arith), c.new-line.ensures.quiet false)
