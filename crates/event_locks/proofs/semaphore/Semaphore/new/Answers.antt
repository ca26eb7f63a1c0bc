use Rattle.std.proofs.Common.{rules, true}
use Rattle.event_locks.proofs.semaphore.Semaphore.new.Goals as goal

pub new-requires-clause-state : goal.new-requires-clause-state
new-requires-clause-state c = (c.new-line.ensures.stands true _ (search rules), c.new-line.ensures.quiet true)
