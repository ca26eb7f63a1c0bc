use Rattle.test_slot.proofs.Closing.{copies}
use Rattle.test_slot.proofs.lock.Lock.fork.Goals as goal

-- src/lock.rt:131:19
pub split-requires-clause-keeps : goal.split-requires-clause-keeps
split-requires-clause-keeps g c = (c.requires, copies c.args.mark.now.id c.args.mark.now.view)
