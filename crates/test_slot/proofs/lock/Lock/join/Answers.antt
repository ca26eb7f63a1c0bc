use Rattle.test_slot.proofs.Closing.{adds}
use Rattle.test_slot.proofs.lock.Lock.join.Goals as goal

-- src/lock.rt:142:19
pub join-requires-clause-keeps : goal.join-requires-clause-keeps
join-requires-clause-keeps g c = (c.requires.0, c.requires.1, adds c.args.mark.now.id c.args.mark.now.view c.args.other.id c.args.other.view)
