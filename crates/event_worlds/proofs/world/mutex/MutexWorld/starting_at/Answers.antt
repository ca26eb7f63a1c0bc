use Rattle.event_worlds.proofs.MutexSteps.{start-sound}
use Rattle.event_worlds.proofs.world.mutex.MutexWorld.starting_at.Goals as goal

pub invariant_of-world : goal.invariant_of-world
invariant_of-world c = rw (c.in_ok-places.ensures.items_if_clones_equal (λ y clone. clone)) (rw c.in_ok-line.ensures.empty (start-sound c.args.clients c.args.first))
