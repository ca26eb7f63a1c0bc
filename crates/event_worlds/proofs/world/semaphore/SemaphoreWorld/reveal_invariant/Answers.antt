use Rattle.event_worlds.proofs.ServedLemmas.{enough_are, told_run, are_listening}
use Rattle.event_worlds.proofs.world.semaphore.SemaphoreWorld.reveal_invariant.Goals as goal

pub returns-clause-safe : goal.returns-clause-safe
returns-clause-safe c =
    rw (← c.self.view_is) (enough_are _ _ _ _ c.self.invariant.served, told_run _ _ _ _ c.self.invariant.served)

pub returns-clause-in_line_are_those_listening : goal.returns-clause-in_line_are_those_listening
returns-clause-in_line_are_those_listening c = rw (← c.self.view_is) (are_listening _ _ _ _ c.self.invariant.served)
