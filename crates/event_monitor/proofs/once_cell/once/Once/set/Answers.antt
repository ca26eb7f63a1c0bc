use Rattle.event_monitor.proofs.once_cell.once.Once.set.Goals as goal
use Rattle.event_queue.proofs.TellingLemmas.{FoldsTo-append}

pub returns-clause-wakes : goal.returns-clause-wakes
returns-clause-wakes g c =
    rw (← c.self.view_is) (FoldsTo-append _ _ _ _ _ _ c.hand_all.ensures.step.wakes c.hand_all-2.ensures.step.wakes)
