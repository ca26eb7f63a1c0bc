use Rattle.event_wait.proofs.KeptTurns.{few_came}
use Rattle.event_wait.proofs.fair_queue.FairQueue.few_come_before_one.Goals as goal

pub returns : goal.returns
returns g c = rw (← c.self.view_is) (few_came _ c.self.invariant)
