use Rattle.std.proofs.Common.{refl}
use Rattle.event_wait.proofs.KeptTurns.{turns-told}
use Rattle.event_wait.proofs.TurnLemmas.{line-told}
use Rattle.event_wait.proofs.fair_queue.FairQueue.tell.Goals as goal

pub invariant_of-self : goal.invariant_of-self
invariant_of-self g c = line-told c.args.free _ _ c.tell_up_to.ensures.step refl refl c.self.invariant

pub returns-clause-turns : goal.returns-clause-turns
returns-clause-turns g c =
    rw (← c.self.view_is) (turns-told c.args.free _ _ c.tell_up_to.ensures.step c.tell_up_to.ensures.queue)
