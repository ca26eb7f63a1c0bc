use Rattle.std.proofs.Common.{refl, arith}
use Rattle.event_wait.proofs.KeptTurns.{turns-left}
use Rattle.event_wait.proofs.TurnLemmas.{line-left}
use Rattle.event_wait.proofs.fair_queue.FairQueue.leave.Goals as goal

pub invariant_of-self : goal.invariant_of-self
invariant_of-self g c =
    let call = c.leave_line-left.ensures in
    line-left c.args.key _ _ call.leaves (omega (arith, call.told, call.waiting)) (omega (arith, call.told)) c.strike_off.ensures refl c.self.invariant

pub returns-clause-turns : goal.returns-clause-turns
returns-clause-turns g c = rw (← c.self.view_is) (turns-left c.args.key _ _ c.leave_line-left.ensures.leaves)
