use Rattle.std.proofs.Common.{refl}
use Rattle.event_word.proofs.QueuesLemmas.{still_alone}
use Rattle.event_word.proofs.shares.requests.Held+Queues+Task+V.leave.Goals as goal

pub returns-clause-alone : goal.returns-clause-alone
returns-clause-alone g c =
    let t = still_alone c.args.self.now c.state_mut.result.now c.leave.new.queues c.requires.alone c.state_mut.ensures.state c.leave.ensures.alone in
    (t.0, c.leave.new.queues, t.1, refl, t.2)
