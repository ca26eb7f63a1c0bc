use Rattle.std.proofs.Common.{refl}
use Rattle.event_word.proofs.QueuesLemmas.{still_alone}
use Rattle.event_word.proofs.shares.requests.Held+Queues+Task+V.look_waiting.Goals as goal

pub returns-clause-alone : goal.returns-clause-alone
returns-clause-alone g c =
    let t = still_alone c.args.self.now c.state_mut.result.now c.look.new.queues c.requires.alone c.state_mut.ensures.state c.look.ensures.alone in
    (t.0, c.look.new.queues, t.1, refl, t.2)
