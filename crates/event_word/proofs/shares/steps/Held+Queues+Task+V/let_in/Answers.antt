use Rattle.std.proofs.Common.{rules}
use Rattle.event_word.proofs.QueuesLemmas.{since}
use Rattle.event_word.proofs.shares.steps.Held+Queues+Task+V.let_in.Goals as goal

pub loop-preserved : goal.loop-preserved
loop-preserved g c = (search rules, search rules, search rules, since _ _ _ c.loop.invariant.3 (record { others = _; eases = c.look_letting_in-seen.ensures.eases; made = search rules }))
