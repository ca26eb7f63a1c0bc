use Rattle.std.proofs.Common.{rules}
use Rattle.event_word.proofs.QueuesLemmas.{since}
use Rattle.event_word.proofs.shares.steps.Held+Queues+Task+V.count_or_see.Goals as goal

pub loop-preserved : goal.loop-preserved
loop-preserved g c = (search rules, search rules, search rules, since _ _ _ c.loop.invariant.3 (record { others = _; eases = c.look_alone-seen.ensures.eases; made = search rules }))
