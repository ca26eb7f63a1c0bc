use Rattle.event_word.specs.Queues.{lock_rules}
use Rattle.event_wait.specs.declared.lock.task.Task.{Task}
use Rattle.event_word.proofs.WordKeeps.{passed}
use Rattle.event_word.proofs.shares.steps.Word+Queues+Task+V.admit.Goals as goal

pub new-requires : goal.new-requires
new-requires g c = (passed (lock_rules {W = Task}) 0 g.K.Right.RIGHT _ _ _ _ c.requires.step.passes c.claim.ensures.2 (c.turn-found.ensures.made c.if-found-seen.true), c.turn-found.ensures.own.1)
