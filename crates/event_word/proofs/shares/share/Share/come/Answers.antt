use Rattle.std.proofs.Common.{◌≡◌, ◌∙◌, arith}
use Rattle.event_wait.specs.declared.lock.task.Task.{Task}
use Rattle.event_word.specs.Queues.{lock_rules}
use Rattle.event_word.proofs.WordKeeps.{changes, due_changes, passed}
use Rattle.event_word.proofs.shares.share.Share.come.Goals as goal

pub exchange-found-requires-clause-keeps : goal.exchange-found-requires-clause-keeps
exchange-found-requires-clause-keeps g c = (cc, changes (lock_rules {W = Task}) _ _ _ _ _ c.in-Some-word_in.ensures.step.changes)

pub exchange-found-requires-clause-owes : goal.exchange-found-requires-clause-owes
exchange-found-requires-clause-owes g c = due_changes (lock_rules {W = Task}) _ _ _ _ c.in-Some-word_in.ensures.step.changes

pub returns-then-found-seen-clause-right : goal.returns-then-found-seen-clause-right
returns-then-found-seen-clause-right g c =
    (passed (lock_rules {W = Task}) 0 g.K.Right.RIGHT _ _ _ _ c.in-Some-word_in.ensures.step.passes c.new.ensures.3 (c.exchange-found.ensures.becomes.0 c.if-found-seen.true), c.exchange-found.ensures.tells.2.1 ∙ c.new.ensures.4)

pub returns-then-found-seen-clause-lends : goal.returns-then-found-seen-clause-lends
returns-then-found-seen-clause-lends g c = λ some.
    let right : c.exchange-found.result.1.right ≡ g.K.Right.RIGHT = passed (lock_rules {W = Task}) 0 g.K.Right.RIGHT _ _ _ _ c.in-Some-word_in.ensures.step.passes c.new.ensures.3 (c.exchange-found.ensures.becomes.0 c.if-found-seen.true) in
    c.exchange-found.ensures.has (omega (arith, right, some))
