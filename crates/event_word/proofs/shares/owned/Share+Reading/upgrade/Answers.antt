use Rattle.event_wait.specs.declared.lock.task.Task.{Task}
use Rattle.event_word.specs.Queues.{lock_rules}
use Rattle.event_word.proofs.WordKeeps.{changes, due_changes}
use Rattle.event_word.proofs.shares.owned.Share+Reading.upgrade.Goals as goal

pub exchange-found-requires-clause-keeps : goal.exchange-found-requires-clause-keeps
exchange-found-requires-clause-keeps g c = (c.requires.seat, changes (lock_rules {W = Task}) _ _ _ _ _ c.in-Some.ensures.step.changes)

pub exchange-found-requires-clause-owes : goal.exchange-found-requires-clause-owes
exchange-found-requires-clause-owes g c = due_changes (lock_rules {W = Task}) _ _ _ _ c.in-Some.ensures.step.changes
