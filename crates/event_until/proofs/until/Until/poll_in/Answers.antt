use Rattle.event_until.proofs.AttemptLemmas.{none_left}
use Rattle.event_until.proofs.until.Until.poll_in.Goals as goal

pub returns-in-Ok-Pending-clause-attempted : goal.returns-in-Ok-Pending-clause-attempted
returns-in-Ok-Pending-clause-attempted g c =
    rw (← c.self.view_is) (λ unlistened. rw c.in-Ok-Pending.field-0-is at (c.in-Ok-Pending.ensures.attempted (none_left c.self.inside.listener unlistened)))
