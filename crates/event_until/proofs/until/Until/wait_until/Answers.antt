use Rattle.event_until.proofs.AttemptLemmas.{OnErr-first, IfNone-first, Succeeded-first}
use Rattle.event_until.proofs.until.Until.wait_until.Goals as goal

pub returns-clause-succeeded : goal.returns-clause-succeeded
returns-clause-succeeded g c =
    rw (← c.self.view_is) (Succeeded-first _ _ _ _ _ _ c.in_default.ensures.failed c.attempt_again.ensures.succeeded)

pub returns-clause-timed_out : goal.returns-clause-timed_out
returns-clause-timed_out g c =
    rw (← c.self.view_is) (IfNone-first _ _ _ _ _ c.in_default.ensures.failed c.attempt_again.ensures.timed_out)

pub returns-clause-failed : goal.returns-clause-failed
returns-clause-failed g c =
    rw (← c.self.view_is) (OnErr-first _ _ _ _ _ c.in_default.ensures.failed c.attempt_again.ensures.failed)
