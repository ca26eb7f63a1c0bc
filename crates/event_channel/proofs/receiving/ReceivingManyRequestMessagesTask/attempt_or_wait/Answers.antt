use Rattle.std.proofs.Common.{rules, refl}
use Rattle.event_channel.proofs.PlaceLemmas.{keeping}
use Rattle.event_channel.proofs.StepLemmas.{many_absent, many_leaves, many_refused, many_taken_then_leaves, many_waits}
use Rattle.event_channel.proofs.receiving.ReceivingManyRequestMessagesTask.attempt_or_wait.Goals as goal

pub returns-then-len-capacity-clause-goes : goal.returns-then-len-capacity-clause-goes
returns-then-len-capacity-clause-goes g c =
    let left = c.cancel_receiver.ensures in keeping _ _ _ _ (search rules) (search rules) (many_leaves c.self.inside.key _ _ (left.others, left.left))

pub returns-in-Some-clause-goes : goal.returns-in-Some-clause-goes
returns-in-Some-clause-goes g c = keeping _ _ _ _ (search rules) (search rules) (many_taken_then_leaves _ c.self.inside.key _ _ _ c.in-Some.ensures.takes (c.cancel_receiver-in-Some.ensures.others, c.cancel_receiver-in-Some.ensures.left))

pub returns-in-Waits-clause-goes : goal.returns-in-Waits-clause-goes
returns-in-Waits-clause-goes g c = keeping _ _ _ _ (search rules) (search rules) (many_waits _ _ _ c.self.inside.key _ (c.in_default.ensures.nothing refl) c.in-Waits.ensures.receives)

pub returns-in-Absent-clause-goes : goal.returns-in-Absent-clause-goes
returns-in-Absent-clause-goes g c = keeping _ _ _ _ (search rules) (search rules) (many_absent _ _ _ c.self.inside.key (c.in_default.ensures.nothing refl) c.in-Absent.ensures.receives)

pub returns-in-Refused-clause-goes : goal.returns-in-Refused-clause-goes
returns-in-Refused-clause-goes g c = keeping _ _ _ _ (search rules) (search rules) (many_refused _ _ _ c.self.inside.key _ (c.in_default.ensures.nothing refl) c.in-Refused.ensures.receives)
