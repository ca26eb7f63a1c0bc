use Rattle.event_listener.proofs.recording.CopiedTagLemmas.{told_with_copies}
use Rattle.event_listener.proofs.recorded.step.perform_notification.Goals as goal

pub returns-clause-queue_after : goal.returns-clause-queue_after
returns-clause-queue_after g c =
    let step = rw c.unwrap.ensures at c.notify_uncounted.ensures.step in
    told_with_copies (λ source. source.tag) _ _ c.args.source _ _ _ step.1
