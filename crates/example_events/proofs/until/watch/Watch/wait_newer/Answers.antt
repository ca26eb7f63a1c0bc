use Rattle.example_events.proofs.AttemptLemmas.{IfOk-first}
use Rattle.example_events.proofs.until.watch.Watch.wait_newer.Goals as goal

pub returns : goal.returns
returns g c =
    IfOk-first _ _ _ _ _ (λ version newer. rw c.newer.ensures at newer.0) c.wait.ensures.succeeded
