use Rattle.std.proofs.Common.{ap, sym, ◌∙◌, ◌≢◌}
use Rattle.event_wait.specs.declared.lock.limit.Limit.TheVariants.{Never}
use Rattle.event_listener.proofs.recording.WaitLemmas.{noted_wait}
use Rattle.event_listener.proofs.recorded.wait.wait_until.Goals as goal

pub returns-in-Err-Memory : goal.returns-in-Err-Memory
returns-in-Err-Memory g c =
    let key = c.of-place.ensures.key ∙ ap (λ listener. listener.key) c.listener.view_is in
    let noted = noted_wait _ (c.args.limit ≢ Never) c.of-place.result c.args.listener c.wait-waited.result c.wait-waited.new.request key c.wait-waited.ensures.waits in
    rw c.give_back.ensures (rw (c.in-Err-Memory.is, c.of-place.ensures.hand) at noted)

pub returns-in-Ok-transpose : goal.returns-in-Ok-transpose
returns-in-Ok-transpose g c =
    let key = c.of-place.ensures.key ∙ ap (λ listener. listener.key) c.listener.view_is in
    let noted = noted_wait _ (c.args.limit ≢ Never) c.of-place.result c.args.listener c.wait-waited.result c.wait-waited.new.request key c.wait-waited.ensures.waits in
    rw c.give_back.ensures (rw (c.in-Ok.is, c.of-place.ensures.hand, sym c.transpose.ensures ∙ c.in-Ok-transpose.is) at noted)

pub returns-in-Err : goal.returns-in-Err
returns-in-Err g c =
    let key = c.of-place.ensures.key ∙ ap (λ listener. listener.key) c.listener.view_is in
    let noted = noted_wait _ (c.args.limit ≢ Never) c.of-place.result c.args.listener c.wait-waited.result c.wait-waited.new.request key c.wait-waited.ensures.waits in
    rw c.give_back.ensures (rw (c.in-Ok.is, c.of-place.ensures.hand, sym c.transpose.ensures ∙ c.in-Err.is) at noted)
