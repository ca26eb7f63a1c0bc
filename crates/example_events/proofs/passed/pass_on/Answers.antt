use Rattle.std.proofs.Common.{rules, ◌≡◌, ◌∙◌, ap, true, false}
use Rattle.event_listener.specs.Listening.{Standing}
use Rattle.example_events.proofs.PassedLemmas.{calls_on, is_passed}
use Rattle.example_events.proofs.passed.pass_on.Goals as goal

pub returns : goal.returns
returns g c =
    let lent = c.observe.ensures.listener in
    let kept = c.observe-2.ensures.listener in
    let stands = c.join.ensures.same.0 in
    let stands' = c.join-2.ensures.same.0 in
    let waits : c.join.new.self.standing.is_finished ≡ false = ap (λ (s : Standing). s.is_finished) stands ∙ (ap (λ l. l.standing.is_finished) lent ∙ c.in_ok-first.ensures.unfinished) in
    let waits' : c.join-2.new.self.standing.is_finished ≡ false = ap (λ (s : Standing). s.is_finished) stands' ∙ (ap (λ l. l.standing.is_finished) kept ∙ c.in_ok-second.ensures.unfinished) in
    let two : c.counts-listeners.result.1 ≡ 2 = search rules in
    let was : c.drop_listener.result ≡ true = search rules in
    is_passed c.passes_on.ensures.next c.in_ok-hand.hand.knows.seen c.counts-listeners.result.0 c.counts-listeners.result.1 c.listen.new.self c.observe.new.self c.listen-2.new.self c.observe-2.new.self c.counts-listeners.new.self c.notify.new.self
    c.in_ok-fork.field-0 c.fork.new.self c.drop_listener.new.self c.in_ok-fork-2.field-0 c.in_ok-first.first c.observe.new.listener c.join.new.self c.in_ok-second.second c.observe-2.new.listener c.join-2.new.self c.drop_listener.result c.discard.result
    c.fork-2.new.self.knows c.discard.new.self.knows c.in_ok-first.ensures.listens lent c.observe.ensures.looks c.in_ok-second.ensures.listens kept c.observe-2.ensures.looks c.counts-listeners.ensures.call two
    (calls_on c.counts-listeners.new.self.knows c.notify.new.self.knows _ c.notify.ensures.call) c.in_ok-fork.ensures.told.0 c.join.ensures.looks stands (c.drop_listener.ensures.removed waits) was c.in_ok-fork-2.ensures.told.0 c.join-2.ensures.looks stands' (c.discard.ensures.removed waits')
