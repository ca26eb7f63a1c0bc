use Rattle.std.proofs.Common.{rules, ◌≡◌, ◌≢◌, ◌∙◌, sym, true, false, true≢false, Err}
use Rattle.event_listener.specs.declared.listener.wait_error.WaitReason.TheVariants as because
use Rattle.event_wait.specs.declared.lock.limit.Limit.TheVariants.{Never}
use Rattle.event_history.proofs.LawsOwn.{own_rests}
use Rattle.event_listener.proofs.HandLemmas.{leaves_taken, owns_taken}
use Rattle.event_listener.proofs.WaitLemmas.{ended, still_only, still_owns, waits_by}
use Rattle.event_listener.proofs.listener.queue_listener.QueueListener.wait_in_queue.Goals as goal

pub wait-waited-requires-clause-rests : goal.wait-waited-requires-clause-rests
wait-waited-requires-clause-rests g c =
    let here = c.self.invariant in
    let unfinished : c.self.inside.membership.is_finished ≡ false = Prim.search (rules) in
    let owns = owns_taken c.self.inside.membership.key here.1.0 c.take-hand.result.mark.view (sym here.1.1 ∙ c.take-hand.ensures.hand.1) (here.1.2 unfinished) in
    let may = own_rests c.self.inside.membership.key c.take-hand.result.mark.view.mine owns in
    Prim.search (rules)

pub invariant_of-self-else-not-matches : goal.invariant_of-self-else-not-matches
invariant_of-self-else-not-matches g c =
    let here = c.self.invariant in
    let unfinished : c.self.inside.membership.is_finished ≡ false = Prim.search (rules) in
    let owns = owns_taken c.self.inside.membership.key here.1.0 c.take-hand.result.mark.view (sym here.1.1 ∙ c.take-hand.ensures.hand.1) (here.1.2 unfinished) in
    let memory : c.answer_of-answer.result ≡ Err because.Memory = Prim.search (rules) in
    let kept = still_owns _ _ _ (c.args.limit ≢ Never) c.self.inside.membership.key (c.place.result, c.take-hand.result.mark.view) (c.wait-waited.new.request, c.wait-waited.new.hand.mark.view) c.place.ensures owns c.wait-waited.result c.wait-waited.ensures.waits (sym c.answer_of-answer.ensures ∙ memory) in
    let left = (leaves_taken c.self.inside.membership here.1.0 c.take-hand.result.mark.view (sym here.1.1 ∙ c.take-hand.ensures.hand.1) here.1.3).0 unfinished in
    let waited = waits_by _ _ _ (c.args.limit ≢ Never) c.self.inside.membership.key (c.place.result, c.take-hand.result.mark.view) (c.wait-waited.new.request, c.wait-waited.new.hand.mark.view) c.place.ensures owns c.wait-waited.result c.wait-waited.ensures.waits in
    let only = still_only c.self.inside.membership.key (c.args.limit ≢ Never) c.take-hand.result.mark.view _ c.wait-waited.new.hand.mark.view waited (sym c.answer_of-answer.ensures ∙ memory) owns left in
    (Prim.search (rules), (c.wait-waited.new.hand.mark.view, Prim.search (rules), (λ is. kept), ((λ is. only), λ is. absurd (true≢false (sym is ∙ unfinished)))))

pub invariant_of-self : goal.invariant_of-self
invariant_of-self g c =
    let here = c.self.invariant in
    let unfinished : c.self.inside.membership.is_finished ≡ false = Prim.search (rules) in
    let owns = owns_taken c.self.inside.membership.key here.1.0 c.take-hand.result.mark.view (sym here.1.1 ∙ c.take-hand.ensures.hand.1) (here.1.2 unfinished) in
    let left = (leaves_taken c.self.inside.membership here.1.0 c.take-hand.result.mark.view (sym here.1.1 ∙ c.take-hand.ensures.hand.1) here.1.3).0 unfinished in
    let waited = waits_by _ _ _ (c.args.limit ≢ Never) c.self.inside.membership.key (c.place.result, c.take-hand.result.mark.view) (c.wait-waited.new.request, c.wait-waited.new.hand.mark.view) c.place.ensures owns c.wait-waited.result c.wait-waited.ensures.waits in
    let done : c.answer_of-answer.result ≢ Err because.Memory = Prim.search (rules) in
    let none = ended c.self.inside.membership.key (c.args.limit ≢ Never) c.take-hand.result.mark.view _ c.wait-waited.new.hand.mark.view waited (λ is. done (c.answer_of-answer.ensures ∙ is)) owns left in
    let finished : c.finish.new.self.is_finished ≡ true = c.finish.ensures in
    (Prim.search (rules), (c.wait-waited.new.hand.mark.view, Prim.search (rules), (λ is. absurd (true≢false (sym finished ∙ is))), ((λ is. absurd (true≢false (sym finished ∙ is))), λ is. none)))

pub returns-then-not-matches-clause-waits : goal.returns-then-not-matches-clause-waits
returns-then-not-matches-clause-waits g c unfinished =
    let here = c.self.invariant in
    let unfinished : c.self.inside.membership.is_finished ≡ false = Prim.search (rules) in
    let owns = owns_taken c.self.inside.membership.key here.1.0 c.take-hand.result.mark.view (sym here.1.1 ∙ c.take-hand.ensures.hand.1) (here.1.2 unfinished) in
    let waited = waits_by _ _ _ (c.args.limit ≢ Never) c.self.inside.membership.key (c.place.result, c.take-hand.result.mark.view) (c.wait-waited.new.request, c.wait-waited.new.hand.mark.view) c.place.ensures owns c.wait-waited.result c.wait-waited.ensures.waits in
    Prim.search (rules)

pub returns-else-not-matches-clause-waits : goal.returns-else-not-matches-clause-waits
returns-else-not-matches-clause-waits g c unfinished =
    let here = c.self.invariant in
    let unfinished : c.self.inside.membership.is_finished ≡ false = Prim.search (rules) in
    let owns = owns_taken c.self.inside.membership.key here.1.0 c.take-hand.result.mark.view (sym here.1.1 ∙ c.take-hand.ensures.hand.1) (here.1.2 unfinished) in
    let waited = waits_by _ _ _ (c.args.limit ≢ Never) c.self.inside.membership.key (c.place.result, c.take-hand.result.mark.view) (c.wait-waited.new.request, c.wait-waited.new.hand.mark.view) c.place.ensures owns c.wait-waited.result c.wait-waited.ensures.waits in
    Prim.search (rules)
