use Rattle.std.proofs.Common.{◌≡◌, ℕ, None, replicate, sym, ap, ◌∙◌, subst}
use Rattle.event_queue.specs.Queue.{Queue}
use Rattle.event_worlds.specs.LineKeys.{IsTied}
use Rattle.event_worlds.proofs.JoinLemmas.{empty-tied}
use Rattle.event_worlds.proofs.KeyLemmas.{none_only}
use Rattle.event_worlds.proofs.world.line.ClientLine.new.Goals as goal

pub invariant_of-result-2 : goal.invariant_of-result-2
invariant_of-result-2 c =
    let spare : ℕ = c.reserve.new.self.spare in
    let empty = c.reserve.ensures.listeners ∙ ap (λ (q : Queue Unit ℕ). record q { spare = spare }) c.starting_at-list.ensures.empty in
    let told = ap (λ (q : Queue Unit ℕ). q.told) empty in
    let waiting = ap (λ (q : Queue Unit ℕ). q.waiting) empty in
    let keys : c.in_ok-vec.field-0.items ≡ replicate c.args.clients None = none_only _ c.in_ok-vec.ensures.items_if_clones_equal (λ key like. absurd like) in
    let tied = empty-tied c.args.additional c.reserve.new.self c.in_ok-vec.field-0.items c.in_ok-new.field-0 c.args.clients c.reserve.ensures.queue told waiting c.in_ok-reserve.ensures.room keys c.in_ok-new.ensures.none in
    subst (λ (q : Queue Unit ℕ). IsTied c.args.additional q c.in_ok-vec.field-0.items c.in_ok-new.field-0) (sym c.list.view_is) tied
