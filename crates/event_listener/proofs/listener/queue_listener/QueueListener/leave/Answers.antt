use Rattle.std.proofs.Common.{rules, ◌≡◌, ◌∙◌, sym, false}
use Rattle.event_history.proofs.LawsLeft.{left_removed}
use Rattle.event_history.proofs.LawsOwn.{own_rests}
use Rattle.event_listener.proofs.HandLemmas.{leaves_taken, owns_taken}
use Rattle.event_listener.proofs.listener.queue_listener.QueueListener.leave.Goals as goal

pub perform-end-requires-clause-rests : goal.perform-end-requires-clause-rests
perform-end-requires-clause-rests g c =
    let here = c.self.invariant in
    let unfinished : c.self.inside.membership.is_finished ≡ false = Prim.search (rules) in
    let owns = owns_taken c.self.inside.membership.key here.1.0 c.into_hand-hand.result.mark.view (sym here.1.1 ∙ c.into_hand-hand.ensures.1) (here.1.2 unfinished) in
    let may = own_rests c.self.inside.membership.key c.into_hand-hand.result.mark.view.mine owns in
    Prim.search (rules)

pub returns-clause-ends : goal.returns-clause-ends
returns-clause-ends g c =
    let here = c.self.invariant in
    let unfinished : c.self.inside.membership.is_finished ≡ false = Prim.search (rules) in
    let taken = sym here.1.1 ∙ c.into_hand-hand.ensures.1 in
    let owns = owns_taken c.self.inside.membership.key here.1.0 c.into_hand-hand.result.mark.view taken (here.1.2 unfinished) in
    let left = (leaves_taken c.self.inside.membership here.1.0 c.into_hand-hand.result.mark.view taken here.1.3).0 unfinished in
    let called = c.perform-end.ensures.call in
    left_removed _ _ _ _ _ _ _ called.2 (Prim.search (rules)) (Prim.search (rules))

pub returns-clause-removed : goal.returns-clause-removed
returns-clause-removed g c unfinished =
    let called = c.perform-end.ensures.call in
    (c.remove_uncounted.result, Prim.search (rules), (called.0, called.1, Prim.search (rules)))
