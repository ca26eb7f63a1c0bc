use Rattle.std.proofs.Common.{rules, ◌≡◌, ◌∙◌, sym, false}
use Rattle.event_listener.proofs.HandLemmas.{after_poll, leaves_poll, leaves_taken, owns_taken, polled_as}
use Rattle.event_history.proofs.LawsOwn.{own_rests}
use Rattle.event_listener.proofs.listener.queue_listener.QueueListenerListener.poll_in.Goals as goal

pub perform-end-requires-clause-rests : goal.perform-end-requires-clause-rests
perform-end-requires-clause-rests g c =
    let here = c.self.invariant in
    let unfinished : c.self.inside.membership.is_finished ≡ false = Prim.search (rules) in
    let owns = owns_taken c.self.inside.membership.key here.1.0 c.take-hand.result.mark.view (sym here.1.1 ∙ c.take-hand.ensures.hand.1) (here.1.2 unfinished) in
    let may = own_rests c.self.inside.membership.key c.take-hand.result.mark.view.mine owns in
    Prim.search (rules)

pub invariant_of-self : goal.invariant_of-self
invariant_of-self g c =
    let here = c.self.invariant in
    let unfinished : c.self.inside.membership.is_finished ≡ false = Prim.search (rules) in
    let owns = owns_taken c.self.inside.membership.key here.1.0 c.take-hand.result.mark.view (sym here.1.1 ∙ c.take-hand.ensures.hand.1) (here.1.2 unfinished) in
    let left = (leaves_taken c.self.inside.membership here.1.0 c.take-hand.result.mark.view (sym here.1.1 ∙ c.take-hand.ensures.hand.1) here.1.3).0 unfinished in
    let called = c.perform-end.ensures.call in (
      Prim.search (rules),
      (
        c.perform-end.new.mark.view,
        Prim.search (rules),
        after_poll called.2 (Prim.search (rules)) c.self.inside.membership c.note.new.self (Prim.search (rules)) c.note.ensures.stays c.note.ensures.leaves,
        leaves_poll called.2 (Prim.search (rules)) (Prim.search (rules)) c.self.inside.membership c.note.new.self (Prim.search (rules)) unfinished c.note.ensures.stays c.note.ensures.leaves,
      ),
    )

pub returns-clause-polled : goal.returns-clause-polled
returns-clause-polled g c =
    let here = c.self.invariant in
    let unfinished : c.self.inside.membership.is_finished ≡ false = Prim.search (rules) in
    let owns = owns_taken c.self.inside.membership.key here.1.0 c.take-hand.result.mark.view (sym here.1.1 ∙ c.take-hand.ensures.hand.1) (here.1.2 unfinished) in
    rw c.poll_of.ensures (polled_as c.perform-end.ensures.call.2 (Prim.search (rules)) _ _ _ (Prim.search (rules)) (Prim.search (rules)) (Prim.search (rules)) (Prim.search (rules)))
