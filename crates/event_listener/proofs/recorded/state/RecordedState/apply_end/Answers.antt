use Rattle.std.proofs.Common.{true, [], ◌∷◌, ◌++◌, None, Some, ap, sym, refl, ◌∙◌, subst, arith}
use Rattle.event_queue.specs.Queue.{IsAbsent}
use Rattle.event_listener.specs.recording.Step.{StepsAnySpare}
use Rattle.event_listener.specs.declared.recorded.call.RecordedCall.TheVariants.{Remove}
use Rattle.event_listener.specs.declared.recorded.reply.RecordedReply.TheVariants.{Removed}
use Rattle.event_listener.proofs.recording.StateLemmas.{IsRecording-grown, IsRecording-step, nobody_removed, somebody_removed, steps_any_spare}
use Rattle.event_listener.specs.recording.State.{unspared}
use Rattle.event_listener.proofs.recorded.state.RecordedState.apply_end.Goals as goal

-- nobody has that key

pub invariant_of-self : goal.invariant_of-self
invariant_of-self g c =
    let nobody = nobody_removed _ _ _ _ _ c.perform_removal.ensures.step c.in_default.is in
    IsRecording-grown g.T.PartialEq.eq _ _ c.self.inside.list c.perform_removal.new.list _ _ _ _ c.self.invariant refl (ap unspared nobody.1) refl (omega arith)

pub returns-in_default-clause-ends : goal.returns-in_default-clause-ends
returns-in_default-clause-ends g c =
    let nobody = nobody_removed _ _ _ _ _ c.perform_removal.ensures.step c.in_default.is in
    let absent : IsAbsent c.args.key (unspared c.self.inside.list) = record { untold = nobody.0.untold; unwaiting = nobody.0.unwaiting } in
    λ present. absurd (present (subst (λ r. IsAbsent c.args.key r.queue) c.self.view_is absent))

pub returns-in_default-clause-unchanged : goal.returns-in_default-clause-unchanged
returns-in_default-clause-unchanged g c =
    let nobody = nobody_removed _ _ _ _ _ c.perform_removal.ensures.step c.in_default.is in
    λ _. ap (λ q. record { entries = c.self.inside.entries.items; queue = unspared q }) nobody.1 ∙ c.self.view_is

-- somebody has it

pub push_reserved-requires : goal.push_reserved-requires
push_reserved-requires g c =
    let one = somebody_removed _ _ _ _ c.in-Some.was _ c.perform_removal.ensures.step c.in-Some.is in
    omega (arith, one.fewer, c.self.invariant.has_room)

pub invariant_of-self-2 : goal.invariant_of-self-2
invariant_of-self-2 g c =
    let one = somebody_removed _ _ _ _ c.in-Some.was _ c.perform_removal.ensures.step c.in-Some.is in
    let step = rw c.in-Some.is at c.perform_removal.ensures.step in
    IsRecording-step g.T.PartialEq.eq g.met.T.Eq.laws _ _ c.self.inside.list c.perform_removal.new.list _ (Remove c.args.key true) _ None _ _ _
    c.self.invariant.replays c.self.invariant.is_queue step tt c.perform_removal.ensures.queue c.self.invariant.ends (λ none. tt) refl
    c.push_reserved.ensures.items
    (omega (arith, one.fewer, c.self.invariant.has_room, c.push_reserved.ensures.len, c.push_reserved.ensures.capacity))

pub returns-clause-ends : goal.returns-clause-ends
returns-clause-ends g c =
    let step = rw c.in-Some.is at c.perform_removal.ensures.step in
    let made = steps_any_spare c.self.inside.list c.self.inside.list c.perform_removal.new.list (Remove c.args.key true) None (Removed (Some c.in-Some.was)) refl step in
    λ _. record {
      was = c.in-Some.was;
      step = subst (λ q. StepsAnySpare q (Remove c.args.key true) None (Removed (Some c.in-Some.was)) (unspared c.perform_removal.new.list)) (ap (λ r. r.queue) c.self.view_is) made;
      recorded = c.push_reserved.ensures.items ∙ ap (λ r. r.entries ++ record { hand = None; call = Remove c.args.key true; reply = Removed (Some c.in-Some.was) } ∷ []) c.self.view_is;
    }

pub returns-clause-unchanged : goal.returns-clause-unchanged
returns-clause-unchanged g c =
    let one = somebody_removed _ _ _ _ c.in-Some.was _ c.perform_removal.ensures.step c.in-Some.is in
    λ absent.
    let was : IsAbsent c.args.key (unspared c.self.inside.list) = subst (λ r. IsAbsent c.args.key r.queue) (sym c.self.view_is) absent in
    absurd (one.present (record { untold = was.untold; unwaiting = was.unwaiting }))
