use Rattle.std.proofs.Common.{◌≡◌, ◌≤◌, ap, refl, subst, arith}
use Rattle.event_queue.specs.Queue.{listeners_of}
use Rattle.event_listener.specs.recording.Exchange.{StepsBeside}
use Rattle.event_listener.specs.recording.Step.{newcomers_of}
use Rattle.event_listener.specs.recording.State.{unspared}
use Rattle.event_listener.proofs.recording.StateLemmas.{IsRecording-grown, IsRecording-step, replays_same, step_kind, no_more_than_newcomers, steps_beside, with_no_spare}
use Rattle.event_listener.proofs.recorded.state.RecordedState.record_step.Goals as goal

pub invariant_of-self : goal.invariant_of-self
invariant_of-self g c =
    IsRecording-grown g.T.PartialEq.eq _ _ c.self.inside.list c.self.inside.list _ _ _ _ c.self.invariant c.make_room.ensures.items refl c.make_room.ensures.len c.make_room.ensures.kept

pub invariant_of-self-in_err-reserve : goal.invariant_of-self-in_err-reserve
invariant_of-self-in_err-reserve g c =
    IsRecording-grown g.T.PartialEq.eq _ _ c.self.inside.list c.reserve.new.self _ _ _ _ c.self.invariant c.make_room.ensures.items
    (ap unspared c.reserve.ensures.listeners) c.make_room.ensures.len c.make_room.ensures.kept

pub invariant_of-self-2 : goal.invariant_of-self-2
invariant_of-self-2 g c =
    let call = g.P.MakesStep.call c.args.step in
    let mid = c.reserve.new.self in
    let new = c.make-reply.new.list in
    let made = c.make-reply.ensures.is_step in
    let spare : newcomers_of call ≤ mid.spare = omega (arith, ap newcomers_of c.recorded-call.ensures, c.newcomers-newcomers.ensures.value, c.in_ok-reserve.ensures.room) in
    let as_many : listeners_of mid ≡ listeners_of c.self.inside.list = ap listeners_of c.reserve.ensures.listeners in
    let same : unspared mid ≡ unspared c.self.inside.list = ap unspared c.reserve.ensures.listeners in
    let replays = replays_same g.T.PartialEq.eq _ c.make_room.new.entries.items c.self.inside.list mid c.self.invariant.replays c.make_room.ensures.items same in
    IsRecording-step g.T.PartialEq.eq g.met.T.Eq.laws _ _ mid new _ call c.recorded-call.result made.task c.make-reply.result
    _ _ replays (with_no_spare mid c.reserve.ensures.queue) made.step (step_kind mid call _ _ new spare made.step) c.make-reply.ensures.queue
    (rw c.make_room.ensures.items c.self.invariant.ends) (λ none. absurd (cc)) c.recorded-call.ensures
    (rw c.by_hand-entry.ensures at c.push_reserved.ensures.items)
    (omega (
      arith,
      as_many,
      no_more_than_newcomers mid call _ _ new made.step,
      ap newcomers_of c.recorded-call.ensures,
      c.newcomers-newcomers.ensures.value,
      c.total_listeners-listeners.ensures.value,
      c.in_ok-make_room.ensures.room,
      c.push_reserved.ensures.len,
      c.push_reserved.ensures.capacity,
    ))

pub returns-clause-kind : goal.returns-clause-kind
returns-clause-kind g c =
    let call = g.P.MakesStep.call c.args.step in
    let spare : newcomers_of call ≤ c.reserve.new.self.spare = omega (arith, ap newcomers_of c.recorded-call.ensures, c.newcomers-newcomers.ensures.value, c.in_ok-reserve.ensures.room) in
    rw c.by_hand-entry.ensures (step_kind c.reserve.new.self call _ _ _ spare c.make-reply.ensures.is_step.step)

pub returns-clause-step : goal.returns-clause-step
returns-clause-step g c =
    let step = steps_beside (g.P.MakesStep.steps c.args.step) c.self.inside.list c.reserve.new.self c.make-reply.new.list _ _ _ c.reserve.ensures.listeners c.make-reply.ensures.steps in
    rw c.by_hand-entry.ensures
    (subst (λ q. StepsBeside (g.P.MakesStep.steps c.args.step) q c.args.beside.now c.make-reply.result (unspared c.make-reply.new.list) c.make-reply.new.beside) (ap (λ r. r.queue) c.self.view_is) step)
