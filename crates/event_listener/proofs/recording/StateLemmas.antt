-- What `RecordedState` keeps, as its queue makes steps and records them.
use Rattle.std.proofs.Common.{◌≡◌, ◌≢◌, ℕ, ◌+◌, ◌≤◌, Bool, true, false, List, [], ◌∷◌, ◌++◌, replicate, refl, sym, ap, ◌∙◌, subst, arith, Option, Some, None, Result, Ok, Err, length-append}
use Rattle.std.specs.Prelude.{option_map}
use Rattle.std.specs.Cmp.{IsEquivalence}
use Rattle.std.specs.Map.{lookup}
use Rattle.std.proofs.lemmas.List.Elements.{All-push}
use Rattle.std.proofs.lemmas.Map.{length-set_value}
use Rattle.event_queue.specs.declared.key.Key.{Key}
use Rattle.event_queue.specs.declared.notice.Notice.{Notice}
use Rattle.event_queue.specs.declared.reply.ListenError.{ListenError}
use Rattle.event_queue.specs.declared.reply.ListenError.TheVariants.{Memory, SerialsUsedUp}
use Rattle.event_queue.specs.declared.reply.RegisterResult.{RegisterResult}
use Rattle.event_queue.specs.declared.reply.RegisterResult.TheVariants as register
use Rattle.event_queue.specs.declared.reply.State.{State}
use Rattle.event_queue.specs.declared.reply.State.TheVariants as state
use Rattle.event_queue.specs.Key.{is_key}
use Rattle.event_queue.specs.Queue.{Queue, IsQueue, IsAbsent, listeners_of, told_leaves, waiting_leaves}
use Rattle.event_queue.specs.Insert.{Inserts}
use Rattle.event_queue.specs.Register.{Registers}
use Rattle.event_queue.specs.Remove.{Removes}
use Rattle.event_queue.proofs.LawLemmas.{Propagates, propagates-passed, propagates-lost}
use Rattle.event_queue.proofs.OrderLemmas.{length-remove_entry}
use Rattle.event_queue.proofs.TellingLemmas.{listeners_of-after_telling}
use Rattle.event_wait.specs.declared.lock.task.Task.{Task}
use Rattle.event_listener.specs.declared.recorded.call.RecordedCall.{RecordedCall}
use Rattle.event_listener.specs.declared.recorded.call.RecordedCall.TheVariants as call
use Rattle.event_listener.specs.declared.recorded.entry.Entry.{Entry}
use Rattle.event_listener.specs.declared.recorded.reply.RecordedReply.{RecordedReply}
use Rattle.event_listener.specs.declared.recorded.reply.RecordedReply.TheVariants as reply
use Rattle.event_listener.specs.declared.recorded.reply.Former.{Former}
use Rattle.event_listener.specs.recording.Exchange.{StepsBeside}
use Rattle.event_listener.specs.recording.Step.{Steps, StepsAnySpare, RemovesAs, IsReplyTo, WasKept, former_of, newcomers_of}
use Rattle.event_listener.specs.recording.Replay.{ReplaysTo, shape_of}
use Rattle.event_listener.specs.recording.State.{IsRecording, IsEnd, HandlessAreEnds, unspared}
use Rattle.event_listener.proofs.recording.StepLemmas.{step_follows, found_value}
use Rattle.event_listener.proofs.recording.ReplayLemmas.{same_reply-refl, replay_entry-follows, replay_from-push}

module _ {T W : Type 0} where
  -- where room for a newcomer was made, the reply is of the call's kind

  room_for_one : (old : Queue T W) (answer : Result Key ListenError) (new : Queue T W) → 1 ≤ old.spare → Inserts old answer new → answer ≢ Err Memory
  room_for_one old (Ok key) new room step = λ h. (cc)
  room_for_one old (Err Memory) new room step = λ h. omega (arith, step.1)
  room_for_one old (Err SerialsUsedUp) new room step = λ h. (cc)

  not_passed_on : (old : Queue T W) (key : Key) (was : Option (State T W)) (new : Queue T W) → Removes old key false was new → WasKept (option_map former_of was)
  not_passed_on old key None new step = tt
  not_passed_on old key (Some state.Created) new step = tt
  not_passed_on old key (Some (state.Task task)) new step = tt
  not_passed_on old key (Some (state.Notified additional tag)) new step = tt
  not_passed_on old key (Some (state.Passed to)) new step = absurd (let e = step.0 in cc)
  not_passed_on old key (Some (state.Lost additional tag)) new step = absurd (let e = step.0 in cc)

  pub removal_kind : (old : Queue T W) (key : Key) (propagate : Bool) (answer : Option (Former T)) (new : Queue T W)
      → RemovesAs old key propagate answer new → IsReplyTo (call.Remove key propagate) (reply.Removed answer)
  removal_kind old key true answer new step = tt
  removal_kind old key false answer new step =
      subst WasKept (sym step.answered) (not_passed_on old key step.was new step.removes)

  pub step_kind : (old : Queue T W) (call : RecordedCall T) (task : Option W) (reply : RecordedReply T) (new : Queue T W)
      → newcomers_of call ≤ old.spare → Steps old call task reply new → IsReplyTo call reply
  step_kind old call.Listen None (reply.Listened answer) new room step = room_for_one old answer new room step
  step_kind old (call.Register key) (Some task) (reply.Registered answer) new room step = tt
  step_kind old (call.Remove key propagate) None (reply.Removed answer) new room step =
      removal_kind old key propagate answer new step
  step_kind old (call.Notify count additional tag) None (reply.Notified told) new room step = tt
  step_kind old call.TotalListeners None (reply.TotalListeners total) new room step = tt
  step_kind old call.IsNotified None (reply.IsNotified told) new room step = tt
  step_kind old _ _ _ new room step = absurd step

  -- how many listeners there are afterwards

  listeners_of-told_leaves : (key : Key) (q : Queue T W) (notice : Notice T) → lookup (is_key key) q.told ≡ Some notice → listeners_of (told_leaves key q) + 1 ≡ listeners_of q
  listeners_of-told_leaves key q notice found = omega (arith, length-remove_entry key q.told notice found)

  listeners_of-waiting_leaves : (key : Key) (q : Queue T W) (task : Option W) → lookup (is_key key) q.waiting ≡ Some task → listeners_of (waiting_leaves key q) + 1 ≡ listeners_of q
  listeners_of-waiting_leaves key q task found = omega (arith, length-remove_entry key q.waiting task found)

  one_propagated : (old : Queue T W) (key : Key) (propagate : Bool) (new : Queue T W) → Propagates old key propagate new → listeners_of new + 1 ≡ listeners_of old
  one_propagated old key propagate new step =
      let passed = ap listeners_of step.queue ∙ listeners_of-after_telling step.notice.additional _ (told_leaves key old) in
      omega (arith, passed, listeners_of-told_leaves key old step.notice step.found)

  pub one_left : (old : Queue T W) (key : Key) (propagate : Bool) (was : State T W) (new : Queue T W) → Removes old key propagate (Some was) new → listeners_of new + 1 ≡ listeners_of old
  one_left old key propagate state.Created new step = rw step.1 (listeners_of-waiting_leaves key old None step.0)
  one_left old key propagate (state.Task task) new step = rw step.1 (listeners_of-waiting_leaves key old (Some task) step.0)
  one_left old key propagate (state.Notified additional tag) new step = rw step.2 (listeners_of-told_leaves key old _ step.1)
  one_left old key propagate (state.Passed to) new step =
      one_propagated old key propagate new (propagates-passed old key propagate to new step)
  one_left old key propagate (state.Lost additional tag) new step =
      one_propagated old key propagate new (propagates-lost old key propagate additional tag new step)

  no_more_left : (old : Queue T W) (key : Key) (propagate : Bool) (was : Option (State T W)) (new : Queue T W) → Removes old key propagate was new → listeners_of new ≤ listeners_of old
  no_more_left old key propagate None new step = omega (arith, ap listeners_of step.1)
  no_more_left old key propagate (Some was) new step = omega (arith, one_left old key propagate was new step)

  no_more_registered : (old : Queue T W) (key : Key) (task : W) (answer : RegisterResult T) (new : Queue T W) → Registers old key task answer new → listeners_of new ≤ listeners_of old
  no_more_registered old key task (register.Notified tag) new step =
      let found = found_value (lookup (is_key key) old.told) (λ n. n.tag ≡ tag) step.0 in
      omega (arith, ap listeners_of step.1, listeners_of-told_leaves key old found.0 found.1)
  no_more_registered old key task register.Registered new step =
      omega (arith, ap listeners_of step.1, length-set_value (is_key key) old.waiting (Some task))
  no_more_registered old key task register.NeverInserted new step = omega (arith, ap listeners_of step.1)

  one_more_listens : (old : Queue T W) (answer : Result Key ListenError) (new : Queue T W) → Inserts old answer new → listeners_of new ≤ listeners_of old + 1
  one_more_listens old (Ok key) new step = omega (arith, ap listeners_of step.queue, length-append old.waiting ((key, None) ∷ []))
  one_more_listens old (Err Memory) new step = omega (arith, ap listeners_of step.2)
  one_more_listens old (Err SerialsUsedUp) new step = omega (arith, ap listeners_of step.1)

  pub no_more_than_newcomers : (old : Queue T W) (call : RecordedCall T) (task : Option W) (reply : RecordedReply T) (new : Queue T W)
      → Steps old call task reply new → listeners_of new ≤ listeners_of old + newcomers_of call
  no_more_than_newcomers old call.Listen None (reply.Listened answer) new step = one_more_listens old answer new step
  no_more_than_newcomers old (call.Register key) (Some task) (reply.Registered answer) new step =
      omega (arith, no_more_registered old key task answer new step)
  no_more_than_newcomers old (call.Remove key propagate) None (reply.Removed answer) new step =
      omega (arith, no_more_left old key propagate step.was new step.removes)
  no_more_than_newcomers old (call.Notify count additional tag) None (reply.Notified told) new step =
      omega (arith, ap listeners_of step.1, listeners_of-after_telling additional (replicate told tag) old)
  no_more_than_newcomers old call.TotalListeners None (reply.TotalListeners total) new step =
      omega (arith, ap listeners_of step.1)
  no_more_than_newcomers old call.IsNotified None (reply.IsNotified told) new step =
      omega (arith, ap listeners_of step.1)
  no_more_than_newcomers old _ _ _ new step = absurd step

-- a step with what is beside the queue, after room was made for it
pub steps_beside : {T C : Type 0} (steps : Queue T Task × C → RecordedReply T → Queue T Task × C → Type 0) (old mid new : Queue T Task) (before after : C) (reply : RecordedReply T)
    → mid ≡ record old { spare = mid.spare } → steps (mid, before) reply (new, after)
    → StepsBeside steps (unspared old) before reply (unspared new) after
steps_beside steps old mid new before after reply same step = record {
  spare = mid.spare;
  spare' = new.spare;
  step = subst (λ q. steps (q, before) reply (new, after)) same step;
}

module _ {T W : Type 0} where
  pub with_no_spare : (q : Queue T W) → IsQueue q → IsQueue (unspared q)
  with_no_spare q queue = record { rising = queue.rising; serial_fits = queue.serial_fits; slots_fit = omega (arith, queue.slots_fit) }

  -- a step after room was made for it
  pub steps_any_spare : (old mid new : Queue T W) (call : RecordedCall T) (task : Option W) (reply : RecordedReply T)
      → mid ≡ record old { spare = mid.spare } → Steps mid call task reply new
      → StepsAnySpare (unspared old) call task reply (unspared new)
  steps_any_spare old mid new call task reply same step = record {
    spare = mid.spare;
    spare' = new.spare;
    step = subst (λ q. Steps q call task reply new) same step;
  }

  -- a removal of nobody, and of somebody

  absent_only : (old : Queue T W) (key : Key) (propagate : Bool) (was : Option (State T W)) (new : Queue T W)
      → Removes old key propagate was new → None ≡ option_map former_of was → IsAbsent key old × (new ≡ old)
  absent_only old key propagate None new step none = step
  absent_only old key propagate (Some was) new step none = absurd (cc)

  pub nobody_removed : (old : Queue T W) (key : Key) (propagate : Bool) (answer : Option (Former T)) (new : Queue T W)
      → RemovesAs old key propagate answer new → answer ≡ None → IsAbsent key old × (new ≡ old)
  nobody_removed old key propagate answer new step none = absent_only old key propagate step.was new step.removes (sym none ∙ step.answered)

  found_told : (old : Queue T W) (key : Key) (propagate : Bool) (new : Queue T W) → Propagates old key propagate new → ¬ IsAbsent key old
  found_told old key propagate new step =
      λ absent. let no : None ≡ Some step.notice = sym absent.untold ∙ step.found in absurd (cc)

  found_one : (old : Queue T W) (key : Key) (propagate : Bool) (was : State T W) (new : Queue T W) → Removes old key propagate (Some was) new → ¬ IsAbsent key old
  found_one old key propagate state.Created new step = λ absent. let none : Option W = None in let no : None ≡ Some none = sym absent.unwaiting ∙ step.0 in absurd (cc)
  found_one old key propagate (state.Task task) new step = λ absent. let no : None ≡ Some (Some task) = sym absent.unwaiting ∙ step.0 in absurd (cc)
  found_one old key propagate (state.Notified additional tag) new step = λ absent. let notice : Notice T = record
      { additional = additional; tag = tag } in let no : None ≡ Some notice = sym absent.untold ∙ step.1 in absurd (cc)
  found_one old key propagate (state.Passed to) new step =
      found_told old key propagate new (propagates-passed old key propagate to new step)
  found_one old key propagate (state.Lost additional tag) new step =
      found_told old key propagate new (propagates-lost old key propagate additional tag new step)

  pub record RemovedOne (old : Queue T W) (key : Key) (new : Queue T W) : Type 0 where
    pub present : ¬ IsAbsent key old
    pub fewer : listeners_of new + 1 ≡ listeners_of old

  removed_one : (old : Queue T W) (key : Key) (propagate : Bool) (was : Option (State T W)) (former : Former T) (new : Queue T W)
      → Removes old key propagate was new → Some former ≡ option_map former_of was → RemovedOne old key new
  removed_one old key propagate None former new step some = absurd (cc)
  removed_one old key propagate (Some was) former new step some = record {
    present = found_one old key propagate was new step;
    fewer = one_left old key propagate was new step;
  }

  pub somebody_removed : (old : Queue T W) (key : Key) (propagate : Bool) (answer : Option (Former T)) (former : Former T) (new : Queue T W)
      → RemovesAs old key propagate answer new → answer ≡ Some former → RemovedOne old key new
  somebody_removed old key propagate answer former new step some = removed_one old key propagate step.was former new step.removes (sym some ∙ step.answered)

module _ {T : Type 0} (eq : T → T → Bool) where
  -- of a new state
  pub IsRecording-empty : (entries : List (Entry T)) (q : Queue T Task) (len capacity : ℕ) → entries ≡ []
      → q ≡ record { told = []; waiting = []; next_serial = 0; spare = 0 } → IsQueue q → len ≡ 0
      → IsRecording eq entries (unspared q) len capacity
  IsRecording-empty entries q len capacity none empty queue short = record {
    replays = rw (none, empty) refl;
    is_queue = with_no_spare q queue;
    ends = rw none (λ k entry below nobody. absurd (omega (arith, below)));
    has_room = rw (empty, short) (omega arith);
  }

  -- as room is made, or nothing changes
  pub IsRecording-grown : (entries entries' : List (Entry T)) (q q' : Queue T Task) (len len' capacity capacity' : ℕ)
      → IsRecording eq entries (unspared q) len capacity → entries' ≡ entries → unspared q' ≡ unspared q → len' ≡ len
      → capacity ≤ capacity' → IsRecording eq entries' (unspared q') len' capacity'
  IsRecording-grown entries entries' q q' len len' capacity capacity' is same_entries same_queue same_len grown =
      rw (same_entries, same_queue, same_len) (record { replays = is.replays; is_queue = is.is_queue; ends = is.ends; has_room = omega (arith, is.has_room) })

  ends_push : (entries : List (Entry T)) (entry : Entry T) → HandlessAreEnds entries → (entry.hand ≡ None → IsEnd entry.call entry.reply) → HandlessAreEnds (entries ++ entry ∷ [])
  ends_push entries entry ends end = All-push (λ (e : Entry T). e.hand ≡ None → IsEnd e.call e.reply) entries entry ends end

  pub replays_same : (entries entries' : List (Entry T)) (q q' : Queue T Task) → ReplaysTo eq entries (unspared q) → entries' ≡ entries → unspared q' ≡ unspared q → ReplaysTo eq entries' q'
  replays_same entries entries' q q' replays same_entries same_queue =
      rw same_entries (replays ∙ ap (λ p. Some (shape_of p)) (sym same_queue))

  module _ (equivalence : IsEquivalence eq) where
    -- the record with one more step
    replays_step : {W : Type 0} (entries : List (Entry T)) (old : Queue T W) (hand : Option ℕ) (call : RecordedCall T) (task : Option W) (reply : RecordedReply T) (new : Queue T W)
        → ReplaysTo eq entries old → IsQueue (unspared old) → Steps old call task reply new → IsReplyTo call reply
        → ReplaysTo eq (entries ++ record { hand = hand; call = call; reply = reply } ∷ []) new
    replays_step entries old hand call task reply new replays queue step kind =
        let follows = step_follows old call task reply new queue step kind in
        replay_from-push eq _ (shape_of old) (shape_of new) entries _ replays
        (replay_entry-follows eq old new (record { hand = hand; call = call; reply = reply }) reply follows (same_reply-refl eq equivalence reply))

    -- as a step is made and recorded
    pub IsRecording-step : (entries entries' : List (Entry T)) (old new : Queue T Task) (hand : Option ℕ) (call recorded : RecordedCall T)
        (task : Option Task) (reply : RecordedReply T) (len' capacity' : ℕ)
        → ReplaysTo eq entries old → IsQueue (unspared old) → Steps old call task reply new → IsReplyTo call reply
        → IsQueue new → HandlessAreEnds entries → (hand ≡ None → IsEnd recorded reply) → recorded ≡ call
        → entries' ≡ entries ++ record { hand = hand; call = recorded; reply = reply } ∷ []
        → len' + listeners_of new ≤ capacity' → IsRecording eq entries' (unspared new) len' capacity'
    IsRecording-step entries entries' old new hand call recorded task reply len' capacity' replays was_queue step kind queue ends end same pushed room = record {
      replays = rw (pushed, same) (replays_step entries old hand call task reply new replays was_queue step kind);
      is_queue = with_no_spare new queue;
      ends = rw pushed (ends_push entries (record { hand = hand; call = recorded; reply = reply }) ends end);
      has_room = room;
    }
