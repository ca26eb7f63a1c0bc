-- A record replays exactly if it is a run.
use Rattle.std.proofs.Common.{◌≡◌, ◌≢◌, ℕ, ◌+◌, ◌<◌, ◌≤◌, ◌^◌, Bool, true, false, nat_lt, List, [], ◌∷◌, ◌++◌}
use Rattle.std.proofs.Common.{length, replicate, refl, sym, ap, ◌∙◌, subst, arith, Option, Some, None, Result, Ok, Err, IsTrue, length-append}
use Rattle.std.specs.Prelude.{is_some, option_map, option_and_then}
use Rattle.std.specs.List.{AllByRecursion}
use Rattle.std.specs.Map.{keys_of, lookup}
use Rattle.std.proofs.lemmas.Bool.{eqb-true, lt-ltb, ltb-true}
use Rattle.std.proofs.lemmas.Map.Entries.{length-keys_of}
use Rattle.event_queue.specs.declared.key.Key.{Key}
use Rattle.event_queue.specs.declared.notice.Notice.{Notice}
use Rattle.event_queue.specs.declared.reply.ListenError.{ListenError}
use Rattle.event_queue.specs.declared.reply.ListenError.TheVariants.{Memory, SerialsUsedUp}
use Rattle.event_queue.specs.declared.reply.RegisterResult.{RegisterResult}
use Rattle.event_queue.specs.declared.reply.RegisterResult.TheVariants as register
use Rattle.event_queue.specs.declared.reply.State.{State}
use Rattle.event_queue.specs.declared.reply.State.TheVariants as state
use Rattle.event_queue.specs.Key.{is_key}
use Rattle.event_queue.specs.Queue.{Queue, IsQueue, order_of, listeners_of, how_many, after_telling, told_leaves, waiting_leaves}
use Rattle.event_queue.specs.Insert.{Inserts}
use Rattle.event_queue.specs.Register.{Registers, after_storing}
use Rattle.event_queue.specs.Remove.{Removes, PassesTo, told_by_passing, after_passing}
use Rattle.event_queue.proofs.LawLemmas.{Propagates, propagates-passed, propagates-lost, one_told_at_most}
use Rattle.event_queue.proofs.OrderLemmas.{Rises, All-implied}
use Rattle.event_queue.proofs.QueueLemmas.{rises_along, IsQueue-from_Rises, IsQueue-push, IsQueue-told_leaves, IsQueue-waiting_leaves, IsQueue-after_storing}
use Rattle.event_queue.proofs.TellingLemmas.{IsQueue-after_telling}
use Rattle.event_listener.specs.declared.recorded.call.RecordedCall.{RecordedCall}
use Rattle.event_listener.specs.declared.recorded.call.RecordedCall.TheVariants as call
use Rattle.event_listener.specs.declared.recorded.entry.Entry.{Entry}
use Rattle.event_listener.specs.declared.recorded.reply.RecordedReply.{RecordedReply}
use Rattle.event_listener.specs.declared.recorded.reply.RecordedReply.TheVariants as reply
use Rattle.event_listener.specs.recording.Step.{Steps, RemovesAs, IsReplyTo, former_of}
use Rattle.event_listener.specs.recording.Run.{IsStep, IsRun, empty_queue}
use Rattle.event_listener.specs.recording.Replay.{Shape, shape_of, empty_shape, serials_used_up, answer_at, after_call, slot_in, same_reply, replay_from, replays, ReplaysTo}
use Rattle.event_listener.proofs.recording.StepLemmas.{step_follows, found_value, no_serial_left}
use Rattle.event_listener.specs.recording.State.{unspared}
use Rattle.event_listener.proofs.recording.ReplayLemmas.{replay_entry-by, replay_entry-follows, refused_entry}
use Rattle.event_listener.proofs.recording.StateLemmas.{with_no_spare, removal_kind}

-- keys whose serials rise from one number on and below another are no more than lie between

no_serial_is_less : (keys : List Key) → AllByRecursion (λ key. 0 ≤ key.serial) keys
no_serial_is_less [] = tt
no_serial_is_less (key ∷ keys) = (omega arith, no_serial_is_less keys)

length_below : (keys : List Key) (low n : ℕ) → AllByRecursion (λ key. low ≤ key.serial) keys → Rises keys n → low ≤ n → length keys + low ≤ n
length_below [] low n above rises within = omega (arith, within)
length_below (key ∷ keys) low n above rises within =
    let rest = length_below keys (key.serial + 1) n
    (All-implied (λ later. key.serial < later.serial) (λ later. key.serial + 1 ≤ later.serial) keys (λ later h. omega (arith, h)) rises.0) rises.2
    (omega (arith, rises.1)) in
    omega (arith, rest, above.0)

module _ {T W : Type 0} where
  -- there are no more listeners than serials were given
  listeners_below : (q : Queue T W) → IsQueue q → listeners_of q ≤ q.next_serial
  listeners_below q queue =
      let below = length_below (order_of q) 0 q.next_serial (no_serial_is_less (order_of q)) (rises_along q queue) (omega arith) in
      omega (arith, below, length-append (keys_of q.told) (keys_of q.waiting), length-keys_of q.told, length-keys_of q.waiting)

  -- a step leaves a queue, with nothing spare

  keeps_inserting : (old : Queue T W) (answer : Result Key ListenError) (new : Queue T W) → IsQueue (unspared old) → Inserts old answer new → IsQueue (unspared new)
  keeps_inserting old (Ok key) new queue step =
      let below = listeners_below (unspared old) queue in
      let more = length-append old.waiting ((key, None) ∷ []) in
      subst IsQueue (ap unspared (sym step.queue)) (IsQueue-push (unspared old) key 0 queue step.serial step.serial_left (omega (arith, below, more, step.serial_left)))
  keeps_inserting old (Err Memory) new queue step = subst IsQueue (ap unspared (sym step.2)) queue
  keeps_inserting old (Err SerialsUsedUp) new queue step = subst IsQueue (ap unspared (sym step.1)) queue

  keeps_registering : (old : Queue T W) (key : Key) (task : W) (answer : RegisterResult T) (new : Queue T W) → IsQueue (unspared old) → Registers old key task answer new → IsQueue (unspared new)
  keeps_registering old key task (register.Notified tag) new queue step =
      let found = found_value (lookup (is_key key) old.told) (λ n. n.tag ≡ tag) step.0 in
      subst IsQueue (ap unspared (sym step.1)) (with_no_spare _ (IsQueue-told_leaves key (unspared old) found.0 queue found.1))
  keeps_registering old key task register.Registered new queue step =
      subst IsQueue (ap unspared (sym step.1)) (IsQueue-after_storing key task (unspared old) queue)
  keeps_registering old key task register.NeverInserted new queue step = subst IsQueue (ap unspared (sym step.1)) queue

  keeps_propagating : (old : Queue T W) (key : Key) (propagate : Bool) (new : Queue T W) → IsQueue (unspared old) → Propagates old key propagate new → IsQueue (unspared new)
  keeps_propagating old key propagate new queue step =
      let left = IsQueue-told_leaves key (unspared old) step.notice queue step.found in
      subst IsQueue (ap unspared (sym step.queue)) (with_no_spare _ (IsQueue-after_telling step.notice.additional _ (told_leaves key (unspared old)) left))

  keeps_removing : (old : Queue T W) (key : Key) (propagate : Bool) (was : Option (State T W)) (new : Queue T W) → IsQueue (unspared old) → Removes old key propagate was new → IsQueue (unspared new)
  keeps_removing old key propagate None new queue step = subst IsQueue (ap unspared (sym step.1)) queue
  keeps_removing old key propagate (Some state.Created) new queue step =
      subst IsQueue (ap unspared (sym step.1)) (with_no_spare _ (IsQueue-waiting_leaves key (unspared old) None queue step.0))
  keeps_removing old key propagate (Some (state.Task task)) new queue step =
      subst IsQueue (ap unspared (sym step.1)) (with_no_spare _ (IsQueue-waiting_leaves key (unspared old) (Some task) queue step.0))
  keeps_removing old key propagate (Some (state.Notified additional tag)) new queue step =
      subst IsQueue (ap unspared (sym step.2)) (with_no_spare _ (IsQueue-told_leaves key (unspared old) _ queue step.1))
  keeps_removing old key propagate (Some (state.Passed to)) new queue step =
      keeps_propagating old key propagate new queue (propagates-passed old key propagate to new step)
  keeps_removing old key propagate (Some (state.Lost additional tag)) new queue step =
      keeps_propagating old key propagate new queue (propagates-lost old key propagate additional tag new step)

  keeps_queue : (old : Queue T W) (call : RecordedCall T) (task : Option W) (reply : RecordedReply T) (new : Queue T W)
      → IsQueue (unspared old) → Steps old call task reply new → IsQueue (unspared new)
  keeps_queue old call.Listen None (reply.Listened answer) new queue step = keeps_inserting old answer new queue step
  keeps_queue old (call.Register key) (Some task) (reply.Registered answer) new queue step =
      keeps_registering old key task answer new queue step
  keeps_queue old (call.Remove key propagate) None (reply.Removed answer) new queue step =
      keeps_removing old key propagate step.was new queue step.removes
  keeps_queue old (call.Notify count additional tag) None (reply.Notified told) new queue step =
      subst IsQueue (ap unspared (sym step.1)) (IsQueue-after_telling additional (replicate told tag) (unspared old) queue)
  keeps_queue old call.TotalListeners None (reply.TotalListeners total) new queue step =
      subst IsQueue (ap unspared (sym step.1)) queue
  keeps_queue old call.IsNotified None (reply.IsNotified told) new queue step =
      subst IsQueue (ap unspared (sym step.1)) queue
  keeps_queue old _ _ _ new queue step = absurd step

  -- every call makes some step, in which a newcomer gets any slot

  pub record Makes (old : Queue T W) (call : RecordedCall T) (slot : ℕ) : Type 0 where
    pub task : Option W
    pub reply : RecordedReply T
    pub new : Queue T W
    pub step : Steps old call task reply new
    pub kind : IsReplyTo call reply
    pub answers : answer_at (shape_of old) slot call ≡ answer_at (shape_of old) (slot_in reply) call
    pub leaves : after_call (shape_of old) slot call ≡ after_call (shape_of old) (slot_in reply) call

  makes_listening : (old : Queue T W) (slot : ℕ) → old.spare ≡ 0 → old.next_serial < 2 ^ 64 → (b : Bool) → serials_used_up (shape_of old) ≡ b → Makes old call.Listen slot
  makes_listening old slot none fits true used_up =
      let last : old.next_serial + 1 ≡ 2 ^ 64 = eqb-true (old.next_serial + 1) (2 ^ 64) used_up in
      record {
        task = None;
        reply = reply.Listened (Err SerialsUsedUp);
        new = old;
        step = (last, refl);
        kind = λ h. (cc);
        answers = rw used_up refl;
        leaves = rw used_up refl;
      }
  makes_listening old slot none fits false left =
      let key : Key = record { slot = slot; serial = old.next_serial } in
      let apart : old.next_serial + 1 ≢ 2 ^ 64 = λ same. let yes = no_serial_left old same in let no : true ≡ false = sym yes ∙ left in cc in
      record {
        task = None;
        reply = reply.Listened (Ok key);
        new = record old { waiting = old.waiting ++ (key, None) ∷ []; next_serial = old.next_serial + 1 };
        step = record { serial_left = omega (arith, fits); serial = refl; queue = refl; slot = λ some. absurd (omega arith) };
        kind = λ h. (cc);
        answers = refl;
        leaves = refl;
      }

  makes_registering : (task : W) (old : Queue T W) (key : Key) (slot : ℕ) (told : Option (Notice T)) (waiting : Option (Option W))
      → lookup (is_key key) old.told ≡ told → lookup (is_key key) old.waiting ≡ waiting
      → Makes old (call.Register key) slot
  makes_registering task old key slot (Some notice) waiting found w = record {
    task = Some task;
    reply = reply.Registered (register.Notified notice.tag);
    new = told_leaves key old;
    step = (rw found refl, refl);
    kind = tt;
    answers = refl;
    leaves = refl;
  }
  makes_registering task old key slot None (Some had) none found = record {
    task = Some task;
    reply = reply.Registered register.Registered;
    new = after_storing key task old;
    step = (rw found refl, refl);
    kind = tt;
    answers = refl;
    leaves = refl;
  }
  makes_registering task old key slot None None none nobody = record {
    task = Some task;
    reply = reply.Registered register.NeverInserted;
    new = old;
    step = (record { untold = none; unwaiting = nobody }, refl);
    kind = tt;
    answers = refl;
    leaves = refl;
  }

  removed_so : (old : Queue T W) (key : Key) (propagate : Bool) (slot : ℕ) (was : Option (State T W)) (new : Queue T W) → Removes old key propagate was new → Makes old (call.Remove key propagate) slot
  removed_so old key propagate slot was new removes =
      let step : RemovesAs old key propagate (option_map former_of was) new = record { was = was; answered = refl; removes = removes } in
      record {
        task = None;
        reply = reply.Removed (option_map former_of was);
        new = new;
        step = step;
        kind = removal_kind old key propagate (option_map former_of was) new step;
        answers = refl;
        leaves = refl;
      }

  -- a notification that is passed on tells one or nobody
  makes_passing : (old : Queue T W) (key : Key) (slot : ℕ) (notice : Notice T) (keys : List Key)
      → lookup (is_key key) old.told ≡ Some notice → told_by_passing notice (told_leaves key old) ≡ keys
      → length keys ≤ 1 → Makes old (call.Remove key true) slot
  makes_passing old key slot notice [] found told one =
      let new = after_passing notice (told_leaves key old) in
      let passes : PassesTo [] notice (told_leaves key old) new = record { told = told; queue = refl } in
      removed_so old key true slot (Some (state.Lost notice.additional notice.tag)) new (refl, found, passes)
  makes_passing old key slot notice (to ∷ []) found told one =
      let new = after_passing notice (told_leaves key old) in
      let passes : PassesTo (to ∷ []) notice (told_leaves key old) new = record { told = told; queue = refl } in
      removed_so old key true slot (Some (state.Passed to)) new (refl, rw found passes)
  makes_passing old key slot notice (to ∷ other ∷ more) found told one = absurd (omega (arith, one))

  makes_removing : (old : Queue T W) (key : Key) (propagate : Bool) (slot : ℕ) (told : Option (Notice T)) (waiting : Option (Option W))
      → lookup (is_key key) old.told ≡ told → lookup (is_key key) old.waiting ≡ waiting
      → Makes old (call.Remove key propagate) slot
  makes_removing old key true slot (Some notice) waiting found w =
      makes_passing old key slot notice (told_by_passing notice (told_leaves key old)) found refl (one_told_at_most notice (told_leaves key old))
  makes_removing old key false slot (Some notice) waiting found w =
      removed_so old key false slot (Some (state.Notified notice.additional notice.tag)) (told_leaves key old) (refl, found, refl)
  makes_removing old key propagate slot None (Some None) none found =
      removed_so old key propagate slot (Some state.Created) (waiting_leaves key old) (found, refl)
  makes_removing old key propagate slot None (Some (Some task)) none found =
      removed_so old key propagate slot (Some (state.Task task)) (waiting_leaves key old) (found, refl)
  makes_removing old key propagate slot None None none nobody =
      removed_so old key propagate slot None old (record { untold = none; unwaiting = nobody }, refl)

  makes : (task : W) (old : Queue T W) (call : RecordedCall T) (slot : ℕ) → old.spare ≡ 0 → old.next_serial < 2 ^ 64 → Makes old call slot
  makes task old call.Listen slot none fits = makes_listening old slot none fits (serials_used_up (shape_of old)) refl
  makes task old (call.Register key) slot none fits =
      makes_registering task old key slot (lookup (is_key key) old.told) (lookup (is_key key) old.waiting) refl refl
  makes task old (call.Remove key propagate) slot none fits =
      makes_removing old key propagate slot (lookup (is_key key) old.told) (lookup (is_key key) old.waiting) refl refl
  makes task old (call.Notify count additional tag) slot none fits = record {
    task = None;
    reply = reply.Notified (how_many count additional old);
    new = after_telling additional (replicate (how_many count additional old) tag) old;
    step = (refl, refl);
    kind = tt;
    answers = refl;
    leaves = refl;
  }
  makes task old call.TotalListeners slot none fits = record {
    task = None;
    reply = reply.TotalListeners (listeners_of old);
    new = old;
    step = (refl, refl);
    kind = tt;
    answers = refl;
    leaves = refl;
  }
  makes task old call.IsNotified slot none fits = record {
    task = None;
    reply = reply.IsNotified (nat_lt 0 (length old.told));
    new = old;
    step = ((λ h. ltb-true 0 (length old.told) h, λ h. lt-ltb 0 (length old.told) h), refl);
    kind = tt;
    answers = refl;
    leaves = refl;
  }

  empty_is_queue : (q : Queue T W) → q ≡ empty_queue → IsQueue q
  empty_is_queue q same = subst IsQueue (sym same) (IsQueue-from_Rises empty_queue tt (omega arith) (omega arith))

  module _ (eq : T → T → Bool) where
    -- a run replays

    run_from : (old : Queue T W) (entries : List (Entry T)) (new : Queue T W) → IsQueue (unspared old) → IsRun eq old entries new → replay_from eq (shape_of old) entries ≡ Some (shape_of new)
    run_from old [] new queue run = ap (λ q. Some (shape_of q)) (sym run)
    run_from old (entry ∷ rest) new queue run =
        let between = run.0 in
        let step = run.1.step in
        let before : Queue T W = record old { spare = step.spare } in
        let after : Queue T W = record between { spare = step.spare' } in
        let follows = step_follows before entry.call run.1.task run.1.reply after queue step.step run.1.kind in
        let replays = replay_entry-follows eq before after entry run.1.reply follows run.1.same in
        let kept = keeps_queue before entry.call run.1.task run.1.reply after queue step.step in
        ap (option_and_then (λ next. replay_from eq next rest)) replays ∙ run_from between rest new kept run.2

    pub run_replays : (entries : List (Entry T)) (queue : Queue T W) → IsRun eq empty_queue entries queue → ReplaysTo eq entries queue
    run_replays entries queue run = run_from empty_queue entries queue (empty_is_queue empty_queue refl) run

    -- what replays is a run

    run_of : (task : W) (old : Queue T W) (entries : List (Entry T)) (after : Shape T) → IsQueue (unspared old)
        → replay_from eq (shape_of old) entries ≡ Some after → (new : Queue T W) × IsRun eq old entries new
    run_of task old [] after queue replays = (old, refl)
    run_of task old (entry ∷ rest) after queue replays =
        by_same (same_reply eq made.reply entry.reply) refl (λ new. run_of task new rest after)
      where
        made : Makes (unspared old) entry.call (slot_in entry.reply)
        made = makes task (unspared old) entry.call (slot_in entry.reply) refl queue.serial_fits

        by_same : (b : Bool) → same_reply eq made.reply entry.reply ≡ b
            → ((next : Queue T W) → IsQueue (unspared next) → replay_from eq (shape_of next) rest ≡ Some after → (new : Queue T W) × IsRun eq next rest new)
            → (new : Queue T W) × IsRun eq old (entry ∷ rest) new
        by_same true same later =
            let follows = step_follows (unspared old) entry.call made.task made.reply made.new queue made.step made.kind in
            let replayed = replay_entry-by eq (shape_of old) (shape_of made.new) entry made.reply (made.answers ∙ follows.answers) same (made.leaves ∙ follows.leaves) in
            let kept = keeps_queue (unspared old) entry.call made.task made.reply made.new queue made.step in
            let left : replay_from eq (shape_of made.new) rest ≡ Some after = sym (ap (option_and_then (λ next. replay_from eq next rest)) replayed) ∙ replays in
            let run = later made.new kept left in
            let step : IsStep eq old entry made.new = record {
              task = made.task;
              reply = made.reply;
              step = record { spare = 0; spare' = made.new.spare; step = made.step };
              kind = made.kind;
              same = same;
            } in
            (run.0, (made.new, step, run.1))
        by_same false differs later =
            let follows = step_follows (unspared old) entry.call made.task made.reply made.new queue made.step made.kind in
            let none = refused_entry eq (shape_of old) entry made.reply (made.answers ∙ follows.answers) differs in
            absurd (let no : None ≡ Some after = sym (ap (option_and_then (λ next. replay_from eq next rest)) none) ∙ replays in cc)

    pub replayed_is_run : (task : W) (entries : List (Entry T)) → IsTrue (replays eq entries) → (queue : Queue T W) × IsRun eq empty_queue entries queue
    replayed_is_run task entries is = by_replay (replay_from eq empty_shape entries) refl is
      where
        by_replay : (o : Option (Shape T)) → replay_from eq empty_shape entries ≡ o → IsTrue (is_some o) → (queue : Queue T W) × IsRun eq empty_queue entries queue
        by_replay None none is = absurd (cc)
        by_replay (Some after) some is = run_of task empty_queue entries after (empty_is_queue empty_queue refl) some
