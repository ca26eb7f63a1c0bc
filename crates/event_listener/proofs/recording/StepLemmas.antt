-- What a step of a queue says of its shape: the reply is the one that the shape answers, and the shape after it is that of
-- the queue that the step leaves.
use Rattle.std.proofs.Common.{◌≡◌, ◌≢◌, ◌↔◌, ℕ, zero, suc, ◌+◌, ◌-◌, ◌<◌, ◌≤◌, ◌^◌, min, if◌then◌else◌, Bool, true, false, nat_lt, List, []}
use Rattle.std.proofs.Common.{◌∷◌, ◌++◌, length, take, replicate, refl, sym, ap, ◌∙◌, arith, Option, Some, None, Result, Ok, Err, IsSomeAnd, IsSome, IsTrue}
use Rattle.std.specs.Prelude.{is_some, option_map}
use Rattle.std.specs.Map.{lookup}
use Rattle.std.proofs.lemmas.Bool.{eqb-true, false_from_ne_true, ltb-true, lt-ltb}
use Rattle.std.proofs.lemmas.List.{map-append, length-map}
use Rattle.event_queue.specs.declared.key.Key.{Key}
use Rattle.event_queue.specs.declared.notice.Notice.{Notice}
use Rattle.event_queue.specs.declared.reply.ListenError.{ListenError}
use Rattle.event_queue.specs.declared.reply.ListenError.TheVariants.{Memory, SerialsUsedUp}
use Rattle.event_queue.specs.declared.reply.RegisterResult.{RegisterResult}
use Rattle.event_queue.specs.declared.reply.RegisterResult.TheVariants as register
use Rattle.event_queue.specs.declared.reply.State.{State}
use Rattle.event_queue.specs.declared.reply.State.TheVariants as state
use Rattle.event_queue.specs.Key.{is_key}
use Rattle.event_queue.specs.Queue.{Queue, IsQueue, listeners_of, how_many, after_telling, told_leaves}
use Rattle.event_queue.specs.Insert.{Inserts, Joins}
use Rattle.event_queue.specs.Register.{Registers}
use Rattle.event_queue.specs.Remove.{Removes, PassesTo, after_passing}
use Rattle.event_queue.proofs.LawLemmas.{untold-waiting}
use Rattle.event_listener.specs.declared.recorded.call.RecordedCall.{RecordedCall}
use Rattle.event_listener.specs.declared.recorded.call.RecordedCall.TheVariants as call
use Rattle.event_listener.specs.declared.recorded.reply.RecordedReply.{RecordedReply}
use Rattle.event_listener.specs.declared.recorded.reply.RecordedReply.TheVariants as reply
use Rattle.event_listener.specs.declared.recorded.reply.Former.{Former}
use Rattle.event_listener.specs.recording.Step.{Steps, RemovesAs, IsReplyTo, former_of}
use Rattle.event_listener.specs.recording.State.{unspared}
use Rattle.event_listener.specs.recording.Replay.{shape_of, serials_used_up, newcomer, tells, waiting_at, answer_at, after_notice, after_call, slot_in, passed}
use Rattle.event_listener.proofs.recording.ShapeLemmas.{waiting_at-shape, tells-shape, told_by_passing-shape, shape-waiting_leaves}
use Rattle.event_listener.proofs.recording.ShapeLemmas.{shape-after_storing, shape-nobody_leaves, shape-nobody_stores, shape-after_telling}

-- what a look-up finds
pub found_value : {X : Type 0} (o : Option X) (P : X → Type 0) → IsSomeAnd o P → (x : X) × (o ≡ Some x) × P x
found_value None P h = absurd h
found_value (Some x) P h = (x, refl, h)

-- a test of a number that says whether it is above 0
told_flag : (n : ℕ) (told : Bool) → (IsTrue told ↔ (0 < n)) → nat_lt 0 n ≡ told
told_flag n true both = lt-ltb 0 n (both.0 refl)
told_flag n false both = false_from_ne_true (nat_lt 0 n) (λ h. let no : false ≡ true = both.1 (ltb-true 0 n h) in cc)

-- at most one of one tag
at_most_one : (additional : Bool) (wanted told waiting : ℕ) → wanted ≡ (if additional then 1 else 1 - told) → min wanted waiting ≤ 1
at_most_one true wanted told waiting same = omega arith
at_most_one false wanted told waiting same = omega arith

one_copy : {X : Type 0} (n : ℕ) (x : X) → n ≤ 1 → take n (x ∷ []) ≡ replicate n x
one_copy zero x within = refl
one_copy (suc zero) x within = refl
one_copy (suc (suc n)) x within = absurd (omega arith)

module _ {T W : Type 0} where
  -- the shape answers the reply, and comes to the shape of the queue that is left
  pub record Follows (old : Queue T W) (call : RecordedCall T) (reply : RecordedReply T) (new : Queue T W) : Type 0 where
    pub answers : answer_at (shape_of old) (slot_in reply) call ≡ reply
    pub leaves : after_call (shape_of old) (slot_in reply) call ≡ shape_of new

  -- a serial is left, or none is

  pub serials_left : (q : Queue T W) → q.next_serial + 1 < 2 ^ 64 → serials_used_up (shape_of q) ≡ false
  serials_left q left =
      false_from_ne_true (serials_used_up (shape_of q)) (λ h. let same = eqb-true (q.next_serial + 1) (2 ^ 64) h in omega arith)

  pub no_serial_left : (q : Queue T W) → q.next_serial + 1 ≡ 2 ^ 64 → serials_used_up (shape_of q) ≡ true
  no_serial_left q same = rw same refl

  -- a newcomer joins

  joined_shape : (old : Queue T W) (key : Key) (new : Queue T W) → Joins old key new
      → record (shape_of old) { waiting = (shape_of old).waiting ++ (key, false) ∷ []; next_serial = old.next_serial + 1 } ≡ shape_of new
  joined_shape old key new joins =
      let waiting : (shape_of old).waiting ++ (key, false) ∷ [] ≡ (shape_of new).waiting =
      sym (map-append (λ (e : Key × Option W). (e.0, is_some e.1)) old.waiting ((key, None) ∷ [])) ∙ ap (λ q. (shape_of q).waiting) (sym joins.queue) in
      let told = ap (λ q. q.told) (sym joins.queue) in
      let serial = ap (λ q. q.next_serial) (sym joins.queue) in
      λ i. record { told = told i; waiting = waiting i; next_serial = serial i }

  listen_follows : (old : Queue T W) (answer : Result Key ListenError) (new : Queue T W) → Inserts old answer new → answer ≢ Err Memory → Follows old call.Listen (reply.Listened answer) new
  listen_follows old (Ok key) new step kind =
      let left = serials_left old step.serial_left in
      let same : newcomer (shape_of old) key.slot ≡ key = λ i. record { slot = key.slot; serial = sym step.serial i } in
      record {
        answers = rw left (ap (λ k. reply.Listened (Ok k)) same);
        leaves = rw (left, same) (joined_shape old key new step);
      }
  listen_follows old (Err Memory) new step kind = absurd (kind refl)
  listen_follows old (Err SerialsUsedUp) new step kind =
      let none = no_serial_left old step.0 in
      record { answers = rw none refl; leaves = rw none (ap shape_of (sym step.1)) }

  register_follows : (old : Queue T W) (key : Key) (task : W) (answer : RegisterResult T) (new : Queue T W)
      → IsQueue (unspared old) → Registers old key task answer new
      → Follows old (call.Register key) (reply.Registered answer) new
  register_follows old key task (register.Notified tag) new queue step =
      let found = found_value (lookup (is_key key) old.told) (λ n. n.tag ≡ tag) step.0 in
      record {
        answers = rw found.1 (ap (λ t. reply.Registered (register.Notified t)) found.2);
        leaves = rw found.1 (ap shape_of (sym step.1));
      }
  register_follows old key task register.Registered new queue step =
      by_found (lookup (is_key key) old.waiting) refl step.0
    where
      by_found : (o : Option (Option W)) → lookup (is_key key) old.waiting ≡ o → IsSome o → Follows old (call.Register key) (reply.Registered register.Registered) new
      by_found None none found = absurd (cc)
      by_found (Some had) some found =
          let untold = untold-waiting key (unspared old) had queue some in
          let here : waiting_at key (shape_of old) ≡ Some (is_some had) = waiting_at-shape key old ∙ ap (option_map is_some) some in
          record {
            answers = rw (untold, here) refl;
            leaves = rw untold (shape-after_storing key task old ∙ ap shape_of (sym step.1));
          }
  register_follows old key task register.NeverInserted new queue step =
      let here : waiting_at key (shape_of old) ≡ None = waiting_at-shape key old ∙ ap (option_map is_some) step.0.unwaiting in
      record {
        answers = rw (step.0.untold, here) refl;
        leaves = rw step.0.untold (shape-nobody_stores key old step.0.unwaiting ∙ ap shape_of (sym step.1));
      }

  -- the shape once one was told with the notice that a listener left
  passed_shape : (q : Queue T W) (notice : Notice T) → after_notice (tells 1 notice.additional (shape_of q)) notice (shape_of q) ≡ shape_of (after_passing notice q)
  passed_shape q notice =
      let count = how_many 1 notice.additional q in
      let one : count ≤ 1 = at_most_one notice.additional _ (length q.told) (length q.waiting) refl in
      ap (λ n. after_notice n notice (shape_of q)) (tells-shape 1 notice.additional q)
      ∙ shape-after_telling notice.additional notice.tag count q
      ∙ ap (λ tags. shape_of (after_telling notice.additional tags q)) (sym (one_copy count notice.tag one))

  passing_follows : (old : Queue T W) (key : Key) (propagate : Bool) (notice : Notice T) (keys : List Key) (new : Queue T W)
      → propagate ≡ true → lookup (is_key key) old.told ≡ Some notice → PassesTo keys notice (told_leaves key old) new
      → Follows old (call.Remove key propagate) (reply.Removed (Some (passed notice keys))) new
  passing_follows old key propagate notice keys new propagates found passes =
      let left = told_leaves key old in
      record {
        answers = rw (propagates, found) (ap (λ ks. reply.Removed (Some (passed notice ks))) (told_by_passing-shape notice left ∙ passes.told));
        leaves = rw (propagates, found) (passed_shape left notice ∙ ap shape_of (sym passes.queue));
      }

  removal_follows : (old : Queue T W) (key : Key) (propagate : Bool) (was : Option (State T W)) (new : Queue T W)
      → IsQueue (unspared old) → Removes old key propagate was new
      → Follows old (call.Remove key propagate) (reply.Removed (option_map former_of was)) new
  removal_follows old key propagate None new queue step =
      let here : waiting_at key (shape_of old) ≡ None = waiting_at-shape key old ∙ ap (option_map is_some) step.0.unwaiting in
      record {
        answers = rw (step.0.untold, here) refl;
        leaves = rw step.0.untold (shape-nobody_leaves key old step.0.unwaiting ∙ ap shape_of (sym step.1));
      }
  removal_follows old key propagate (Some state.Created) new queue step =
      let untold = untold-waiting key (unspared old) None queue step.0 in
      let here : waiting_at key (shape_of old) ≡ Some false = waiting_at-shape key old ∙ ap (option_map is_some) step.0 in
      record {
        answers = rw (untold, here) refl;
        leaves = rw untold (shape-waiting_leaves key old ∙ ap shape_of (sym step.1));
      }
  removal_follows old key propagate (Some (state.Task task)) new queue step =
      let untold = untold-waiting key (unspared old) (Some task) queue step.0 in
      let here : waiting_at key (shape_of old) ≡ Some true = waiting_at-shape key old ∙ ap (option_map is_some) step.0 in
      record {
        answers = rw (untold, here) refl;
        leaves = rw untold (shape-waiting_leaves key old ∙ ap shape_of (sym step.1));
      }
  removal_follows old key propagate (Some (state.Notified additional tag)) new queue step =
      record {
        answers = rw (step.0, step.1) refl;
        leaves = rw (step.0, step.1) (ap shape_of (sym step.2));
      }
  removal_follows old key propagate (Some (state.Passed to)) new queue step =
      let found = found_value (lookup (is_key key) old.told) (λ n. PassesTo (to ∷ []) n (told_leaves key old) new) step.1 in
      passing_follows old key propagate found.0 (to ∷ []) new step.0 found.1 found.2
  removal_follows old key propagate (Some (state.Lost additional tag)) new queue step =
      passing_follows old key propagate _ [] new step.0 step.1 step.2

  remove_follows : (old : Queue T W) (key : Key) (propagate : Bool) (answer : Option (Former T)) (new : Queue T W)
      → IsQueue (unspared old) → RemovesAs old key propagate answer new
      → Follows old (call.Remove key propagate) (reply.Removed answer) new
  remove_follows old key propagate answer new queue step =
      rw step.answered (removal_follows old key propagate step.was new queue step.removes)

  notify_follows : (old : Queue T W) (count : ℕ) (additional : Bool) (tag : T) (told : ℕ) (new : Queue T W)
      → told ≡ how_many count additional old → new ≡ after_telling additional (replicate told tag) old
      → Follows old (call.Notify count additional tag) (reply.Notified told) new
  notify_follows old count additional tag told new told_is new_is =
      let same : tells count additional (shape_of old) ≡ told = tells-shape count additional old ∙ sym told_is in
      record {
        answers = ap reply.Notified same;
        leaves = rw same (shape-after_telling additional tag told old ∙ ap shape_of (sym new_is));
      }

  is_notified_follows : (old : Queue T W) (told : Bool) (new : Queue T W) → (IsTrue told ↔ (0 < length old.told)) → new ≡ old → Follows old call.IsNotified (reply.IsNotified told) new
  is_notified_follows old told new both same = record {
    answers = ap reply.IsNotified (told_flag (length old.told) told both);
    leaves = ap shape_of (sym same);
  }

  total_follows : (old : Queue T W) (total : ℕ) (new : Queue T W) → total ≡ listeners_of old → new ≡ old → Follows old call.TotalListeners (reply.TotalListeners total) new
  total_follows old total new total_is same = record {
    answers = ap reply.TotalListeners (ap (λ n. length old.told + n) (length-map old.waiting (λ e. (e.0, is_some e.1))) ∙ sym total_is);
    leaves = ap shape_of (sym same);
  }

  pub step_follows : (old : Queue T W) (call : RecordedCall T) (task : Option W) (reply : RecordedReply T) (new : Queue T W)
      → IsQueue (unspared old) → Steps old call task reply new → IsReplyTo call reply → Follows old call reply new
  step_follows old call.Listen None (reply.Listened answer) new queue step kind = listen_follows old answer new step kind
  step_follows old (call.Register key) (Some task) (reply.Registered answer) new queue step kind =
      register_follows old key task answer new queue step
  step_follows old (call.Remove key propagate) None (reply.Removed answer) new queue step kind =
      remove_follows old key propagate answer new queue step
  step_follows old (call.Notify count additional tag) None (reply.Notified told) new queue step kind =
      notify_follows old count additional tag told new step.0 step.1
  step_follows old call.TotalListeners None (reply.TotalListeners total) new queue step kind =
      total_follows old total new step.0 step.1
  step_follows old call.IsNotified None (reply.IsNotified told) new queue step kind =
      is_notified_follows old told new step.0 step.1
  step_follows old _ _ _ new queue step kind = absurd step
