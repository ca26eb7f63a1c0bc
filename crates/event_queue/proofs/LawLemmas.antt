-- What users rely on, from the steps: who is gone, in which order the others stand, and how many are told.
use Rattle.std.proofs.Common.{◌≡◌, ◌+◌, ◌-◌, ◌≤◌, min, max, Bool, true, false, [], ◌∷◌, take, length, refl, sym, ap, ◌∙◌, subst, arith, rules, Option, Some, None}
use Rattle.std.proofs.Common.{IsSomeAnd, OnSome, length-take}
use Rattle.std.specs.List.{FoldsTo}
use Rattle.std.specs.Map.{keys_of, lookup}
use Rattle.std.proofs.lemmas.Map.Entries.{length-keys_of}
use Rattle.event_queue.specs.declared.key.Key.{Key}
use Rattle.event_queue.specs.declared.notice.Notice.{Notice}
use Rattle.event_queue.specs.declared.reply.State.{State}
use Rattle.event_queue.specs.declared.reply.State.TheVariants.{Created, Notified as WasNotified, Task, Passed, Lost}
use Rattle.event_queue.specs.Key.{is_key, without}
use Rattle.event_queue.specs.Queue.{Queue, IsQueue, IsGone, IsToldAs, order_of, listeners_of, how_many, told_leaves}
use Rattle.event_queue.specs.Remove.{Removes, PassesTo, told_by_passing, after_passing, woken_by_removal, IsRemoval}
use Rattle.event_queue.proofs.OrderLemmas.{without-none, lookup-none_is, none_before, length-remove_entry}
use Rattle.event_queue.proofs.QueueLemmas.{rises_along, order_of-told_leaves, order_of-waiting_leaves, IsAbsent-none, IsGone-without}
use Rattle.event_queue.proofs.QueueLemmas.{told_serial, waiting_serial}
use Rattle.event_queue.proofs.TellingLemmas.{order_of-after_telling, length-after_telling}

-- the value that a look-up finds
found_value : {X : Type 0} (o : Option X) (P : X → Type 0) → IsSomeAnd o P → (x : X) × (o ≡ Some x) × P x
found_value None P h = absurd h
found_value (Some x) P h = (x, refl, h)

module _ {T W : Type 0} where
  -- who waits is not told
  pub untold-waiting : (key : Key) (q : Queue T W) (task : Option W) → IsQueue q → lookup (is_key key) q.waiting ≡ Some task → lookup (is_key key) q.told ≡ None
  untold-waiting key q task queue found =
      lookup-none_is key q.told (none_before key (keys_of q.told) q.waiting task q.next_serial (rises_along q queue) found)

  -- the listener that took its tag is gone, and the others keep their order
  pub took_tag-gone : (key : Key) (old : Queue T W) (tag : T) → IsQueue old → IsSomeAnd (lookup (is_key key) old.told) (λ notice. notice.tag ≡ tag) → IsGone key (told_leaves key old)
  took_tag-gone key old tag queue told =
      let found = found_value (lookup (is_key key) old.told) (λ n. n.tag ≡ tag) told in
      let order = order_of-told_leaves key old found.0 queue found.1 in
      IsGone-without key (told_leaves key old) (order_of old) order (told_serial key old found.0 queue found.1)

  pub took_tag-order : (key : Key) (old : Queue T W) (tag : T) → IsQueue old → IsSomeAnd (lookup (is_key key) old.told) (λ notice. notice.tag ≡ tag)
      → order_of (told_leaves key old) ≡ without key (order_of old)
  took_tag-order key old tag queue told =
      let found = found_value (lookup (is_key key) old.told) (λ n. n.tag ≡ tag) told in
      order_of-told_leaves key old found.0 queue found.1

  -- a told listener left with propagation, and its notification told somebody or nobody
  pub record Propagates (old : Queue T W) (key : Key) (propagate : Bool) (new : Queue T W) : Type 0 where
    pub propagates : propagate ≡ true
    pub notice : Notice T
    pub found : lookup (is_key key) old.told ≡ Some notice
    pub queue : new ≡ after_passing notice (told_leaves key old)

  pub propagates-passed : (old : Queue T W) (key : Key) (propagate : Bool) (to : Key) (new : Queue T W) → Removes old key propagate (Some (Passed to)) new → Propagates old key propagate new
  propagates-passed old key propagate to new step =
      let found = found_value (lookup (is_key key) old.told) (λ n. PassesTo (to ∷ []) n (told_leaves key old) new) step.1 in
      record { propagates = step.0; notice = found.0; found = found.1; queue = found.2.queue }

  pub propagates-lost : (old : Queue T W) (key : Key) (propagate : Bool) (additional : Bool) (tag : T) (new : Queue T W)
      → Removes old key propagate (Some (Lost additional tag)) new → Propagates old key propagate new
  propagates-lost old key propagate additional tag new step =
      record { propagates = step.0; notice = record { additional = additional; tag = tag }; found = step.1; queue = step.2.queue }

  -- the order once a told listener has left and its notification was passed on
  order_of-passed : (key : Key) (old : Queue T W) (notice : Notice T) → IsQueue old → lookup (is_key key) old.told ≡ Some notice
      → order_of (after_passing notice (told_leaves key old)) ≡ without key (order_of old)
  order_of-passed key old notice queue found =
      order_of-after_telling notice.additional _ (told_leaves key old) ∙ order_of-told_leaves key old notice queue found

  order_of-propagated : (old : Queue T W) (key : Key) (propagate : Bool) (new : Queue T W) → IsQueue old → Propagates old key propagate new → order_of new ≡ without key (order_of old)
  order_of-propagated old key propagate new queue step =
      ap order_of step.queue ∙ order_of-passed key old step.notice queue step.found

  pub Removes-order : (old : Queue T W) (key : Key) (propagate : Bool) (reply : Option (State T W)) (new : Queue T W) → IsQueue old → Removes old key propagate reply new
      → order_of new ≡ without key (order_of old)
  Removes-order old key propagate None new queue step =
      ap order_of step.1 ∙ sym (without-none key (order_of old) (IsAbsent-none key old step.0))
  Removes-order old key propagate (Some Created) new queue step =
      ap order_of step.1 ∙ order_of-waiting_leaves key old None queue step.0
  Removes-order old key propagate (Some (Task task)) new queue step =
      ap order_of step.1 ∙ order_of-waiting_leaves key old (Some task) queue step.0
  Removes-order old key propagate (Some (WasNotified additional tag)) new queue step =
      ap order_of step.2 ∙ order_of-told_leaves key old _ queue step.1
  Removes-order old key propagate (Some (Passed to)) new queue step =
      order_of-propagated old key propagate new queue (propagates-passed old key propagate to new step)
  Removes-order old key propagate (Some (Lost additional tag)) new queue step =
      order_of-propagated old key propagate new queue (propagates-lost old key propagate additional tag new step)

  gone-propagated : (old : Queue T W) (key : Key) (propagate : Bool) (new : Queue T W) → IsQueue old → Propagates old key propagate new → IsGone key new
  gone-propagated old key propagate new queue step =
      IsGone-without key new (order_of old) (order_of-propagated old key propagate new queue step) (rw step.queue (told_serial key old step.notice queue step.found))

  pub Removes-gone : (old : Queue T W) (key : Key) (propagate : Bool) (reply : Option (State T W)) (new : Queue T W) → IsQueue old → Removes old key propagate reply new → OnSome reply (IsGone key new)
  Removes-gone old key propagate None new queue step = tt
  Removes-gone old key propagate (Some Created) new queue step =
      IsGone-without key new (order_of old) (Removes-order old key propagate (Some Created) new queue step) (rw step.1 (waiting_serial key old None queue step.0))
  Removes-gone old key propagate (Some (Task task)) new queue step =
      IsGone-without key new (order_of old) (Removes-order old key propagate (Some (Task task)) new queue step) (rw step.1 (waiting_serial key old (Some task) queue step.0))
  Removes-gone old key propagate (Some (WasNotified additional tag)) new queue step =
      IsGone-without key new (order_of old) (Removes-order old key propagate (Some (WasNotified additional tag)) new queue step) (rw step.2 (told_serial key old _ queue step.1))
  Removes-gone old key propagate (Some (Passed to)) new queue step =
      gone-propagated old key propagate new queue (propagates-passed old key propagate to new step)
  Removes-gone old key propagate (Some (Lost additional tag)) new queue step =
      gone-propagated old key propagate new queue (propagates-lost old key propagate additional tag new step)

  the_notice : (old : Queue T W) (key : Key) (propagate : Bool) (new : Queue T W) (notice : Notice T) → Propagates old key propagate new
      → lookup (is_key key) old.told ≡ Some notice → new ≡ after_passing notice (told_leaves key old)
  the_notice old key propagate new notice step told =
      let both : Some step.notice ≡ Some notice = sym step.found ∙ told in
      let same : step.notice ≡ notice = cc in
      step.queue ∙ ap (λ n. after_passing n (told_leaves key old)) same

  -- a told listener's removal with propagation passes its notification on
  passed_on : (old : Queue T W) (key : Key) (reply : Option (State T W)) (new : Queue T W) (notice : Notice T) → IsQueue old → Removes old key true reply new
      → lookup (is_key key) old.told ≡ Some notice → new ≡ after_passing notice (told_leaves key old)
  passed_on old key None new notice queue step told =
      let none : None ≡ Some notice = sym step.0.untold ∙ told in absurd (cc)
  passed_on old key (Some Created) new notice queue step told =
      let none : None ≡ Some notice = sym (untold-waiting key old None queue step.0) ∙ told in absurd (cc)
  passed_on old key (Some (Task task)) new notice queue step told =
      let none : None ≡ Some notice = sym (untold-waiting key old (Some task) queue step.0) ∙ told in absurd (cc)
  passed_on old key (Some (WasNotified additional tag)) new notice queue step told = absurd (let e = step.0 in cc)
  passed_on old key (Some (Passed to)) new notice queue step told =
      the_notice old key true new notice (propagates-passed old key true to new step) told
  passed_on old key (Some (Lost additional tag)) new notice queue step told =
      the_notice old key true new notice (propagates-lost old key true additional tag new step) told

  pub at_most_one : (additional : Bool) (q : Queue T W) → how_many 1 additional q ≤ 1
  at_most_one true q = omega arith
  at_most_one false q = omega arith

  pub one_told_at_most : (notice : Notice T) (q : Queue T W) → length (told_by_passing notice q) ≤ 1
  one_told_at_most notice q =
      let passed = how_many 1 notice.additional q in
      omega (arith, length-keys_of (take passed q.waiting), length-take passed q.waiting, at_most_one notice.additional q)

  told_after_passing : (key : Key) (old : Queue T W) (notice : Notice T) → lookup (is_key key) old.told ≡ Some notice
      → length (after_passing notice (told_leaves key old)).told + 1 ≡ length old.told + how_many 1 notice.additional (told_leaves key old)
  told_after_passing key old notice found =
      let q = told_leaves key old in
      let passed = how_many 1 notice.additional q in
      let fewer = length-remove_entry key old.told notice found in
      let one : passed ≤ 1 = at_most_one notice.additional q in
      let within : passed ≤ length old.waiting = omega arith in
      let tags : length (take passed (notice.tag ∷ [])) ≡ passed = length-take passed (notice.tag ∷ []) ∙ omega arith in
      let count = length-after_telling notice.additional (take passed (notice.tag ∷ [])) q (omega arith) in
      omega (arith, count)

  -- how many are told once a told listener was dropped
  pub Removes-drop : (old : Queue T W) (key : Key) (reply : Option (State T W)) (new : Queue T W) (additional : Bool) → IsQueue old → Removes old key true reply new
      → IsToldAs key additional old → (length (told_leaves key old).told + 1 ≡ length old.told) × (length new.told + 1 ≡ length old.told + how_many 1 additional (told_leaves key old))
  Removes-drop old key reply new additional queue step told =
      let found = found_value (lookup (is_key key) old.told) (λ n. n.additional ≡ additional) told in
      let fewer = length-remove_entry key old.told found.0 found.1 in
      let count = told_after_passing key old found.0 found.1 in
      let is = passed_on old key reply new found.0 queue step found.1 in
      let counted : length new.told + 1 ≡ length old.told + how_many 1 found.0.additional (told_leaves key old) = rw is count in
      (fewer, subst (λ a. length new.told + 1 ≡ length old.told + how_many 1 a (told_leaves key old)) found.2 counted)

  pub Removes-drop_default : (old : Queue T W) (key : Key) (reply : Option (State T W)) (new : Queue T W) → IsQueue old → Removes old key true reply new → IsToldAs key false old
      → length new.told ≡ max (length old.told - 1) (min 1 (listeners_of old - 1))
  Removes-drop_default old key reply new queue step told =
      let counts = Removes-drop old key reply new false queue step told in
      omega (arith, counts.0, counts.1)

  pub Removes-drop_additional : (old : Queue T W) (key : Key) (reply : Option (State T W)) (new : Queue T W) → IsQueue old → Removes old key true reply new → IsToldAs key true old
      → length new.told ≡ min (length old.told) (listeners_of old - 1)
  Removes-drop_additional old key reply new queue step told =
      let counts = Removes-drop old key reply new true queue step told in
      omega (arith, counts.0, counts.1)

  -- the laws of a removal follow from its step and its wakes
  pub IsRemoval-step : {S : Type 0} (woke : S → W → S → Type 0) (old : Queue T W) (key : Key) (propagate : Bool) (sink : S) (reply : Option (State T W)) (new : Queue T W) (sink' : S)
      → IsQueue old → IsQueue new → Removes old key propagate reply new → FoldsTo woke sink (woken_by_removal key propagate old) sink'
      → IsRemoval woke old key propagate sink reply new sink'
  IsRemoval-step woke old key propagate sink reply new sink' was queue step wakes = record {
    step = step;
    wakes = wakes;
    queue = queue;
    order = Removes-order old key propagate reply new was step;
    gone = Removes-gone old key propagate reply new was step;
    serial = search rules;
    drop_default = λ passes told. Removes-drop_default old key reply new was (rw passes at step) told;
    drop_additional = λ passes told. Removes-drop_additional old key reply new was (rw passes at step) told;
  }
