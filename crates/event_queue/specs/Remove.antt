-- The remove step: a listener leaves, and if it was notified its notification may be propagated.
use Rattle.std.specs.Prelude.{◌≡◌, ◌-◌, min, max, Bool, true, false, IsTrue, List, [], ◌∷◌, length, take, Option, Some, None, IsSomeAnd, OnSome}
use Rattle.std.specs.List.{FoldsTo}
use Rattle.std.specs.Map.{keys_of, lookup}
use Rattle.event_queue.specs.declared.key.Key.{Key}
use Rattle.event_queue.specs.declared.notice.Notice.{Notice}
use Rattle.event_queue.specs.declared.reply.State.{State}
use Rattle.event_queue.specs.declared.reply.State.TheVariants.{Created, Notified, Task, Passed, Lost}
use Rattle.event_queue.specs.Key.{is_key, without}
use Rattle.event_queue.specs.Queue.{Queue, IsQueue, IsAbsent, IsGone, IsToldAs, order_of, listeners_of, how_many, after_telling, tasks_of, told_leaves, waiting_leaves}

module _ {T W : Type 0} where
  -- the queue once it has been notified of one, of that notice's kind and with its tag
  abbrev pub after_passing : Notice T → Queue T W → Queue T W
  after_passing notice q =
      after_telling notice.additional (take (how_many 1 notice.additional q) (notice.tag ∷ [])) q

  -- the tasks that this wakes
  abbrev pub woken_by_passing : Notice T → Queue T W → List W
  woken_by_passing notice q = tasks_of (how_many 1 notice.additional q) q

  -- the listener that this notifies, if there is one
  abbrev pub told_by_passing : Notice T → Queue T W → List Key
  told_by_passing notice q = keys_of (take (how_many 1 notice.additional q) q.waiting)

  -- the notice was propagated: the queue was notified of one, which notified these
  pub record PassesTo (to : List Key) (notice : Notice T) (old new : Queue T W) : Type 0 where
    pub told : told_by_passing notice old ≡ to
    pub queue : new ≡ after_passing notice old

  -- what a removal answers, and the queue that it leaves; a propagated notification went to the one
  -- listener that it notified, or is lost if it notified none
  abbrev pub Removes : Queue T W → Key → Bool → Option (State T W) → Queue T W → Type 0
  Removes old key propagate None new = IsAbsent key old × (new ≡ old)
  Removes old key propagate (Some Created) new =
      (lookup (is_key key) old.waiting ≡ Some None) × (new ≡ waiting_leaves key old)
  Removes old key propagate (Some (Task task)) new =
      (lookup (is_key key) old.waiting ≡ Some (Some task)) × (new ≡ waiting_leaves key old)
  Removes old key propagate (Some (Notified additional tag)) new =
      (propagate ≡ false)
      × (lookup (is_key key) old.told ≡ Some (record { additional = additional; tag = tag }))
      × (new ≡ told_leaves key old)
  Removes old key propagate (Some (Passed to)) new =
      (propagate ≡ true)
      × IsSomeAnd (lookup (is_key key) old.told) (λ notice. PassesTo (to ∷ []) notice (told_leaves key old) new)
  Removes old key propagate (Some (Lost additional tag)) new =
      (propagate ≡ true)
      × (lookup (is_key key) old.told ≡ Some (record { additional = additional; tag = tag }))
      × PassesTo [] (record { additional = additional; tag = tag }) (told_leaves key old) new

  -- what is answered of a propagated notice: the listener that it notified, or its kind and tag if it notified none
  abbrev pub PassedAs : Notice T → Queue T W → State T W → Type 0
  PassedAs notice q (Passed to) = told_by_passing notice q ≡ to ∷ []
  PassedAs notice q (Lost additional tag) =
      (notice ≡ record { additional = additional; tag = tag }) × (told_by_passing notice q ≡ [])
  PassedAs notice q _ = ⊥

  -- the tasks that a removal wakes
  abbrev pub woken_by_leaving : Option (Notice T) → Bool → Key → Queue T W → List W
  woken_by_leaving None propagate key q = []
  woken_by_leaving (Some notice) false key q = []
  woken_by_leaving (Some notice) true key q = woken_by_passing notice (told_leaves key q)

  abbrev pub woken_by_removal : Key → Bool → Queue T W → List W
  woken_by_removal key propagate q = woken_by_leaving (lookup (is_key key) q.told) propagate key q

  -- what holds of every removal
  pub record IsRemoval {S : Type 0} (woke : S → W → S → Type 0) (old : Queue T W) (key : Key) (propagate : Bool) (sink : S) (answer : Option (State T W)) (new : Queue T W) (sink' : S) : Type 0 where
    -- what the call answers, and the queue that it leaves
    pub step : Removes old key propagate answer new
    -- the sink was handed the woken tasks, in order
    pub wakes : FoldsTo woke sink (woken_by_removal key propagate old) sink'
    -- serials rise, and numbers fit
    pub queue : IsQueue new
    -- the others keep their order
    pub order : order_of new ≡ without key (order_of old)
    -- the listener is gone
    pub gone : OnSome answer (IsGone key new)
    -- the next serial is as it was
    pub serial : new.next_serial ≡ old.next_serial
    -- how many are notified once a default notification was propagated
    pub drop_default : IsTrue propagate → IsToldAs key false old → length new.told ≡ max (length old.told - 1) (min 1 (listeners_of old - 1))
    -- how many are once an additional one was
    pub drop_additional : IsTrue propagate → IsToldAs key true old → length new.told ≡ min (length old.told) (listeners_of old - 1)
