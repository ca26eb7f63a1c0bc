-- What becomes of a queue, and what one that waits in it learns.
use Rattle.std.specs.Prelude.{◌≡◌, ℕ, ◌+◌, ◌-◌, min, max, Bool, true, false, if◌then◌else◌, Option, Some, None, is_some, unwrap_or, List, [], ◌∷◌, ◌++◌, length, drop, Err}
use Rattle.std.specs.List.{FoldsTo, list_any}
use Rattle.std.specs.Map.{lookup, remove_entry, set_value}
use Rattle.event_queue.specs.declared.key.Key.{Key}
use Rattle.event_queue.specs.declared.reply.ListenError.{ListenError}
use Rattle.event_queue.specs.declared.reply.RegisterResult.{RegisterResult}
use Rattle.event_queue.specs.declared.reply.RegisterResult.TheVariants.{Notified, Registered, NeverInserted}
use Rattle.event_queue.specs.Insert.{Inserts}
use Rattle.event_queue.specs.Key.{is_key, without}
use Rattle.event_queue.specs.Queue.{Queue, order_of, listeners_of, tasks_of}
use Rattle.event_wait.specs.Attempted.{Stores}

-- the entries but that of this key, if it is one
abbrev pub others_of : {X : Type 0} → Option Key → List (Key × X) → List (Key × X)
others_of None entries = entries
others_of (Some key) entries = remove_entry (is_key key) entries

module _ {T W : Type 0} where
  -- how many are notified anew, so that `n` are notified if there are as many
  abbrev pub told_anew : ℕ → Queue T W → ℕ
  told_anew n q = min (n - length q.told) (length q.waiting)

  -- `n`, or `more` above those that are notified, whichever is more
  abbrev pub or_more : ℕ → ℕ → Queue T W → ℕ
  or_more n more q = max n (length q.told + more)

  -- the first that wait were notified, until `n` of the queue were, if there are as many; nobody has come or gone
  pub record TellsUpTo (n : ℕ) (old new : Queue T W) : Type 0 where
    pub told : length new.told ≡ length old.told + told_anew n old
    pub waiting : new.waiting ≡ drop (told_anew n old) old.waiting
    pub order : order_of new ≡ order_of old
    pub serial : new.next_serial ≡ old.next_serial

  -- the tasks that this wakes
  abbrev pub woken_up_to : ℕ → Queue T W → List W
  woken_up_to n q = tasks_of (told_anew n q) q

  -- all that waited were notified; nobody has come or gone
  pub record TellsAll (old new : Queue T W) : Type 0 where
    pub told : length new.told ≡ listeners_of old
    pub waiting : new.waiting ≡ []
    pub order : order_of new ≡ order_of old

  -- the tasks that this wakes
  abbrev pub woken_at_once : Queue T W → List W
  woken_at_once q = tasks_of (length q.waiting) q

  -- the queue once this one, if it is one, has left
  abbrev pub after_leaving : Option Key → Queue T W → Queue T W
  after_leaving key q = record q { told = others_of key q.told; waiting = others_of key q.waiting }

  -- this one has left the queue, and the others are as they were
  pub record HasLeft (key : Key) (old new : Queue T W) : Type 0 where
    pub told : new.told ≡ others_of (Some key) old.told
    pub waiting : new.waiting ≡ others_of (Some key) old.waiting
    pub order : order_of new ≡ without key (order_of old)
    pub serial : new.next_serial ≡ old.next_serial

  -- this one has left the queue, and then the first that wait were notified, until `n` were
  pub record HasLeftAndTold (key : Key) (n : ℕ) (old new : Queue T W) : Type 0 where
    pub left : order_of new ≡ without key (order_of old)
    pub tells : TellsUpTo n (after_leaving (Some key) old) new

  -- nobody is in the queue by this key
  abbrev pub IsNotIn : Key → Queue T W → Type 0
  IsNotIn key q = list_any (is_key key) (order_of q) ≡ false

  -- only one that waits on is in the queue after a look
  abbrev pub IsNotInUnlessWaits : {G : Type 0} → RegisterResult G → Key → Queue T W → Type 0
  IsNotInUnlessWaits (Notified grant) key q = IsNotIn key q
  IsNotInUnlessWaits Registered key q = Unit {0}
  IsNotInUnlessWaits NeverInserted key q = IsNotIn key q

  -- one that is in the queue has left it; one that is in none changes nothing
  abbrev pub Leaves : Option Key → Queue T W → Queue T W → Type 0
  Leaves None old new = new ≡ old
  Leaves (Some key) old new = HasLeft key old new

  abbrev pub LeavesThenTells : Option Key → ℕ → Queue T W → Queue T W → Type 0
  LeavesThenTells None n old new = new ≡ old
  LeavesThenTells (Some key) n old new = HasLeftAndTold key n old new

  -- the tasks that this wakes
  abbrev pub woken_by_leaving : Option Key → ℕ → Queue T W → List W
  woken_by_leaving None n q = []
  woken_by_leaving (Some key) n q = woken_up_to n (after_leaving (Some key) q)

  -- whether this one waits, and is not notified
  abbrev pub waits_untold : Option Key → Queue T W → Bool
  waits_untold None q = false
  waits_untold (Some key) q = is_some (lookup (is_key key) q.waiting)

  -- the task that it stored
  abbrev pub stored_task : Option Key → Queue T W → Option W
  stored_task None q = None
  stored_task (Some key) q = unwrap_or (lookup (is_key key) q.waiting) None

  -- those that wait once this one does, with that task: it keeps its place, and one that was notified or is new comes last
  abbrev pub waiting_with : Option Key → Key → W → Queue T W → List (Key × Option W)
  waiting_with key waits task q =
      if waits_untold key q
      then set_value (is_key waits) q.waiting (Some task)
      else q.waiting ++ (waits, Some task) ∷ []

  -- one could not be put at the end of the queue, and is in it no more
  pub record CannotWait (key : Option Key) (error : ListenError) (old new : Queue T W) : Type 0 where
    pub untold : waits_untold key old ≡ false
    pub leaves : Leaves key old new
    pub reason : Inserts new (Err error) new

module _ {T W C : Type 0} (exchanged : C → Option W → W → C → Type 0) where
  -- one waits by this key, with a task that was exchanged for the one that it had stored
  pub record WaitsBy (key : Option Key) (old : Queue T W) (before : C) (waits : Key) (new : Queue T W) (after : C) : Type 0 where
    pub task : W
    pub made : exchanged before (stored_task key old) task after
    -- one that waits already keeps its key
    pub same : waits_untold key old ≡ true → key ≡ Some waits
    pub told : new.told ≡ others_of key old.told
    pub waiting : new.waiting ≡ waiting_with key waits task old

-- how many of those notified have left by a look
abbrev pub left_by : {T : Type 0} → RegisterResult T → ℕ
left_by (Notified tag) = 1
left_by Registered = 0
left_by NeverInserted = 0

-- what holds of what was granted
abbrev pub OnGranted : {G : Type 0} → RegisterResult G → (G → Type 0) → Type 0
OnGranted (Notified grant) P = P grant
OnGranted Registered P = Unit {0}
OnGranted NeverInserted P = Unit {0}

-- whether something was granted
abbrev pub is_granted : {G : Type 0} → RegisterResult G → Bool
is_granted (Notified grant) = true
is_granted Registered = false
is_granted NeverInserted = false

-- what the queue answered where that was a grant
abbrev pub as_told : {G : Type 0} → RegisterResult G → RegisterResult (Unit {0})
as_told (Notified grant) = Notified tt
as_told Registered = Registered
as_told NeverInserted = NeverInserted

module _ {W C : Type 0} (exchanged : C → Option W → W → C → Type 0) where
  -- only the task of one that waits on is exchanged
  abbrev pub Looked : {G : Type 0} → C → RegisterResult G → C → Type 0
  Looked before (Notified grant) after = after ≡ before
  Looked before Registered after = Stores exchanged before after
  Looked before NeverInserted after = after ≡ before

module _ {T W S : Type 0} (woke : S → W → S → Type 0) where
  -- the first `n` of those that wait, or all if fewer do, were handed something, and their tasks were woken in order;
  -- nobody has come or gone
  pub record HandsOut (n : ℕ) (old new : Queue T W) (sink sink' : S) : Type 0 where
    pub told : length new.told ≡ length old.told + min n (length old.waiting)
    pub waiting : new.waiting ≡ drop n old.waiting
    pub order : order_of new ≡ order_of old
    pub wakes : FoldsTo woke sink (tasks_of n old) sink'
