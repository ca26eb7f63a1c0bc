-- The notify step: the first that wait are notified, each with the tag that the notification gives next.
use Rattle.std.specs.Prelude.{◌≡◌, ℕ, ◌+◌, ◌<◌, min, max, Bool, IsTrue, IsFalse, List, length, Result, Ok, Err, IsOk, alloc_error}
use Rattle.std.specs.List.{FoldsTo}
use Rattle.std.specs.declared.alloc.AllocError.{AllocError}
use Rattle.event_queue.specs.declared.reply.NotifyError.{NotifyError}
use Rattle.event_queue.specs.Queue.{Queue, IsQueue, order_of, listeners_of, how_many, after_telling, tasks_of}

module _ {T N : Type 0} (gives : N → Result T AllocError → N → Type 0) where
  -- the source gave these tags, one after another
  abbrev pub GivesTags : N → List T → N → Type 0
  GivesTags source tags source' = FoldsTo (λ before tag after. gives before (Ok tag) after) source tags source'

  -- the source never refuses a tag
  abbrev pub NeverRefuses : Type 0
  NeverRefuses = (before after : N) → ¬ gives before (Err alloc_error) after

module _ {T W N : Type 0} (gives : N → Result T AllocError → N → Type 0) where
  -- the source was asked for this many tags and gave each, and the first that wait were notified with them
  pub record Tells (additional : Bool) (old : Queue T W) (source : N) (told : ℕ) (new : Queue T W) (source' : N) : Type 0 where
    pub tags : List T
    pub given : GivesTags gives source tags source'
    pub as_many : length tags ≡ told
    pub queue : new ≡ after_telling additional tags old

  -- the same, and then the source refused the next tag
  pub record TellsThenRefuses (additional : Bool) (old : Queue T W) (source : N) (told : ℕ) (new : Queue T W) (source' : N) : Type 0 where
    pub between : N
    pub tells : Tells additional old source told new between
    pub refuses : gives between (Err alloc_error) source'

  -- what a notification answers, and the queue and the source that it leaves
  abbrev pub Notifies : ℕ → Bool → Queue T W → N → Result ℕ NotifyError → Queue T W → N → Type 0
  Notifies count additional old source (Ok told) new source' =
      (told ≡ how_many count additional old) × Tells additional old source told new source'
  Notifies count additional old source (Err error) new source' =
      (error.told < how_many count additional old)
      × TellsThenRefuses additional old source error.told new source'

-- how many listeners a notification notified, by its answer
abbrev pub told_by : Result ℕ NotifyError → ℕ
told_by (Ok told) = told
told_by (Err error) = error.told

module _ {T W N S : Type 0} (gives : N → Result T AllocError → N → Type 0) (woke : S → W → S → Type 0) where
  -- what holds of every notification of that count and kind
  pub record IsNotification (count : ℕ) (additional : Bool) (old : Queue T W) (source : N) (sink : S) (answer : Result ℕ NotifyError) (new : Queue T W) (source' : N) (sink' : S) : Type 0 where
    -- what the call answers, and the queue and the source that it leaves
    pub step : Notifies gives count additional old source answer new source'
    -- the sink was handed the tasks of those notified, in order
    pub wakes : FoldsTo woke sink (tasks_of (told_by answer) old) sink'
    -- serials rise, and numbers fit
    pub queue : IsQueue new
    -- the order of listening is as it was
    pub order : order_of new ≡ order_of old
    -- the next serial is as it was
    pub serial : new.next_serial ≡ old.next_serial
    -- how many are notified after a default notification that refused no tag
    pub default_leaves : IsOk answer → IsFalse additional → length new.told ≡ max (length old.told) (min count (listeners_of old))
    -- how many are after an additional one
    pub additional_tells : IsOk answer → IsTrue additional → length new.told ≡ length old.told + min count (length old.waiting)
    -- a source that never refuses a tag is answered `Ok`
    pub unrefused : NeverRefuses gives → IsOk answer
