-- A run of calls: one step after another, each with its reply and the tasks that it wakes.
use Rattle.std.specs.Prelude.{◌≡◌, ◌<◌, ◌≤◌, ◌↔◌, ℕ, Bool, List, [], ◌∷◌, ◌++◌, length, take, Result, Ok, Err, IsTrue}
use Rattle.std.specs.List.{FoldsTo}
use Rattle.std.specs.declared.alloc.AllocError.{AllocError}
use Rattle.event_queue.specs.declared.call.Call.{Call}
use Rattle.event_queue.specs.declared.call.Call.TheVariants as call
use Rattle.event_queue.specs.declared.call.Reply.{Reply}
use Rattle.event_queue.specs.declared.call.Reply.TheVariants as reply
use Rattle.event_queue.specs.declared.reply.NotifyError.{NotifyError}
use Rattle.event_queue.specs.Queue.{Queue, IsQueue, listeners_of, how_many, after_telling, tasks_of}
use Rattle.event_queue.specs.Insert.{Inserts}
use Rattle.event_queue.specs.Register.{Registers}
use Rattle.event_queue.specs.Remove.{Removes, woken_by_removal}
use Rattle.event_queue.specs.Notify.{told_by}

-- what a list of tags gives as a notification's source: the first of the tags left, or a refusal where there is none
abbrev pub TakesFirst : {T : Type 0} → List T → Result T AllocError → List T → Type 0
TakesFirst before (Ok tag) after = before ≡ tag ∷ after
TakesFirst before (Err _) after = (before ≡ []) × (after ≡ before)

module _ {T W : Type 0} where
  -- what a notification that has these tags answers, and the queue that it leaves: a tag is refused exactly
  -- where they run out
  abbrev pub NotifiesWith : ℕ → Bool → List T → Queue T W → Result ℕ NotifyError → Queue T W → Type 0
  NotifiesWith count additional tags old (Ok told) new =
      (told ≡ how_many count additional old) × (told ≤ length tags)
      × (new ≡ after_telling additional (take told tags) old)
  NotifiesWith count additional tags old (Err error) new =
      (error.told ≡ length tags) × (error.told < how_many count additional old)
      × (new ≡ after_telling additional tags old)

  -- what a call answers, and the queue that it leaves; no call has the reply of another
  abbrev pub Step : Queue T W → Call T W → Reply T W → Queue T W → Type 0
  Step old call.Insert (reply.Inserted answer) new = Inserts old answer new
  Step old (call.Register key task) (reply.Registered answer) new = Registers old key task answer new
  Step old (call.Remove key propagate) (reply.Removed answer) new = Removes old key propagate answer new
  Step old (call.Notify count additional tags) (reply.Notified answer) new =
      NotifiesWith count additional tags.items old answer new
  Step old call.TotalListeners (reply.TotalListeners total) new = (total ≡ listeners_of old) × (new ≡ old)
  Step old call.IsNotified (reply.IsNotified told) new =
      (IsTrue told ↔ (0 < length old.told)) × (new ≡ old)
  Step old _ _ new = ⊥

  -- the tasks that a call wakes, in order
  abbrev pub woken_by : Call T W → Reply T W → Queue T W → List W
  woken_by (call.Remove key propagate) _ old = woken_by_removal key propagate old
  woken_by (call.Notify count additional tags) (reply.Notified answer) old = tasks_of (told_by answer) old
  woken_by _ _ old = []

  -- these calls, each with its reply, lead from one queue to the other and wake these tasks in order; each call
  -- leaves an `IsQueue`
  abbrev pub Runs : Queue T W → List (Call T W) → List (Reply T W) → List W → Queue T W → Type 0
  Runs old [] [] woken new = (woken ≡ []) × (new ≡ old)
  Runs old [] (_ ∷ _) woken new = ⊥
  Runs old (_ ∷ _) [] woken new = ⊥
  Runs old (call ∷ calls) (reply ∷ replies) woken new =
      (between : Queue T W) × (later : List W) × Step old call reply between × IsQueue between
      × (woken ≡ woken_by call reply old ++ later) × Runs between calls replies later new

  -- every call was made: a reply for each was appended, calls and those replies are a run, and the sink was
  -- handed the woken tasks in order
  pub record RunsAll {S : Type 0} (woke : S → W → S → Type 0) (calls : List (Call T W)) (old : Queue T W) (replies : List (Reply T W)) (sink : S) (new : Queue T W)
      (replies' : List (Reply T W)) (sink' : S) : Type 0 where
    pub made : List (Reply T W)
    pub woken : List W
    pub appended : replies' ≡ replies ++ made
    pub runs : Runs old calls made woken new
    pub wakes : FoldsTo woke sink woken sink'
