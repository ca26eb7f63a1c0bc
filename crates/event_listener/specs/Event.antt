-- What a notification of an event answers, and how a listener begins.
use Rattle.std.specs.Prelude.{◌≡◌, ℕ, ◌<◌, ◌≤◌, List, length, Result, Ok, Err, alloc_error}
use Rattle.event_wait.specs.declared.lock.task.Task.{Task}
use Rattle.event_history.specs.declared.history.Entry.{Entry}
use Rattle.event_history.specs.declared.queue_call.QueueCall.{QueueCall}
use Rattle.event_history.specs.declared.queue_call.QueueCall.TheVariants.{Insert}
use Rattle.event_history.specs.History.{newcomer}
use Rattle.event_listener.specs.Listening.{Listening}
use Rattle.event_listener.specs.Waiting.{Calls}
use Rattle.std.specs.declared.alloc.AllocError.{AllocError}
use Rattle.event_queue.specs.declared.reply.NotifyError.{NotifyError}
use Rattle.event_queue.specs.Notify.{GivesTags}

module _ {T N : Type 0} (gives : N → Result T AllocError → N → Type 0) where
  -- the source gave this many tags, one after another, and was left as that
  pub record GaveTags (source : N) (told : ℕ) (source' : N) : Type 0 where
    pub tags : List T
    pub given : GivesTags gives source tags source'
    pub as_many : length tags ≡ told

  -- the same, and then it refused the next one
  pub record GaveThenRefused (source : N) (told : ℕ) : Type 0 where
    pub between : N
    pub after : N
    pub gave : GaveTags source told between
    pub refused : gives between (Err alloc_error) after

  -- the answer is at most the notification's count, and as many tags were given; it fails only if it refused the tag of a
  -- listener that its count still asked for
  abbrev pub TellsSome : ℕ → N → Result ℕ NotifyError → Type 0
  TellsSome count source (Ok told) = (told ≤ count) × ((source' : N) × GaveTags source told source')
  TellsSome count source (Err error) = (error.told < count) × GaveThenRefused source error.told

module _ {T : Type 0} where
  -- a new listener's hand had seen this, and its first call is that it listened
  abbrev pub Listens : List (Entry (QueueCall T Task)) → Listening T → Type 0
  Listens seen listener = Calls (newcomer seen) (Insert (Ok listener.standing.key)) listener.knows

  -- the same, and what it had seen is some history
  abbrev pub ListensFirst : Listening T → Type 0
  ListensFirst listener = (seen : List (Entry (QueueCall T Task))) × Listens seen listener
