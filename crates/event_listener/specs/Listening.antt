-- What a contract sees of a listener.
use Rattle.std.specs.Prelude.{◌≡◌, ℕ, Bool, true, false, List, [], ◌∷◌}
use Rattle.event_queue.specs.declared.key.Key.{Key}
use Rattle.event_queue.specs.Queue.{Queue}
use Rattle.event_wait.specs.declared.lock.task.Task.{Task}
use Rattle.event_history.specs.declared.history.View.{View}
use Rattle.event_history.specs.declared.queue_call.QueueCall.{QueueCall}
use Rattle.event_history.specs.Lock.{LockId}
use Rattle.event_history.specs.History.{newcomer}
use Rattle.event_history.specs.Queue.{NoneLeft, OnlyLeft}

-- the number of its event, its key in the queue there, whether it has given its tag, and the source at which a task
-- registers that polls it
pub record Standing : Type 0 where
  pub event_number : ℕ
  pub key : Key
  pub is_finished : Bool
  pub source : ℕ

-- what the listeners of an event share: the lock of its queue, and its number
pub record SharedQueue : Type 0 where
  pub lock : LockId (Unit {0})
  pub event_number : ℕ

-- what a hand knows of the history of an event's queue
abbrev pub Known : Type 0 → Type 0
Known T = View (Queue T Task) (QueueCall T Task)

-- a listener: its standing, the name of the lock of its event's queue, and what its hand knows of the history there
pub record Listening (T : Type 0) : Type 0 where
  pub standing : Standing
  pub table : ℕ
  pub knows : Known T

-- a hand of an event: the event's number, the name of its queue's lock, and what the hand knows of the history there
pub record Caller (T : Type 0) : Type 0 where
  pub event_number : ℕ
  pub table : ℕ
  pub knows : Known T

-- what the hand knows that is kept there
abbrev pub known_of : {T : Type 0} → List (Known T) → Known T
known_of [] = newcomer []
known_of (knows ∷ rest) = knows

-- what a contract sees of a listener's membership: its key in the queue, and whether it has left
pub record Member : Type 0 where
  pub key : Key
  pub is_finished : Bool

-- of the listeners that a hand inserted by these calls none is left but this member, and not this one once it has left
abbrev pub LeavesNone : {T : Type 0} → Member → List (QueueCall T Task) → Type 0
LeavesNone member mine = (member.is_finished ≡ false → OnlyLeft member.key mine) × (member.is_finished ≡ true → NoneLeft mine)
