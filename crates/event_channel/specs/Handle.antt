-- What a contract sees of a sender or a receiver.
use Rattle.std.specs.Prelude.{◌≡◌, ℕ, Option, Some}
use Rattle.event_history.specs.Lock.{LockId}

-- the lock of its channel, and how many messages may wait there at most, if there is a limit
pub record Handle : Type 0 where
  pub channel : LockId (Option ℕ)
  pub capacity : Option ℕ

-- what a send keeps until it is done: its message, and the lock of its channel
pub record Pending (T : Type 0) : Type 0 where
  pub message : Option T
  pub channel : LockId (Option ℕ)

abbrev pub Carries : {T : Type 0} → T → Pending T → Type 0
Carries message send = send.message ≡ Some message
