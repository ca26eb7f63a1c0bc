-- What came of an attempt by one that waits if it has to.
use Rattle.std.specs.Prelude.{◌≡◌, ℕ, Option, Result, Ok, Err}
use Rattle.event_queue.specs.declared.key.Key.{Key}
use Rattle.event_queue.specs.declared.reply.ListenError.{ListenError}
use Rattle.event_queue.specs.declared.reply.RegisterResult.{RegisterResult}
use Rattle.event_queue.specs.declared.reply.RegisterResult.TheVariants.{Notified, Registered, NeverInserted}
use Rattle.event_queue.specs.Exchange.{JoinsWithTask}
use Rattle.event_queue.specs.Insert.{Inserts}
use Rattle.event_queue.specs.Queue.{Queue}
use Rattle.event_wait.specs.declared.request.Attempted.{Attempted}
use Rattle.event_wait.specs.declared.request.Attempted.TheVariants.{Done, Waits, Absent, Refused}
use Rattle.event_wait.specs.declared.error.LockError.{LockError}
use Rattle.event_wait.specs.declared.error.LockError.TheVariants.{Listen, Memory, TooManyReaders, Finished}

module _ {G : Type 0} where
  -- what that wait led to
  abbrev pub waits_by : Result Key ListenError → Attempted G LockError
  waits_by (Ok key) = Waits key
  waits_by (Err error) = Refused (Listen error)

  -- what that registration led to
  abbrev pub found_by : Key → RegisterResult G → Attempted G LockError
  found_by key (Notified grant) = Done grant
  found_by key Registered = Waits key
  found_by key NeverInserted = Absent

  -- how many got what they want
  abbrev pub gained : {E : Type 0} → Attempted G E → ℕ
  gained (Done grant) = 1
  gained (Waits key) = 0
  gained Absent = 0
  gained (Refused error) = 0

  -- it waits, or got what it wants, or can't wait
  abbrev pub IsSettled : {E : Type 0} → Attempted G E → Type 0
  IsSettled (Done grant) = Unit {0}
  IsSettled (Waits key) = Unit {0}
  IsSettled Absent = ⊥
  IsSettled (Refused error) = Unit {0}

  -- what holds of one that does not wait
  abbrev pub UnlessWaits : {E : Type 0} → Attempted G E → Type 0 → Type 0
  UnlessWaits (Done grant) P = P
  UnlessWaits (Waits key) P = Unit {0}
  UnlessWaits Absent P = P
  UnlessWaits (Refused error) P = P

  -- what holds of why one can't wait
  abbrev pub IfRefused : {E : Type 0} → Attempted G E → (E → Type 0) → Type 0
  IfRefused (Done grant) P = Unit {0}
  IfRefused (Waits key) P = Unit {0}
  IfRefused Absent P = Unit {0}
  IfRefused (Refused error) P = P error

module _ {T W C : Type 0} (exchanged : C → Option W → W → C → Type 0) where
  -- of one that comes, and is not in the queue before: one that waits is at its end, with a task that was made of none
  abbrev pub Comes : {G E : Type 0} → Queue T W → C → Attempted G E → Queue T W → C → Type 0
  Comes old before (Done grant) new after = after ≡ before
  Comes old before (Waits key) new after = JoinsWithTask exchanged old before key new after
  Comes old before Absent new after = ⊥
  Comes old before (Refused error) new after = after ≡ before

-- one can't wait since the queue refuses it
abbrev pub CannotJoin : {T W : Type 0} → LockError → Queue T W → Queue T W → Type 0
CannotJoin (Listen error) old new = Inserts old (Err error) new
CannotJoin (Memory error) old new = ⊥
CannotJoin TooManyReaders old new = ⊥
CannotJoin Finished old new = ⊥
