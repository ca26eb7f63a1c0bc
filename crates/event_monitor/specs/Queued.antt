-- What came of an attempt by one that waits if it has to, which only the queue refuses.
use Rattle.std.specs.Prelude.{Result, Ok, Err}
use Rattle.event_queue.specs.declared.key.Key.{Key}
use Rattle.event_queue.specs.declared.reply.ListenError.{ListenError}
use Rattle.event_queue.specs.declared.reply.RegisterResult.{RegisterResult}
use Rattle.event_queue.specs.declared.reply.RegisterResult.TheVariants.{Notified, Registered, NeverInserted}
use Rattle.event_wait.specs.declared.request.Attempted.{Attempted}
use Rattle.event_wait.specs.declared.request.Attempted.TheVariants.{Done, Waits, Absent, Refused}

module _ {G : Type 0} where
  -- what that wait led to
  abbrev pub waits_by : Result Key ListenError → Attempted G ListenError
  waits_by (Ok key) = Waits key
  waits_by (Err error) = Refused error

  -- what that registration led to
  abbrev pub found_by : Key → RegisterResult G → Attempted G ListenError
  found_by key (Notified grant) = Done grant
  found_by key Registered = Waits key
  found_by key NeverInserted = Absent

-- it was made of an error of that kind
abbrev pub IsMadeOf : {A E : Type 0} → (A → E → Type 0) → E → Type 0
IsMadeOf {A} gives error = (cause : A) × gives cause error
