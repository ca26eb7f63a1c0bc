-- What a contract sees of the state under a monitor's lock.
use Rattle.std.specs.Prelude.{◌≡◌, Option, Some, None, List, [], map}
use Rattle.std.specs.Borrow.{MutBor}
use Rattle.std.specs.Fn.{Once, FnOnceReturnsAtMut}
use Rattle.std.specs.List.{AllByRecursion}
use Rattle.event_queue.specs.declared.key.Key.{Key}
use Rattle.event_queue.specs.declared.reply.ListenError.{ListenError}
use Rattle.event_queue.specs.Queue.{Queue}
use Rattle.event_wait.specs.Line.{TellsAll, WaitsBy, CannotWait, after_leaving, woken_at_once}
use Rattle.event_wait.specs.declared.request.Attempted.{Attempted}
use Rattle.event_wait.specs.declared.request.Attempted.TheVariants.{Done, Waits, Absent, Refused}
use Rattle.event_monitor.specs.declared.monitor.watched.Waiter.{Waiter}

-- the value, and the queue of those that wait for something of it
pub record State (V C W : Type 0) : Type 0 where
  pub value : V
  pub line : Queue (Unit {0}) (Waiter C W)

module _ {V C W : Type 0} (fails : C → V → Type 0) where
  -- one that waits has stored its task, and an attempt of it gives nothing of this value
  abbrev pub IsBlocked : V → Option (Waiter C W) → Type 0
  IsBlocked value (Some waiter) = fails waiter.condition value
  IsBlocked value None = ⊥

  -- all that wait, and are not notified, are blocked
  abbrev pub NobodyWaitsInVain : State V C W → Type 0
  NobodyWaitsInVain s = AllByRecursion (λ entry. IsBlocked s.value entry.1) s.line.waiting

module _ {C W : Type 0} where
  -- the task of one that waits
  abbrev pub stored_by : Option (Waiter C W) → Option W
  stored_by None = None
  stored_by (Some waiter) = Some waiter.task

  -- the tasks that are woken where all that wait are notified
  abbrev pub woken_tasks : Queue (Unit {0}) (Waiter C W) → List W
  woken_tasks q = map (λ waiter. waiter.task) (woken_at_once q)

  module _ {G : Type 0} where
    -- the tasks that an attempt wakes
    abbrev pub woken_by_trying : Queue (Unit {0}) (Waiter C W) → Option G → List W
    woken_by_trying q (Some output) = woken_tasks q
    woken_by_trying q None = []

    -- the tasks that one wakes which waits if its attempt gives nothing
    abbrev pub woken_by_attempting : Option Key → Queue (Unit {0}) (Waiter C W) → Attempted G ListenError → List W
    woken_by_attempting key q (Done output) = woken_tasks (after_leaving key q)
    woken_by_attempting key q (Waits waits) = []
    woken_by_attempting key q Absent = []
    woken_by_attempting key q (Refused error) = []

  module _ {O : Type 0} (exchanged : O → Option W → W → O → Type 0) where
    -- one waits for this, with a task that was exchanged for the one that it had stored
    pub record Watches (condition : C) (before : O) (stored : Option (Waiter C W)) (waiter : Waiter C W) (after : O) : Type 0 where
      pub waits_for : waiter.condition ≡ condition
      pub made : exchanged before (stored_by stored) waiter.task after

module _ {V C W G : Type 0} (gives : C → V → G → V → Type 0) (fails : C → V → Type 0) where
  -- an attempt gave this; whoever made it has left the queue, and then all that wait were notified
  pub record Takes (condition : C) (key : Option Key) (old : State V C W) (output : G) (new : State V C W) : Type 0 where
    pub gave : gives condition old.value output new.value
    pub only_then : ¬ fails condition old.value
    pub told : TellsAll (after_leaving key old.line) new.line

  -- an attempt gave nothing
  pub record TakesNothing (condition : C) (old new : State V C W) : Type 0 where
    pub failed : fails condition old.value
    pub kept : new.value ≡ old.value

  module _ {O : Type 0} (exchanged : O → Option W → W → O → Type 0) where
    -- of one that was to attempt, or else to wait: it was given something; or it waits; or it could not come into the queue
    abbrev pub Obtains : C → Option Key → State V C W → O → Attempted G ListenError → State V C W → O → Type 0
    Obtains condition key old before (Done output) new after = Takes condition key old output new × (after ≡ before)
    Obtains condition key old before (Waits waits) new after =
        TakesNothing condition old new × WaitsBy (Watches exchanged condition) key old.line before waits new.line after
    Obtains condition key old before Absent new after = ⊥
    Obtains condition key old before (Refused error) new after =
        TakesNothing condition old new × CannotWait key error old.line new.line × (after ≡ before)

-- an attempt gave this of some value
pub record Gives {V C G : Type 0} (gives : C → V → G → V → Type 0) (condition : C) (output : G) : Type 0 where
  pub value : V
  pub value' : V
  pub gave : gives condition value output value'

-- an attempt of some value gave nothing
pub record Fails {V C : Type 0} (fails : C → V → Type 0) (condition : C) : Type 0 where
  pub value : V
  pub failed : fails condition value

-- what a request for this condition does that gives this
pub record Succeeds {V C G : Type 0} (gives : C → V → G → V → Type 0) (before : C) (output : G) (after : C) : Type 0 where
  pub kept : after ≡ before
  pub given : Gives gives before output

-- what the last attempt of a request does, at the limit of its wait
abbrev pub LastAttempt : {V C G : Type 0} → (C → V → G → V → Type 0) → (C → V → Type 0) → C → Option G → C → Type 0
LastAttempt gives fails before (Some output) after = Succeeds gives before output after
LastAttempt gives fails before None after = (after ≡ before) × Fails fails before

-- the change returned this at some value
pub record Changes {V A F : Type 0} (calls : Once F (MutBor V × Unit {0}) (A × (MutBor V × Unit {0}))) (change : F) (answer : A) : Type 0 where
  pub value : V
  pub value' : V
  pub made : FnOnceReturnsAtMut calls change value answer value'
