-- What came of an attempt by one that waits if it has to.
use Rattle.std.specs.Prelude.{◌≡◌, Option, Some, None}
use Rattle.event_queue.specs.declared.key.Key.{Key}
use Rattle.event_wait.specs.declared.request.Attempted.{Attempted}
use Rattle.event_wait.specs.declared.request.Attempted.TheVariants.{Done, Waits, Absent, Refused}

module _ {W C : Type 0} (exchanged : C → Option W → W → C → Type 0) where
  -- a task was stored that was exchanged for the one before
  pub record Stores (before after : C) : Type 0 where
    pub handed_out : Option W
    pub task : W
    pub made : exchanged before handed_out task after

module _ {G E : Type 0} where
  -- the key of one that waits
  abbrev pub key_of : Attempted G E → Option Key
  key_of (Done grant) = None
  key_of (Waits key) = Some key
  key_of Absent = None
  key_of (Refused error) = None

  -- what holds of what it got
  abbrev pub OnDone : Attempted G E → (G → Type 0) → Type 0
  OnDone (Done grant) P = P grant
  OnDone (Waits key) P = Unit {0}
  OnDone Absent P = Unit {0}
  OnDone (Refused error) P = Unit {0}

  -- what holds of one that waits
  abbrev pub OnWaits : Attempted G E → Type 0 → Type 0
  OnWaits (Done grant) P = Unit {0}
  OnWaits (Waits key) P = P
  OnWaits Absent P = Unit {0}
  OnWaits (Refused error) P = Unit {0}

  -- what holds where it goes on
  abbrev pub OnUndone : Attempted G E → Type 0 → Type 0
  OnUndone (Done grant) P = Unit {0}
  OnUndone (Waits key) P = P
  OnUndone Absent P = P
  OnUndone (Refused error) P = Unit {0}

  -- what holds of one that can't wait
  abbrev pub OnRefused : Attempted G E → Type 0 → Type 0
  OnRefused (Done grant) P = Unit {0}
  OnRefused (Waits key) P = Unit {0}
  OnRefused Absent P = Unit {0}
  OnRefused (Refused error) P = P

  -- what holds of why it can't wait
  abbrev pub IfRefused : Attempted G E → (E → Type 0) → Type 0
  IfRefused (Done grant) P = Unit {0}
  IfRefused (Waits key) P = Unit {0}
  IfRefused Absent P = Unit {0}
  IfRefused (Refused error) P = P error

  -- only the task of one that waits on is exchanged
  abbrev pub Attempts : {W C : Type 0} → (C → Option W → W → C → Type 0) → C → Attempted G E → C → Type 0
  Attempts exchanged before (Done grant) after = after ≡ before
  Attempts exchanged before (Waits key) after = Stores exchanged before after
  Attempts exchanged before Absent after = after ≡ before
  Attempts exchanged before (Refused error) after = after ≡ before

-- leaving is one more attempt, and one that gets nothing by it is as it was
abbrev pub LeavesBy : {S G : Type 0} → (S → G → S → Type 0) → S → Option G → S → Type 0
LeavesBy succeeds before (Some output) after = succeeds before output after
LeavesBy succeeds before None after = after ≡ before
