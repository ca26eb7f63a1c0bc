-- Why a wait for a lock was refused.
use Rattle.std.specs.Prelude.{◌≡◌}
use Rattle.std.specs.declared.alloc.AllocError.{AllocError}
use Rattle.event_wait.specs.declared.lock.wait.Refused.{Refused}
use Rattle.event_wait.specs.declared.lock.wait.Refused.TheVariants.{Memory, Request}
use Rattle.event_wait.specs.declared.error.LockError.{LockError}
use Rattle.event_wait.specs.declared.error.LockError.TheVariants.{Memory as NoMemory}

-- it was made of an error of a lock
abbrev pub IsMadeOfOne : {E : Type 0} → (LockError → E → Type 0) → E → Type 0
IsMadeOfOne gives error = (cause : LockError) × gives cause error

-- the lock's error of a refused wait
abbrev pub Means : Refused LockError → LockError → Type 0
Means Memory error = (refused : AllocError) × (error ≡ NoMemory refused)
Means (Request reason) error = error ≡ reason
