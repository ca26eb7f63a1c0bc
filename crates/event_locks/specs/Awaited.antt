-- Where a pending poll of a wait has registered its task: the source of the lock that it waits for.
use Rattle.std.specs.Prelude.{◌≡◌, ℕ, IsSomeAnd}
use Rattle.std.specs.Arc.{arc_value}
use Rattle.event_locks.specs.declared.mutex.lock.Lock.{Lock}
use Rattle.event_locks.specs.declared.mutex.lock.LockArc.{LockArc}
use Rattle.event_locks.specs.declared.rw_lock.waits.Read.{Read}
use Rattle.event_locks.specs.declared.rw_lock.waits.ReadArc.{ReadArc}
use Rattle.event_locks.specs.declared.rw_lock.waits.Write.{Write}
use Rattle.event_locks.specs.declared.rw_lock.waits.WriteArc.{WriteArc}
use Rattle.event_locks.specs.declared.semaphore.acquire.Acquire.{Acquire}
use Rattle.event_locks.specs.declared.semaphore.acquire.AcquireArc.{AcquireArc}

module _ {T R : Type 0} where
  -- a wait for a mutex that it borrows is not over, and this is the source of the mutex
  abbrev pub lock_awaits : Lock T R → ℕ → Type 0
  lock_awaits lock s = IsSomeAnd lock.obtaining.hold (λ hold. s ≡ hold.lender.lock.now.source)

  -- a wait for a mutex that it shares is not over, and this is the source of the mutex
  abbrev pub lock_arc_awaits : LockArc T R → ℕ → Type 0
  lock_arc_awaits lock s = IsSomeAnd lock.obtaining.hold (λ hold. s ≡ (arc_value hold.lock).source)

  -- a wait to read in a lock that it borrows is not over, and this is the source of the lock
  abbrev pub read_awaits : Read T R → ℕ → Type 0
  read_awaits read s = IsSomeAnd read.obtaining.hold (λ hold. s ≡ hold.lender.lock.now.source)

  -- a wait to read in a lock that it shares is not over, and this is the source of the lock
  abbrev pub read_arc_awaits : ReadArc T R → ℕ → Type 0
  read_arc_awaits read s = IsSomeAnd read.obtaining.hold (λ hold. s ≡ (arc_value hold.lock).source)

  -- a wait to write in a lock that it borrows is not over, and this is the source of the lock
  abbrev pub write_awaits : Write T R → ℕ → Type 0
  write_awaits write s = IsSomeAnd write.obtaining.hold (λ hold. s ≡ hold.lender.lock.now.source)

  -- a wait to write in a lock that it shares is not over, and this is the source of the lock
  abbrev pub write_arc_awaits : WriteArc T R → ℕ → Type 0
  write_arc_awaits write s = IsSomeAnd write.obtaining.hold (λ hold. s ≡ (arc_value hold.lock).source)

module _ {R : Type 0} where
  -- a wait for a permit of a semaphore that it borrows is not over, and this is the source of the semaphore
  abbrev pub acquire_awaits : Acquire R → ℕ → Type 0
  acquire_awaits acquire s = IsSomeAnd acquire.obtaining.hold (λ hold. s ≡ hold.lock.now.source)

  -- a wait for a permit of a semaphore that it shares is not over, and this is the source of the semaphore
  abbrev pub acquire_arc_awaits : AcquireArc R → ℕ → Type 0
  acquire_arc_awaits acquire s = IsSomeAnd acquire.obtaining.hold (λ hold. s ≡ (arc_value hold.lock).source)
