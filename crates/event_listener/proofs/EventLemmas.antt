-- What a notification answers.
use Rattle.std.proofs.Common.{◌≤◌, ℕ, Bool, true, false, arith, Result, Ok, Err}
use Rattle.std.specs.declared.alloc.AllocError.{AllocError}
use Rattle.event_queue.specs.declared.reply.NotifyError.{NotifyError}
use Rattle.event_queue.specs.Notify.{Notifies}
use Rattle.event_queue.specs.Queue.{Queue, how_many}
use Rattle.event_listener.specs.Event.{TellsSome}

module _ {T W : Type 0} where
  at_most : (count : ℕ) (additional : Bool) (q : Queue T W) → how_many count additional q ≤ count
  at_most count true q = omega arith
  at_most count false q = omega arith

  -- a notification of the queue is answered as the event says
  pub tells_some : {N : Type 0} (gives : N → Result T AllocError → N → Type 0) (count : ℕ) (additional : Bool) (old : Queue T W) (source : N) (answer : Result ℕ NotifyError) (new : Queue T W) (source' : N)
      → Notifies gives count additional old source answer new source' → TellsSome gives count source answer
  tells_some gives count additional old source (Ok told) new source' notified =
      (omega (arith, at_most count additional old, notified.0), (source', record { tags = notified.1.tags; given = notified.1.given; as_many = notified.1.as_many }))
  tells_some gives count additional old source (Err error) new source' notified =
      (omega (arith, at_most count additional old, notified.0), record { between = notified.1.between; after = source'; gave = record { tags = notified.1.tells.tags; given = notified.1.tells.given; as_many = notified.1.tells.as_many }; refused = notified.1.refuses })
