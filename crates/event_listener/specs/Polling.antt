-- What a poll answers, what it found, and what it leaves of a listener.
use Rattle.std.specs.Prelude.{◌≡◌, true, false, Result, Ok, Err, IsErr, IfOk, OnErr}
use Rattle.futures.specs.Poll.{IfReady, OnPending}
use Rattle.event_listener.specs.Listening.{Standing}
use Rattle.futures.specs.declared.task.Poll.{Poll}
use Rattle.futures.specs.declared.task.Poll.TheVariants.{Ready, Pending}
use Rattle.event_queue.specs.declared.reply.RegisterResult.{RegisterResult}
use Rattle.event_queue.specs.declared.reply.RegisterResult.TheVariants.{Notified, Registered, NeverInserted}

-- what a poll answers whose registration found this, with the error for a listener that is not in the queue
abbrev pub poll_of : {T E : Type 0} → RegisterResult T → E → Result (Poll T) E
poll_of (Notified tag) absent = Ok (Ready tag)
poll_of Registered absent = Ok Pending
poll_of NeverInserted absent = Err absent

-- what the registration found of a poll with this answer
abbrev pub found_by : {T E : Type 0} → Result (Poll T) E → RegisterResult T
found_by (Ok (Ready tag)) = Notified tag
found_by (Ok Pending) = Registered
found_by (Err absent) = NeverInserted

-- what a poll leaves of a listener: one that gives the tag finishes it, one that is pending leaves it as it was, and only a
-- finished one, which is in no queue, has an error
pub record IsPolled {T E : Type 0} (before : Standing) (answer : Result (Poll T) E) (after : Standing) : Type 0 where
  pub event : after.event_number ≡ before.event_number
  pub finished : before.is_finished ≡ true → IsErr answer
  pub ready : IfOk answer (λ polled. IfReady polled (λ _. after.is_finished ≡ true))
  pub pending : IfOk answer (λ polled. OnPending polled (after.is_finished ≡ false))
  pub same : IfOk answer (λ polled. OnPending polled (after ≡ before))
  pub gone : OnErr answer ((before.is_finished ≡ true) × (after.is_finished ≡ true))
