-- What a listener's calls are in the history of its event's queue, and how a wait ends.
use Rattle.std.specs.Prelude.{◌≡◌, ◌⊎◌, Bool, true, false, Option, Some, None, Result, Ok, Err, ⊤}
use Rattle.futures.specs.declared.task.Poll.{Poll}
use Rattle.event_queue.specs.declared.key.Key.{Key}
use Rattle.event_queue.specs.declared.reply.RegisterResult.{RegisterResult}
use Rattle.event_queue.specs.declared.reply.RegisterResult.TheVariants as register
use Rattle.event_queue.specs.declared.reply.State.{State}
use Rattle.event_queue.specs.declared.reply.State.TheVariants as state
use Rattle.event_wait.specs.Rounds.{SomeRounds, OneRoundAtLeast}
use Rattle.event_wait.specs.declared.lock.task.Task.{Task}
use Rattle.event_wait.specs.declared.lock.wait.Refused.{Refused}
use Rattle.event_wait.specs.declared.request.Attempted.{Attempted}
use Rattle.event_wait.specs.declared.request.Attempted.TheVariants.{Done, Waits, Absent}
use Rattle.event_wait.specs.declared.request.Attempted.TheVariants as attempted
use Rattle.event_history.specs.declared.queue_call.QueueCall.{QueueCall}
use Rattle.event_history.specs.declared.queue_call.QueueCall.TheVariants.{Register, Remove}
use Rattle.event_history.specs.History.{Extends, Looks, both_views}
use Rattle.event_history.specs.Queue.{queue_machine}
use Rattle.event_listener.specs.Listening.{Known, Listening, Standing}
use Rattle.event_listener.specs.Polling.{found_by}
use Rattle.event_listener.specs.declared.listener.wait_error.WaitError.{WaitError}
use Rattle.event_listener.specs.declared.listener.wait_error.WaitError.TheVariants.{NeverInserted, Memory}
use Rattle.event_listener.specs.declared.listener.wait_error.WaitReason.{WaitReason}
use Rattle.event_listener.specs.declared.listener.wait_error.WaitReason.TheVariants as reason

-- a wait that fails for memory returns the same listener, where it was; no other wait fails but that of a finished one
abbrev pub HandsBack : {L : Type 0} → (L → Standing) → L → WaitError L → Type 0
HandsBack standing listener NeverInserted = (standing listener).is_finished ≡ true
HandsBack standing listener (Memory back) = standing back ≡ standing listener

-- of the listener that a wait returns which fails for memory, this holds
abbrev pub IfBack : {L : Type 0} → WaitError L → (L → Type 0) → Type 0
IfBack NeverInserted holds = ⊤
IfBack (Memory back) holds = holds back

-- the same error without the listener
abbrev pub reason_of : {L : Type 0} → WaitError L → WaitReason
reason_of NeverInserted = reason.NeverInserted
reason_of (Memory listener) = reason.Memory

-- what a wait answers whose place in the queue got this
abbrev pub answer_of : {T E R : Type 0} → Result (Option (Result T E)) (Refused R) → Result (Option T) WaitReason
answer_of (Ok (Some (Ok tag))) = Ok (Some tag)
answer_of (Ok (Some (Err gone))) = Err reason.NeverInserted
answer_of (Ok None) = Ok None
answer_of (Err error) = Err reason.Memory

-- an answer without the listener
abbrev pub answered : {L T : Type 0} → Result T (WaitError L) → Result T WaitReason
answered (Ok output) = Ok output
answered (Err error) = Err (reason_of error)

module _ {T W : Type 0} where
  -- what a removal found says that the listener was notified
  abbrev pub was_notified : Option (State T W) → Bool
  was_notified (Some (state.Notified additional tag)) = true
  was_notified (Some (state.Passed to)) = true
  was_notified (Some (state.Lost additional tag)) = true
  was_notified (Some state.Created) = false
  was_notified (Some (state.Task task)) = false
  was_notified None = false

  -- it found a listener that waited
  abbrev pub IsWaiting : Option (State T W) → Type 0
  IsWaiting (Some state.Created) = ⊤
  IsWaiting (Some (state.Task task)) = ⊤
  IsWaiting _ = ⊥

  module _ {E : Type 0} where
    -- an attempt is a registration, answered by what that finds
    abbrev pub Attempting : {R : Type 0} → Key → Attempted (Result T E) R → QueueCall T W → Type 0
    Attempting key (Done (Ok tag)) call = call ≡ Register key (register.Notified tag)
    Attempting key (Done (Err gone)) call = call ≡ Register key register.NeverInserted
    Attempting key (Waits its) call = call ≡ Register key register.Registered
    Attempting key Absent call = ⊥
    Attempting key (attempted.Refused error) call = ⊥

    -- leaving at the limit is a removal that passes nothing on: with the tag that came until then, with none, or with the
    -- error of one that is not there
    abbrev pub LeftWith : Option (Result T E) → Option (State T W) → Type 0
    LeftWith (Some (Ok tag)) former = (additional : Bool) × (former ≡ Some (state.Notified additional tag))
    LeftWith (Some (Err gone)) former = former ≡ None
    LeftWith None former = IsWaiting former

    abbrev pub Leaving : {R : Type 0} → Key → Result (Option (Result T E)) R → QueueCall T W → Type 0
    Leaving key (Ok answer) call = (former : Option (State T W)) × LeftWith answer former × (call ≡ Remove key false former)
    Leaving key (Err error) call = ⊥

module _ {T : Type 0} where
  -- the history after the call begins with all that the hand knew, and ends with the call, the hand's next
  abbrev pub Calls : Known T → QueueCall T Task → Known T → Type 0
  Calls = Extends queue_machine

  -- a poll is one registration, answered by what that finds
  abbrev pub PollsBy : {E : Type 0} → Listening T → Result (Poll T) E → Listening T → Type 0
  PollsBy before answer after = Calls before.knows (Register before.standing.key (found_by answer)) after.knows

  -- a removal passes on or does not; it found the listener notified, or not, and its hand knows this after it
  abbrev pub RemovesAs : Bool → Listening T → Bool → Known T → Type 0
  RemovesAs propagate before told after =
      (former : Option (State T Task)) × (told ≡ was_notified former) × Calls before.knows (Remove before.standing.key propagate former) after

  -- a discard, or a drop, is one removal
  abbrev pub RemovesBy : Bool → Listening T → Bool → Type 0
  RemovesBy propagate before told =
      (former : Option (State T Task)) × (after : Known T) × (told ≡ was_notified former) × Calls before.knows (Remove before.standing.key propagate former) after

  -- the same, and another hand took in the listener's
  abbrev pub RemovesHeard : Bool → Listening T → Bool → Known T → Known T → Type 0
  RemovesHeard propagate before told knows heard =
      (former : Option (State T Task)) × (after : Known T) × (told ≡ was_notified former) × Calls before.knows (Remove before.standing.key propagate former) after × Looks queue_machine (both_views knows after) heard

  module _ (key : Key) where
    -- a registration stored a task
    abbrev pub Round : Known T → Known T → Type 0
    Round before after = Calls before (Register key register.Registered) after

    -- after some rounds a registration found this
    pub record Finds (before : Known T) (reply : RegisterResult T) (after : Known T) : Type 0 where
      pub between : Known T
      pub waited : SomeRounds Round before between
      pub found : Calls between (Register key reply) after

    -- after a round at least the limit had passed, and a removal that passed nothing on found this
    pub record Leaves (limited : Type 0) (before : Known T) (former : Option (State T Task)) (after : Known T) : Type 0 where
      pub has_limit : limited
      pub between : Known T
      pub waited : OneRoundAtLeast Round before between
      pub left : Calls between (Remove key false former) after

    -- how a wait ends: with the tag, found before the limit or when it left; with none, by leaving; or where it was, if
    -- memory was refused. It is never found that the listener is in no queue
    abbrev pub WaitsBy : Type 0 → Known T → Result (Option T) WaitReason → Known T → Type 0
    WaitsBy limited before (Ok (Some tag)) after =
        Finds before (register.Notified tag) after ⊎ ((additional : Bool) × Leaves limited before (Some (state.Notified additional tag)) after)
    WaitsBy limited before (Ok None) after = (former : Option (State T Task)) × IsWaiting former × Leaves limited before former after
    WaitsBy limited before (Err reason.Memory) after = SomeRounds Round before after
    WaitsBy limited before (Err reason.NeverInserted) after = ⊥
