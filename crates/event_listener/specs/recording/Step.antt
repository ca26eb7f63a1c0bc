-- One step of a recorded queue: a call, the task that came with it, and what the queue answered.
use Rattle.std.specs.Prelude.{◌≡◌, ◌≢◌, ◌↔◌, ◌<◌, ℕ, Bool, true, false, List, [], length, replicate, Option, Some, None, Err, option_map, IsTrue, ⊤}
use Rattle.event_queue.specs.declared.key.Key.{Key}
use Rattle.event_queue.specs.declared.reply.ListenError.TheVariants.{Memory}
use Rattle.event_queue.specs.declared.reply.State.{State}
use Rattle.event_queue.specs.declared.reply.State.TheVariants as state
use Rattle.event_queue.specs.Queue.{Queue, listeners_of, how_many, after_telling, tasks_of}
use Rattle.event_queue.specs.Insert.{Inserts}
use Rattle.event_queue.specs.Register.{Registers}
use Rattle.event_queue.specs.Remove.{Removes, woken_by_removal}
use Rattle.event_wait.specs.declared.lock.task.Task.{Task}
use Rattle.event_listener.specs.declared.recorded.call.StepCall.{StepCall}
use Rattle.event_listener.specs.declared.recorded.call.StepCall.TheVariants as step
use Rattle.event_listener.specs.declared.recorded.call.RecordedCall.{RecordedCall}
use Rattle.event_listener.specs.declared.recorded.call.RecordedCall.TheVariants as call
use Rattle.event_listener.specs.declared.recorded.reply.RecordedReply.{RecordedReply}
use Rattle.event_listener.specs.declared.recorded.reply.RecordedReply.TheVariants as reply
use Rattle.event_listener.specs.declared.recorded.reply.Former.{Former}
use Rattle.event_listener.specs.declared.recorded.reply.Former.TheVariants as former

-- a call without its task
abbrev pub without_task : {T : Type 0} → StepCall T → RecordedCall T
without_task step.Listen = call.Listen
without_task (step.Register key task) = call.Register key
without_task (step.Remove key propagate) = call.Remove key propagate
without_task (step.Notify count additional tag) = call.Notify count additional tag
without_task step.TotalListeners = call.TotalListeners
without_task step.IsNotified = call.IsNotified

-- the task that comes with a call, if one does
abbrev pub task_of : {T : Type 0} → StepCall T → Option Task
task_of (step.Register key task) = Some task
task_of _ = None

-- how many listeners a call inserts
abbrev pub newcomers_of : {T : Type 0} → RecordedCall T → ℕ
newcomers_of call.Listen = 1
newcomers_of _ = 0

-- what a listener was, without its task
abbrev pub former_of : {T W : Type 0} → State T W → Former T
former_of state.Created = former.Created
former_of (state.Notified additional tag) = former.Notified additional tag
former_of (state.Task task) = former.Task
former_of (state.Passed to) = former.Passed to
former_of (state.Lost additional tag) = former.Lost additional tag

module _ {T W : Type 0} where
  -- a removal by `Removes`, answered without the task
  pub record RemovesAs (old : Queue T W) (key : Key) (propagate : Bool) (answer : Option (Former T)) (new : Queue T W) : Type 0 where
    pub was : Option (State T W)
    pub answered : answer ≡ option_map former_of was
    pub removes : Removes old key propagate was new

  -- what a call answers, and the queue that it leaves; each listener notified gets the one tag; no call has the reply of
  -- another, and only a registration comes with a task
  abbrev pub Steps : Queue T W → RecordedCall T → Option W → RecordedReply T → Queue T W → Type 0
  Steps old call.Listen None (reply.Listened answer) new = Inserts old answer new
  Steps old (call.Register key) (Some task) (reply.Registered answer) new = Registers old key task answer new
  Steps old (call.Remove key propagate) None (reply.Removed answer) new = RemovesAs old key propagate answer new
  Steps old (call.Notify count additional tag) None (reply.Notified told) new =
      (told ≡ how_many count additional old) × (new ≡ after_telling additional (replicate told tag) old)
  Steps old call.TotalListeners None (reply.TotalListeners total) new = (total ≡ listeners_of old) × (new ≡ old)
  Steps old call.IsNotified None (reply.IsNotified told) new =
      (IsTrue told ↔ (0 < length old.told)) × (new ≡ old)
  Steps old _ _ _ new = ⊥

  -- the same, however much was spare before the call and is spare after it
  pub record StepsAnySpare (old : Queue T W) (call : RecordedCall T) (task : Option W) (reply : RecordedReply T) (new : Queue T W) : Type 0 where
    pub spare : ℕ
    pub spare' : ℕ
    pub step : Steps (record old { spare = spare }) call task reply (record new { spare = spare' })

  -- the tasks that a call wakes, in order
  abbrev pub woken_by_call : RecordedCall T → Queue T W → List W
  woken_by_call (call.Remove key propagate) old = woken_by_removal key propagate old
  woken_by_call (call.Notify count additional tag) old = tasks_of (how_many count additional old) old
  woken_by_call _ old = []

-- a removal that answers this propagated no notification
abbrev pub WasKept : {T : Type 0} → Option (Former T) → Type 0
WasKept (Some (former.Passed to)) = ⊥
WasKept (Some (former.Lost additional tag)) = ⊥
WasKept _ = ⊤

-- the reply is one that a record has of this call: room is made first, so no insertion fails for memory, and only a
-- removal that propagates answers where a notification went
abbrev pub IsReplyTo : {T : Type 0} → RecordedCall T → RecordedReply T → Type 0
IsReplyTo call.Listen (reply.Listened answer) = answer ≢ Err Memory
IsReplyTo (call.Register key) (reply.Registered answer) = ⊤
IsReplyTo (call.Remove key true) (reply.Removed answer) = ⊤
IsReplyTo (call.Remove key false) (reply.Removed answer) = WasKept answer
IsReplyTo (call.Notify count additional tag) (reply.Notified told) = ⊤
IsReplyTo call.TotalListeners (reply.TotalListeners total) = ⊤
IsReplyTo call.IsNotified (reply.IsNotified told) = ⊤
IsReplyTo _ _ = ⊥
