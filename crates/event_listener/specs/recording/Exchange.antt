-- The steps of a recorded queue that a hand makes, each with what stands beside the queue: the sink of the tasks that it
-- wakes, or the context of the task that polls.
use Rattle.std.specs.Prelude.{◌≡◌, ℕ, Option}
use Rattle.event_queue.specs.declared.reply.RegisterResult.TheVariants as register
use Rattle.event_queue.specs.Queue.{Queue}
use Rattle.event_wait.specs.declared.lock.task.Task.{Task}
use Rattle.event_listener.specs.declared.recorded.call.RecordedCall.{RecordedCall}
use Rattle.event_listener.specs.declared.recorded.reply.RecordedReply.{RecordedReply}
use Rattle.event_listener.specs.declared.recorded.reply.RecordedReply.TheVariants as reply
use Rattle.event_listener.specs.recording.Step.{Steps}

-- it is a step with some task, or with none
pub record StepsWithSome {T W : Type 0} (old : Queue T W) (call : RecordedCall T) (answer : RecordedReply T) (new : Queue T W) : Type 0 where
  pub task : Option W
  pub step : Steps old call task answer new

module _ {T C : Type 0} (steps : Queue T Task × C → RecordedReply T → Queue T Task × C → Type 0) where
  -- it is such a step, however much was spare before and is spare after it
  pub record StepsBeside (old : Queue T Task) (before : C) (answer : RecordedReply T) (new : Queue T Task) (after : C) : Type 0 where
    pub spare : ℕ
    pub spare' : ℕ
    pub step : steps (record old { spare = spare }, before) answer (record new { spare = spare' }, after)

  -- it is such a step of some queue
  pub record StepsOfSome (before : C) (answer : RecordedReply T) (after : C) : Type 0 where
    pub old : Queue T Task
    pub new : Queue T Task
    pub step : steps (old, before) answer (new, after)

module _ {C : Type 0} (exchanged : C → Option Task → Task → C → Type 0) where
  -- one task was exchanged
  pub record ExchangedOne (before after : C) : Type 0 where
    pub handed_out : Option Task
    pub task : Task
    pub made : exchanged before handed_out task after

  -- a task is exchanged exactly if the listener waits
  abbrev pub ExchangesIfWaiting : {T : Type 0} → C → RecordedReply T → C → Type 0
  ExchangesIfWaiting before (reply.Registered register.Registered) after = ExchangedOne before after
  ExchangesIfWaiting before _ after = after ≡ before
