-- A registration whose task is made of the one stored is a registration with some task.
use Rattle.std.proofs.Common.{refl, Some}
use Rattle.std.specs.Prelude.{Option}
use Rattle.event_queue.specs.declared.key.Key.{Key}
use Rattle.event_queue.specs.declared.reply.RegisterResult.{RegisterResult}
use Rattle.event_queue.specs.declared.reply.RegisterResult.TheVariants.{Notified, Registered, NeverInserted}
use Rattle.event_queue.specs.Queue.{Queue}
use Rattle.event_queue.specs.Exchange.{RegistersWith}
use Rattle.event_wait.specs.declared.lock.task.Task.{Task}
use Rattle.event_wait.specs.declared.lock.task.TaskKind.TheVariants.{Nobody}
use Rattle.event_listener.specs.declared.recorded.call.RecordedCall.TheVariants.{Register}
use Rattle.event_listener.specs.declared.recorded.reply.RecordedReply.TheVariants as reply
use Rattle.event_listener.specs.recording.Exchange.{StepsWithSome}

module _ {T C : Type 0} (exchanged : C → Option Task → Task → C → Type 0) (old : Queue T Task) (key : Key) (before : C) where
  unmade : Task
  unmade = record { 0 = Nobody }

  pub registers_with_some : (answer : RegisterResult T) (new : Queue T Task) (after : C) → RegistersWith exchanged old key before answer new after → StepsWithSome old (Register key) (reply.Registered answer) new
  registers_with_some (Notified tag) new after step = record { task = Some unmade; step = (step.0, step.1) }
  registers_with_some Registered new after step = record { task = Some step.task; step = (rw step.found refl, step.stored) }
  registers_with_some NeverInserted new after step = record { task = Some unmade; step = (step.0, step.1) }
