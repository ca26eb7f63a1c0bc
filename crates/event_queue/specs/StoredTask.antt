-- What a registration found of its key, and what a waiting listener then stores. No public clause cites this module.
use Rattle.std.specs.Prelude.{Option, Some, None}
use Rattle.event_queue.specs.declared.notice.Notice.{Notice}
use Rattle.event_queue.specs.declared.node.Side.{Side}
use Rattle.event_queue.specs.declared.node.Side.TheVariants as side
use Rattle.event_queue.specs.declared.reply.RegisterResult.{RegisterResult}
use Rattle.event_queue.specs.declared.reply.RegisterResult.TheVariants.{Notified, Registered, NeverInserted}

-- what a registration answers that found this of its listener
abbrev pub answer_of : {T : Type 0} → Option (Side (Notice T) Unit) → RegisterResult T
answer_of None = NeverInserted
answer_of (Some (side.Before notice)) = Notified notice.tag
answer_of (Some (side.After _)) = Registered

-- a task is stored of which this holds
abbrev pub StoresWhat : {W C : Type 0} → (W → C → Type 0) → Option W → C → Type 0
StoresWhat made None after = ⊥
StoresWhat made (Some task) after = made task after
