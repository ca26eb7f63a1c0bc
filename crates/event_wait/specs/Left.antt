-- What one was that left a queue.
use Rattle.std.specs.Prelude.{ℕ, Option, Some, None}
use Rattle.event_queue.specs.declared.reply.State.{State}
use Rattle.event_queue.specs.declared.reply.State.TheVariants.{Created, Notified, Task, Passed, Lost as WasLost}
use Rattle.event_wait.specs.declared.waiters.Left.{Left}
use Rattle.event_wait.specs.declared.waiters.Left.TheVariants.{Told, Waited, Absent}

abbrev pub left_as : {T W : Type 0} → Option (State T W) → Left
left_as None = Absent
left_as (Some Created) = Waited
left_as (Some (Task task)) = Waited
left_as (Some (Notified additional tag)) = Told
left_as (Some (Passed to)) = Absent
left_as (Some (WasLost additional tag)) = Absent

-- how many of those notified, and of those that wait, left by it
abbrev pub told_of : Left → ℕ
told_of Told = 1
told_of Waited = 0
told_of Absent = 0

abbrev pub waited_of : Left → ℕ
waited_of Told = 0
waited_of Waited = 1
waited_of Absent = 0
