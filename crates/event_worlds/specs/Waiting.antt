-- The steps that are the same in each lock: those of a client's place and of its line alone.
use Rattle.std.specs.Prelude.{ℕ, true, false, if◌then◌else◌, Option, Some, None}
use Rattle.event_worlds.specs.declared.world.acts.Act.{Act}
use Rattle.event_worlds.specs.declared.world.acts.Act.TheVariants.{Go, Poll, TimeOut, Cancel}
use Rattle.event_worlds.specs.declared.world.place.Place.{Place}
use Rattle.event_worlds.specs.declared.world.place.Place.TheVariants.{Idle, First, ToListen, Second, Ending, ToRegister, Parked, Holding}
use Rattle.event_worlds.specs.Line.{Line, is_told, has_wake, has_serial_left, joined, registered, told_left, waiting_left, wake_lost, dropped}

-- where this act takes a client that is at this place, and the line then; none where it is not one of these steps
abbrev pub waits : Act → Place → ℕ → Line → Option (Place × Line)
waits Go Idle client line = Some (First false, line)
waits Go ToListen client line = Some (if has_serial_left line then (Second, joined client line) else (Idle, line))
waits Go Ending client line = Some (Holding, dropped client line)
waits Go ToRegister client line =
    Some (if is_told client line then (First true, told_left client line) else (Parked, registered client line))
waits Go Parked client line = if has_wake client line then Some (ToRegister, wake_lost client line) else None
waits Poll Parked client line = Some (ToRegister, wake_lost client line)
waits TimeOut Parked client line =
    Some (if is_told client line then (First true, told_left client line) else (Idle, waiting_left client line))
waits Cancel ToRegister client line = Some (Idle, dropped client line)
waits Cancel Parked client line = Some (Idle, dropped client line)
waits _ _ client line = None
