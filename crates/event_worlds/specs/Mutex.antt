-- The mutex world: the clients of one lock, who stand in one line, and the table of their steps.
use Rattle.std.specs.Prelude.{ℕ, false, if◌then◌else◌, List, replicate, slice_get, slice_set, Option, Some, None, is_none, option_and_then, option_map}
use Rattle.event_worlds.specs.declared.world.acts.Act.{Act}
use Rattle.event_worlds.specs.declared.world.acts.Act.TheVariants.{Go}
use Rattle.event_worlds.specs.declared.world.acts.Step.{Step}
use Rattle.event_worlds.specs.declared.world.mutex.Move.{Move}
use Rattle.event_worlds.specs.declared.world.place.Place.{Place}
use Rattle.event_worlds.specs.declared.world.place.Place.TheVariants.{Idle, First, ToListen, Second, Ending, ToRegister, Holding, Releasing}
use Rattle.event_worlds.specs.Line.{Line, empty_line, notified}
use Rattle.event_worlds.specs.Steps.{after_step, after_steps, steps_taken}
use Rattle.event_worlds.specs.Waiting.{waits}

-- who has the lock; the place of each client, by its number; who is notified, who waits and who has its wake-up
pub record MutexState : Type 0 where
  pub holder : Option ℕ
  pub places : List Place
  pub line : Line

-- nobody has the lock, nobody wants it, and nobody is in line
abbrev pub start : ℕ → ℕ → MutexState
start clients first =
    record { holder = None; places = replicate clients Idle; line = empty_line false clients first }

-- the client is at another place
abbrev pub moved : Option ℕ → Place × Line → Move × Line
moved holder to = (record { holder = holder; place = to.0 }, to.1)

-- a try: whoever finds the lock free takes it, and goes to the first place, and else to the second
abbrev pub tried : Place → Place → ℕ → Option ℕ → Move
tried got busy client holder =
    if is_none holder
    then record { holder = Some client; place = got }
    else record { holder = holder; place = busy }

-- the table: who has the lock after this act of a client at this place, where the client is, and the line; none where
-- it is no step
abbrev pub from : Act → Place → ℕ → Option ℕ → Line → Option (Move × Line)
from Go (First woken) client holder line = Some (tried Holding ToListen client holder, line)
from Go Second client holder line = Some (tried Ending ToRegister client holder, line)
from Go Holding client holder line = Some (moved None (Releasing, line))
from Go Releasing client holder line = Some (moved holder (Idle, notified 1 line))
from act place client holder line = option_map (moved holder) (waits act place client line)

-- the state once the client has made this move, and the line is this
abbrev pub goes : ℕ → MutexState → Move × Line → MutexState
goes client state to =
    record { holder = to.0.holder; places = slice_set state.places client to.0.place; line = to.1 }

-- the state after this act of this client, or none where it is no step
abbrev pub next : ℕ → Act → MutexState → Option MutexState
next client act state =
    option_and_then (λ place. option_map (goes client state) (from act place client state.holder state.line)) (slice_get state.places client)

abbrev pub next_of : Step → MutexState → Option MutexState
next_of step = next step.client step.act

-- the state after this act of this client, where what is no step changes nothing
abbrev pub after : ℕ → Act → MutexState → MutexState
after client = after_step (next client)

-- the state after a schedule, and how many of its steps are steps of the table

abbrev pub after_all : List Step → MutexState → MutexState
after_all = after_steps next_of

abbrev pub taken : List Step → MutexState → ℕ
taken = steps_taken next_of
