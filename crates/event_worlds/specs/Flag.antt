-- The flag world: clients that wait until a flag is set, setters that set it, and the tables of their steps.
use Rattle.std.specs.Prelude.{ℕ, ◌-◌, Bool, true, false, nat_lt, if◌then◌else◌, List, length, replicate, slice_get, slice_set, Option, Some, None, option_and_then, option_map}
use Rattle.event_worlds.specs.declared.world.acts.Act.{Act}
use Rattle.event_worlds.specs.declared.world.acts.Act.TheVariants.{Go}
use Rattle.event_worlds.specs.declared.world.acts.Step.{Step}
use Rattle.event_worlds.specs.declared.world.flag.FlagPlace.{FlagPlace}
use Rattle.event_worlds.specs.declared.world.flag.FlagPlace.TheVariants.{Check1, ToListen, Check2, Dropping, ToRegister, Parked, Done}
use Rattle.event_worlds.specs.declared.world.flag.SetterMove.{SetterMove}
use Rattle.event_worlds.specs.declared.world.flag.SetterPlace.{SetterPlace}
use Rattle.event_worlds.specs.declared.world.flag.SetterPlace.TheVariants.{ToSet, ToNotify, Done as IsDone}
use Rattle.event_worlds.specs.declared.world.place.Place.{Place}
use Rattle.event_worlds.specs.declared.world.place.Place.TheVariants as lock
use Rattle.event_worlds.specs.declared.world.place.Place.TheVariants.{Idle, First, Second, Ending}
use Rattle.event_worlds.specs.Line.{Line, empty_line, everybody, notified, dropped}
use Rattle.event_worlds.specs.Steps.{after_step, after_steps, steps_taken}
use Rattle.event_worlds.specs.Waiting.{waits}

-- whether the flag is set; the place of each client, by its number; the place of each setter; who is notified, who
-- waits and who has a wake-up
pub record FlagState : Type 0 where
  pub flag : Bool
  pub places : List FlagPlace
  pub setters : List SetterPlace
  pub line : Line

-- the flag is not set, and nobody is in line
abbrev pub start : ℕ → ℕ → ℕ → FlagState
start clients setters first = record {
  flag = false;
  places = replicate clients Check1;
  setters = replicate setters ToSet;
  line = empty_line false clients first;
}

-- the same place in the loop of a client of a lock

abbrev pub lock_place : FlagPlace → Place
lock_place Check1 = First true
lock_place ToListen = lock.ToListen
lock_place Check2 = Second
lock_place Dropping = Ending
lock_place ToRegister = lock.ToRegister
lock_place Parked = lock.Parked
lock_place Done = Idle

-- and back
abbrev pub flag_place : Place → FlagPlace
flag_place (First woken) = Check1
flag_place lock.ToListen = ToListen
flag_place Second = Check2
flag_place Ending = Dropping
flag_place lock.ToRegister = ToRegister
flag_place lock.Parked = Parked
flag_place _ = Done

-- the client is at that place
abbrev pub moved : Place × Line → FlagPlace × Line
moved to = (flag_place to.0, to.1)

-- the table of a client: from this place, with the flag set or not, where it goes, and the line then; none where
-- it has no step
abbrev pub from : FlagPlace → ℕ → Bool → Line → Option (FlagPlace × Line)
from Check1 client flag line = Some (if flag then Done else ToListen, line)
from Check2 client flag line = Some (if flag then Dropping else ToRegister, line)
from Dropping client flag line = Some (Done, dropped client line)
from Done client flag line = None
from place client flag line = option_map moved (waits Go (lock_place place) client line)

-- the state once this client has gone there, and the line is this
abbrev pub goes : ℕ → FlagState → FlagPlace × Line → FlagState
goes client state to = record state { places = slice_set state.places client to.0; line = to.1 }

-- the table of a setter: from this place, with the flag set or not, where it goes, and the flag and the line then
abbrev pub from_setter : SetterPlace → Bool → Line → Option (SetterMove × Line)
from_setter ToSet flag line = Some (record { place = ToNotify; flag = true }, line)
from_setter ToNotify flag line = Some (record { place = IsDone; flag = flag }, notified everybody line)
from_setter IsDone flag line = None

-- the state once this setter has made this move, and the line is this
abbrev pub setter_goes : ℕ → FlagState → SetterMove × Line → FlagState
setter_goes setter state to =
    record state { flag = to.0.flag; setters = slice_set state.setters setter to.0.place; line = to.1 }

-- the state after the step of a client, and of a setter

abbrev pub next_of_client : ℕ → FlagState → Option FlagState
next_of_client client state =
    option_and_then (λ place. option_map (goes client state) (from place client state.flag state.line)) (slice_get state.places client)

abbrev pub next_of_setter : ℕ → FlagState → Option FlagState
next_of_setter setter state =
    option_and_then (λ place. option_map (setter_goes setter state) (from_setter place state.flag state.line)) (slice_get state.setters setter)

-- the state after this act of this actor, or none where it is no step; the numbers after the clients' are the
-- setters'
abbrev pub next : ℕ → Act → FlagState → Option FlagState
next actor Go state =
    if nat_lt actor (length state.places)
    then next_of_client actor state
    else next_of_setter (actor - length state.places) state
next actor _ state = None

abbrev pub next_of : Step → FlagState → Option FlagState
next_of step = next step.client step.act

-- the state after this act of this actor, where what is no step changes nothing
abbrev pub after : ℕ → Act → FlagState → FlagState
after actor = after_step (next actor)

-- the state after a schedule, and how many of its steps are steps of the tables

abbrev pub after_all : List Step → FlagState → FlagState
after_all = after_steps next_of

abbrev pub taken : List Step → FlagState → ℕ
taken = steps_taken next_of
