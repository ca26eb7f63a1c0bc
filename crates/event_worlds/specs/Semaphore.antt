-- The semaphore world: the clients of a lock of several permits, who stand in one line, and the table of their steps.
use Rattle.std.specs.Prelude.{ℕ, ◌+◌, ◌-◌, true, nat_lt, if◌then◌else◌, List, replicate, slice_get, slice_set, Option, Some, None, option_and_then, option_map}
use Rattle.event_worlds.specs.declared.world.acts.Act.TheVariants as act
use Rattle.event_worlds.specs.declared.world.acts.SemAct.{SemAct}
use Rattle.event_worlds.specs.declared.world.acts.SemAct.TheVariants.{Go, More, TimeOut, Cancel}
use Rattle.event_worlds.specs.declared.world.acts.SemStep.{SemStep}
use Rattle.event_worlds.specs.declared.world.place.Place.{Place}
use Rattle.event_worlds.specs.declared.world.place.Place.TheVariants.{Idle, First, ToListen, Second, Ending, ToRegister, Holding, Releasing}
use Rattle.event_worlds.specs.declared.world.semaphore.SemaphoreClient.{SemaphoreClient}
use Rattle.event_worlds.specs.declared.world.semaphore.SemaphoreMove.{SemaphoreMove}
use Rattle.event_worlds.specs.Line.{Line, empty_line, notified}
use Rattle.event_worlds.specs.Steps.{after_step, after_steps, steps_taken}
use Rattle.event_worlds.specs.Waiting.{waits}

-- how many permits there are, and how many of them are free; of each client, by its number, its place, how many
-- permits it holds, and of how many it still is to notify; who is notified, who waits and who has its wake-up
pub record SemaphoreState : Type 0 where
  pub permits : ℕ
  pub free : ℕ
  pub clients : List SemaphoreClient
  pub line : Line

-- a client that wants no permit
abbrev pub idle : SemaphoreClient
idle = record { place = Idle; held = 0; owed = 0 }

-- all permits are free, nobody wants one, and nobody is in line, whose notifications are additional
abbrev pub start : ℕ → ℕ → SemaphoreState
start clients permits = record {
  permits = permits;
  free = permits;
  clients = replicate clients idle;
  line = empty_line true clients 0;
}

-- the client is at another place
abbrev pub moved : SemaphoreClient → ℕ → Place × Line → SemaphoreMove × Line
moved own free to = (record { own = record own { place = to.0 }; free = free }, to.1)

-- a try: whoever finds a permit free takes one, and goes to the first place, and else to the second
abbrev pub tried : Place → Place → SemaphoreClient → ℕ → SemaphoreMove
tried got busy own free =
    if nat_lt 0 free
    then record { own = record own { place = got; held = 1 }; free = free - 1 }
    else record { own = record own { place = busy }; free = free }

-- the client takes one more permit
abbrev pub took_more : SemaphoreClient → ℕ → SemaphoreMove
took_more own free = record { own = record own { held = own.held + 1 }; free = free - 1 }

-- the client frees all its permits, and goes to another place
abbrev pub freed : Place → SemaphoreClient → ℕ → SemaphoreMove
freed place own free =
    record { own = record { place = place; held = 0; owed = own.held }; free = free + own.held }

-- the client has notified of what it owes, and goes to another place
abbrev pub paid : Place → SemaphoreClient → ℕ → SemaphoreMove
paid place own free = record { own = record own { place = place; owed = 0 }; free = free }

-- the table: what this act of a client at this place makes of the client, of the free permits and of the line; none
-- where it is no step
abbrev pub from : SemAct → Place → ℕ → SemaphoreClient → ℕ → Line → Option (SemaphoreMove × Line)
from Go (First woken) client own free line = Some (tried Holding ToListen own free, line)
from Go Second client own free line = Some (tried Ending ToRegister own free, line)
from Go Holding client own free line = Some (freed Releasing own free, line)
from Go Releasing client own free line = Some (paid Idle own free, notified own.owed line)
from More Holding client own free line = if nat_lt 0 free then Some (took_more own free, line) else None
from More _ client own free line = None
from Go place client own free line = option_map (moved own free) (waits act.Go place client line)
from TimeOut place client own free line = option_map (moved own free) (waits act.TimeOut place client line)
from Cancel place client own free line = option_map (moved own free) (waits act.Cancel place client line)

-- the state once the client has made this move, and the line is this
abbrev pub goes : ℕ → SemaphoreState → SemaphoreMove × Line → SemaphoreState
goes client state to =
    record state { clients = slice_set state.clients client to.0.own; free = to.0.free; line = to.1 }

-- the state after this act of this client, or none where it is no step
abbrev pub next : ℕ → SemAct → SemaphoreState → Option SemaphoreState
next client act state =
    option_and_then (λ own. option_map (goes client state) (from act own.place client own state.free state.line)) (slice_get state.clients client)

abbrev pub next_of : SemStep → SemaphoreState → Option SemaphoreState
next_of step = next step.client step.act

-- the state after this act of this client, where what is no step changes nothing
abbrev pub after : ℕ → SemAct → SemaphoreState → SemaphoreState
after client = after_step (next client)

-- the state after a schedule, and how many of its steps are steps of the table

abbrev pub after_all : List SemStep → SemaphoreState → SemaphoreState
after_all = after_steps next_of

abbrev pub taken : List SemStep → SemaphoreState → ℕ
taken = steps_taken next_of
