-- What holds of the semaphore world after every schedule.
use Rattle.std.specs.Prelude.{◌≡◌, ℕ, ◌+◌, true, List, map, sum_by}
use Rattle.event_worlds.specs.declared.world.place.Place.{Place}
use Rattle.event_worlds.specs.declared.world.semaphore.SemaphoreClient.{SemaphoreClient}
use Rattle.event_worlds.specs.Clients.{EnoughAreOnTheirWay, ToldRun, AreListening}
use Rattle.event_worlds.specs.Semaphore.{SemaphoreState}

abbrev pub place_of : SemaphoreClient → Place
place_of own = own.place

abbrev pub places_of : List SemaphoreClient → List Place
places_of clients = map place_of clients

-- the sum of all `owed`
abbrev pub all_owed : SemaphoreState → ℕ
all_owed state = sum_by (λ own. own.owed) state.clients

-- the sum of all `held`
abbrev pub all_held : SemaphoreState → ℕ
all_held state = sum_by (λ own. own.held) state.clients

-- if some client that is not notified is at `ToRegister` or `Parked`, the free permits are at most the length of
-- `told`, plus the clients at `First { woken: true }`, plus the sum of all `owed`; also each notified client isn't
-- `Parked` or has its wake-up
abbrev pub IsSafe : SemaphoreState → Type 0
IsSafe state =
    EnoughAreOnTheirWay (places_of state.clients) state.line state.free (all_owed state)
    × ToldRun (places_of state.clients) state.line

-- free permits and all `held` add up to the permits
abbrev pub PermitsAddUp : SemaphoreState → Type 0
PermitsAddUp state = state.free + all_held state ≡ state.permits

-- every notification is additional
abbrev pub NotifiesAdditional : SemaphoreState → Type 0
NotifiesAdditional state = state.line.additional ≡ true

-- the clients notified or waiting are exactly those at listening places
abbrev pub InLineAreListening : SemaphoreState → Type 0
InLineAreListening state = AreListening (places_of state.clients) state.line
