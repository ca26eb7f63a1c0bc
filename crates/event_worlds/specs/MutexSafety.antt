-- What holds of the mutex world after every schedule.
use Rattle.std.specs.Prelude.{◌≡◌, ◌↔◌, ◌⊎◌, ℕ, ◌<◌, ◌≤◌, true, false, length, Some, None}
use Rattle.event_worlds.specs.declared.world.place.Place.TheVariants.{First, Ending, ToRegister, Parked, Holding, Releasing}
use Rattle.event_worlds.specs.Clients.{IsAt, SomeClientIsAt, ToldRun, AreListening}
use Rattle.event_worlds.specs.Mutex.{MutexState}

-- if nobody holds the lock and some client is at `ToRegister` or `Parked`, then at least one of these holds:
-- `told` has an entry, and each notified client isn't `Parked` or has its wake-up; some client is at
-- `First { woken: true }`; some client is at `Releasing`
abbrev pub IsSafe : MutexState → Type 0
IsSafe state =
    state.holder ≡ None
    → SomeClientIsAt ToRegister state.places ⊎ SomeClientIsAt Parked state.places
    → ((0 < length state.line.told) × ToldRun state.places state.line)
    ⊎ SomeClientIsAt (First true) state.places
    ⊎ SomeClientIsAt Releasing state.places

-- the holder is exactly the one client at `Ending` or `Holding`
abbrev pub HolderIsInside : MutexState → Type 0
HolderIsInside state =
    (client : ℕ)
    → (state.holder ≡ Some client) ↔ (IsAt client Ending state.places ⊎ IsAt client Holding state.places)

-- at most one client is notified
abbrev pub AtMostOneTold : MutexState → Type 0
AtMostOneTold state = length state.line.told ≤ 1

-- every notification is default
abbrev pub NotifiesDefault : MutexState → Type 0
NotifiesDefault state = state.line.additional ≡ false

-- the clients notified or waiting are exactly those at listening places
abbrev pub InLineAreListening : MutexState → Type 0
InLineAreListening state = AreListening state.places state.line
