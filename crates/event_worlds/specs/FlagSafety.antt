-- What holds of the flag world after every schedule.
use Rattle.std.specs.Prelude.{◌≡◌, ◌⊎◌, ℕ, true, false, map, slice_get, Some, IsTrue}
use Rattle.event_worlds.specs.declared.world.flag.FlagPlace.{FlagPlace}
use Rattle.event_worlds.specs.declared.world.flag.FlagPlace.TheVariants.{ToRegister, Parked}
use Rattle.event_worlds.specs.declared.world.flag.SetterPlace.TheVariants.{ToNotify}
use Rattle.event_worlds.specs.Clients.{AreListening}
use Rattle.event_worlds.specs.Line.{is_told, has_wake}
use Rattle.event_worlds.specs.Flag.{FlagState, lock_place}

-- this client is at this place
abbrev pub IsAt : ℕ → FlagPlace → FlagState → Type 0
IsAt client place state = slice_get state.places client ≡ Some place

-- no setter is at `ToNotify`
abbrev pub NoSetterNotifies : FlagState → Type 0
NoSetterNotifies state = (setter : ℕ) → ¬ (slice_get state.setters setter ≡ Some ToNotify)

-- if the flag is set and no setter is at `ToNotify`, each client at `ToRegister` or `Parked` is notified, and has its
-- wake-up if it is `Parked`
abbrev pub IsSafe : FlagState → Type 0
IsSafe state =
    state.flag ≡ true
    → NoSetterNotifies state
    → (client : ℕ)
    → IsAt client ToRegister state ⊎ IsAt client Parked state
    → IsTrue (is_told client state.line) × (IsAt client Parked state → IsTrue (has_wake client state.line))

-- every notification is default
abbrev pub NotifiesDefault : FlagState → Type 0
NotifiesDefault state = state.line.additional ≡ false

-- the clients notified or waiting are exactly those at listening places
abbrev pub InLineAreListening : FlagState → Type 0
InLineAreListening state = AreListening (map lock_place state.places) state.line
