-- What is said of the clients of a lock after every schedule, by their places and by their line.
use Rattle.std.specs.Prelude.{◌≡◌, ◌↔◌, ◌⊎◌, ℕ, ◌+◌, ◌≤◌, List, length, slice_get, Some, count_by, IsTrue, IsFalse, IsSomeAnd}
use Rattle.event_worlds.specs.declared.world.place.Place.{Place}
use Rattle.event_worlds.specs.declared.world.place.Place.TheVariants.{ToRegister, Parked}
use Rattle.event_worlds.specs.ClientTable.{is_listening, is_woken}
use Rattle.event_worlds.specs.Line.{Line, is_told, is_waiting, has_wake}

-- this client is at this place
abbrev pub IsAt : ℕ → Place → List Place → Type 0
IsAt client place places = slice_get places client ≡ Some place

-- some client is at this place
abbrev pub SomeClientIsAt : Place → List Place → Type 0
SomeClientIsAt place places = (client : ℕ) × IsAt client place places

-- how many clients are at `First { woken: true }`
abbrev pub clients_woken : List Place → ℕ
clients_woken places = count_by is_woken places

module _ (places : List Place) (line : Line) where
  -- some client that is not notified is at `ToRegister` or `Parked`
  abbrev pub SomeUntoldWaits : Type 0
  SomeUntoldWaits =
      (client : ℕ)
      × (IsAt client ToRegister places ⊎ IsAt client Parked places)
      × IsFalse (is_told client line)

  -- where one does, `free` is at most: the length of `told`, plus the clients at `First { woken: true }`, plus
  -- the notifications that are owed
  abbrev pub EnoughAreOnTheirWay : ℕ → ℕ → Type 0
  EnoughAreOnTheirWay free owed = SomeUntoldWaits → free ≤ length line.told + clients_woken places + owed

  -- each notified client isn't `Parked` or has its wake-up
  abbrev pub ToldRun : Type 0
  ToldRun =
      (client : ℕ) → IsTrue (is_told client line) → ¬ IsAt client Parked places ⊎ IsTrue (has_wake client line)

  -- the clients notified or waiting are exactly those at listening places
  abbrev pub AreListening : Type 0
  AreListening =
      (client : ℕ)
      → (IsTrue (is_told client line) ⊎ IsTrue (is_waiting client line))
      ↔ IsSomeAnd (slice_get places client) (λ place. IsTrue (is_listening place))
