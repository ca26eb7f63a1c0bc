-- What the flag world keeps in its type: each step of the tables keeps it, and what `FlagSafety` says follows. No
-- public clause cites this module.
use Rattle.std.specs.Prelude.{◌≡◌, ℕ, Bool, true, false, List, map, slice_get, Some}
use Rattle.event_worlds.specs.declared.world.flag.FlagPlace.{FlagPlace}
use Rattle.event_worlds.specs.declared.world.flag.SetterPlace.{SetterPlace}
use Rattle.event_worlds.specs.declared.world.flag.SetterPlace.TheVariants.{ToNotify}
use Rattle.event_worlds.specs.declared.world.place.Place.{Place}
use Rattle.event_worlds.specs.Line.{Line, is_told}
use Rattle.event_worlds.specs.Standing.{number}
use Rattle.event_worlds.specs.Served.{is_past_second, IsServed}
use Rattle.event_worlds.specs.Flag.{FlagState, lock_place}
use Rattle.event_worlds.specs.FlagSafety.{NotifiesDefault}

abbrev pub places_of : List FlagPlace → List Place
places_of places = map lock_place places

abbrev pub is_to_notify : SetterPlace → Bool
is_to_notify ToNotify = true
is_to_notify _ = false

-- where the flag is set and every setter has notified, each client past its second look is notified
abbrev pub IsSettled : Bool → List SetterPlace → List Place → Line → Type 0
IsSettled flag setters places line =
    flag ≡ true
    → number is_to_notify setters ≡ 0
    → (client : ℕ)
    → (place : Place)
    → slice_get places client ≡ Some place
    → is_past_second place ≡ true
    → is_told client line ≡ true

-- nothing can be taken, so that clients are served says that each fits its place
pub record IsSound (state : FlagState) : Type 0 where
  pub served : IsServed 0 0 (places_of state.places) state.line
  pub settled : IsSettled state.flag state.setters (places_of state.places) state.line
  pub kind : NotifiesDefault state
