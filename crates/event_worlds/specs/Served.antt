-- What the clients of a lock keep, one permit or many: each fits its place, and where one waits and is not notified, as
-- many are on their way as could take what is free. Worlds keep it in their types; no public clause cites this module.
use Rattle.std.specs.Prelude.{◌≡◌, ℕ, ◌+◌, ◌≤◌, Bool, true, false, List, length, slice_get, Some}
use Rattle.event_worlds.specs.declared.world.place.Place.{Place}
use Rattle.event_worlds.specs.declared.world.place.Place.TheVariants.{ToListen, Ending, ToRegister, Parked, Holding, Releasing}
use Rattle.event_worlds.specs.ClientTable.{is_listening, is_woken}
use Rattle.event_worlds.specs.Line.{Line, is_told, is_in_line}
use Rattle.event_worlds.specs.Standing.{AllFit, number}

-- places by what matters of them

abbrev pub is_parked : Place → Bool
is_parked Parked = true
is_parked _ = false

-- it has the lock, or permits
abbrev pub is_inside : Place → Bool
is_inside Ending = true
is_inside Holding = true
is_inside _ = false

-- it listens past its second failed try
abbrev pub is_past_second : Place → Bool
is_past_second ToRegister = true
is_past_second Parked = true
is_past_second _ = false

abbrev pub is_releasing : Place → Bool
is_releasing Releasing = true
is_releasing _ = false

-- the client may be at this place: where it is about to listen, it is not in line
abbrev pub MayBeAt : Place → ℕ → Line → Type 0
MayBeAt place client line = place ≡ ToListen → is_in_line client line ≡ false

-- where a client past its second failed try is not notified, no more can be taken than there are clients notified,
-- clients that a notification brought to a try, and notifications still to come
abbrev pub IsEnough : ℕ → ℕ → List Place → Line → Type 0
IsEnough free owed places line =
    (client : ℕ) (place : Place)
    → slice_get places client ≡ Some place
    → is_past_second place ≡ true
    → is_told client line ≡ false
    → free ≤ length line.told + number is_woken places + owed

-- the clients of a lock of which `free` can be taken, and for which `owed` notifications are still to come
pub record IsServed (free owed : ℕ) (places : List Place) (line : Line) : Type 0 where
  pub fit : AllFit is_listening is_parked places line
  pub enough : IsEnough free owed places line
  pub flags : length line.awake ≡ length places
