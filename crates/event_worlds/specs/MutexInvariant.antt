-- What the mutex world keeps in its type: each step of the table keeps it, and what `MutexSafety` says follows. No
-- public clause cites this module.
use Rattle.std.specs.Prelude.{◌≡◌, ℕ, Bool, false, eqb, slice_get, Option, Some, None}
use Rattle.event_worlds.specs.declared.world.place.Place.{Place}
use Rattle.event_worlds.specs.Standing.{number}
use Rattle.event_worlds.specs.Served.{is_inside, is_releasing, IsServed}
use Rattle.event_worlds.specs.Mutex.{MutexState}
use Rattle.event_worlds.specs.MutexSafety.{AtMostOneTold, NotifiesDefault}

abbrev pub is_inside_at : Option Place → Bool
is_inside_at None = false
is_inside_at (Some place) = is_inside place

-- the client is the holder
abbrev pub is_holder : ℕ → Option ℕ → Bool
is_holder client None = false
is_holder client (Some holder) = eqb client holder

-- how often the lock can be taken
abbrev pub free_of : Option ℕ → ℕ
free_of None = 1
free_of (Some holder) = 0

-- a lock that is free can be taken once, and whoever is releasing is still to notify of one
pub record IsSound (state : MutexState) : Type 0 where
  pub served : IsServed (free_of state.holder) (number is_releasing state.places) state.places state.line
  pub inside : (client : ℕ) → is_holder client state.holder ≡ is_inside_at (slice_get state.places client)
  pub one_told : AtMostOneTold state
  pub kind : NotifiesDefault state
