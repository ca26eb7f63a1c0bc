-- What the flag world keeps implies that it is safe.
use Rattle.std.proofs.Common.{◌≡◌, ℕ, true, slice_get, Some, IsTrue, refl, arith, inl, inr}
use Rattle.event_worlds.specs.declared.world.flag.FlagPlace.{FlagPlace}
use Rattle.event_worlds.specs.declared.world.flag.FlagPlace.TheVariants.{ToRegister, Parked}
use Rattle.event_worlds.specs.declared.world.flag.SetterPlace.{SetterPlace}
use Rattle.event_worlds.specs.declared.world.flag.SetterPlace.TheVariants.{ToNotify}
use Rattle.event_worlds.specs.declared.world.place.Place.TheVariants as lock
use Rattle.event_worlds.specs.ClientTable.{is_listening}
use Rattle.event_worlds.specs.Line.{is_told, has_wake}
use Rattle.event_worlds.specs.Served.{is_parked}
use Rattle.event_worlds.specs.Standing.{number}
use Rattle.event_worlds.specs.Flag.{FlagState, lock_place}
use Rattle.event_worlds.specs.FlagSafety.{IsAt, NoSetterNotifies, IsSafe}
use Rattle.event_worlds.specs.FlagInvariant.{places_of, is_to_notify, IsSound}
use Rattle.event_worlds.proofs.PlaceLemmas.{number-found}
use Rattle.event_worlds.proofs.PlacedClients.{place-at}
use Rattle.event_worlds.proofs.InLineLemmas.{awake_at}

notifies_is : (place : SetterPlace) → is_to_notify place ≡ true → place ≡ ToNotify
notifies_is ToNotify notifies = refl
notifies_is _ notifies = absurd (cc)

module _ (state : FlagState) (sound : IsSound state) where
  none-notify : NoSetterNotifies state → number is_to_notify state.setters ≡ 0
  none-notify none = grind (arith, notifies_is, number-found)

  there : (client : ℕ) (place : FlagPlace) → IsAt client place state → slice_get (places_of state.places) client ≡ Some (lock_place place)
  there client place at = place-at lock_place state.places client place at

  awake : (client : ℕ) → is_told client state.line ≡ true → IsAt client Parked state → IsTrue (has_wake client state.line)
  awake client told parked =
      awake_at is_listening is_parked (places_of state.places) state.line sound.served.fit client lock.Parked (there client Parked parked) refl told

  pub safe : IsSafe state
  safe flag none client (inl at) =
      let told = sound.settled flag (none-notify none) client lock.ToRegister (there client ToRegister at) refl in
      (told, awake client told)
  safe flag none client (inr at) =
      let told = sound.settled flag (none-notify none) client lock.Parked (there client Parked at) refl in
      (told, awake client told)
