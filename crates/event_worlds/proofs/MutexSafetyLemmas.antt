-- What the mutex world keeps implies that it is safe.
use Rattle.std.proofs.Common.{◌≡◌, ℕ, ◌+◌, ◌<◌, ◌≤◌, ◌⊎◌, true, false, length, refl, ap, arith, inl, inr}
use Rattle.std.proofs.lemmas.Bool.{cases_lt, false_from_ne_true}
use Rattle.event_worlds.specs.declared.world.place.Place.{Place}
use Rattle.event_worlds.specs.declared.world.place.Place.TheVariants.{First, ToRegister, Parked, Releasing}
use Rattle.event_worlds.specs.ClientTable.{is_woken}
use Rattle.event_worlds.specs.Line.{is_told}
use Rattle.event_worlds.specs.Standing.{number}
use Rattle.event_worlds.specs.Served.{is_releasing}
use Rattle.event_worlds.specs.Mutex.{MutexState}
use Rattle.event_worlds.specs.Clients.{SomeClientIsAt}
use Rattle.event_worlds.specs.MutexSafety.{IsSafe}
use Rattle.event_worlds.specs.MutexInvariant.{free_of, IsSound}
use Rattle.event_worlds.proofs.PlaceLemmas.{number-found}
use Rattle.event_worlds.proofs.StandingLemmas.{times-any, times-le-length}
use Rattle.event_worlds.proofs.ServedLemmas.{told_run}

-- nobody's wake-up is lost

woken_is : (place : Place) → is_woken place ≡ true → place ≡ First true
woken_is (First w) woken = ap First woken
woken_is _ woken = absurd (cc)

releasing_is : (place : Place) → is_releasing place ≡ true → place ≡ Releasing
releasing_is Releasing releasing = refl
releasing_is _ releasing = absurd (cc)

module _ (state : MutexState) (sound : IsSound state) where
  untold : (client : ℕ) → length state.line.told ≤ 0 → is_told client state.line ≡ false
  untold client none =
      false_from_ne_true (is_told client state.line) (λ told.
      omega (arith, times-any client state.line.told told, times-le-length client state.line.told))

  enough : SomeClientIsAt ToRegister state.places ⊎ SomeClientIsAt Parked state.places → length state.line.told ≤ 0 → free_of state.holder ≤ length state.line.told + number is_woken state.places + number is_releasing state.places
  enough (inl (client, at)) none = sound.served.enough client ToRegister at refl (untold client none)
  enough (inr (client, at)) none = sound.served.enough client Parked at refl (untold client none)

  some_way : 0 < number is_woken state.places + number is_releasing state.places → SomeClientIsAt (First true) state.places ⊎ SomeClientIsAt Releasing state.places
  some_way some = grind (arith, number-found, releasing_is, woken_is)

  pub safe : IsSafe state
  safe unheld someone =
      elim (cases_lt 0 (length state.line.told)) [
        | inl told ↦ inl (told, told_run (free_of state.holder) (number is_releasing state.places) state.places state.line sound.served)
        | inr none ↦
            let one = ap free_of unheld in
            let few = enough someone (omega arith) in
            inr (some_way (omega arith))
      ]
