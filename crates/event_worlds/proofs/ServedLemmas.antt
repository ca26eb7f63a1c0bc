-- What is said of clients that are served.
use Rattle.std.proofs.Common.{◌≡◌, ℕ, Bool, cond, List, [], ◌∷◌, refl, arith, inl, inr}
use Rattle.std.proofs.lemmas.Bool.{cases_Bool}
use Rattle.std.proofs.lemmas.List.Sums.{sum_by-cons}
use Rattle.std.specs.Prelude.{count_by}
use Rattle.event_worlds.specs.declared.world.place.Place.{Place}
use Rattle.event_worlds.specs.declared.world.place.Place.TheVariants.{Parked}
use Rattle.event_worlds.specs.ClientTable.{is_listening}
use Rattle.event_worlds.specs.Clients.{EnoughAreOnTheirWay, ToldRun, AreListening}
use Rattle.event_worlds.specs.Line.{Line, has_wake}
use Rattle.event_worlds.specs.Served.{is_parked, IsServed}
use Rattle.event_worlds.specs.Standing.{number}
use Rattle.event_worlds.proofs.InLineLemmas.{awake_at, in_line_are}

number-count : (test : Place → Bool) (places : List Place) → number test places ≡ count_by test places
number-count test [] = refl
number-count test (first ∷ rest) =
    omega (arith, number-count test rest, sum_by-cons (λ (place : Place). cond {A = ℕ} (test place) 1 0) first rest)

module _ (free owed : ℕ) (places : List Place) (line : Line) (served : IsServed free owed places line) where
  pub enough_are : EnoughAreOnTheirWay places line free owed
  enough_are (client, (inl at), untold) = grind (arith, number-count)
  enough_are (client, (inr at), untold) = grind (arith, number-count)

  pub told_run : ToldRun places line
  told_run client told =
      elim (cases_Bool (has_wake client line)) [
        | inl awake ↦ inr awake
        | inr asleep ↦ inl (λ parked.
            let awake = awake_at is_listening is_parked places line served.fit client Parked parked refl told in absurd (cc))
      ]

  pub are_listening : AreListening places line
  are_listening client = in_line_are is_listening is_parked places line served.fit client
