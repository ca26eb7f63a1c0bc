-- The clients of a world as places, and what all of them hold or owe together.
use Rattle.std.proofs.Common.{◌≡◌, ℕ, zero, suc, ◌+◌, ◌≤◌, List, [], ◌∷◌, map, set, get_or, replicate, slice_get, Option, Some, IfSome, option_map, refl, sym, ap, ◌∙◌, subst, arith}
use Rattle.std.proofs.lemmas.List.Sums.{sum_by-cons, sum_by-set, get_or-le-sum_by}
use Rattle.std.proofs.lemmas.Option.{none-some, same_Some, slice_get_within, slice_get-map}
use Rattle.std.specs.Prelude.{sum_by}
use Rattle.event_worlds.specs.declared.world.place.Place.{Place}
use Rattle.event_worlds.proofs.PlaceLemmas.{slice_get-set, slice_get-set_other}

module _ {C : Type 0} where
  -- the places, where each client has one

  module _ (place_of : C → Place) where
    pub place-at : (clients : List C) (i : ℕ) (own : C) → slice_get clients i ≡ Some own → slice_get (map place_of clients) i ≡ Some (place_of own)
    place-at clients i own at = slice_get-map place_of clients i ∙ ap (λ (o : Option C). option_map place_of o) at

    pub places-same : (own : C) (n : ℕ) → map place_of (replicate n own) ≡ replicate n (place_of own)
    places-same own zero = refl
    places-same own (suc n) = ap (λ (ps : List Place). place_of own ∷ ps) (places-same own n)

  -- sums over clients

  module _ (part : C → ℕ) where
    read-at : (clients : List C) (i : ℕ) (own : C) → slice_get clients i ≡ Some own → get_or clients i own ≡ own
    read-at [] i own at = absurd (none-some own at)
    read-at (first ∷ rest) zero own at = same_Some first own at
    read-at (first ∷ rest) (suc i) own at = read-at rest i own at

    pub sum-set : (clients : List C) (i : ℕ) (own new : C) → slice_get clients i ≡ Some own → sum_by part (set clients i new) + part own ≡ sum_by part clients + part new
    sum-set clients i own new at =
        ap (λ (c : C). sum_by part (set clients i new) + part c) (sym (read-at clients i own at))
        ∙ sum_by-set part clients i new own (slice_get_within clients i own at)

    pub part-le-sum : (clients : List C) (i : ℕ) (own : C) → slice_get clients i ≡ Some own → part own ≤ sum_by part clients
    part-le-sum clients i own at =
        subst (λ (c : C). part c ≤ sum_by part clients) (read-at clients i own at) (get_or-le-sum_by part clients i own (slice_get_within clients i own at))

    pub sum-same : (own : C) (n : ℕ) → part own ≡ 0 → sum_by part (replicate n own) ≡ 0
    sum-same own zero none = refl
    sum-same own (suc n) none = omega (arith, sum_by-cons part own (replicate n own), sum-same own n none)

  -- what holds of each client

  module _ (P : C → Type 0) where
    pub all-set : (clients : List C) (i : ℕ) (own new : C) → slice_get clients i ≡ Some own → ((j : ℕ) → IfSome (slice_get clients j) P) → P new → (j : ℕ) → IfSome (slice_get (set clients i new) j) P
    all-set clients i own new at all now j = grind (arith, slice_get-set, slice_get-set_other)

    pub all-same : (own : C) → P own → (n i : ℕ) → IfSome (slice_get (replicate n own) i) P
    all-same own fits zero i = tt
    all-same own fits (suc n) zero = fits
    all-same own fits (suc n) (suc i) = all-same own fits n i

    pub all-at : (clients : List C) (i : ℕ) (own : C) → slice_get clients i ≡ Some own → ((j : ℕ) → IfSome (slice_get clients j) P) → P own
    all-at clients i own at all = subst (λ (o : Option C). IfSome o P) at (all i)
