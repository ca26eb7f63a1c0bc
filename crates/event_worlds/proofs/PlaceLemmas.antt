-- Lists of places: what is read after one of them changed, and how many pass a test.
use Rattle.std.proofs.Common.{◌≡◌, ◌≢◌, ℕ, zero, suc, ◌+◌, ◌<◌, Bool, true, false, cond, List, [], ◌∷◌, set, slice_get, Some, refl, arith, inl, inr}
use Rattle.std.proofs.lemmas.Bool.{cases_Bool}
use Rattle.std.proofs.lemmas.Option.{none-some, same_Some}
use Rattle.event_worlds.specs.Standing.{number}

-- a test as a number

pub one_if : (b : Bool) → b ≡ true → cond {A = ℕ} b 1 0 ≡ 1
one_if true passes = refl
one_if false passes = absurd (cc)

pub none_if : (b : Bool) → b ≡ false → cond {A = ℕ} b 1 0 ≡ 0
none_if true fails = absurd (cc)
none_if false fails = refl

module _ {P : Type 0} where
  pub slice_get-set : (places : List P) (i : ℕ) (p q : P) → slice_get places i ≡ Some p → slice_get (set places i q) i ≡ Some q
  slice_get-set [] i p q at = absurd (none-some p at)
  slice_get-set (place ∷ places) zero p q at = refl
  slice_get-set (place ∷ places) (suc i) p q at = slice_get-set places i p q at

  pub slice_get-set_other : (places : List P) (i j : ℕ) (q : P) → j ≢ i → slice_get (set places i q) j ≡ slice_get places j
  slice_get-set_other [] i j q other = refl
  slice_get-set_other (place ∷ places) zero zero q other = absurd (other refl)
  slice_get-set_other (place ∷ places) zero (suc j) q other = refl
  slice_get-set_other (place ∷ places) (suc i) zero q other = refl
  slice_get-set_other (place ∷ places) (suc i) (suc j) q other = grind (arith, slice_get-set_other places i j q)

  module _ (test : P → Bool) where
    -- one client less at its old place, one more at its new one
    pub number-set : (places : List P) (i : ℕ) (p q : P) → slice_get places i ≡ Some p → number test (set places i q) + cond (test p) 1 0 ≡ number test places + cond (test q) 1 0
    number-set [] i p q at = absurd (none-some p at)
    number-set (place ∷ places) zero p q at = grind (arith, same_Some)
    number-set (place ∷ places) (suc i) p q at = omega (arith, number-set places i p q at)

    -- who is at a place that passes counts
    pub number-at : (places : List P) (i : ℕ) (p : P) → slice_get places i ≡ Some p → test p ≡ true → 0 < number test places
    number-at [] i p at passes = absurd (none-some p at)
    number-at (place ∷ places) zero p at passes = grind (arith, one_if, same_Some)
    number-at (place ∷ places) (suc i) p at passes = omega (arith, number-at places i p at passes)

    -- where some are counted, there is one
    pub number-found : (places : List P) → 0 < number test places → (i : ℕ) × (p : P) × (slice_get places i ≡ Some p) × (test p ≡ true)
    number-found [] some = absurd (omega arith)
    number-found (place ∷ places) some =
        elim (cases_Bool (test place)) [
          | inl passes ↦ (0, place, refl, passes)
          | inr fails ↦
              let none = none_if (test place) fails in
              let (i, p, at, passes) = number-found places (omega arith) in
              (suc i, p, at, passes)
        ]
