-- Who stands in line, and who has its wake-up, where all clients fit their places, whatever the type of places.
use Rattle.std.proofs.Common.{◌≡◌, ◌↔◌, ℕ, ◌+◌, ◌<◌, ◌⊎◌, Bool, true, false, List, slice_get, Option, Some, None, IsTrue, IsSomeAnd, subst, arith, inl, inr}
use Rattle.std.proofs.lemmas.Bool.{or_from, false_from_ne_true}
use Rattle.std.specs.Map.{keys_of}
use Rattle.event_worlds.specs.Line.{Line, is_told, is_waiting, is_in_line, has_wake}
use Rattle.event_worlds.specs.Standing.{times, standing, Fits, FitsAt, AllFit}
use Rattle.event_worlds.proofs.StandingLemmas.{times-any, times-none}

-- who is counted among the notified is notified
pub told_if : (client : ℕ) (line : Line) → 0 < times client line.told → is_told client line ≡ true
told_if client line some = grind (arith, times-none)

module _ {P : Type 0} (listens parks : P → Bool) (places : List P) (line : Line) (fit : AllFit listens parks places line) (client : ℕ) where
  pub fits_at : (place : P) → slice_get places client ≡ Some place → Fits (listens place) (parks place) (standing client line)
  fits_at place at = subst (λ (o : Option P). FitsAt listens parks o (standing client line)) at (fit client)

  -- who listens stands in line once, and who does not, not at all

  pub once_at : (place : P) → slice_get places client ≡ Some place → listens place ≡ true → times client line.told + times client (keys_of line.waiting) ≡ 1
  once_at place at listening = grind (arith, fits_at)

  never_at : (place : P) → slice_get places client ≡ Some place → listens place ≡ false → times client line.told + times client (keys_of line.waiting) ≡ 0
  never_at place at unlistening = grind (arith, fits_at)

  pub out_at : (place : P) → slice_get places client ≡ Some place → listens place ≡ false → is_in_line client line ≡ false
  out_at place at unlistening = grind (arith, false_from_ne_true, never_at, or_from, times-any)

  -- a notified client at a place where it is parked has its wake-up
  pub awake_at : (place : P) → slice_get places client ≡ Some place → parks place ≡ true → is_told client line ≡ true → has_wake client line ≡ true
  awake_at place at parked told = (fits_at place at).awake parked (times-any client line.told told)

  -- the clients notified or waiting are those at places where one listens

  in_line_counts : IsTrue (is_told client line) ⊎ IsTrue (is_waiting client line) → 0 < times client line.told + times client (keys_of line.waiting)
  in_line_counts (inl told) = omega (arith, times-any client line.told told)
  in_line_counts (inr waiting) = omega (arith, times-any client (keys_of line.waiting) waiting)

  listens_from : (place : Option P) → FitsAt listens parks place (standing client line) → 0 < times client line.told + times client (keys_of line.waiting) → IsSomeAnd place (λ p. IsTrue (listens p))
  listens_from None fits some = grind (arith)
  listens_from (Some place) fits some = grind (arith)

  in_line_from : (place : Option P) → FitsAt listens parks place (standing client line) → IsSomeAnd place (λ p. IsTrue (listens p)) → IsTrue (is_told client line) ⊎ IsTrue (is_waiting client line)
  in_line_from None fits listening = absurd listening
  in_line_from (Some place) fits listening = grind (arith, times-none)

  pub in_line_are : (IsTrue (is_told client line) ⊎ IsTrue (is_waiting client line)) ↔ IsSomeAnd (slice_get places client) (λ p. IsTrue (listens p))
  in_line_are = grind (arith, in_line_counts, in_line_from, listens_from)
