-- The numbers that a source gives.
use Rattle.std.proofs.Common.{◌≡◌, ◌≢◌, ℕ, zero, suc, ◌+◌, ◌<◌, List, [], ◌∷◌, length, get_or, arith}
use Rattle.std.specs.List.{AllPairs, FoldsTo}
use Rattle.event_listener.specs.Identity.{GivesNumber}

-- each number that is given is one more than the one before
given_number_at : (n : ℕ) (numbers : List ℕ) (after : ℕ) → FoldsTo GivesNumber n numbers after → (i d : ℕ) → i < length numbers → get_or numbers i d ≡ n + i
given_number_at n [] after given i d within = absurd (omega arith)
given_number_at n (x ∷ xs) after given zero d within = let e = given.1.0 in omega arith
given_number_at n (x ∷ xs) after given (suc i) d within =
    let later = given_number_at given.0 xs after given.2 i d (omega arith) in
    let e = given.1.1 in omega arith

-- so no two are the same
pub given_numbers_differ : (n : ℕ) (numbers : List ℕ) (after : ℕ) → FoldsTo GivesNumber n numbers after → AllPairs (λ earlier later. earlier ≢ later) numbers
given_numbers_differ n numbers after given i j d before within same =
    let first = given_number_at n numbers after given i d (omega arith) in
    let second = given_number_at n numbers after given j d within in
    omega arith
