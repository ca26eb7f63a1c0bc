-- A word whose high half shows whether the lock is closed, whether the tally is out, and what it is while it is at home.
use Rattle.std.specs.Prelude.{◌≡◌, ◌≢◌, ℕ, ◌/◌, ◌%◌, true, false, ◌||◌, List, Option, Some, None}
use mathlib.Core.Option.{some}
use lib.ListN.{get_elem?}
use Rattle.test_slot.specs.declared.rule.Tally.{Tally}
use Rattle.test_slot.specs.declared.rule.View.{View}

-- bit 32, bit 33, and the 30 bits above
abbrev pub closed_of : ℕ → ℕ
closed_of n = n / 4294967296 % 2

abbrev pub out_of : ℕ → ℕ
out_of n = n / 8589934592 % 2

abbrev pub tally_of : ℕ → ℕ
tally_of n = n / 17179869184

abbrev pub Shows : ℕ → Option Tally → Type 0
Shows n (Some tally) = (out_of n ≡ 0) × (tally.count ≡ tally_of n)
Shows n None = out_of n ≡ 1

-- whoever knows that it is closed is right, and the word shows the tally
pub record Right (n : ℕ) (home : Option Tally) (views : List View) : Type 0 where
  pub closed : (i : ℕ) (v : View) → get_elem? views i ≡ some v → v.closed ≡ true → closed_of n ≡ 1
  pub shows : Shows n home

abbrev pub Stay : ℕ → ℕ → View → Option Tally → ℕ → View → Option Tally → Type 0
Stay old new v out n w out' = (w ≡ v) × (out' ≡ out)

abbrev pub Look : View → ℕ → View → Type 0
Look v n w = (w ≡ v) × (v.closed ≡ true → closed_of n ≡ 1)

abbrev pub Close : ℕ → ℕ → View → Option Tally → ℕ → View → Option Tally → Type 0
Close old new v out n w out' = (n ≡ old → w.closed ≡ true) × (n ≢ old → w ≡ v) × (out' ≡ out)

-- where the word was as expected, the tally is out, which is what the word showed
pub record IsOut (old : ℕ) (out : Option Tally) : Type 0 where
  pub tally : Tally
  pub is : out ≡ Some tally
  pub shown : tally.count ≡ tally_of old

abbrev pub TakesOut : ℕ → ℕ → View → Option Tally → ℕ → View → Option Tally → Type 0
TakesOut old new v out n w out' = (n ≡ old → IsOut old out') × (n ≢ old → out' ≡ out)

abbrev pub PutsBack : ℕ → ℕ → View → Option Tally → ℕ → View → Option Tally → Type 0
PutsBack old new v out n w out' = (w ≡ v) × (n ≡ old → out' ≡ None) × (n ≢ old → out' ≡ out)

-- what either of two marks knows, and a mark that knows nothing
abbrev pub both : View → View → View
both v w = record { closed = v.closed || w.closed }

abbrev pub nothing : View
nothing = record { closed = false }
