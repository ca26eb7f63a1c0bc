-- The state of a lock, out with one thread.
use Rattle.std.specs.Prelude.{◌≡◌, ℕ, Option, Some, None, IsSome}
use mathlib.Core.Bool.{true≢false}
use mathlib.Core.Path.{sym}
use Rattle.event_word.specs.declared.word.held.Held.{Held}
use Rattle.event_word.specs.declared.word.rule.Place.{Place}

module _ {S V : Type 0} where
  -- it is the state of the lock of that name
  abbrev pub IsOf : ℕ → Held S V → Type 0
  IsOf name held = held.word.now.slot.name ≡ name

  -- of it and of the number that the thread saw or left last this holds
  abbrev pub HasState : (ℕ → S → Type 0) → Held S V → Type 0
  HasState P held = (n : ℕ) × (q : S) × (held.seat.view.number ≡ Some n) × (held.claim.state ≡ Some q) × P n q

-- the value that lies there
abbrev pub placed : {V : Type 0} → Option (Place V) → Option V
placed (Some place) = Some place.value
placed None = None

-- the same where there is one
abbrev pub placed_in : {V : Type 0} → (o : Option (Place V)) → IsSome o → V
placed_in (Some place) has = place.value
placed_in None has = absurd (true≢false (sym has))
