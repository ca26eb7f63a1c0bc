-- What a clause says of a hand, and of the state that one has taken out.
use Rattle.std.specs.Prelude.{◌≡◌, ℕ}
use Rattle.event_slot.specs.declared.claim.Claim.{Claim}
use Rattle.event_history.specs.declared.hand.Hand.{Hand}
use Rattle.event_history.specs.declared.history.View.{View}

module _ {S C : Type 0} where
  -- what the hand knows
  abbrev pub known_by : Hand S C → View S C
  known_by hand = hand.mark.view

  -- it belongs to the lock of this name
  abbrev pub IsOf : ℕ → Hand S C → Type 0
  IsOf name hand = hand.mark.slot ≡ name

  -- both belong to one lock
  abbrev pub SameTable : Hand S C → Hand S C → Type 0
  SameTable old new = new.mark.slot ≡ old.mark.slot

-- the claim is of the lock of this name, which was given this of its start
abbrev pub IsClaimOf : {X S W K : Type 0} → ℕ → K → Claim X S W K → Type 0
IsClaimOf name start claim = (claim.name ≡ name) × (claim.key ≡ start) × (claim.right ≡ 0)
