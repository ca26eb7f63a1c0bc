-- What a contract sees of a value that a task makes.
use Rattle.std.specs.Prelude.{◌≡◌, ◌⊎◌, ℕ, Bool, true, false, Option, Some, None, Result, Ok, Err, IsSomeAnd}
use Rattle.event_monitor.specs.Queued.{IsMadeOf}

-- its maker, whether it has the turn, and at which source it waits for that, unless it is over
pub record State (M : Type 0) : Type 0 where
  pub maker : M
  pub has_turn : Bool
  pub source : Option ℕ

-- the source of what holds the cell, if it is held still
abbrev pub source_of : {H : Type 0} → (H → ℕ) → Option H → Option ℕ
source_of source None = None
source_of source (Some hold) = Some (source hold)

module _ {M : Type 0} where
  -- it waits for what its maker waits for, or for its turn
  abbrev pub WaitsFor : (M → ℕ → Type 0) → State M → ℕ → Type 0
  WaitsFor needs it s = ((it.has_turn ≡ true) × needs it.maker s) ⊎ ((it.has_turn ≡ false) × IsSomeAnd it.source (λ source. s ≡ source))

  -- it keeps its turn until its maker is done, and polls the maker only in its turn
  pub record GoesOn (old new : State M) : Type 0 where
    pub keeps_turn : old.has_turn ≡ true → new.has_turn ≡ true
    pub unpolled : new.has_turn ≡ false → new.maker ≡ old.maker

  -- it fails by what its maker gave, or, before it had its turn, since it could not wait
  abbrev pub FailsBy : {T C E : Type 0} → (M → Result T E → Type 0) → (C → E → Type 0) → State M → E → Type 0
  FailsBy gives made_of it error = gives it.maker (Err error) ⊎ ((it.has_turn ≡ false) × IsMadeOf made_of error)

-- a maker that cannot fail gives this
abbrev pub GivesSurely : {M T E : Type 0} → (M → T → Type 0) → M → Result T E → Type 0
GivesSurely gives maker (Ok output) = gives maker output
GivesSurely gives maker (Err error) = ⊥
