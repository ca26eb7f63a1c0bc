-- What a schedule makes of a world, by what each of its steps makes of it.
use Rattle.std.specs.Prelude.{◌≡◌, ℕ, ◌+◌, Bool, if◌then◌else◌, List, [], ◌∷◌, Option, Some, None, is_some, unwrap_or}

module _ {S A : Type 0} (next : A → S → Option S) where
  -- the state after a step, where what is no step changes nothing
  abbrev pub after_step : A → S → S
  after_step step state = unwrap_or (next step state) state

  -- the state after a schedule
  abbrev pub after_steps : List A → S → S
  after_steps [] state = state
  after_steps (step ∷ steps) state = after_steps steps (after_step step state)

  -- how many steps of a schedule are steps of the world
  abbrev pub steps_taken : List A → S → ℕ
  steps_taken [] state = 0
  steps_taken (step ∷ steps) state =
      (if is_some (next step state) then 1 else 0) + steps_taken steps (after_step step state)

module _ {S : Type 0} where
  -- the state after a step, and whether it was one
  pub record Takes (step : Option S) (old : S) (is_step : Bool) (new : S) : Type 0 where
    pub state : new ≡ unwrap_or step old
    pub answer : is_step ≡ is_some step

module _ {M L : Type 0} where
  -- the step makes this move, and leaves these lines; where it is none, the lines stay
  abbrev pub Moves : Option (M × L) → L → Option M → L → Type 0
  Moves step old None new = (step ≡ None) × (new ≡ old)
  Moves step old (Some made) new = step ≡ Some (made, new)
