-- What attempts did, one after another.
use Rattle.std.specs.Prelude.{◌≡◌, ℕ, zero, suc, Option, Some, None, Result, Ok, Err, ⊤}

module _ {S : Type 0} (fails : S → S → Type 0) where
  -- this many attempts failed, one after another
  abbrev pub FailsTimes : ℕ → S → S → Type 0
  FailsTimes zero before after = after ≡ before
  FailsTimes (suc attempts) before after = (between : S) × FailsTimes attempts before between × fails between after

  -- some attempts failed, or none was made
  abbrev pub SomeFail : S → S → Type 0
  SomeFail before after = (attempts : ℕ) × FailsTimes attempts before after

  -- this many attempts failed, or more
  abbrev pub FailsAtLeast : ℕ → S → S → Type 0
  FailsAtLeast least before after = (between : S) × SomeFail before between × FailsTimes least between after

  module _ {T : Type 0} (succeeds : S → T → S → Type 0) where
    -- after some attempts that failed, or none, the next succeeded with this output
    pub record SucceedsAfter (before : S) (output : T) (after : S) : Type 0 where
      pub between : S
      pub failed : SomeFail before between
      pub succeeded : succeeds between output after

    -- if a wait returned an output, an attempt succeeded with it, after some that failed, or none
    abbrev pub Succeeded : {E : Type 0} → S → Result (Option T) E → S → Type 0
    Succeeded before (Ok (Some output)) after = SucceedsAfter before output after
    Succeeded before _ after = ⊤

    -- with an output, an attempt succeeded, after some that failed, or none; with an error, all attempts failed
    abbrev pub SucceedsOrFails : {E : Type 0} → S → Result T E → S → Type 0
    SucceedsOrFails before (Ok output) after = SucceedsAfter before output after
    SucceedsOrFails before (Err error) after = SomeFail before after
