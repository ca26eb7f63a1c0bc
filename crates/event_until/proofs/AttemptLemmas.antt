-- Attempts after other attempts.
use Rattle.std.proofs.Common.{◌≡◌, refl, ℕ, zero, suc, Option, Some, None, IfSome, IfNone, Result, Ok, Err, IfOk, OnErr}
use Rattle.futures.specs.declared.task.Poll.{Poll}
use Rattle.futures.specs.declared.task.Poll.TheVariants.{Ready, Pending}
use Rattle.futures.specs.Poll.{OnPending}
use Rattle.event_listener.specs.Listening.{Listening}
use Rattle.event_until.specs.Trying.{standing_of}
use Rattle.event_until.specs.Attempts.{FailsTimes, SomeFail, FailsAtLeast, SucceedsAfter, Succeeded, SucceedsOrFails}

module _ {S : Type 0} (fails : S → S → Type 0) where
  pub SomeFail-append : (times : ℕ) (before between after : S) → SomeFail fails before between → FailsTimes fails times between after → SomeFail fails before after
  SomeFail-append zero before between after some same = rw same some
  SomeFail-append (suc times) before between after some then =
      let first = SomeFail-append times before between then.0 some then.1 in
      (suc first.0, (then.0, first.1, then.2))

  pub SomeFail-join : (before between after : S) → SomeFail fails before between → SomeFail fails between after → SomeFail fails before after
  SomeFail-join before between after some then =
      SomeFail-append then.0 before between after some then.1

  -- one failed, and then so many others
  pub FailsTimes-first : (times : ℕ) (before between after : S) → fails before between → FailsTimes fails times between after → FailsTimes fails (suc times) before after
  FailsTimes-first zero before between after failed same =
      (before, refl, rw same failed)
  FailsTimes-first (suc times) before between after failed then =
      (then.0, FailsTimes-first times before between then.0 failed then.1, then.2)

  pub FailsAtLeast-first : (least : ℕ) (before between after : S) → fails before between → FailsAtLeast fails least between after → FailsAtLeast fails (suc least) before after
  FailsAtLeast-first least before between after failed then =
      let some = FailsTimes-first then.1.0 before between then.0 failed then.1.1 in
      (some.0, (then.1.0, some.1), FailsTimes-first least some.0 then.0 after some.2 then.2)

  -- one failed, and then some others, or none, where there is an error
  pub OnErr-first : {X E : Type 0} (before between : S) (answer : Result X E) (after : S) → fails before between → OnErr answer (SomeFail fails between after) → OnErr answer (FailsAtLeast fails 1 before after)
  OnErr-first before between (Ok answer) after failed some = tt
  OnErr-first before between (Err error) after failed some =
      FailsAtLeast-first 0 before between after failed (after, some, refl)

  -- one failed, and then two others at least, where there is no output
  pub IfNone-first : {T E : Type 0} (before between : S) (answer : Result (Option T) E) (after : S) → fails before between → IfOk answer (λ output. IfNone output (FailsAtLeast fails 2 between after)) → IfOk answer (λ output. IfNone output (FailsAtLeast fails 3 before after))
  IfNone-first before between (Ok None) after failed then =
      FailsAtLeast-first 2 before between after failed then
  IfNone-first before between (Ok (Some output)) after failed then = tt
  IfNone-first before between (Err error) after failed then = tt

  module _ {T : Type 0} (succeeds : S → T → S → Type 0) where
    -- some attempts failed, and then others until one succeeded
    pub SucceedsAfter-append : (before between : S) (output : T) (after : S) → SomeFail fails before between → SucceedsAfter fails succeeds between output after → SucceedsAfter fails succeeds before output after
    SucceedsAfter-append before between output after some then =
        record { between = then.between; failed = SomeFail-join before between then.between some then.failed; succeeded = then.succeeded }

    pub SucceedsOrFails-append : {E : Type 0} (before between : S) (output : Result T E) (after : S) → SomeFail fails before between → SucceedsOrFails fails succeeds between output after → SucceedsOrFails fails succeeds before output after
    SucceedsOrFails-append before between (Ok output) after some then =
        SucceedsAfter-append before between output after some then
    SucceedsOrFails-append before between (Err error) after some then =
        SomeFail-join before between after some then

    -- some attempts failed, and then a last one was made
    pub Succeeded-last : (E : Type 0) (before between : S) (answer : Option T) (after : S) → SomeFail fails before between → IfSome answer (λ output. succeeds between output after) → Succeeded fails succeeds {E = E} before (Ok answer) after
    Succeeded-last E before between None after failed last = tt
    Succeeded-last E before between (Some output) after failed last =
        record { between = between; failed = failed; succeeded = last }

    -- one failed, and then others until one succeeded, if there is an output
    pub Succeeded-first : {E : Type 0} (before between : S) (answer : Result (Option T) E) (after : S) → fails before between → Succeeded fails succeeds between answer after → Succeeded fails succeeds before answer after
    Succeeded-first before between (Ok None) after failed then = tt
    Succeeded-first before between (Ok (Some output)) after failed then =
        SucceedsAfter-append before between output after (1, (before, refl, failed)) then
    Succeeded-first before between (Err error) after failed then = tt

    -- what a later poll gives, after one that was pending
    pub OnPending-gives : {X : Type 0} (E : Type 0) (polled : Poll X) (before between : S) → OnPending polled (SomeFail fails before between) → OnPending polled ((output : Result T E) → ((after : S) × SucceedsOrFails fails succeeds between output after) → (after : S) × SucceedsOrFails fails succeeds before output after)
    OnPending-gives E (Ready output) before between failed = tt
    OnPending-gives E Pending before between failed =
        λ output given. (given.0, SucceedsOrFails-append before between output given.0 failed given.1)

-- nothing that was left has no standing
pub none_left : {T : Type 0} (left : Option (Listening T)) → standing_of left ≡ None → left ≡ None
none_left None none = refl
none_left (Some listener) none = absurd (let e = none in cc)
