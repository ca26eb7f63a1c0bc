-- What a wait says of a request and its hand that are lent holds of the two.
use Rattle.std.proofs.Common.{◌∙◌, ap, ℕ, zero, suc, inl, inr, Option, Some, None, Result, Ok, Err}
use Rattle.event_wait.specs.declared.lock.wait.Refused.{Refused}
use Rattle.event_wait.specs.declared.lock.wait.Refused.TheVariants.{Memory, Request}
use Rattle.event_wait.specs.Rounds.{Rules, Trying, Rounds, SomeRounds, OneRoundAtLeast, Fails, Tries, Gets, Ends, Waits, TriesOrWaits, Obtains}
use Rattle.event_history.specs.Waiting.{Lends, LendsTo, lent, lent_tries}

module _ {A B G E : Type 0} (names : A → ℕ × ℕ) (seen : A → B) (fits : A → Type 0) (rules : Rules B G E) where
  abbrev Does : (B → B → Type 0) → A → A → Type 0
  Does = Lends names seen

  abbrev DoesTo : {X : Type 0} → (B → X → B → Type 0) → A → X → A → Type 0
  DoesTo = LendsTo names seen

  abbrev all : Rules A G E
  all = lent names seen fits rules

  module _ (waits : A → A → Type 0) (waits' : B → B → Type 0) (each : (before after : A) → waits before after → Does waits' before after) where
    rounds : (n : ℕ) (before after : A) → Rounds waits n before after → Does (Rounds waits' n) before after
    rounds zero before after same = (ap names same, ap seen same)
    rounds (suc n) before after waited =
        let most = rounds n before waited.0 waited.1 in
        let last = each waited.0 after waited.2 in
        (last.0 ∙ most.0, (seen waited.0, most.1, last.1))

    failed : (before : A) (error : Refused E) (after : A) → Fails all before error after → DoesTo (Fails rules) before error after
    failed before Memory after same = (ap names same, ap seen same)
    failed before (Request error) after (inl refused) = (refused.0, inl refused.1)
    failed before (Request error) after (inr stayed) = (stayed.0, inr stayed.1)

    module _ (succeeds : A → G → A → Type 0) (succeeds' : B → G → B → Type 0) (gets : (before : A) (output : G) (after : A) → succeeds before output after → DoesTo succeeds' before output after)
        (asked : A → A → Type 0) (asked' : B → B → Type 0) (asks : (before after : A) → asked before after → Does asked' before after) (may_end : Type 0) where
      ends : (before : A) (result : Result (Option G) (Refused E)) (after : A) → Ends all waits succeeds asked may_end before result after → DoesTo (Ends rules waits' succeeds' asked' may_end) before result after
      ends before (Ok (Some output)) after (inl got) =
          let some = rounds got.waited.0 before got.between got.waited.1 in
          let last = gets got.between output after got.succeeded in
          (last.0 ∙ some.0, inl (record { between = seen got.between; waited = (got.waited.0, some.1); succeeded = last.1 }))
      ends before (Ok (Some output)) after (inr late) =
          let some = asks before late.between late.waited in
          (late.left.0 ∙ some.0, inr (record { has_limit = late.has_limit; between = seen late.between; waited = some.1; left = late.left.1 }))
      ends before (Ok None) after late =
          let some = asks before late.between late.waited in
          (late.left.0 ∙ some.0, record { has_limit = late.has_limit; between = seen late.between; waited = some.1; left = late.left.1 })
      ends before (Err error) after fails =
          let some = rounds fails.1.0 before fails.0 fails.1.1 in
          let last = failed fails.0 error after fails.2 in
          (last.0 ∙ some.0, (seen fails.0, (fails.1.0, some.1), last.1))

  pub lent_waits : (may_end : Type 0) (before : A) (result : Result (Option G) (Refused E)) (after : A) → Waits all may_end before result after → DoesTo (Waits rules may_end) before result after
  lent_waits may_end = ends all.waits rules.waits (λ _ _ round. round) all.succeeds rules.succeeds (λ _ _ _ got. got) (OneRoundAtLeast all.waits) (OneRoundAtLeast rules.waits)
      (λ before after some. let same = rounds all.waits rules.waits (λ _ _ round. round) (suc some.0) before after some.1 in (same.0, (some.0, same.1))) may_end

  module _ (trying : Trying B G) where
    abbrev tries : Trying A G
    tries = lent_tries names seen trying

    tried : (before after : A) → Tries all tries before after → Does (Tries rules trying) before after
    tried before after (inl waited) = (waited.0, inl waited.1)
    tried before after (inr missed) = (missed.0, inr missed.1)

    got : (before : A) (output : G) (after : A) → Gets all tries before output after → DoesTo (Gets rules trying) before output after
    got before output after (inl gave) = (gave.0, inl gave.1)
    got before output after (inr gave) = (gave.0, inr gave.1)

    tried_or_waited : (may_end : Type 0) (before : A) (result : Result (Option G) (Refused E)) (after : A) → TriesOrWaits all tries may_end before result after → DoesTo (TriesOrWaits rules trying may_end) before result after
    tried_or_waited may_end = ends (Tries all tries) (Tries rules trying) tried (Gets all tries) (Gets rules trying) got (SomeRounds (Tries all tries)) (SomeRounds (Tries rules trying))
        (λ before after some. let same = rounds (Tries all tries) (Tries rules trying) tried some.0 before after some.1 in (same.0, (some.0, same.1))) may_end

    pub lent_obtains : (may_end : Type 0) (before : A) (result : Result (Option G) (Refused E)) (after : A) → Obtains all tries may_end before result after → DoesTo (Obtains rules trying may_end) before result after
    lent_obtains may_end before (Ok answer) after obtained = tried_or_waited may_end before (Ok answer) after obtained
    lent_obtains may_end before (Err error) after obtained =
        let fails = tried_or_waited may_end before (Err error) obtained.0 obtained.1 in
        (obtained.2.0 ∙ fails.0, (seen obtained.0, fails.1, obtained.2.1))
