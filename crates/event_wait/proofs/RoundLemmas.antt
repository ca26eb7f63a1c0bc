-- Rounds of a wait, and how it ends.
use Rattle.std.proofs.Common.{◌≡◌, ◌∙◌, refl, ℕ, zero, suc, inl, inr, Option, Some, None, Result, Ok, Err}
use Rattle.std.specs.Prelude.{IfOk, IfErr, IfSome}
use Rattle.event_wait.specs.declared.lock.wait.Refused.{Refused}
use Rattle.event_wait.specs.Rounds.{Rules, Trying, Rounds, SomeRounds, OneRoundAtLeast, Succeeds, Fails, Tries, Gets, Ends, Waits, TriesOrWaits, Obtains}

module _ {S : Type 0} (waits : S → S → Type 0) where
  -- one round more
  pub one_more : (before between after : S) → SomeRounds waits before between → waits between after → SomeRounds waits before after
  one_more before between after some last = (suc some.0, (between, some.1, last))

  pub one_at_least : (before between after : S) → SomeRounds waits before between → waits between after → OneRoundAtLeast waits before after
  one_at_least before between after some last = (some.0, (between, some.1, last))

  -- some rounds, and then this many more
  more : (before between after : S) → SomeRounds waits before between → (rounds : ℕ) → Rounds waits rounds between after → SomeRounds waits before after
  more before between after some zero same = rw same some
  more before between after some (suc rounds) waited =
      one_more before waited.0 after (more before between waited.0 some rounds waited.1) waited.2

  -- what each round keeps, some rounds keep
  module _ (K : Type 0) (kept : S → K) (keeps : (before after : S) → waits before after → kept after ≡ kept before) where
    rounds_keep : (rounds : ℕ) (before after : S) → Rounds waits rounds before after → kept after ≡ kept before
    rounds_keep zero before after same = rw same refl
    rounds_keep (suc rounds) before after waited =
        keeps waited.0 after waited.2 ∙ rounds_keep rounds before waited.0 waited.1

    pub some_keep : (before after : S) → SomeRounds waits before after → kept after ≡ kept before
    some_keep before after some = rounds_keep some.0 before after some.1

module _ {Q G E : Type 0} (rules : Rules Q G E) where
  -- leaving at the limit, after as many attempts as are asked for, ends a wait
  pub leaves_late : (waits : Q → Q → Type 0) (succeeds : Q → G → Q → Type 0) (asked : Q → Q → Type 0) (may_end : Type 0) (before late : Q) (result : Result (Option G) (Refused E)) (after : Q)
      → may_end → asked before late → SomeRounds waits before late
      → IfOk result (λ answer. rules.leaves late answer after) → IfErr result (λ error. Fails rules late error after)
      → Ends rules waits succeeds asked may_end before result after
  leaves_late waits succeeds asked may_end before late (Ok (Some output)) after has waited some left failed =
      inr (record { has_limit = has; between = late; waited = waited; left = left })
  leaves_late waits succeeds asked may_end before late (Ok None) after has waited some left failed =
      record { has_limit = has; between = late; waited = waited; left = left }
  leaves_late waits succeeds asked may_end before late (Err error) after has waited some left failed = (late, some, failed)

  module _ (trying : Trying Q G) where
    -- the rounds of a wait are among tries
    rounds_are : (n : ℕ) (before after : Q) → Rounds rules.waits n before after → Rounds (Tries rules trying) n before after
    rounds_are zero before after same = same
    rounds_are (suc n) before after waited = (waited.0, rounds_are n before waited.0 waited.1, inl waited.2)

    pub then_waits : (before between after : Q) → SomeRounds (Tries rules trying) before between → SomeRounds rules.waits between after → SomeRounds (Tries rules trying) before after
    then_waits before between after some rounds = more (Tries rules trying) before between after some rounds.0 (rounds_are rounds.0 between after rounds.1)

    -- the first try
    pub tried_first : (before after : Q) → trying.misses before after → SomeRounds (Tries rules trying) before after
    tried_first before after missed = one_more (Tries rules trying) before before after (0, refl) (inr missed)

    -- an attempt that gets it at once
    pub obtained_first : (before : Q) (answer : Option G) (after : Q) → IfSome answer (λ output. trying.gives before output after) → IfSome answer (λ output. Succeeds (Tries rules trying) (Gets rules trying) before output after)
    obtained_first before (Some output) after gave = record { between = before; waited = (0, refl); succeeded = inr gave }
    obtained_first before None after gave = tt

    module _ (may_end : Type 0) (before between after : Q) (some : SomeRounds (Tries rules trying) before between) where
      -- a wait in the queue after some tries
      pub waits_then : (result : Result (Option G) (Refused E)) → Waits rules may_end between result after → TriesOrWaits rules trying may_end before result after
      waits_then (Ok (Some output)) (inl got) =
          inl (record { between = got.between; waited = then_waits before between got.between some got.waited; succeeded = inl got.succeeded })
      waits_then (Ok (Some output)) (inr late) =
          inr (record { has_limit = late.has_limit; between = late.between; waited = then_waits before between late.between some (suc late.waited.0, late.waited.1); left = late.left })
      waits_then (Ok None) late =
          record { has_limit = late.has_limit; between = late.between; waited = then_waits before between late.between some (suc late.waited.0, late.waited.1); left = late.left }
      waits_then (Err error) failed = (failed.0, then_waits before between failed.0 some failed.1, failed.2)

      -- more tries after some
      tries_then : (result : Result (Option G) (Refused E)) (there : Q) → TriesOrWaits rules trying may_end between result there → TriesOrWaits rules trying may_end before result there
      tries_then (Ok (Some output)) there (inl got) =
          inl (record { between = got.between; waited = more (Tries rules trying) before between got.between some got.waited.0 got.waited.1; succeeded = got.succeeded })
      tries_then (Ok (Some output)) there (inr late) =
          inr (record { has_limit = late.has_limit; between = late.between; waited = more (Tries rules trying) before between late.between some late.waited.0 late.waited.1; left = late.left })
      tries_then (Ok None) there late =
          record { has_limit = late.has_limit; between = late.between; waited = more (Tries rules trying) before between late.between some late.waited.0 late.waited.1; left = late.left }
      tries_then (Err error) there failed = (failed.0, more (Tries rules trying) before between failed.0 some failed.1.0 failed.1.1, failed.2)

      pub obtains_then : (result : Result (Option G) (Refused E)) → Obtains rules trying may_end between result after → Obtains rules trying may_end before result after
      obtains_then (Ok answer) ends = tries_then (Ok answer) after ends
      obtains_then (Err error) ends = (ends.0, tries_then (Err error) ends.0 ends.1, ends.2)
