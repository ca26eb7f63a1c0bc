-- Whoever waits, waits for something of which an attempt gives nothing; and whom a change wakes.
use Rattle.std.proofs.Common.{◌≡◌, Bool, true, false, List, [], ◌∷◌, ◌++◌, refl, ◌∙◌, Option, Some, None, Result, Ok, Err, IfOk, IfErr, IfSome, inl, inr}
use Rattle.std.specs.List.{AllByRecursion}
use Rattle.std.specs.Map.{remove_entry, set_value}
use Rattle.event_queue.specs.declared.key.Key.{Key}
use Rattle.event_queue.specs.declared.reply.ListenError.{ListenError}
use Rattle.event_queue.specs.Key.{is_key}
use Rattle.event_queue.specs.Queue.{Queue}
use Rattle.event_wait.specs.Rounds.{Rules, Tries, Gets, Obtains, alike, of_any, Fails as FailsBy}
use Rattle.event_wait.specs.declared.lock.wait.Refused.{Refused}
use Rattle.event_wait.specs.declared.lock.wait.Refused.TheVariants.{Memory, Request}
use Rattle.event_wait.proofs.RoundLemmas.{some_keep}
use Rattle.event_wait.specs.Line.{Leaves, WaitsBy, CannotWait, waits_untold, waiting_with}
use Rattle.event_monitor.specs.Watched.{Fails, Gives, IsBlocked, LastAttempt, Succeeds, Watches}
use Rattle.event_monitor.specs.declared.monitor.watched.Waiter.{Waiter}

module _ {X : Type 0} (P : Key × X → Type 0) where
  All-without : (test : Key → Bool) (entries : List (Key × X)) → AllByRecursion P entries → AllByRecursion P (remove_entry test entries)
  All-without test [] all = all
  All-without test (e ∷ es) all = by_test (test e.0) refl (All-without test es all.1)
    where
      by_test : (b : Bool) → test e.0 ≡ b → AllByRecursion P (remove_entry test es) → AllByRecursion P (remove_entry test (e ∷ es))
      by_test true here rest = rw here all.1
      by_test false apart rest = rw apart (all.0, rest)

  All-set : (test : Key → Bool) (entries : List (Key × X)) (value : X) → ((key : Key) → P (key, value)) → AllByRecursion P entries → AllByRecursion P (set_value test entries value)
  All-set test [] value new all = all
  All-set test (e ∷ es) value new all = by_test (test e.0) refl (All-set test es value new all.1)
    where
      by_test : (b : Bool) → test e.0 ≡ b → AllByRecursion P (set_value test es value) → AllByRecursion P (set_value test (e ∷ es) value)
      by_test true here rest = rw here (new e.0, all.1)
      by_test false apart rest = rw apart (all.0, rest)

  All-last : (entries : List (Key × X)) (last : Key × X) → P last → AllByRecursion P entries → AllByRecursion P (entries ++ last ∷ [])
  All-last [] last new all = (new, tt)
  All-last (e ∷ es) last new all = (all.0, All-last es last new all.1)

module _ {V C W : Type 0} (fails : C → V → Type 0) (value : V) where
  abbrev WaitsBlocked : Key × Option (Waiter C W) → Type 0
  WaitsBlocked entry = IsBlocked fails value entry.1

  -- one that leaves takes nothing from the others
  pub left : (key : Option Key) (old new : Queue (Unit {0}) (Waiter C W)) → Leaves key old new → AllByRecursion WaitsBlocked old.waiting → AllByRecursion WaitsBlocked new.waiting
  left None old new same all = rw same all
  left (Some key) old new gone all = rw gone.waiting (All-without WaitsBlocked (is_key key) old.waiting all)

  -- one that waits for something of which an attempt gives nothing joins those that do
  module _ {O : Type 0} (exchanged : O → Option W → W → O → Type 0) (condition : C) (failed : fails condition value) where
    joined : (key : Option Key) (old : Queue (Unit {0}) (Waiter C W)) (before : O) (waits : Key) (new : Queue (Unit {0}) (Waiter C W)) (after : O)
        → WaitsBy (Watches exchanged condition) key old before waits new after
        → AllByRecursion WaitsBlocked old.waiting → AllByRecursion WaitsBlocked new.waiting
    joined key old before waits new after step all = rw step.waiting (by_test (waits_untold key old) refl)
      where
        blocked : fails step.task.condition value
        blocked = rw step.made.waits_for failed

        by_test : (b : Bool) → waits_untold key old ≡ b → AllByRecursion WaitsBlocked (waiting_with key waits step.task old)
        by_test true stays = rw stays (All-set WaitsBlocked (is_key waits) old.waiting (Some step.task) (λ _. blocked) all)
        by_test false comes = rw comes (All-last WaitsBlocked old.waiting (waits, Some step.task) blocked all)

    -- whether it joins them or can't wait
    pub waited : (key : Option Key) (old : Queue (Unit {0}) (Waiter C W)) (before : O) (result : Result Key ListenError) (new : Queue (Unit {0}) (Waiter C W)) (after : O)
        → IfOk result (λ waits. WaitsBy (Watches exchanged condition) key old before waits new after)
        → IfErr result (λ error. CannotWait key error old new)
        → AllByRecursion WaitsBlocked old.waiting → AllByRecursion WaitsBlocked new.waiting
    waited key old before (Ok waits) new after step refused all = joined key old before waits new after step all
    waited key old before (Err error) new after step refused all = left key old new refused.leaves all

module _ {V C G : Type 0} (E : Type 0) (gives : C → V → G → V → Type 0) (fails : C → V → Type 0) where
  -- what the lock says of one that waits for this
  abbrev asks : Rules C G E
  asks = of_any (Succeeds gives) (λ b a. a ≡ b) (LastAttempt gives fails)

  tried : (before after : C) → Tries asks (alike (Succeeds gives)) before after → after ≡ before
  tried before after (inl same) = same
  tried before after (inr same) = same

  got : (before : C) (output : G) (after : C) → Gets asks (alike (Succeeds gives)) before output after → Succeeds gives before output after
  got before output after (inl gave) = gave
  got before output after (inr gave) = gave

  refused : (before : C) (error : Refused E) (after : C) → FailsBy asks before error after → after ≡ before
  refused before Memory after same = same
  refused before (Request error) after (inl same) = same
  refused before (Request error) after (inr same) = same

  -- what a wait returns is what an attempt gave, and one that is late has failed
  pub gave : (may_end : Type 0) (condition : C) (result : Result (Option G) (Refused E)) (after : C)
      → Obtains asks (alike (Succeeds gives)) may_end condition result after
      → IfOk result (λ answer. IfSome answer (Gives gives condition)) × IfOk result (λ answer. answer ≡ None → Fails fails condition) × (after ≡ condition)
  gave may_end condition (Ok (Some output)) after (inl round) =
      let same = some_keep (Tries asks (alike (Succeeds gives))) _ (λ c. c) tried condition round.between round.waited in
      let last = got round.between output after round.succeeded in
      (rw same at last.given, (λ no. absurd (let none : Some output ≡ None = no in cc)), last.kept ∙ same)
  gave may_end condition (Ok (Some output)) after (inr late) =
      let same = some_keep (Tries asks (alike (Succeeds gives))) _ (λ c. c) tried condition late.between late.waited in
      (rw same at late.left.given, (λ no. absurd (let none : Some output ≡ None = no in cc)), late.left.kept ∙ same)
  gave may_end condition (Ok None) after late =
      let same = some_keep (Tries asks (alike (Succeeds gives))) _ (λ c. c) tried condition late.between late.waited in
      (tt, (λ _. rw same at late.left.1), late.left.0 ∙ same)
  gave may_end condition (Err error) after ends =
      let tried_some = some_keep (Tries asks (alike (Succeeds gives))) _ (λ c. c) tried condition ends.1.0 ends.1.1 in
      (tt, tt, ends.2 ∙ refused ends.1.0 error ends.0 ends.1.2 ∙ tried_some)
