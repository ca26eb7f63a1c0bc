-- The moves that a semaphore and a mutex make on their word, each by whole steps of 4 of the word.
use Rattle.std.proofs.Common.{◌≡◌, ℕ, Bool, ◌+◌, ◌*◌, ◌/◌, ◌%◌, ◌^◌, ◌<◌, ◌≤◌, arith, true, false, inl, ap}
use Rattle.std.specs.Prelude.{◌==◌, if◌then◌else◌}
use mathlib.Core.Logic.{dite}
use native.Mathlib.Decide.{ℕ_discrete}
use Rattle.event_word.specs.Competing.{rules_of}
use Rattle.event_word.specs.Free.{free_of, unshut_of, IsClosed, IsShut, NoneFor, ServesTheStarving, StandsIf}
use Rattle.event_word.specs.Rules.{Rules}
use Rattle.event_word.specs.declared.competing.Competing.{Competing}
use Rattle.event_wait.specs.FairQueue.{State}
use Rattle.event_word.specs.Word.{Changes, Passes, Takes, counts_of, number_of}
use Rattle.event_word.proofs.FreeLemmas.{serves-beside, serves-fewer, serves-given, stands-beside, stands-fewer, stands-given}

module _ {C : Type 0} (fits : ℕ → Type 0) (taken : ℕ → Bool) (closes many : Bool) where
  -- newcomers take some, where the word is open
  pub changes-fewer : (n old new : ℕ) → new + 4 * n ≡ old → old < 2 ^ 62 → fits (unshut_of (number_of new)) → Changes (rules_of {C = C} fits taken closes many) old new
  changes-fewer n old new is may fit = record {
    code = omega (arith, is);
    fits = fit;
    quiet = λ _ s h _. stands-fewer closes n (old / 4) (new / 4) s.line (omega (arith, is)) (omega (arith, is, may)) (omega (arith, may)) h;
    crowded = λ _ s h. stands-fewer closes n (old / 4) (new / 4) s.line (omega (arith, is)) (omega (arith, is, may)) (omega (arith, may)) h;
    out = λ _ s h. serves-fewer 0 (old / 4) (new / 4) s.line (omega (arith, may)) h;
  }

  -- one is taken, by a newcomer or for one that was notified
  pub changes-taken : (old new : ℕ) → new + 4 ≡ old → old < 2 ^ 62 → fits (unshut_of (number_of new)) → Changes (rules_of {C = C} fits taken closes many) old new
  changes-taken old new is may fit = changes-fewer 1 old new (omega (arith, is)) may fit

  -- some are given back, where nobody has to be notified or the state is out
  changes-given_if : (n old new : ℕ) → new ≡ old + 4 * n → free_of (number_of old) + n < 2 ^ 60 → (many ≡ false → free_of (number_of old) + n ≤ 1) → (old % 4 ≡ 2 → ⊥) → fits (unshut_of (number_of new))
      → Changes (rules_of {C = C} fits taken closes many) old new
  changes-given_if n old new is room one home fit = record {
    code = omega (arith, is);
    fits = fit;
    quiet = λ _ s h owed. stands-given closes many n (old / 4) (new / 4) s.line (omega (arith, is)) room one h owed;
    crowded = λ is_home. absurd (home is_home);
    out = λ _ s h. serves-given 0 n (old / 4) (new / 4) s.line (omega (arith, is)) room h;
  }

-- some permits are given back, where nobody has to be notified or the state is out
pub changes-given : {C : Type 0} (fits : ℕ → Type 0) (taken : ℕ → Bool) (closes : Bool) (n old new : ℕ) → new ≡ old + 4 * n → free_of (number_of old) + n < 2 ^ 60 → (old % 4 ≡ 2 → ⊥) → fits (unshut_of (number_of new))
    → Changes (rules_of {C = C} fits taken closes true) old new
changes-given fits taken closes n old new is room home fit = changes-given_if fits taken closes true n old new is room (λ (no : true ≡ false). cc) home fit

-- some are given back and the state is taken out, in one step
pub promised-given : {W : Type 0} {closes : Bool} (n old new : ℕ) (s : State W) → old % 4 ≡ 2 → new + 1 ≡ old + 4 * n → free_of (number_of old) + n < 2 ^ 60 → StandsIf closes (number_of old) s → ServesTheStarving (number_of new) s
promised-given n old new s home is room h = serves-given 0 n (old / 4) (new / 4) s (omega (arith, is, home)) room h.serves

-- The moves of a mutex, whose number is 1 while nobody has its value, 0 while one has the right to it, and 2 ^ 60 while it is parked.
abbrev pub FitsOne : ℕ → Type 0
FitsOne n = (free_of n ≤ 1) × (n ≤ 2 ^ 60)

abbrev pub taken_one : ℕ → Bool
taken_one n = n == 0

-- as a slot counts it
abbrev counts_one : ℕ → ℕ
counts_one n = if taken_one n then 3 else 0

module _ {C : Type 0} where
  abbrev one : Rules (Competing C)
  one = rules_of FitsOne taken_one false false

  -- one comes where nobody has the value
  comes : (old new : ℕ) → counts_of one old ≡ 0 → counts_of one new ≡ 3 → Passes one 0 2 old new
  comes old new was is = record {
    may = ((λ z. omega (arith, was, z)), (λ z. omega (arith, is, z)), (λ _ l. absurd (omega (arith, was, l))), (λ _ l. absurd (omega (arith, is, l))));
    has = λ k g. g.0 (omega (arith, is)) (omega (arith, was));
  }

  -- one goes
  goes : (old new : ℕ) → counts_of one new ≡ 0 → Passes one 2 0 old new
  goes old new is = record { may = (omega (arith, is), (λ l. absurd (omega (arith, is, l)))); has = λ k g. g.0 (omega (arith, is)) }

  -- it is taken by a newcomer
  pub lends-newcomer : (old new : ℕ) → new + 4 ≡ old → old < 2 ^ 62 → FitsOne (unshut_of (number_of old)) → Changes one old new × Passes one 0 2 old new
  lends-newcomer old new is may fit = (
    changes-taken FitsOne taken_one false false old new is may (omega (arith, is, may, fit.0), omega (arith, is, may)),
    comes old new (ap counts_one (let was : unshut_of (number_of old) ≡ 1 = omega (arith, is, may, fit.0) in was)) (ap counts_one (let now : unshut_of (number_of new) ≡ 0 = omega (arith, is, may, fit.0) in now)),
  )

  -- it is taken by whoever has the state out
  pub lends-held : (old new : ℕ) → new + 4 ≡ old → new % 2 ≡ 1 → 0 < free_of (number_of old) → FitsOne (unshut_of (number_of old)) → Takes one old new × Passes one 0 2 old new
  lends-held old new is out some fit =
      let was : unshut_of (number_of old) ≡ 1 = omega (arith, some, fit.0, fit.1) in
      let now : unshut_of (number_of new) ≡ 0 = omega (arith, is, was) in
      (record { out = out; fits = (omega (arith, now), omega (arith, now)) }, comes old new (ap counts_one was) (ap counts_one now))

  -- it is given back, where nobody has to be notified or the state is out
  pub gives-value : (old new : ℕ) → new ≡ old + 4 → unshut_of (number_of old) ≡ 0 → (old % 4 ≡ 2 → ⊥) → Changes one old new × Passes one 2 0 old new
  gives-value old new is none home =
      let now : unshut_of (number_of new) ≡ 1 = omega (arith, is, none) in
      (changes-given_if FitsOne taken_one false false 1 old new is (omega (arith, none)) (λ _. omega (arith, none)) home (omega (arith, now), omega (arith, now)), goes old new (ap counts_one now))

  -- it is given back, and the state is taken out
  pub swaps-value : (old new : ℕ) → new + 1 ≡ old + 4 → old % 4 ≡ 2 → unshut_of (number_of old) ≡ 0 → Takes one old new × Passes one 2 0 old new
  swaps-value old new is home none =
      let now : unshut_of (number_of new) ≡ 1 = omega (arith, is, home, none) in
      (record { out = omega (arith, is, home); fits = (omega (arith, now), omega (arith, now)) }, goes old new (ap counts_one now))

  changes-beside : (old new : ℕ) → new % 4 ≡ old % 4 → free_of (number_of new) ≡ free_of (number_of old) → (IsShut (number_of new) → IsShut (number_of old)) → (IsShut (number_of old) → IsShut (number_of new)) → FitsOne (unshut_of (number_of new)) → Changes one old new
  changes-beside old new code free only shut fit = record {
    code = code;
    fits = fit;
    quiet = λ _ s h _. stands-beside false (old / 4) (new / 4) s.line free only shut (λ closed. let no : false ≡ true = closed.0 in cc) h;
    crowded = λ _ s h. stands-beside false (old / 4) (new / 4) s.line free only shut (λ closed. let no : false ≡ true = closed.0 in cc) h;
    out = λ _ s h. serves-beside 0 (old / 4) (new / 4) s.line free shut h;
  }

  -- it is parked, and taken again
  pub parks : (old new : ℕ) → new ≡ old + 2 ^ 62 → unshut_of (number_of old) ≡ 0 → Changes one old new × Passes one 2 0 old new
  parks old new is none =
      let now : unshut_of (number_of new) ≡ 2 ^ 60 = omega (arith, is, none) in
      (changes-beside old new (omega (arith, is)) (omega (arith, now, none)) (λ shut. omega (arith, is, none, shut)) (λ shut. omega (arith, is, shut)) (omega (arith, now), omega (arith, now)), goes old new (ap counts_one now))

  pub unparks : (old new : ℕ) → new + 2 ^ 62 ≡ old → unshut_of (number_of old) ≡ 2 ^ 60 → Changes one old new × Passes one 0 2 old new
  unparks old new is parked =
      let now : unshut_of (number_of new) ≡ 0 = omega (arith, is, parked) in (
        changes-beside old new (omega (arith, is)) (omega (arith, now, parked)) (λ shut. omega (arith, is, shut)) (λ shut. omega (arith, is, parked, shut)) (omega (arith, now), omega (arith, now)),
        comes old new (ap counts_one parked) (ap counts_one now),
      )

-- one finds none where the value is parked, too
pub none-parked : (notified : Bool) (n : ℕ) → FitsOne (unshut_of n) → ((IsClosed n → ⊥) → NoneFor notified n) → NoneFor notified n
none-parked notified n fit none = dite (ℕ_discrete (free_of n) 0) (λ is. inl is) (λ some. none (λ closed. some (omega (arith, closed.0, closed.1, fit.1))))
