-- How a wait goes: rounds, each one call in the history, and an end.
use Rattle.std.specs.Prelude.{◌≡◌, ◌⊎◌, ℕ, Option, Some, None, Result, Ok, Err}
use Rattle.event_wait.specs.declared.request.Attempted.{Attempted}
use Rattle.event_wait.specs.declared.request.Attempted.TheVariants as attempted
use Rattle.event_wait.specs.declared.lock.wait.Refused.{Refused}
use Rattle.event_wait.specs.Rounds.{Rules, Trying, Waits, Obtains as ObtainsBy}
use Rattle.futures.specs.declared.task.Poll.{Poll}
use Rattle.futures.specs.declared.task.Poll.TheVariants.{Ready, Pending}
use Rattle.event_history.specs.declared.history.View.{View}
use Rattle.event_history.specs.History.{Machine, Makes}

-- it got nothing, and may wait on
abbrev pub IsUndone : {G E : Type 0} → Attempted G E → Type 0
IsUndone (attempted.Done grant) = ⊥
IsUndone (attempted.Waits key) = Unit {0}
IsUndone attempted.Absent = Unit {0}
IsUndone (attempted.Refused error) = ⊥

-- what is said of the call that a poll is
abbrev pub Polls : {Q G E C : Type 0} → (Q → Attempted G E → C → Type 0) → Q → Poll (Result G E) → C → Type 0
Polls attempting before (Ready (Ok output)) call = attempting before (attempted.Done output) call
Polls attempting before (Ready (Err error)) call = attempting before (attempted.Refused error) call
Polls {G = G} {E = E} attempting before Pending call = (answer : Attempted G E) × IsUndone answer × attempting before answer call

-- one that has no place in a queue does nothing, and one that has gives it up by one call: it has none then
abbrev pub GivesUp : {S C Q : Type 0} → Machine S C → (Q → Q → Type 0) → (Q → Type 0) → (Q → C → Type 0) → Q × View S C → Q × View S C → Type 0
GivesUp machine waits has_place giving_up before after =
    (¬ has_place after.0) × (¬ has_place before.0 → after ≡ before)
    × (has_place before.0 → waits before.0 after.0 × Makes machine before.1 (giving_up before.0) after.1)

-- of a request and of what its hand knows, each of whose attempts is the hand's next call
module _ {S C Q G E : Type 0} (machine : Machine S C) (attempting : Q → Attempted G E → C → Type 0) (leaving : Q → Result (Option G) E → C → Type 0) where
  -- an attempt got nothing
  abbrev pub Round : (Q → Q → Type 0) → Q × View S C → Q × View S C → Type 0
  Round waits before after = waits before.0 after.0 × (answer : Attempted G E) × IsUndone answer × Makes machine before.1 (attempting before.0 answer) after.1

  -- what the lock says of one that waits
  abbrev pub by_hand : (Q → Q → Type 0) → (Q → G → Q → Type 0) → (Q → Option G → Q → Type 0) → Rules (Q × View S C) G E
  by_hand waits succeeds leaves = record {
    fits = λ _. Unit {0};
    succeeds = λ before output after. succeeds before.0 output after.0 × Makes machine before.1 (attempting before.0 (attempted.Done output)) after.1;
    waits = Round waits;
    refuses = λ before error after. waits before.0 after.0 × Makes machine before.1 (attempting before.0 (attempted.Refused error)) after.1;
    leaves = λ before answer after. leaves before.0 answer after.0 × Makes machine before.1 (leaving before.0 (Ok answer)) after.1;
    stays = λ before error after. (after.0 ≡ before.0) × Makes machine before.1 (leaving before.0 (Err error)) after.1;
  }

-- and of one that is attempted before; one that has a place in a queue is not
module _ {S C Q G : Type 0} (machine : Machine S C) (waits : Q → Q → Type 0) (succeeds : Q → G → Q → Type 0) (trying : Q → Option G → C → Type 0) (has_place : Q → Type 0) (giving_up : Q → C → Type 0) where
  abbrev pub tried_by_hand : Trying (Q × View S C) G
  tried_by_hand = record {
    gives = λ before output after. succeeds before.0 output after.0 × Makes machine before.1 (trying before.0 (Some output)) after.1;
    misses = λ before after. (has_place before.0 × (after ≡ before)) ⊎ ((after.0 ≡ before.0) × Makes machine before.1 (trying before.0 None) after.1);
    gives_up = GivesUp machine waits has_place giving_up;
  }

module _ {S C Q G E : Type 0} (machine : Machine S C) (attempting : Q → Attempted G E → C → Type 0) (leaving : Q → Result (Option G) E → C → Type 0) (waits : Q → Q → Type 0) (succeeds : Q → G → Q → Type 0) (leaves : Q → Option G → Q → Type 0) (may_end : Type 0) where
  -- how a wait ends
  abbrev pub EndsWait : Q × View S C → Result (Option G) (Refused E) → Q × View S C → Type 0
  EndsWait = Waits (by_hand machine attempting leaving waits succeeds leaves) may_end

  -- of one that is attempted before, and gives up its place where it fails
  abbrev pub EndsObtaining : (Q → Option G → C → Type 0) → (Q → Type 0) → (Q → C → Type 0) → Q × View S C → Result (Option G) (Refused E) → Q × View S C → Type 0
  EndsObtaining trying has_place giving_up = ObtainsBy (by_hand machine attempting leaving waits succeeds leaves) (tried_by_hand machine waits succeeds trying has_place giving_up) may_end

-- A request and its hand are lent for a wait. What the wait says of what is lent holds of what it lends.
module _ {A B : Type 0} (names : A → ℕ × ℕ) (seen : A → B) where
  -- those that lent stay the same, and this is done by what they lent
  abbrev pub Lends : (B → B → Type 0) → A → A → Type 0
  Lends step before after = (names after ≡ names before) × step (seen before) (seen after)

  abbrev pub LendsTo : {X : Type 0} → (B → X → B → Type 0) → A → X → A → Type 0
  LendsTo step before said after = (names after ≡ names before) × step (seen before) said (seen after)

  abbrev pub lent : {G E : Type 0} → (A → Type 0) → Rules B G E → Rules A G E
  lent fits rules = record {
    fits = fits;
    succeeds = LendsTo rules.succeeds;
    waits = Lends rules.waits;
    refuses = LendsTo rules.refuses;
    leaves = LendsTo rules.leaves;
    stays = LendsTo rules.stays;
  }

  abbrev pub lent_tries : {G : Type 0} → Trying B G → Trying A G
  lent_tries trying = record { gives = LendsTo trying.gives; misses = Lends trying.misses; gives_up = Lends trying.gives_up }
