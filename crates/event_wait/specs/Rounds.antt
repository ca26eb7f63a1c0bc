-- What a lock says of the requests made of it, and how a wait ends.
use Rattle.std.specs.Prelude.{◌≡◌, ◌⊎◌, ℕ, zero, suc, Option, Some, None, Result, Ok, Err, IfSome}
use Rattle.event_wait.specs.declared.lock.wait.Refused.{Refused}
use Rattle.event_wait.specs.declared.lock.wait.Refused.TheVariants.{Memory, Request}

-- what a lock says of requests that wait
pub record Rules (Q G E : Type 0) : Type 1 where
  -- which may be made of it
  pub fits : Q → Type 0
  -- an attempt that would have waited gave this
  pub succeeds : Q → G → Q → Type 0
  -- an attempt gave nothing, and it waits on
  pub waits : Q → Q → Type 0
  -- an attempt was refused
  pub refuses : Q → E → Q → Type 0
  -- it left at the limit, with what it could still get
  pub leaves : Q → Option G → Q → Type 0
  -- leaving was refused
  pub stays : Q → E → Q → Type 0

-- and of requests that are attempted before they wait
pub record Trying (Q G : Type 0) : Type 1 where
  -- a mere attempt gave this
  pub gives : Q → G → Q → Type 0
  -- a mere attempt gave nothing
  pub misses : Q → Q → Type 0
  -- it gave up its place, if it had one
  pub gives_up : Q → Q → Type 0

-- any request may be made, and is as it was where it is refused
abbrev pub of_any : {Q G E : Type 0} → (Q → G → Q → Type 0) → (Q → Q → Type 0) → (Q → Option G → Q → Type 0) → Rules Q G E
of_any succeeds waits leaves = record { fits = λ _. Unit {0}; succeeds = succeeds; waits = waits; refuses = λ before _ after. after ≡ before; leaves = leaves; stays = λ before _ after. after ≡ before }

-- any request may be made, gets what is so, and is as it was once it has that, and where it leaves
abbrev pub gives_what : {Q G E : Type 0} → (G → Type 0) → (Q → Q → Type 0) → Rules Q G E
gives_what is waits = of_any (λ before output after. (after ≡ before) × is output) waits (λ before answer after. (after ≡ before) × IfSome answer is)

-- a mere attempt gives what one that waits gives, and else it is as it was
abbrev pub alike : {Q G : Type 0} → (Q → G → Q → Type 0) → Trying Q G
alike succeeds = record { gives = succeeds; misses = λ before after. after ≡ before; gives_up = λ before after. after ≡ before }

abbrev pub tries_for : {Q G : Type 0} → (G → Type 0) → Trying Q G
tries_for is = alike (λ before output after. (after ≡ before) × is output)

module _ {S : Type 0} (waits : S → S → Type 0) where
  -- this many attempts found that it waits on
  abbrev pub Rounds : ℕ → S → S → Type 0
  Rounds zero before after = after ≡ before
  Rounds (suc rounds) before after = (between : S) × Rounds rounds before between × waits between after

  -- some did, or none was made
  abbrev pub SomeRounds : S → S → Type 0
  SomeRounds before after = (rounds : ℕ) × Rounds rounds before after

  -- one did at least
  abbrev pub OneRoundAtLeast : S → S → Type 0
  OneRoundAtLeast before after = (rounds : ℕ) × Rounds (suc rounds) before after

  -- after some of them, the next attempt gave this
  pub record Succeeds {G : Type 0} (succeeds : S → G → S → Type 0) (before : S) (output : G) (after : S) : Type 0 where
    pub between : S
    pub waited : SomeRounds before between
    pub succeeded : succeeds between output after

module _ {Q G E : Type 0} (rules : Rules Q G E) where
  -- after some attempts, as many as are asked for, the limit had passed, and it left
  pub record LeavesLate (asked : Q → Q → Type 0) (may_end : Type 0) (before : Q) (answer : Option G) (after : Q) : Type 0 where
    pub has_limit : may_end
    pub between : Q
    pub waited : asked before between
    pub left : rules.leaves between answer after

  -- memory was refused, and it is where it was, or an attempt was, or leaving
  abbrev pub Fails : Q → Refused E → Q → Type 0
  Fails before Memory after = after ≡ before
  Fails before (Request error) after = rules.refuses before error after ⊎ rules.stays before error after

  -- how a wait ends that may have a limit: after some attempts that gave nothing the next gave it, it was late or it failed
  abbrev pub Ends : (Q → Q → Type 0) → (Q → G → Q → Type 0) → (Q → Q → Type 0) → Type 0 → Q → Result (Option G) (Refused E) → Q → Type 0
  Ends waits succeeds asked may_end before (Ok (Some output)) after = Succeeds waits succeeds before output after ⊎ LeavesLate asked may_end before (Some output) after
  Ends waits succeeds asked may_end before (Ok None) after = LeavesLate asked may_end before None after
  Ends waits succeeds asked may_end before (Err error) after = (between : Q) × SomeRounds waits before between × Fails between error after

  -- of one that waits in the queue, and looks at the limit after each round
  abbrev pub Waits : Type 0 → Q → Result (Option G) (Refused E) → Q → Type 0
  Waits = Ends rules.waits rules.succeeds (OneRoundAtLeast rules.waits)

  module _ (trying : Trying Q G) where
    -- an attempt gave nothing, of one that waits or of one that would not
    abbrev pub Tries : Q → Q → Type 0
    Tries before after = rules.waits before after ⊎ trying.misses before after

    -- an attempt of either gave this
    abbrev pub Gets : Q → G → Q → Type 0
    Gets before output after = rules.succeeds before output after ⊎ trying.gives before output after

    -- of one that attempts before it waits, and may be too late already
    abbrev pub TriesOrWaits : Type 0 → Q → Result (Option G) (Refused E) → Q → Type 0
    TriesOrWaits = Ends Tries Gets (SomeRounds Tries)

    -- the same, and where it fails it gives up its place
    abbrev pub Obtains : Type 0 → Q → Result (Option G) (Refused E) → Q → Type 0
    Obtains may_end before (Ok answer) after = TriesOrWaits may_end before (Ok answer) after
    Obtains may_end before (Err error) after = (failed : Q) × TriesOrWaits may_end before (Err error) failed × trying.gives_up failed after
