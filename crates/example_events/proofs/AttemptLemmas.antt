-- Attempts that leave their state as it was if they fail.
use Rattle.std.proofs.Common.{◌≡◌, ℕ, zero, suc, Result, Ok, Err, IfOk}
use Rattle.event_until.specs.Attempts.{FailsTimes, SucceedsAfter}

FailsTimes-same : {S : Type 0} (times : ℕ) (before after : S) → FailsTimes (λ from to. to ≡ from) times before after → after ≡ before
FailsTimes-same zero before after same = same
FailsTimes-same (suc times) before after then =
    rw (then.2) (FailsTimes-same times before then.0 then.1)

-- of an output holds what follows of one that an attempt gives at the state before all attempts
pub IfOk-first : {S T E : Type 0} (succeeds : S → T → S → Type 0) (P : T → Type 0) (answer : Result T E) (before after : S) → ((output : T) → succeeds before output after → P output) → IfOk answer (λ output. SucceedsAfter (λ from to. to ≡ from) succeeds before output after) → IfOk answer P
IfOk-first succeeds P (Ok output) before after follows then =
    follows output (rw (FailsTimes-same then.failed.0 before then.between then.failed.1) at then.succeeded)
IfOk-first succeeds P (Err error) before after follows then = tt
