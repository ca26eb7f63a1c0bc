use Rattle.std.proofs.Common.{◌≡◌, ◌⊎◌, IfSome}
use Rattle.futures.specs.Task.{Keeps}
use Rattle.event_until.specs.Attempts.{SomeFail, FailsAtLeast}
use Rattle.event_until.specs.Trying.{standing_of}
use Rattle.event_until.proofs.until.turn.poll_turns.Given as goal

-- some attempts have failed; where a listener is left, it is the first and none was made, or two at least have failed; it
-- is one of the event, if the first was; and each poll keeps what the context that was handed in has
abbrev pub invariant-loop : goal.invariant-loop
invariant-loop g l =
    SomeFail g.A.Attempt.fails l.initial.attempt l.attempt × IfSome l.left (λ _. ((l.attempt ≡ l.initial.attempt) × (standing_of l.left ≡ standing_of l.initial.left)) ⊎ FailsAtLeast g.A.Attempt.fails 2 l.initial.attempt l.attempt) × (IfSome l.initial.left (λ listener. listener.standing.event_number ≡ l.fn.event) → IfSome l.left (λ listener. listener.standing.event_number ≡ l.fn.event)) × Keeps l.fn.cx l.cx
