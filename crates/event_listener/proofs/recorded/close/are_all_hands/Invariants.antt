use Rattle.std.proofs.Common.{◌≡◌, ◌<◌, ℕ}
use Rattle.event_listener.specs.Closing.{how_many_with}
use Rattle.event_listener.proofs.recorded.close.are_all_hands.Given as goal

-- each number looked at was found once
abbrev pub invariant-loop-number : goal.invariant-loop-number
invariant-loop-number g l = (number : ℕ) → number < l.number → how_many_with number l.hands ≡ 1
