use Rattle.std.proofs.Common.{◌≡◌, ◌≤◌, vec_len, vec_capacity}
use Rattle.event_listener.specs.Noting.{new_hands}
use Rattle.event_listener.proofs.recorded.hand.new_hands.Given as goal

-- the hands made so far, and room for all
abbrev pub invariant-loop-number : goal.invariant-loop-number
invariant-loop-number g l =
    (l.hands.items ≡ new_hands l.event_number l.number) × (vec_len l.hands ≡ l.number) × (l.count ≤ vec_capacity l.hands)
