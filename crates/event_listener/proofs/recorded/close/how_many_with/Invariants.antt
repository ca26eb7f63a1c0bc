use Rattle.std.proofs.Common.{◌≡◌, ◌+◌, ◌≤◌, drop}
use Rattle.event_listener.specs.Closing.{how_many_with}
use Rattle.event_listener.proofs.recorded.close.how_many_with.Given as goal

-- those found, and those among the hands that are left
abbrev pub invariant-loop-hand : goal.invariant-loop-hand
invariant-loop-hand g l =
    (how_many_with l.number l.hands ≡ l.found + how_many_with l.number (drop l.hand-index l.hands)) × (l.found ≤ l.hand-index)
