use Rattle.std.proofs.Common.{◌≡◌, drop}
use Rattle.event_listener.specs.Closing.{are_hands_below}
use Rattle.event_listener.proofs.recorded.close.are_hands_below.Given as goal

-- all depends on the entries that are left
abbrev pub invariant-loop-entry : goal.invariant-loop-entry
invariant-loop-entry g l = are_hands_below l.count l.entries ≡ are_hands_below l.count (drop l.entry-index l.entries)
