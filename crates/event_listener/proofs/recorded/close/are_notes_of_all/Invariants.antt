use Rattle.std.proofs.Common.{◌≡◌, drop}
use Rattle.event_listener.specs.Closing.{are_notes_of_all}
use Rattle.event_listener.proofs.recorded.close.are_notes_of_all.Given as goal

-- all depends on the hands that are left
abbrev pub invariant-loop-hand : goal.invariant-loop-hand
invariant-loop-hand g l =
    are_notes_of_all g.T.PartialEq.eq l.entries l.hands ≡ are_notes_of_all g.T.PartialEq.eq l.entries (drop l.hand-index l.hands)
