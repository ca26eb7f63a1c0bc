use Rattle.std.proofs.Common.{◌≡◌, drop}
use Rattle.event_listener.specs.Closing.{are_notes, entries_of}
use Rattle.event_listener.proofs.recorded.close.are_notes_of.Given as goal

-- all depends on the entries and the notes that are left
abbrev pub invariant-loop-entry : goal.invariant-loop-entry
invariant-loop-entry g l =
    are_notes g.T.PartialEq.eq (entries_of l.hand l.entries) l.notes
    ≡ are_notes g.T.PartialEq.eq (entries_of l.hand (drop l.entry-index l.entries)) l.left
