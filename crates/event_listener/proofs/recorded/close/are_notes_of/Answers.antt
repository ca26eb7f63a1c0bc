use Rattle.std.proofs.Common.{◌∙◌, sym}
use Rattle.event_listener.proofs.recording.ClosingLemmas.{notes_skip, notes_end, notes_differ, notes_go_on}
use Rattle.event_listener.proofs.recorded.close.are_notes_of.Goals as goal
use Rattle.event_listener.proofs.recorded.close.are_notes_of.Goals.{then-is_by+in-Some+else-not-is_note_of, else-is_by}

pub returns-in_default : goal.returns-in_default
returns-in_default g c =
    notes_end _ _ _ _ c.entry-item.result c.entry-item.is c.loop-entry-test.true _ _ c.loop-entry.invariant (sym c.is_by.ensures ∙ c.if-is_by.true) c.in_default.ensures.cases

pub returns-then-not-is_note_of : goal.returns-then-not-is_note_of
returns-then-not-is_note_of g c =
    notes_differ _ _ _ _ c.entry-item.result c.entry-item.is c.loop-entry-test.true _ _ c.loop-entry.invariant (sym c.is_by.ensures ∙ c.if-is_by.true)
    _ _ c.in-Some.ensures.cases.0 (sym c.is_note_of.ensures ∙ c.if-not-is_note_of.true)

pub loop-entry-preserved : goal.loop-entry-preserved
loop-entry-preserved g c = elim c.if-is_by.branch [
  | then-is_by+in-Some+else-not-is_note_of w ↦ rw w.left-is
      (notes_go_on _ _ _ _ c.entry-item.result c.entry-item.is c.loop-entry-test.true _ _ c.loop-entry.invariant
      (sym c.is_by.ensures ∙ w.if-is_by.true) _ _ w.in-Some.ensures.cases.0 (sym w.is_note_of.ensures ∙ w.if-not-is_note_of.false))
  | else-is_by w ↦ rw w.left-is (notes_skip _ _ _ _ c.entry-item.result c.entry-item.is c.loop-entry-test.true _ _ c.loop-entry.invariant (sym c.is_by.ensures ∙ w.if-is_by.false))
]
