use Rattle.std.proofs.Common.{◌∙◌, sym}
use Rattle.event_listener.proofs.recording.ClosingLemmas.{as_many_as_notes}
use Rattle.event_listener.proofs.recorded.event.RecordedEvent.close.Goals as goal

pub returns-then-not-are_all_hands-clause-differ : goal.returns-then-not-are_all_hands-clause-differ
returns-then-not-are_all_hands-clause-differ g c all =
    let is = c.are_all_hands.ensures.1 (rw c.as_slice.ensures.value (rw (← c.self.view_is) at all)) in
    let not = c.if-not-are_all_hands.true in absurd (cc)

pub returns-then-not-are_hands_below-clause-missing : goal.returns-then-not-are_hands_below-clause-missing
returns-then-not-are_hands_below-clause-missing g c missing =
    absurd ((rw (← c.self.view_is) at missing) (rw (c.as_slice.ensures.value) at (c.are_all_hands.ensures.0 c.if-not-are_all_hands.false)))

pub returns-then-not-are_notes_of_all-clause-missing : goal.returns-then-not-are_notes_of_all-clause-missing
returns-then-not-are_notes_of_all-clause-missing g c missing =
    absurd ((rw (← c.self.view_is) at missing) (rw (c.as_slice.ensures.value) at (c.are_all_hands.ensures.0 c.if-not-are_all_hands.false)))

pub returns-clause-missing : goal.returns-clause-missing
returns-clause-missing g c missing =
    absurd ((rw (← c.self.view_is) at missing) (rw (c.as_slice.ensures.value) at (c.are_all_hands.ensures.0 c.if-not-are_all_hands.false)))

pub returns-clause-as_many : goal.returns-clause-as_many
returns-clause-as_many g c =
    let entries = c.into_entries-entries.result.items in
    let all = rw (c.as_slice.ensures.value) at (c.are_all_hands.ensures.0 c.if-not-are_all_hands.false) in
    let below = rw (c.as_slice-2.ensures.value) at (sym c.are_hands_below.ensures ∙ c.if-not-are_hands_below.false) in
    let same = rw (c.as_slice-3.ensures.value, c.as_slice-4.ensures.value) at (sym c.are_notes_of_all.ensures ∙ c.if-not-are_notes_of_all.false) in
    rw c.new.ensures (as_many_as_notes _ _ _ entries all below same)
