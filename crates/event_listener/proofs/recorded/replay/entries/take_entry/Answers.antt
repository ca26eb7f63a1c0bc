use Rattle.std.proofs.Common.{sym, ◌∙◌, ap, Some}
use Rattle.event_listener.proofs.recording.EntryLemmas.{at_position, nowhere}
use Rattle.event_listener.proofs.recording.ShapeLemmas.{remove_entry-absent, remove_entry-no_longer}
use Rattle.event_queue.specs.Key.{is_key}
use Rattle.event_listener.proofs.recorded.replay.entries.take_entry.Goals as goal

pub returns-in_err-at-clause-value : goal.returns-in_err-at-clause-value
returns-in_err-at-clause-value g c =
    c.from_residual.ensures ∙ sym (nowhere c.args.key _ _ c.as_slice.ensures.value c.in_err-at.ensures)

pub returns-in_err-at-clause-taken : goal.returns-in_err-at-clause-taken
returns-in_err-at-clause-taken g c =
    sym (remove_entry-absent (is_key c.args.key) _ (nowhere c.args.key _ _ c.as_slice.ensures.value c.in_err-at.ensures))

pub returns-clause-value : goal.returns-clause-value
returns-clause-value g c =
    let found = at_position c.args.key _ _ c.in_ok-at.at c.remove-value.result c.as_slice.ensures.value c.in_ok-at.ensures in
    ap (λ entry. Some entry.1) c.remove-value.ensures.value ∙ sym found.found

pub returns-clause-taken : goal.returns-clause-taken
returns-clause-taken g c =
    let found = at_position c.args.key _ _ c.in_ok-at.at c.remove-value.result c.as_slice.ensures.value c.in_ok-at.ensures in
    c.remove-value.ensures.items ∙ sym found.taken

pub returns-clause-no_longer : goal.returns-clause-no_longer
returns-clause-no_longer g c =
    let found = at_position c.args.key _ _ c.in_ok-at.at c.remove-value.result c.as_slice.ensures.value c.in_ok-at.ensures in
    rw (c.remove-value.ensures.items, ← found.taken) (remove_entry-no_longer (is_key c.args.key) c.args.entries.now.items)
