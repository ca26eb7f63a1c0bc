use Rattle.std.proofs.Common.{sym, ◌∙◌, ap, Some, slice_set}
use Rattle.event_listener.proofs.recording.EntryLemmas.{at_position, nowhere}
use Rattle.event_listener.proofs.recording.ShapeLemmas.{set_value-absent}
use Rattle.event_queue.specs.Key.{is_key}
use Rattle.event_listener.proofs.recorded.replay.entries.set_entry.Goals as goal

pub returns-in_err-at-clause-value : goal.returns-in_err-at-clause-value
returns-in_err-at-clause-value g c =
    c.from_residual.ensures ∙ sym (nowhere c.args.key _ _ c.as_slice.ensures.value c.in_err-at.ensures)

pub returns-in_err-at-clause-set : goal.returns-in_err-at-clause-set
returns-in_err-at-clause-set g c =
    sym (set_value-absent (is_key c.args.key) _ c.args.value (nowhere c.args.key _ _ c.as_slice.ensures.value c.in_err-at.ensures))

pub returns-clause-value : goal.returns-clause-value
returns-clause-value g c =
    let found = at_position c.args.key _ _ c.in_ok-at.at c.index.result.now c.as_slice.ensures.value c.in_ok-at.ensures in
    ap (λ entry. Some entry.1) c.index.ensures ∙ sym found.found

pub returns-clause-set : goal.returns-clause-set
returns-clause-set g c =
    let found = at_position c.args.key _ _ c.in_ok-at.at c.index_mut.result.now c.as_slice.ensures.value c.in_ok-at.ensures in
    ap (λ entry. slice_set c.args.entries.now.items c.in_ok-at.at (entry.0, c.args.value)) c.index_mut.ensures.value ∙ sym (found.changed c.args.value)
