use Rattle.std.proofs.Common.{◌∙◌, sym}
use Rattle.event_listener.proofs.recording.SameCallLemmas.{derived_same_call}
use Rattle.event_listener.proofs.recording.SameReplyLemmas.{derived_same}
use Rattle.event_listener.proofs.recorded.close.is_note_of.Goals as goal

pub returns-then-eq : goal.returns-then-eq
returns-then-eq g c =
    let call = sym (derived_same_call g.row.T g.T.PartialEq g.T.PartialEq-dict c.args.entry.now.call c.args.note.now.call) ∙ sym c.eq.ensures ∙ c.if-eq.true in
    let reply = derived_same g.row.T g.T.PartialEq g.T.PartialEq-dict c.args.entry.now.reply c.args.note.now.reply in
    rw call (c.eq-then-eq.ensures ∙ reply)
