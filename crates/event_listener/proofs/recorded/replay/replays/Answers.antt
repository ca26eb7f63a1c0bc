use Rattle.std.proofs.Common.{◌≡◌, true, false, not, sym, ap, ◌∙◌}
use Rattle.std.specs.Prelude.{is_some}
use Rattle.std.proofs.lemmas.Bool.{not-true, not-false}
use Rattle.event_listener.specs.recording.Replay.{same_reply}
use Rattle.event_listener.proofs.recording.ReplayLemmas.{replay_from-next, replay_from-refused}
use Rattle.event_listener.proofs.recording.SameReplyLemmas.{derived_same}
use Rattle.event_listener.proofs.recorded.replay.replays.Goals as goal

pub returns-then-ne : goal.returns-then-ne
returns-then-ne g c =
    let entry = c.entry-item.result in
    let differ : not (same_reply g.T.PartialEq.eq c.in_ok-reply.reply entry.reply) ≡ true = ap not
    (sym (derived_same g.row.T g.T.PartialEq g.T.PartialEq-dict c.in_ok-reply.reply entry.reply)) ∙ sym c.ne.ensures ∙ c.if-ne.true in
    let refused = replay_from-refused g.T.PartialEq.eq c.loop-entry.queue c.args.entries.now c.loop-entry.entry-index entry c.slot_in.result
    c.in_ok-reply.reply c.loop-entry-test.true c.entry-item.is c.slot_in.ensures c.in_ok-reply.ensures.answer (not-true _ differ) in
    sym (ap is_some (c.loop-entry.invariant ∙ refused))

pub loop-entry-preserved : goal.loop-entry-preserved
loop-entry-preserved g c =
    let entry = c.entry-item.result in
    let agree : not (same_reply g.T.PartialEq.eq c.in_ok-reply.reply entry.reply) ≡ false = ap not
    (sym (derived_same g.row.T g.T.PartialEq g.T.PartialEq-dict c.in_ok-reply.reply entry.reply)) ∙ sym c.ne.ensures ∙ c.if-ne.false in
    c.loop-entry.invariant
    ∙ replay_from-next g.T.PartialEq.eq c.loop-entry.queue c.perform_call.new.self c.args.entries.now c.loop-entry.entry-index entry c.slot_in.result
    c.in_ok-reply.reply c.loop-entry-test.true c.entry-item.is c.slot_in.ensures c.in_ok-reply.ensures.answer (not-false _ agree)
    c.in_ok-reply.ensures.shape
