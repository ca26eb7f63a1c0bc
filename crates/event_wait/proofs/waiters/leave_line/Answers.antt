use Rattle.event_wait.proofs.LengthLemmas.{removed}
use Rattle.event_wait.proofs.LineLemmas.{has_left, left-not_among}
use Rattle.event_wait.proofs.waiters.leave_line.Goals as goal

pub returns-clause-told : goal.returns-clause-told
returns-clause-told g c =
    rw c.left_as.ensures (removed c.args.line.now c.remove_uncounted-left.new.self c.args.key c.remove_uncounted-left.result c.remove_uncounted-left.ensures.step).0

pub returns-clause-waiting : goal.returns-clause-waiting
returns-clause-waiting g c =
    rw c.left_as.ensures (removed c.args.line.now c.remove_uncounted-left.new.self c.args.key c.remove_uncounted-left.result c.remove_uncounted-left.ensures.step).1

pub returns-clause-leaves : goal.returns-clause-leaves
returns-clause-leaves g c =
    let call = c.remove_uncounted-left.ensures in
    has_left c.args.line.now c.remove_uncounted-left.new.self c.args.key c.remove_uncounted-left.result call.step call.gone call.order

pub returns-clause-gone : goal.returns-clause-gone
returns-clause-gone g c = left-not_among c.args.key _ _ c.remove_uncounted-left.ensures.order
