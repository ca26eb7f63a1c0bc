use Rattle.std.proofs.Common.{rules}
use Rattle.event_wait.specs.Rounds.{OneRoundAtLeast}
use Rattle.event_wait.proofs.RoundLemmas.{one_more, one_at_least, leaves_late}
use Rattle.event_wait.proofs.lock.wait.wait.Goals as goal

pub loop-preserved-in-Absent : goal.loop-preserved-in-Absent
loop-preserved-in-Absent g c =
    (tt, tt, c.in-Absent.ensures.fits, one_more _ _ _ _ c.loop.invariant.3 c.in-Absent.ensures.waited)

pub loop-preserved-in-None-left : goal.loop-preserved-in-None-left
loop-preserved-in-None-left g c =
    (tt, tt, c.in-Waits.ensures.fits, one_more _ _ _ _ c.loop.invariant.3 c.in-Waits.ensures.waited)

pub returns-in-Some-left-clause-waits : goal.returns-in-Some-left-clause-waits
returns-in-Some-left-clause-waits g c =
    let lock = g.L.Waitable.rules c.args.lock.now in
    let some = c.loop.invariant.3 in
    let last = c.in-Waits.ensures.waited in
    leaves_late lock lock.waits lock.succeeds (OneRoundAtLeast lock.waits) _ _ _ _ _ (Prim.search (rules)) (one_at_least _ _ _ _ some last) (one_more _ _ _ _ some last) c.leave_late-in-Some-left.ensures.left c.leave_late-in-Some-left.ensures.failed

pub loop-preserved : goal.loop-preserved
loop-preserved g c =
    (tt, tt, c.in-Waits.ensures.fits, one_more _ _ _ _ c.loop.invariant.3 c.in-Waits.ensures.waited)

pub returns-then-has_passed-clause-waits : goal.returns-then-has_passed-clause-waits
returns-then-has_passed-clause-waits g c =
    let lock = g.L.Waitable.rules c.args.lock.now in
    let some = c.loop.invariant.3 in
    let last = c.in-Absent.ensures.waited in
    leaves_late lock lock.waits lock.succeeds (OneRoundAtLeast lock.waits) _ _ _ _ _ (Prim.search (rules)) (one_at_least _ _ _ _ some last) (one_more _ _ _ _ some last) c.leave_late.ensures.left c.leave_late.ensures.failed
