use Rattle.std.proofs.Common.{rules, refl}
use Rattle.event_wait.specs.Rounds.{SomeRounds, Tries, Gets}
use Rattle.event_wait.proofs.RoundLemmas.{leaves_late, waits_then}
use Rattle.event_monitor.proofs.asking.ask_or_wait.Goals as goal

pub returns-then-has_passed-clause-trying : goal.returns-then-has_passed-clause-trying
returns-then-has_passed-clause-trying g c =
    let lock = g.L.Waitable.rules c.args.lock.now in
    let trying = g.L.Obtainable.trying c.args.lock.now in
    leaves_late lock (Tries lock trying) (Gets lock trying) (SomeRounds (Tries lock trying)) _ _ _ _ _ (Prim.search (rules)) (0, refl) (0, refl) c.leave_late.ensures.left c.leave_late.ensures.failed

pub returns-clause-trying : goal.returns-clause-trying
returns-clause-trying g c =
    let lock = g.L.Waitable.rules c.args.lock.now in
    let trying = g.L.Obtainable.trying c.args.lock.now in
    waits_then lock trying _ _ _ _ (0, refl) _ c.wait.ensures.waits
