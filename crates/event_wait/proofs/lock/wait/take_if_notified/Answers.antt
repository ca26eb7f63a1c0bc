use Rattle.std.proofs.Common.{refl}
use Rattle.event_wait.proofs.RoundLemmas.{one_more}
use Rattle.event_wait.proofs.lock.wait.take_if_notified.Goals as goal

pub returns-in-Waits-clause-waited : goal.returns-in-Waits-clause-waited
returns-in-Waits-clause-waited g c _ =
    one_more (g.L.Waitable.rules c.args.lock.now).waits _ _ _ (0, refl) c.in-Waits.ensures.waited

pub returns-in-Absent-clause-waited : goal.returns-in-Absent-clause-waited
returns-in-Absent-clause-waited g c _ =
    one_more (g.L.Waitable.rules c.args.lock.now).waits _ _ _ (0, refl) c.in-Absent.ensures.waited
