use Rattle.std.proofs.Common.{◌≢◌}
use Rattle.event_wait.specs.declared.lock.limit.Limit.TheVariants.{Never}
use Rattle.event_monitor.proofs.WatchedLemmas.{gave}
use Rattle.event_monitor.proofs.monitor.obtain.Goals as goal

pub returns-clause-gave : goal.returns-clause-gave
returns-clause-gave g c =
    (gave _ g.C.Condition.gives g.C.Condition.fails (c.args.limit ≢ Never) c.args.watch.now c.obtain.result c.obtain.new.request c.obtain.ensures.obtains).0

pub returns-clause-late : goal.returns-clause-late
returns-clause-late g c =
    (gave _ g.C.Condition.gives g.C.Condition.fails (c.args.limit ≢ Never) c.args.watch.now c.obtain.result c.obtain.new.request c.obtain.ensures.obtains).1

pub returns-clause-same : goal.returns-clause-same
returns-clause-same g c =
    (gave _ g.C.Condition.gives g.C.Condition.fails (c.args.limit ≢ Never) c.args.watch.now c.obtain.result c.obtain.new.request c.obtain.ensures.obtains).2
