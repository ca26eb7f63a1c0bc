use Rattle.event_worlds.proofs.StandingLemmas.{notified-everybody}
use Rattle.event_worlds.proofs.world.line.ClientLine.notify_all.Goals as goal

pub returns-clause-nobody_waits : goal.returns-clause-nobody_waits
returns-clause-nobody_waits c =
    rw c.notify.ensures.changed (notified-everybody c.args.self.now c.reveal_invariant.ensures.line)
