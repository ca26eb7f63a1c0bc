use Rattle.event_worlds.proofs.LineLemmas.{line_is}
use Rattle.event_worlds.proofs.world.line.ClientLine.reveal_invariant.Goals as goal

pub returns : goal.returns
returns c = rw (← c.self.view_is) (record { line = line_is _ _ _ _ c.self.invariant.queue })
