use Rattle.event_wait.proofs.KeptTurns.{turns-along}
use Rattle.event_wait.proofs.fair_queue.turns_are_kept_along.Goals as goal

pub returns : goal.returns
returns g c = turns-along
