use Rattle.event_queue.proofs.WokenLemmas.{kept_first}
use Rattle.event_queue.proofs.laws.woken_keeps_the_first.Goals as goal

pub returns : goal.returns
returns g c = kept_first
