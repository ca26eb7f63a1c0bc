use Rattle.event_history.proofs.LawsStays.{listened}
use Rattle.event_history.proofs.laws.stays.Goals as goal

pub returns : goal.returns
returns g c = listened
