use Rattle.event_channel.proofs.ServedLemmas.{loses_by_those, no_more_in_vain}
use Rattle.event_channel.proofs.laws.starving_receivers_are_served.Goals as goal

pub returns-clause-no_more_in_vain : goal.returns-clause-no_more_in_vain
returns-clause-no_more_in_vain g c = no_more_in_vain

pub returns-clause-fewer_by_a_loss : goal.returns-clause-fewer_by_a_loss
returns-clause-fewer_by_a_loss g c = loses_by_those
