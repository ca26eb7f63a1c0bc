use Rattle.event_channel.proofs.ServedLemmas.{no_more_senders_in_vain, sender_loses_by_those}
use Rattle.event_channel.proofs.laws.starving_senders_are_served.Goals as goal

pub returns-clause-no_more_in_vain : goal.returns-clause-no_more_in_vain
returns-clause-no_more_in_vain g c = no_more_senders_in_vain

pub returns-clause-fewer_by_a_loss : goal.returns-clause-fewer_by_a_loss
returns-clause-fewer_by_a_loss g c = sender_loses_by_those
