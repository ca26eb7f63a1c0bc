use Rattle.event_channel.proofs.RefusalLemmas.{fewer_receives, fewer_sends, no_more_receives, no_more_sends}
use Rattle.event_channel.proofs.laws.newcomers_go_on.Goals as goal

pub returns-clause-fewer_receives : goal.returns-clause-fewer_receives
returns-clause-fewer_receives g c = fewer_receives

pub returns-clause-no_more_receives : goal.returns-clause-no_more_receives
returns-clause-no_more_receives g c = no_more_receives

pub returns-clause-fewer_sends : goal.returns-clause-fewer_sends
returns-clause-fewer_sends g c = fewer_sends

pub returns-clause-no_more_sends : goal.returns-clause-no_more_sends
returns-clause-no_more_sends g c = no_more_sends
