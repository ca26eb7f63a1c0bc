use Rattle.event_channel.proofs.HandLemmas.{receives_waiting}
use Rattle.event_channel.proofs.WaitLemmas.{receiver_waits_nowhere}
use Rattle.event_channel.proofs.channel.Channel.wait_to_receive.Goals as goal

pub returns-clause-nowhere : goal.returns-clause-nowhere
returns-clause-nowhere g c = receiver_waits_nowhere c.args.self.now.lock.start _ _ _ _ c.obtain.ensures.obtains c.obtain.ensures.rests

pub returns-clause-calls : goal.returns-clause-calls
returns-clause-calls g c one never = receives_waiting c.args.self.now.lock.start _ _ _ _ one (λ limited. limited never) c.obtain.ensures.obtains
