use Rattle.event_channel.proofs.HandLemmas.{sends_waiting}
use Rattle.event_channel.proofs.WaitLemmas.{sender_waits_nowhere, sending_gets}
use Rattle.event_channel.proofs.channel.Channel.wait_to_send.Goals as goal

pub returns-clause-gets : goal.returns-clause-gets
returns-clause-gets g c = sending_gets c.args.self.now.lock.start _ _ _ _ c.obtain.ensures.obtains

pub returns-clause-calls : goal.returns-clause-calls
returns-clause-calls g c message is never = sends_waiting c.args.self.now.lock.start _ message _ _ _ is (λ limited. limited never) c.obtain.ensures.obtains

pub returns-clause-nowhere : goal.returns-clause-nowhere
returns-clause-nowhere g c = sender_waits_nowhere c.args.self.now.lock.start _ _ _ _ c.obtain.ensures.obtains c.obtain.ensures.rests
