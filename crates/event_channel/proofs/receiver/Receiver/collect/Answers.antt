use Rattle.event_channel.proofs.WaitLemmas.{collecting_gets, many_wait_nowhere}
use Rattle.event_channel.proofs.receiver.Receiver.collect.Goals as goal

pub returns-clause-gets : goal.returns-clause-gets
returns-clause-gets g c = collecting_gets c.deref-2.result.now.lock.start _ _ _ _ c.obtain-collected.ensures.obtains

pub end-requires : goal.end-requires
end-requires g c = many_wait_nowhere c.deref-2.result.now.lock.start _ _ _ _ c.obtain-collected.ensures.obtains c.obtain-collected.ensures.rests
