use Rattle.std.proofs.Common.{◌≡◌, rules}
use Rattle.event_history.specs.Hands.{known_by}
use Rattle.event_channel.proofs.HandLemmas.{receives_at}
use Rattle.event_channel.proofs.receiver.Receiver.wait.Goals as goal

pub returns-clause-calls : goal.returns-clause-calls
returns-clause-calls g c never =
    let same : c.deref.result.now.lock.start ≡ c.args.self.now.capacity = Prim.search (rules) in
    let waits = receives_at c.deref.result.now.lock.start c.args.self.now.capacity same (known_by c.hand.inside.hand) (known_by c.wait_to_receive.new.hand) c.wait_to_receive.result (c.wait_to_receive.ensures.calls c.one-receiving.ensures.asked never) in
    Prim.search (rules)
