use Rattle.std.proofs.Common.{rules, sym}
use Rattle.recipes.proofs.hands.send_then_receive.Goals as goal

pub returns-clause-received : goal.returns-clause-received
returns-clause-received g c = c.no_message_is_lost.ensures.received c.args.receiver.now.capacity _ _ _ c.try_recv_as-received.ensures.call

pub returns-clause-none_lost : goal.returns-clause-none_lost
returns-clause-none_lost g c =
    let same = sym c.requires.one in
    let sends = c.join_mut-sent.ensures.0.met.1.1 in
    c.no_message_is_lost.ensures.sent c.args.receiver.now.capacity _ _ c.fork-other.new.hand.mark.view c.join.new.hand.mark.view _ _ _ _ (rw same at sends) (search rules) c.try_recv_as-received.ensures.call
