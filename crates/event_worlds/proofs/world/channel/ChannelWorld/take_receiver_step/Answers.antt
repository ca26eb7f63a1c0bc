use Rattle.event_worlds.proofs.ChannelMoves.{receiver-steps, receiver-stays, receiver_may_be_at}
use Rattle.event_worlds.proofs.world.channel.ChannelWorld.take_receiver_step.Goals as goal

pub moves-requires-clause-may_be_at : goal.moves-requires-clause-may_be_at
moves-requires-clause-may_be_at c = receiver_may_be_at _ c.self.invariant c.args.client c.in-Some.own (cc)

pub invariant_of-self : goal.invariant_of-self
invariant_of-self c =
    (receiver-steps c.self.inside.buffer c.self.inside.closer c.self.inside.senders.items c.self.inside.sender_line c.self.inside.receivers.items c.self.inside.receiver_line c.args.client c.args.act c.in-Some.own c.look_for_message-found.result c.self.invariant (cc) c.look_for_message-found.ensures c.in-Some-moves.made c.moves.new.line c.moves.new.other c.message_passed.result c.pop.new.self c.in-Some-moves.ensures.moves c.message_passed.ensures c.pop.ensures.popped).1

pub returns-in-Some-moves : goal.returns-in-Some-moves
returns-in-Some-moves c =
    rw (← c.self.view_is) (record { takes = (receiver-steps c.self.inside.buffer c.self.inside.closer c.self.inside.senders.items c.self.inside.sender_line c.self.inside.receivers.items c.self.inside.receiver_line c.args.client c.args.act c.in-Some.own c.look_for_message-found.result c.self.invariant (cc) c.look_for_message-found.ensures c.in-Some-moves.made c.moves.new.line c.moves.new.other c.message_passed.result c.pop.new.self c.in-Some-moves.ensures.moves c.message_passed.ensures c.pop.ensures.popped).0 })

pub returns-in-None : goal.returns-in-None
returns-in-None c =
    rw (← c.self.view_is) (record { takes = receiver-stays c.self.inside.buffer c.self.inside.closer c.self.inside.senders.items c.self.inside.sender_line c.self.inside.receivers.items c.self.inside.receiver_line c.args.client c.args.act c.in-Some.own c.look_for_message-found.result c.self.invariant (cc) c.look_for_message-found.ensures c.moves.new.line c.moves.new.other c.in-None.ensures.moves })
