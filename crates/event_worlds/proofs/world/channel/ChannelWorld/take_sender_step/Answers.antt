use Rattle.event_worlds.proofs.ChannelMoves.{sender-steps, sender-stays, sender_may_be_at}
use Rattle.event_worlds.proofs.world.channel.ChannelWorld.take_sender_step.Goals as goal

pub moves-requires-clause-may_be_at : goal.moves-requires-clause-may_be_at
moves-requires-clause-may_be_at c = sender_may_be_at _ c.self.invariant c.args.client c.in-Some.own (cc)

pub invariant_of-self : goal.invariant_of-self
invariant_of-self c =
    (sender-steps c.self.inside.buffer c.self.inside.closer c.self.inside.senders.items c.self.inside.sender_line c.self.inside.receivers.items c.self.inside.receiver_line c.args.client c.args.act c.in-Some.own c.look_for_room-found.result c.self.invariant (cc) c.look_for_room-found.ensures c.in-Some-moves.made c.moves.new.line c.moves.new.other c.message_passed.result c.push.new.self c.in-Some-moves.ensures.moves c.message_passed.ensures c.push.ensures.pushed).1

pub returns-in-Some-moves : goal.returns-in-Some-moves
returns-in-Some-moves c =
    rw (← c.self.view_is) (record { takes = (sender-steps c.self.inside.buffer c.self.inside.closer c.self.inside.senders.items c.self.inside.sender_line c.self.inside.receivers.items c.self.inside.receiver_line c.args.client c.args.act c.in-Some.own c.look_for_room-found.result c.self.invariant (cc) c.look_for_room-found.ensures c.in-Some-moves.made c.moves.new.line c.moves.new.other c.message_passed.result c.push.new.self c.in-Some-moves.ensures.moves c.message_passed.ensures c.push.ensures.pushed).0 })

pub returns-in-None : goal.returns-in-None
returns-in-None c =
    rw (← c.self.view_is) (record { takes = sender-stays c.self.inside.buffer c.self.inside.closer c.self.inside.senders.items c.self.inside.sender_line c.self.inside.receivers.items c.self.inside.receiver_line c.args.client c.args.act c.in-Some.own c.look_for_room-found.result c.self.invariant (cc) c.look_for_room-found.ensures c.moves.new.line c.moves.new.other c.in-None.ensures.moves })
