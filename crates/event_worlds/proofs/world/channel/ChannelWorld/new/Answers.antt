use Rattle.event_worlds.proofs.ChannelSteps.{start-sound}
use Rattle.event_worlds.proofs.world.channel.ChannelWorld.new.Goals as goal

pub invariant_of-world : goal.invariant_of-world
invariant_of-world c =
    rw c.in_ok-buffer.ensures.empty
    (rw (c.in_ok-senders_idle.ensures.items_if_clones_equal (λ y clone. clone))
    (rw c.in_ok-sender_line.ensures.empty
    (rw (c.in_ok-receivers_idle.ensures.items_if_clones_equal (λ y clone. clone))
    (rw c.in_ok-receiver_line.ensures.empty
    (start-sound c.args.senders c.args.receivers c.args.capacity)))))
