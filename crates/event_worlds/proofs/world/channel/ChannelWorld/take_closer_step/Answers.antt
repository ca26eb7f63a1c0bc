use Rattle.event_worlds.proofs.ChannelSteps.{sound-closes, sound-notifies_senders, sound-notifies_receivers}
use Rattle.event_worlds.proofs.world.channel.ChannelWorld.take_closer_step.Goals as goal

pub invariant_of-self : goal.invariant_of-self
invariant_of-self c = sound-closes _ c.self.invariant c.in-ToClose.is

pub invariant_of-self-in-ToNotifySenders : goal.invariant_of-self-in-ToNotifySenders
invariant_of-self-in-ToNotifySenders c =
    rw c.notify_all.ensures.changed (sound-notifies_senders _ c.self.invariant c.in-ToNotifySenders.is (rw (← c.notify_all.ensures.changed) c.notify_all.ensures.nobody_waits))

pub invariant_of-self-in-ToNotifyReceivers : goal.invariant_of-self-in-ToNotifyReceivers
invariant_of-self-in-ToNotifyReceivers c =
    rw c.notify_all-in-ToNotifyReceivers.ensures.changed (sound-notifies_receivers _ c.self.invariant c.in-ToNotifyReceivers.is (rw (← c.notify_all-in-ToNotifyReceivers.ensures.changed) c.notify_all-in-ToNotifyReceivers.ensures.nobody_waits))
