use Rattle.event_worlds.proofs.ChannelOrder.{step-in_order}
use Rattle.event_worlds.proofs.world.channel.ChannelWorld.step.Goals as goal

pub returns-clause-in_order : goal.returns-clause-in_order
returns-clause-in_order c =
    rw c.take_step-taken.ensures.takes.state (step-in_order c.args.actor c.args.act c.args.self.now)
