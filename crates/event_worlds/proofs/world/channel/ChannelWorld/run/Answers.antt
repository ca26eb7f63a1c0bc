use Rattle.std.proofs.Common.{◌≡◌, arith}
use Rattle.std.proofs.lemmas.Grind.{common_steps}
use Rattle.event_worlds.specs.Channel.{after_all}
use Rattle.event_worlds.proofs.ChannelOrder.{all-in_order}
use Rattle.event_worlds.proofs.world.channel.ChannelWorld.run.Goals as goal

pub returns-clause-in_order : goal.returns-clause-in_order
returns-clause-in_order c =
    let whole : c.loop-step.self ≡ after_all c.args.steps.now c.args.self.now = grind (arith, common_steps) in
    rw whole (all-in_order c.args.steps.now c.args.self.now)
