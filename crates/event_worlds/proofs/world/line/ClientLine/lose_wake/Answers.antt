use Rattle.event_worlds.proofs.StepLemmas.{clears}
use Rattle.event_worlds.proofs.world.line.ClientLine.lose_wake.Goals as goal

pub invariant_of-self : goal.invariant_of-self
invariant_of-self c =
    (clears c.self.inside.additional c.self.inside.list c.self.inside.keys.items c.self.inside.wakes c.self.invariant c.args.self.now c.self.view_is c.clear.new.self c.args.client c.clear.ensures.cleared).tied
