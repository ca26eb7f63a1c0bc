use Rattle.event_worlds.proofs.StepLemmas.{refused-now, joins-now}
use Rattle.event_worlds.proofs.world.line.ClientLine.join.Goals as goal

pub invariant_of-self : goal.invariant_of-self
invariant_of-self c =
    (refused-now c.self.inside.additional c.self.inside.list c.self.inside.keys.items c.self.inside.wakes c.self.invariant c.args.self.now c.self.view_is c.args.client c.requires.client c.requires.absent c.in_default.field-0 c.insert_uncounted.new.self c.in_default.ensures.step).tied

pub returns-in_default : goal.returns-in_default
returns-in_default c =
    record { leaves = (refused-now c.self.inside.additional c.self.inside.list c.self.inside.keys.items c.self.inside.wakes c.self.invariant c.args.self.now c.self.view_is c.args.client c.requires.client c.requires.absent c.in_default.field-0 c.insert_uncounted.new.self c.in_default.ensures.step).leaves }

pub invariant_of-self-2 : goal.invariant_of-self-2
invariant_of-self-2 c =
    (joins-now c.self.inside.additional c.self.inside.list c.self.inside.keys.items c.self.inside.wakes c.self.invariant c.args.self.now c.self.view_is c.args.client c.requires.client c.requires.absent c.in-Ok.key c.insert_uncounted.new.self c.clear.new.self c.insert_uncounted.ensures.queue c.in-Ok.ensures.step c.in-Ok.ensures.order c.clear.ensures.cleared).tied

pub returns : goal.returns
returns c =
    record { leaves = (joins-now c.self.inside.additional c.self.inside.list c.self.inside.keys.items c.self.inside.wakes c.self.invariant c.args.self.now c.self.view_is c.args.client c.requires.client c.requires.absent c.in-Ok.key c.insert_uncounted.new.self c.clear.new.self c.insert_uncounted.ensures.queue c.in-Ok.ensures.step c.in-Ok.ensures.order c.clear.ensures.cleared).leaves }
