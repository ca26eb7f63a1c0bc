use Rattle.event_worlds.proofs.LineLemmas.{out-drops}
use Rattle.event_worlds.proofs.StepLemmas.{out-now, drops-now}
use Rattle.event_worlds.proofs.world.line.ClientLine.drop_out.Goals as goal

pub returns-in_default : goal.returns-in_default
returns-in_default c =
    record { changed = out-drops c.args.client c.args.self.now (out-now c.self.inside.additional c.self.inside.list c.self.inside.keys.items c.self.inside.wakes c.self.invariant c.args.self.now c.self.view_is c.args.client c.requires.client c.index.result.now c.index.ensures c.in_default.is) }

pub invariant_of-self : goal.invariant_of-self
invariant_of-self c =
    (drops-now c.self.inside.additional c.self.inside.list c.self.inside.keys.items c.self.inside.wakes c.self.invariant c.args.self.now c.self.view_is c.args.client c.requires.client c.index.result.now c.index.ensures c.in-Some.key c.in-Some.is c.remove_uncounted-left.result c.remove_uncounted-left.new.self c.remove_uncounted-left.new.sink c.remove_uncounted-left.ensures.step c.remove_uncounted-left.ensures.wakes).tied

pub returns : goal.returns
returns c =
    record { changed = (drops-now c.self.inside.additional c.self.inside.list c.self.inside.keys.items c.self.inside.wakes c.self.invariant c.args.self.now c.self.view_is c.args.client c.requires.client c.index.result.now c.index.ensures c.in-Some.key c.in-Some.is c.remove_uncounted-left.result c.remove_uncounted-left.new.self c.remove_uncounted-left.new.sink c.remove_uncounted-left.ensures.step c.remove_uncounted-left.ensures.wakes).is }
