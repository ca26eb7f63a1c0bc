use Rattle.std.proofs.Common.{sym, ◌∙◌}
use Rattle.event_worlds.proofs.LineLemmas.{out-leaves}
use Rattle.event_worlds.proofs.StepLemmas.{out-now, told-now, leaves-now, same_test}
use Rattle.event_worlds.proofs.world.line.ClientLine.leave.Goals as goal

pub returns-in_default : goal.returns-in_default
returns-in_default c =
    let out = out-now c.self.inside.additional c.self.inside.list c.self.inside.keys.items c.self.inside.wakes c.self.invariant c.args.self.now c.self.view_is c.args.client c.requires.client c.index.result.now c.index.ensures c.in_default.is in
    record { leaves = record { answered = sym out.untold; line = out-leaves c.args.client c.args.self.now out } }

pub invariant_of-self : goal.invariant_of-self
invariant_of-self c =
    (leaves-now c.self.inside.additional c.self.inside.list c.self.inside.keys.items c.self.inside.wakes c.self.invariant c.args.self.now c.self.view_is c.args.client c.requires.client c.index.result.now c.index.ensures c.in-Some.key c.in-Some.is c.remove_uncounted-left.result c.remove_uncounted-left.new.self c.remove_uncounted-left.new.sink c.remove_uncounted-left.ensures.step c.remove_uncounted-left.ensures.wakes).tied

pub returns : goal.returns
returns c =
    let told = told-now c.self.inside.additional c.self.inside.list c.self.inside.keys.items c.self.inside.wakes c.self.invariant c.args.self.now c.self.view_is c.args.client c.requires.client c.index.result.now c.index.ensures c.in-Some.key c.in-Some.is in
    let leaves = leaves-now c.self.inside.additional c.self.inside.list c.self.inside.keys.items c.self.inside.wakes c.self.invariant c.args.self.now c.self.view_is c.args.client c.requires.client c.index.result.now c.index.ensures c.in-Some.key c.in-Some.is c.remove_uncounted-left.result c.remove_uncounted-left.new.self c.remove_uncounted-left.new.sink c.remove_uncounted-left.ensures.step c.remove_uncounted-left.ensures.wakes in
    record { leaves = record { answered = same_test c.is_told_uncounted-told.result _ c.is_told_uncounted-told.ensures.value ∙ sym told; line = leaves.is } }
