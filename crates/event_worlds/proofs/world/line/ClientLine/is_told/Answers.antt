use Rattle.std.proofs.Common.{sym, ◌∙◌}
use Rattle.event_worlds.proofs.StepLemmas.{same_test, out-now, told-now}
use Rattle.event_worlds.proofs.world.line.ClientLine.is_told.Goals as goal

pub returns-in-Some : goal.returns-in-Some
returns-in-Some c =
    let told = told-now c.self.inside.additional c.self.inside.list c.self.inside.keys.items c.self.inside.wakes c.self.invariant c.args.self.now c.self.view_is c.args.client c.requires.client c.index.result.now c.index.ensures c.in-Some.key c.in-Some.is in
    record { value = same_test c.is_told_uncounted.result _ c.is_told_uncounted.ensures.value ∙ sym told }

pub returns-in-None : goal.returns-in-None
returns-in-None c =
    let out = out-now c.self.inside.additional c.self.inside.list c.self.inside.keys.items c.self.inside.wakes c.self.invariant c.args.self.now c.self.view_is c.args.client c.requires.client c.index.result.now c.index.ensures c.in-None.is in
    record { value = sym out.untold }
