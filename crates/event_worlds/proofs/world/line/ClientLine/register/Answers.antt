use Rattle.std.proofs.Common.{sym}
use Rattle.event_worlds.proofs.LineLemmas.{out-registers}
use Rattle.event_worlds.proofs.StepLemmas.{out-now, registers-told, registers-waiting, registers-absent}
use Rattle.event_worlds.proofs.world.line.ClientLine.register.Goals as goal

pub returns-in_default : goal.returns-in_default
returns-in_default c =
    let out = out-now c.self.inside.additional c.self.inside.list c.self.inside.keys.items c.self.inside.wakes c.self.invariant c.args.self.now c.self.view_is c.args.client c.requires.client c.index.result.now c.index.ensures c.in_default.is in
    record { leaves = record { answered = sym out.untold; line = out-registers c.args.client c.args.self.now out } }

pub invariant_of-self : goal.invariant_of-self
invariant_of-self c =
    (registers-told c.self.inside.additional c.self.inside.list c.self.inside.keys.items c.self.inside.wakes c.self.invariant c.args.self.now c.self.view_is c.args.client c.requires.client c.index.result.now c.index.ensures c.in-Some.key c.in-Some.is c.register_uncounted.new.self c.in-Notified.field-0 c.in-Notified.ensures.step).tied

pub returns-in-Notified : goal.returns-in-Notified
returns-in-Notified c =
    record { leaves = (registers-told c.self.inside.additional c.self.inside.list c.self.inside.keys.items c.self.inside.wakes c.self.invariant c.args.self.now c.self.view_is c.args.client c.requires.client c.index.result.now c.index.ensures c.in-Some.key c.in-Some.is c.register_uncounted.new.self c.in-Notified.field-0 c.in-Notified.ensures.step).leaves }

pub invariant_of-self-in-Registered : goal.invariant_of-self-in-Registered
invariant_of-self-in-Registered c =
    (registers-waiting c.self.inside.additional c.self.inside.list c.self.inside.keys.items c.self.inside.wakes c.self.invariant c.args.self.now c.self.view_is c.args.client c.requires.client c.index.result.now c.index.ensures c.in-Some.key c.in-Some.is c.register_uncounted.new.self c.in-Registered.ensures.step).tied

pub returns-in-Registered : goal.returns-in-Registered
returns-in-Registered c =
    record { leaves = (registers-waiting c.self.inside.additional c.self.inside.list c.self.inside.keys.items c.self.inside.wakes c.self.invariant c.args.self.now c.self.view_is c.args.client c.requires.client c.index.result.now c.index.ensures c.in-Some.key c.in-Some.is c.register_uncounted.new.self c.in-Registered.ensures.step).leaves }

pub returns-in-NeverInserted : goal.returns-in-NeverInserted
returns-in-NeverInserted c =
    record { leaves = (registers-absent c.self.inside.additional c.self.inside.list c.self.inside.keys.items c.self.inside.wakes c.self.invariant c.args.self.now c.self.view_is c.args.client c.requires.client c.index.result.now c.index.ensures c.in-Some.key c.in-Some.is c.register_uncounted.new.self c.in-NeverInserted.ensures.step).leaves }
