use Rattle.std.proofs.Common.{arith, refl, ◌-◌}
use Rattle.event_word.proofs.EasesLemmas.{taken-on}
use Rattle.event_word.proofs.word.permits.Held+Competing+Permits+unit.take_permit.Goals as goal

pub returns-in-Some-change-clause-serves : goal.returns-in-Some-change-clause-serves
returns-in-Some-change-clause-serves g c =
    let seen = c.look_serving-seen.result in
    let may = c.if-not-may_take.ensures in
    let some = may.some refl in
    taken-on c.args.notified seen (seen - 4) c.look_serving-seen.new.self c.change.new.self c.look_serving-seen.ensures.serves c.change.ensures.state c.in-Some-change.ensures.changes (omega (arith, some.0)) some.1 (may.open refl)
