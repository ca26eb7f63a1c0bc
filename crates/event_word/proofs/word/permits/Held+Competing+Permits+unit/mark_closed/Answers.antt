use Rattle.std.proofs.Common.{arith}
use Rattle.event_word.specs.Free.{IsClosed}
use Rattle.event_word.proofs.EasesLemmas.{numbered-on}
use Rattle.event_word.proofs.word.permits.Held+Competing+Permits+unit.mark_closed.Goals as goal

pub returns-in-Some-change-clause-closed : goal.returns-in-Some-change-clause-closed
returns-in-Some-change-clause-closed g c =
    let free = c.free-closed.ensures in
    numbered-on IsClosed _ _ c.look_serving-seen.new.self c.change.new.self c.look_serving-seen.ensures.serves c.change.ensures.state c.in-Some-change.ensures.changes (omega (arith, free), omega (arith, free))
