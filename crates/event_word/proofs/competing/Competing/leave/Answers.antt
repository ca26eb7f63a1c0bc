use Rattle.std.proofs.Common.{sym, ◌∙◌}
use Rattle.event_word.proofs.FreeLemmas.{serves-left, serves-left_told}
use Rattle.event_wait.proofs.TurnLemmas.{among-left}
use Rattle.event_word.proofs.competing.Competing.leave.Goals as goal

pub returns-then-leave-clause-left : goal.returns-then-leave-clause-left
returns-then-leave-clause-left g c = rw (sym c.take.ensures.value ∙ c.in-Some.is) (among-left c.in-Some.key _ _ c.leave.ensures.left.order)

pub returns-then-leave-clause-serves : goal.returns-then-leave-clause-serves
returns-then-leave-clause-serves g c =
    let call = c.leave.ensures in
    λ n h. serves-left_told 0 n c.in-Some.key c.args.self.now.line c.leave.new.self call.left call.starving (call.notified c.if-leave.true) h

pub returns-clause-left : goal.returns-clause-left
returns-clause-left g c = rw (sym c.take.ensures.value ∙ c.in-Some.is) (among-left c.in-Some.key _ _ c.leave.ensures.left.order)

pub returns-clause-serves : goal.returns-clause-serves
returns-clause-serves g c =
    let call = c.leave.ensures in
    λ n h. serves-left 0 n c.in-Some.key c.args.self.now.line c.leave.new.self call.left call.starving h
