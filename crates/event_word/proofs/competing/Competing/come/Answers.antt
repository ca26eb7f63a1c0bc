use Rattle.std.proofs.Common.{refl, Some}
use Rattle.event_queue.proofs.LawLemmas.{untold-waiting}
use Rattle.event_word.proofs.FreeLemmas.{serves-came}
use Rattle.event_wait.proofs.TurnLemmas.{among-absent, among-left}
use Rattle.event_word.proofs.competing.Competing.come.Goals as goal

pub returns-in-Notified-clause-comes : goal.returns-in-Notified-clause-comes
returns-in-Notified-clause-comes g c =
    let looks = c.in-Notified.ensures.looks in
    rw c.in-Some.is (refl, among-left c.in-Some.key _ _ looks.0.order, refl, looks.1)

pub returns-in-Notified-clause-serves : goal.returns-in-Notified-clause-serves
returns-in-Notified-clause-serves g c = λ n h. serves-came 0 n c.in-Some.key c.args.self.now.line c.look.new.self c.in-Notified.ensures.looks.0 h

pub returns-in-NeverInserted-clause-comes : goal.returns-in-NeverInserted-clause-comes
returns-in-NeverInserted-clause-comes g c =
    let looks = c.in-NeverInserted.ensures.looks in
    rw (c.in-Some.is, looks.1) (among-absent c.in-Some.key c.args.self.now.line.queue looks.0, refl, looks.2)

pub returns-in-Registered-clause-came : goal.returns-in-Registered-clause-came
returns-in-Registered-clause-came g c =
    let call = c.in-Registered.ensures in
    let found = call.looks.found in
    rw (c.in-Some.is, untold-waiting c.in-Some.key c.args.self.now.line.queue (Some call.looks.waiter) call.queue found, found) refl
