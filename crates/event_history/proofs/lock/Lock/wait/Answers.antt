use Rattle.std.proofs.Common.{rules}
use Rattle.event_history.specs.History.{machine_of}
use Rattle.event_history.specs.Waiting.{by_hand}
use Rattle.event_history.proofs.LentLemmas.{lent_waits}
use Rattle.event_history.proofs.lock.Lock.wait.Goals as goal

pub returns-clause-hand : goal.returns-clause-hand
returns-clause-hand g c =
    let asked = by_hand (machine_of g.S.Steps c.args.self.now.start) g.Q.Request.attempting g.Q.Request.leaving g.Q.Request.waits g.Q.Request.succeeds g.Q.Request.leaves in
    let names = (lent_waits (λ by. (by.hand.ghost_name, by.request.ghost_name)) (λ by. (by.request.now, by.hand.now.mark.view)) _ asked _ _ _ c.wait-answer.new.request c.wait-answer.ensures.waits).0 in
    Prim.search (rules)

pub returns-clause-rests : goal.returns-clause-rests
returns-clause-rests g c =
    let asked = by_hand (machine_of g.S.Steps c.args.self.now.start) g.Q.Request.attempting g.Q.Request.leaving g.Q.Request.waits g.Q.Request.succeeds g.Q.Request.leaves in
    let names = (lent_waits (λ by. (by.hand.ghost_name, by.request.ghost_name)) (λ by. (by.request.now, by.hand.now.mark.view)) _ asked _ _ _ c.wait-answer.new.request c.wait-answer.ensures.waits).0 in
    Prim.search (rules)

pub returns-clause-waits : goal.returns-clause-waits
returns-clause-waits g c =
    let asked = by_hand (machine_of g.S.Steps c.args.self.now.start) g.Q.Request.attempting g.Q.Request.leaving g.Q.Request.waits g.Q.Request.succeeds g.Q.Request.leaves in
    let ended = lent_waits (λ by. (by.hand.ghost_name, by.request.ghost_name)) (λ by. (by.request.now, by.hand.now.mark.view)) _ asked _ _ _ c.wait-answer.new.request c.wait-answer.ensures.waits in
    let names = ended.0 in
    Prim.search (rules)
