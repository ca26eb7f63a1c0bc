use Rattle.std.proofs.Common.{rules}
use Rattle.event_history.specs.History.{machine_of}
use Rattle.event_history.specs.Waiting.{by_hand, tried_by_hand}
use Rattle.event_history.proofs.LentLemmas.{lent_obtains}
use Rattle.event_history.proofs.lock.Lock.obtain.Goals as goal

pub returns-clause-hand : goal.returns-clause-hand
returns-clause-hand g c =
    let asked = by_hand (machine_of g.S.Steps c.args.self.now.start) g.Q.Request.attempting g.Q.Request.leaving g.Q.Request.waits g.Q.Request.succeeds g.Q.Request.leaves in
    let tried = tried_by_hand (machine_of g.S.Steps c.args.self.now.start) g.Q.Request.waits g.Q.Request.succeeds g.Q.Attempt.trying g.Q.Attempt.has_place g.Q.Attempt.giving_up in
    let names = (lent_obtains (λ by. (by.hand.ghost_name, by.request.ghost_name)) (λ by. (by.request.now, by.hand.now.mark.view)) _ asked tried _ _ _ c.obtain-answer.new.request c.obtain-answer.ensures.obtains).0 in
    Prim.search (rules)

pub returns-clause-rests : goal.returns-clause-rests
returns-clause-rests g c =
    let asked = by_hand (machine_of g.S.Steps c.args.self.now.start) g.Q.Request.attempting g.Q.Request.leaving g.Q.Request.waits g.Q.Request.succeeds g.Q.Request.leaves in
    let tried = tried_by_hand (machine_of g.S.Steps c.args.self.now.start) g.Q.Request.waits g.Q.Request.succeeds g.Q.Attempt.trying g.Q.Attempt.has_place g.Q.Attempt.giving_up in
    let names = (lent_obtains (λ by. (by.hand.ghost_name, by.request.ghost_name)) (λ by. (by.request.now, by.hand.now.mark.view)) _ asked tried _ _ _ c.obtain-answer.new.request c.obtain-answer.ensures.obtains).0 in
    Prim.search (rules)

pub returns-clause-obtains : goal.returns-clause-obtains
returns-clause-obtains g c =
    let asked = by_hand (machine_of g.S.Steps c.args.self.now.start) g.Q.Request.attempting g.Q.Request.leaving g.Q.Request.waits g.Q.Request.succeeds g.Q.Request.leaves in
    let tried = tried_by_hand (machine_of g.S.Steps c.args.self.now.start) g.Q.Request.waits g.Q.Request.succeeds g.Q.Attempt.trying g.Q.Attempt.has_place g.Q.Attempt.giving_up in
    let ended = lent_obtains (λ by. (by.hand.ghost_name, by.request.ghost_name)) (λ by. (by.request.now, by.hand.now.mark.view)) _ asked tried _ _ _ c.obtain-answer.new.request c.obtain-answer.ensures.obtains in
    let names = ended.0 in
    Prim.search (rules)
