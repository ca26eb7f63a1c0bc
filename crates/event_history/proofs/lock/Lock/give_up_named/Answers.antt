use Rattle.std.proofs.Common.{rules}
use Rattle.event_history.proofs.lock.Lock.give_up_named.Goals as goal

pub give_back-requires-clause-step : goal.give_back-requires-clause-step
give_back-requires-clause-step g c =
    let made = c.give_up.ensures.goes in
    let mine = c.match-try_take.mark.view.mine in
    let here : g.Q.Request.follows c.args.request.now mine = Prim.search (rules) in
    let (among, after) = made.2 mine here in
    search (rules, among, after)
