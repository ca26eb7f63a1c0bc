use Rattle.std.proofs.Common.{refl}
use Rattle.event_wait.proofs.KeptTurns.{has_joined, turns-joined}
use Rattle.event_wait.proofs.TurnLemmas.{joins, line-joined}
use Rattle.event_wait.proofs.fair_queue.FairQueue.join.Goals as goal

pub invariant_of-self-2 : goal.invariant_of-self-2
invariant_of-self-2 g c =
    let exchanged = g.X.TaskExchange.exchanged c.args.exchange.now in
    let step = rw (c.in_ok-key.was, c.turn_at_end-turn.ensures.turn) at c.join_in_turn.ensures.step in
    let starving = rw c.make_room.ensures.kept at c.count_in.ensures in
    let joined = joins exchanged c.args.starves c.in_ok-key.key _ c.args.on.now _ c.join_in_turn.new.on step starving refl c.turn_at_end-turn.ensures.queue in
    line-joined exchanged c.args.starves c.in_ok-key.key _ c.args.on.now _ c.join_in_turn.new.on joined c.turn_at_end-turn.ensures.queue c.self.invariant

pub returns-clause-joins : goal.returns-clause-joins
returns-clause-joins g c =
    let step = rw (c.in_ok-key.was, c.turn_at_end-turn.ensures.turn) at c.join_in_turn.ensures.step in
    let starving = rw c.make_room.ensures.kept at c.count_in.ensures in
    rw (← c.self.view_is) (joins (g.X.TaskExchange.exchanged c.args.exchange.now) c.args.starves c.in_ok-key.key _ c.args.on.now _ c.join_in_turn.new.on step starving refl c.turn_at_end-turn.ensures.queue)

pub returns-clause-turn : goal.returns-clause-turn
returns-clause-turn g c =
    has_joined (g.X.TaskExchange.exchanged c.args.exchange.now) c.args.starves c.in_ok-key.key _ c.args.on.now _ c.join_in_turn.new.on (returns-clause-joins g c)

pub returns-clause-turns : goal.returns-clause-turns
returns-clause-turns g c =
    turns-joined (g.X.TaskExchange.exchanged c.args.exchange.now) c.args.starves c.in_ok-key.key _ c.args.on.now _ c.join_in_turn.new.on (returns-clause-joins g c)
