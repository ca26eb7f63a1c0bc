use Rattle.std.proofs.Common.{refl, ap}
use Rattle.event_queue.specs.declared.reply.RegisterResult.TheVariants.{Notified}
use Rattle.event_wait.specs.FairQueue.{StoresInTurn}
use Rattle.event_wait.proofs.LengthLemmas.{looked}
use Rattle.event_wait.proofs.KeptTurns.{turns-on}
use Rattle.event_wait.proofs.TurnLemmas.{line-came, line-waits, waits_on}
use Rattle.event_wait.proofs.fair_queue.FairQueue.look.Goals as goal

pub invariant_of-self : goal.invariant_of-self
invariant_of-self g c =
    let call = c.in-Notified.ensures in
    let told = (looked (StoresInTurn (g.X.TaskExchange.exchanged c.args.exchange.now) c.turn_at_end-turn.result) c.self.inside.queue c.look_in_turn.new.queue c.args.key c.args.on.now c.look_in_turn.new.on (Notified c.in-Notified.field-0) call.step).1.0 in
    line-came c.args.key _ _ told (ap (λ q. q.waiting) call.step.1) call.order_without call.serial c.strike_off.ensures refl c.self.invariant

pub invariant_of-self-in-Registered : goal.invariant_of-self-in-Registered
invariant_of-self-in-Registered g c =
    let exchanged = g.X.TaskExchange.exchanged c.args.exchange.now in
    let stays = waits_on exchanged c.turn_at_end-turn.result c.args.key _ c.args.on.now _ c.look_in_turn.new.on c.in-Registered.ensures.step c.self.invariant in
    line-waits exchanged c.args.key _ c.args.on.now _ c.look_in_turn.new.on stays c.self.invariant

pub returns-in-Registered-clause-looks : goal.returns-in-Registered-clause-looks
returns-in-Registered-clause-looks g c =
    rw (← c.self.view_is) (waits_on (g.X.TaskExchange.exchanged c.args.exchange.now) c.turn_at_end-turn.result c.args.key _ c.args.on.now _ c.look_in_turn.new.on c.in-Registered.ensures.step c.self.invariant)

pub returns-in-Registered-clause-turns : goal.returns-in-Registered-clause-turns
returns-in-Registered-clause-turns g c =
    turns-on (g.X.TaskExchange.exchanged c.args.exchange.now) c.args.key _ c.args.on.now _ c.look_in_turn.new.on (returns-in-Registered-clause-looks g c)
