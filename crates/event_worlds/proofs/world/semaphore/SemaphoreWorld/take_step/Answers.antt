use Rattle.std.proofs.Common.{ap, arith}
use Rattle.event_worlds.specs.Semaphore.{SemaphoreState, from, goes}
use Rattle.event_worlds.proofs.MadeLemmas.{takes, stays}
use Rattle.event_worlds.proofs.SemaphoreSteps.{may_be_at, permits_fit, sound-moves}
use Rattle.event_worlds.proofs.world.semaphore.SemaphoreWorld.take_step.Goals as goal

pub moves-requires-clause-may_be_at : goal.moves-requires-clause-may_be_at
moves-requires-clause-may_be_at c = may_be_at _ c.args.client c.self.invariant c.in-Some.own (cc)

pub moves-requires-clause-fits : goal.moves-requires-clause-fits
moves-requires-clause-fits c = permits_fit _ c.args.client c.self.invariant c.in-Some.own (cc) (omega arith)

pub invariant_of-self : goal.invariant_of-self
invariant_of-self c =
    sound-moves _ c.args.client c.self.invariant c.in-Some.own (cc) c.args.act (c.in-Some-moves.made, c.moves.new.line) c.in-Some-moves.ensures.moves

pub returns-in-Some-moves : goal.returns-in-Some-moves
returns-in-Some-moves c =
    let state : SemaphoreState = record { permits = c.self.inside.permits; free = c.self.inside.free; clients = c.self.inside.clients.items; line = c.self.inside.line } in
    rw (← c.self.view_is) (record { takes = takes (λ _. goes c.args.client state) (λ own. from c.args.act own.place c.args.client own state.free state.line) _ c.in-Some.own (cc) state (c.in-Some-moves.made, c.moves.new.line) c.in-Some-moves.ensures.moves })

pub returns-in-None : goal.returns-in-None
returns-in-None c =
    let state : SemaphoreState = record { permits = c.self.inside.permits; free = c.self.inside.free; clients = c.self.inside.clients.items; line = c.self.inside.line } in
    rw (← c.self.view_is) (record { takes = stays (λ _. goes c.args.client state) (λ own. from c.args.act own.place c.args.client own state.free state.line) _ c.in-Some.own (cc) state (record state { line = c.moves.new.line }) c.in-None.ensures.moves.0 (ap (λ l. record state { line = l }) c.in-None.ensures.moves.1) })
