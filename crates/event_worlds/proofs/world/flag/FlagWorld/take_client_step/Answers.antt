use Rattle.std.proofs.Common.{ap}
use Rattle.event_worlds.specs.Flag.{FlagState, from, goes}
use Rattle.event_worlds.proofs.FlagSteps.{may_be_at, sound-moves}
use Rattle.event_worlds.proofs.MadeLemmas.{takes, stays}
use Rattle.event_worlds.proofs.world.flag.FlagWorld.take_client_step.Goals as goal

pub moves-requires-clause-may_be_at : goal.moves-requires-clause-may_be_at
moves-requires-clause-may_be_at c = may_be_at _ c.args.client c.self.invariant c.in-Some.place (cc)

pub invariant_of-self : goal.invariant_of-self
invariant_of-self c =
    sound-moves _ c.args.client c.self.invariant c.in-Some.place (cc) (c.in-Some-moves.place, c.moves.new.line) c.in-Some-moves.ensures.moves

pub returns-in-Some-moves : goal.returns-in-Some-moves
returns-in-Some-moves c =
    let state : FlagState = record { flag = c.self.inside.flag; places = c.self.inside.places.items; setters = c.self.inside.setters.items; line = c.self.inside.line } in
    rw (← c.self.view_is) (record { takes = takes (λ _. goes c.args.client state) (λ p. from p c.args.client state.flag state.line) _ c.in-Some.place (cc) state (c.in-Some-moves.place, c.moves.new.line) c.in-Some-moves.ensures.moves })

pub returns-in-None : goal.returns-in-None
returns-in-None c =
    let state : FlagState = record { flag = c.self.inside.flag; places = c.self.inside.places.items; setters = c.self.inside.setters.items; line = c.self.inside.line } in
    rw (← c.self.view_is) (record { takes = stays (λ _. goes c.args.client state) (λ p. from p c.args.client state.flag state.line) _ c.in-Some.place (cc) state (record state { line = c.moves.new.line }) c.in-None.ensures.moves.0 (ap (λ l. record state { line = l }) c.in-None.ensures.moves.1) })
