use Rattle.std.proofs.Common.{ap}
use Rattle.event_worlds.specs.Flag.{FlagState, from_setter, setter_goes}
use Rattle.event_worlds.proofs.FlagSteps.{sound-setter_moves}
use Rattle.event_worlds.proofs.MadeLemmas.{takes, stays}
use Rattle.event_worlds.proofs.world.flag.FlagWorld.take_setter_step.Goals as goal

pub invariant_of-self : goal.invariant_of-self
invariant_of-self c =
    sound-setter_moves _ c.args.setter c.self.invariant c.in-Some.place (cc) c.setter_moves.ensures.nobody_waits (c.in-Some-setter_moves.made, c.setter_moves.new.line) c.in-Some-setter_moves.ensures.moves

pub returns-in-Some-setter_moves : goal.returns-in-Some-setter_moves
returns-in-Some-setter_moves c =
    let state : FlagState = record { flag = c.self.inside.flag; places = c.self.inside.places.items; setters = c.self.inside.setters.items; line = c.self.inside.line } in
    rw (← c.self.view_is) (record { takes = takes (λ _. setter_goes c.args.setter state) (λ p. from_setter p state.flag state.line) _ c.in-Some.place (cc) state (c.in-Some-setter_moves.made, c.setter_moves.new.line) c.in-Some-setter_moves.ensures.moves })

pub returns-in-None : goal.returns-in-None
returns-in-None c =
    let state : FlagState = record { flag = c.self.inside.flag; places = c.self.inside.places.items; setters = c.self.inside.setters.items; line = c.self.inside.line } in
    rw (← c.self.view_is) (record { takes = stays (λ _. setter_goes c.args.setter state) (λ p. from_setter p state.flag state.line) _ c.in-Some.place (cc) state (record state { line = c.setter_moves.new.line }) c.in-None.ensures.moves.0 (ap (λ l. record state { line = l }) c.in-None.ensures.moves.1) })
