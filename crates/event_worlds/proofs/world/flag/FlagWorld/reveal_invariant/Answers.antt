use Rattle.event_worlds.proofs.FlagSafetyLemmas.{safe}
use Rattle.event_worlds.proofs.ServedLemmas.{are_listening}
use Rattle.event_worlds.proofs.world.flag.FlagWorld.reveal_invariant.Goals as goal

pub returns-clause-safe : goal.returns-clause-safe
returns-clause-safe c = rw (← c.self.view_is) (safe _ c.self.invariant)

pub returns-clause-in_line_are_those_listening : goal.returns-clause-in_line_are_those_listening
returns-clause-in_line_are_those_listening c = rw (← c.self.view_is) (are_listening _ _ _ _ c.self.invariant.served)
