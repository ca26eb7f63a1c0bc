use Rattle.event_word.specs.Held.{HasState}
use Rattle.event_word.proofs.word.held.Held.put_home_shut.Given as goal

abbrev pub invariant-loop : goal.invariant-loop
invariant-loop g l = HasState g.S.Kept.rules.promised l.held
