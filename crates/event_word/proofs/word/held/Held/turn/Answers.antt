use Rattle.std.proofs.Common.{rules}
use Rattle.event_word.proofs.WordKeeps.{moves, due_moves}
use Rattle.event_word.proofs.word.held.Held.turn.Goals as goal

pub exchange-found-requires-clause-keeps : goal.exchange-found-requires-clause-keeps
exchange-found-requires-clause-keeps g c = (search rules, moves g.S.Kept.rules _ _ _ _ _ _ c.requires.state.2 c.requires.takes)

pub exchange-found-requires-clause-owes : goal.exchange-found-requires-clause-owes
exchange-found-requires-clause-owes g c = due_moves _ _ _ _ _ c.requires.state.2 c.requires.code
