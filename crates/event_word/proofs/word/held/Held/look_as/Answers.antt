use Rattle.std.proofs.Common.{sym, ◌∙◌}
use Rattle.event_word.proofs.WordKeeps.{sees_again, due_sees_again}
use Rattle.event_word.proofs.word.held.Held.look_as.Goals as goal

pub load-requires-clause-keeps : goal.load-requires-clause-keeps
load-requires-clause-keeps g c = (c.args.self.now.own.2 ∙ sym c.requires.own, sees_again g.S.Kept.rules _ _ _ c.requires.state.2)

pub load-requires-clause-owes : goal.load-requires-clause-owes
load-requires-clause-owes g c = due_sees_again g.S.Kept.rules _ _ c.requires.state.2
