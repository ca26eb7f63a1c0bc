use Rattle.event_word.proofs.WordKeeps.{passed}
use Rattle.event_word.proofs.word.owned.lend.Goals as goal

pub returns-then-found-expected-clause-right : goal.returns-then-found-expected-clause-right
returns-then-found-expected-clause-right g c =
    (passed g.S.Kept.rules 0 2 _ _ _ _ c.requires.changes.1 c.new.ensures.3 (c.turn-found.ensures.made c.if-found-expected.true), c.turn-found.ensures.own.2)
