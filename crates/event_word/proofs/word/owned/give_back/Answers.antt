use Rattle.event_word.proofs.WordKeeps.{passed}
use Rattle.event_word.proofs.word.owned.give_back.Goals as goal

pub done-requires : goal.done-requires
done-requires g c =
    (passed g.S.Kept.rules 2 0 _ _ _ _ c.requires.changes.1 c.requires.right.0 (c.turn-found.ensures.made c.if-found-expected.true), c.turn-found.ensures.own.2)
