use Rattle.event_word.proofs.WordKeeps.{passed}
use Rattle.event_word.proofs.word.Word.give_back_at.Goals as goal

pub done-requires : goal.done-requires
done-requires g c = (passed g.S.Kept.rules 2 0 _ _ _ _ c.requires.changes.1 c.claim.ensures.2 (c.turn_at-found.ensures.made c.if-found-expected.true), c.turn_at-found.ensures.own.1)
