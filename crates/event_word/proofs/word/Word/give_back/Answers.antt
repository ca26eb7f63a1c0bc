use Rattle.event_word.proofs.WordKeeps.{passed}
use Rattle.event_word.proofs.word.Word.give_back.Goals as goal

pub done-requires : goal.done-requires
done-requires g c = (passed g.S.Kept.rules 2 0 _ _ _ _ c.requires.changes.1 c.claim.ensures.2 (c.turn-found.ensures.made c.if-found-seen.true), c.turn-found.ensures.own.1)
