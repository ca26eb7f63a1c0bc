use Rattle.event_word.proofs.WordKeeps.{passed}
use Rattle.event_word.proofs.word.Word.lend.Goals as goal

pub write-requires : goal.write-requires
write-requires g c = (passed g.S.Kept.rules 0 2 _ _ _ _ c.requires.changes.1 c.claim.ensures.2 (c.turn-found.ensures.made c.if-found-seen.true), c.turn-found.ensures.own.1)
