use Rattle.event_word.proofs.FreeLemmas.{stands-settled}
use Rattle.event_word.proofs.competing.CompetingKept.settle.Goals as goal

pub returns-clause-stands : goal.returns-clause-stands
returns-clause-stands g c =
    let step = rw c.free.ensures at c.tell.ensures.step in
    let stays = c.is_closed_for.ensures.open c.if-is_closed_for.false in
    stands-settled g.C.Counted.CLOSES c.args.number _ _ step c.tell.ensures.kept (c.requires.3 stays) c.requires.2 stays
