use Rattle.event_word.proofs.FreeLemmas.{stands-new}
use Rattle.event_word.proofs.competing.Competing.new.Goals as goal

pub returns-clause-stands : goal.returns-clause-stands
returns-clause-stands g c closes number may =
    stands-new closes number _ c.new.ensures.waiting c.new.ensures.starving may
