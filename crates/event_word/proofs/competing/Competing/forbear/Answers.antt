use Rattle.event_word.proofs.FreeLemmas.{serves-forborne}
use Rattle.event_word.proofs.competing.Competing.forbear.Goals as goal

pub returns-clause-serves : goal.returns-clause-serves
returns-clause-serves g c = λ n h. serves-forborne 0 n c.args.self.now.line c.forbear.new.self c.forbear.ensures.forbears h
