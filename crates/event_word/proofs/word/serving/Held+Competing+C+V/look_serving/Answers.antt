use Rattle.event_word.specs.Word.{count, number_of}
use Rattle.event_word.proofs.EasesLemmas.{serves-on}
use Rattle.event_word.proofs.word.serving.Held+Competing+C+V.look_serving.Goals as goal

pub returns-clause-serves : goal.returns-clause-serves
returns-clause-serves g c = serves-on g.C.Counted.fits g.C.Counted.taken g.C.Counted.CLOSES g.C.Counted.ARE_MANY (count c.args.notified) (number_of c.look.result) c.args.self.now c.look.new.self c.requires.serves c.look.ensures.state.0 c.look.ensures.state.1 c.look.ensures.eases
