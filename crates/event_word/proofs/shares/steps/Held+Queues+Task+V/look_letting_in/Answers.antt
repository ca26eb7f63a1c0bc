use Rattle.event_word.specs.Word.{number_of}
use Rattle.event_word.proofs.QueuesLemmas.{admits-on}
use Rattle.event_word.proofs.shares.steps.Held+Queues+Task+V.look_letting_in.Goals as goal

pub returns-clause-admits : goal.returns-clause-admits
returns-clause-admits g c = admits-on c.args.more (number_of c.look.result) c.args.self.now c.look.new.self c.requires.admits c.look.ensures.state.0 c.look.ensures.state.1 c.look.ensures.eases
