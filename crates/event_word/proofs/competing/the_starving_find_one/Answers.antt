use Rattle.event_word.proofs.FreeLemmas.{finds_one}
use Rattle.event_word.proofs.competing.the_starving_find_one.Goals as goal

pub returns : goal.returns
returns g c = finds_one
