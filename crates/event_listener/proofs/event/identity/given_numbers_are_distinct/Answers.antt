use Rattle.event_listener.proofs.IdentityLemmas.{given_numbers_differ}
use Rattle.event_listener.proofs.event.identity.given_numbers_are_distinct.Goals as goal

pub returns : goal.returns
returns c = given_numbers_differ c.args.ids.now
