use Rattle.std.proofs.Common.{rules, inl, refl}
use Rattle.event_history.proofs.Keeps.{locks}
use Rattle.event_history.proofs.traced.Traced.try_take.Goals as goal

pub exchange-found-requires-clause-keeps : goal.exchange-found-requires-clause-keeps
exchange-found-requires-clause-keeps g c = (search rules, locks _ c.args.mark.now.view.owes (search rules) 1 (inl refl) _ _ _ (search rules) (search rules))
