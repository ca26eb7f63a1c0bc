use Rattle.event_wait.proofs.RoundLemmas.{tried_first, obtained_first}
use Rattle.event_wait.proofs.lock.wait.try_first.Goals as goal

pub returns-clause-obtained : goal.returns-clause-obtained
returns-clause-obtained g c =
    obtained_first (g.L.Waitable.rules c.args.lock.now) (g.L.Obtainable.trying c.args.lock.now) _ c.attempt.result _ c.attempt.ensures.gave

pub returns-clause-tried : goal.returns-clause-tried
returns-clause-tried g c none =
    tried_first (g.L.Waitable.rules c.args.lock.now) (g.L.Obtainable.trying c.args.lock.now) _ _ (c.attempt.ensures.missed none)
