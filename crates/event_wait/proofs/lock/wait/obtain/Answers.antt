use Rattle.std.proofs.Common.{inl}
use Rattle.event_wait.proofs.RoundLemmas.{obtains_then}
use Rattle.event_wait.proofs.lock.wait.obtain.Goals as goal

pub returns-in-Some-clause-obtains : goal.returns-in-Some-clause-obtains
returns-in-Some-clause-obtains g c = inl c.in-Some.ensures.obtained

pub returns-clause-obtains : goal.returns-clause-obtains
returns-clause-obtains g c =
    obtains_then (g.L.Waitable.rules c.args.lock.now) (g.L.Obtainable.trying c.args.lock.now) _ _ _ _ (c.try_first.ensures.tried c.in_default.is) _ c.try_then_wait.ensures.obtains
