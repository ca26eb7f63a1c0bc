use Rattle.std.proofs.Common.{rules, inr}
use Rattle.event_wait.specs.Rounds.{Tries}
use Rattle.event_wait.proofs.RoundLemmas.{one_more}
use Rattle.event_wait.proofs.lock.wait.try_a_while.Goals as goal

pub returns-in-Some-clause-obtained : goal.returns-in-Some-clause-obtained
returns-in-Some-clause-obtained g c =
    record { between = c.loop.request; waited = c.loop.invariant.1; succeeded = inr c.in-Some.ensures.gave }

pub loop-preserved : goal.loop-preserved
loop-preserved g c =
    (c.in_default.ensures.fits, one_more (Tries (g.L.Waitable.rules c.args.lock.now) (g.L.Obtainable.trying c.args.lock.now)) _ _ _ c.loop.invariant.1 (inr (c.in_default.ensures.missed (Prim.search (rules)))))
