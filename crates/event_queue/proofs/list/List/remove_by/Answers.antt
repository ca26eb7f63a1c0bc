use Rattle.std.proofs.Common.{refl, rules}
use Rattle.event_queue.proofs.LawLemmas.{untold-waiting, IsRemoval-step}
use Rattle.event_queue.proofs.Calls.Taken.{IsQueue-taken}
use Rattle.event_queue.proofs.list.List.remove_by.Goals as goal

pub invariant_of-self-in-After : goal.invariant_of-self-in-After
invariant_of-self-in-After g c =
    IsQueue-taken _ _ _ _ _ c.self.invariant c.take.ensures.step

pub invariant_of-self-then-propagate : goal.invariant_of-self-then-propagate
invariant_of-self-then-propagate g c =
    IsQueue-taken _ _ _ _ _ c.self.invariant c.take.ensures.step

pub invariant_of-self-else-propagate : goal.invariant_of-self-else-propagate
invariant_of-self-else-propagate g c =
    IsQueue-taken _ _ _ _ _ c.self.invariant c.take.ensures.step

pub returns-in_err-stored-clause-law : goal.returns-in_err-stored-clause-law
returns-in_err-stored-clause-law g c =
    let queue = IsQueue-taken _ _ _ _ _ c.self.invariant c.take.ensures.step in
    IsRemoval-step _ _ _ _ _ _ _ _ (search rules) queue (search rules) (search rules)

pub returns-after-stored-clause-law : goal.returns-after-stored-clause-law
returns-after-stored-clause-law g c =
    let queue = IsQueue-taken _ _ _ _ _ c.self.invariant c.take.ensures.step in
    let taken = rw (c.in_ok-stored.was, c.in-After.is) at c.take.ensures.step in
    let untold = untold-waiting c.args.key _ c.in-After.stored c.self.invariant taken.0 in
    IsRemoval-step _ _ _ _ _ _ _ _ (search rules) queue (search rules) (rw (← c.self.view_is, untold) refl)

pub returns-then-propagate-clause-law : goal.returns-then-propagate-clause-law
returns-then-propagate-clause-law g c =
    IsRemoval-step _ _ _ _ _ _ _ _ (search rules) c.pass_on.ensures.queue (search rules) (search rules)

pub returns-else-propagate-clause-law : goal.returns-else-propagate-clause-law
returns-else-propagate-clause-law g c =
    let queue = IsQueue-taken _ _ _ _ _ c.self.invariant c.take.ensures.step in
    IsRemoval-step _ _ _ _ _ _ _ _ (search rules) queue (search rules) (search rules)
