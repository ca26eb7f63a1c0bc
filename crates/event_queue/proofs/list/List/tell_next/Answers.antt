use Rattle.event_queue.proofs.TellingLemmas.{IsQueue-told_first}
use Rattle.event_queue.proofs.list.List.tell_next.Goals as goal

pub invariant_of-self : goal.invariant_of-self
invariant_of-self g c =
    IsQueue-told_first _ c.args.notice _ _ _ _ c.self.invariant c.advance.ensures.first c.advance.ensures.told c.advance.ensures.spare

pub returns-clause-queue : goal.returns-clause-queue
returns-clause-queue g c =
    IsQueue-told_first _ c.args.notice _ _ _ _ c.self.invariant c.advance.ensures.first c.advance.ensures.told c.advance.ensures.spare
