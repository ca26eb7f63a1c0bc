use Rattle.std.proofs.Common.{arith, rules, ◌∙◌}
use Rattle.event_queue.proofs.NotifyLemmas.{one_more_told, IsNotification-step}
use Rattle.event_queue.proofs.list.List.notify_by.Goals as goal

pub loop-told-preserved : goal.loop-told-preserved
loop-told-preserved g c = record {
  told = one_more_told _ _ _ _ _ _ _ _ _ _ _ c.in-Ok.tag _ _ _ c.loop-told.invariant.told c.in-Ok.ensures.gives
      c.next_tag.ensures.again c.tell_next.ensures.told (search rules) c.tell_next.ensures.queue;
  visits = omega (arith, c.tell_next.ensures.visits, c.loop-told.invariant.visits);
  looks = c.tell_next.ensures.looks ∙ c.loop-told.invariant.looks;
}

pub returns-in_default-clause-law : goal.returns-in_default-clause-law
returns-in_default-clause-law g c =
    IsNotification-step _ _ _ _ _ _ _ _ _ _ _ c.loop-told.invariant.told.queue (search rules) (search rules)

pub returns-clause-law : goal.returns-clause-law
returns-clause-law g c =
    IsNotification-step _ _ _ _ _ _ _ _ _ _ _ c.loop-told.invariant.told.queue (search rules) (search rules)
