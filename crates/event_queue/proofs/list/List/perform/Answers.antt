use Rattle.std.specs.Vec.Iter.{into_iter_items}
use Rattle.event_queue.specs.declared.tag_list.TagList.{TagList}
use Rattle.event_queue.proofs.Calls.Runs.{NotifiesWith-from, same_order, gone-Inserts, gone-Registers, gone-Removes}
use Rattle.event_queue.proofs.list.List.perform.Goals as goal

pub returns-in-Insert-clause-gone : goal.returns-in-Insert-clause-gone
returns-in-Insert-clause-gone g c = λ key gone. gone-Inserts key _ _ _ c.insert_uncounted.ensures.step gone

pub returns-in-Register-clause-gone : goal.returns-in-Register-clause-gone
returns-in-Register-clause-gone g c = λ key gone. gone-Registers key _ _ _ _ _ c.register_uncounted.ensures.step gone

pub returns-in-Remove-clause-gone : goal.returns-in-Remove-clause-gone
returns-in-Remove-clause-gone g c = λ key gone. gone-Removes key _ _ _ _ _ c.remove_uncounted.ensures.step gone

pub returns-in-Notify-clause-step : goal.returns-in-Notify-clause-step
returns-in-Notify-clause-step g c =
    let source : TagList g.row.T.Denot = record {
      count = c.in-Notify.count;
      additional = c.in-Notify.additional;
      tags = c.into_iter.result;
    } in
    let step = NotifiesWith-from
    (λ (s : TagList g.row.T.Denot). into_iter_items s.tags) c.in-Notify.count c.in-Notify.additional c.args.self.now source
    c.notify_uncounted.result c.notify_uncounted.new.self c.notify_uncounted.new.n c.notify_uncounted.ensures.step in
    rw (c.in-Notify.is, ← c.into_iter.ensures.rest) step

pub returns-in-Notify-clause-gone : goal.returns-in-Notify-clause-gone
returns-in-Notify-clause-gone g c =
    λ key gone. same_order key _ _ c.notify_uncounted.ensures.order c.notify_uncounted.ensures.serial gone
