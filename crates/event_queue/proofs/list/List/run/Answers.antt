use Rattle.std.proofs.Common.{[], ◌∷◌, ap, arith, length, length-append}
use Rattle.std.specs.Vec.Iter.{into_iter_items}
use Rattle.event_queue.proofs.Calls.Runs.{one_more_made}
use Rattle.event_queue.proofs.list.List.run.Goals as goal

pub loop-call-preserved : goal.loop-call-preserved
loop-call-preserved g c =
    let split = c.in-Some.ensures.steps.0 in
    record {
      made = one_more_made g.S.WakeSink.woke c.args.calls.items c.args.self.now c.reserve.new.self.items c.args.sink.now c.loop-call.yielded
          (into_iter_items c.loop-call.call-iterator) c.loop-call.self c.loop-call.replies.items c.loop-call.sink c.in-Some.call
          (into_iter_items c.next.new.self) c.perform.result c.perform.new.self c.push_reserved.new.self.items c.perform.new.sink
          c.loop-call.invariant.made split c.perform.ensures.step c.perform.ensures.queue c.perform.ensures.wakes c.perform.ensures.gone c.perform.ensures.serial c.push_reserved.ensures.items;
      one_each = omega (arith, c.loop-call.invariant.one_each, c.push_reserved.ensures.len, length-append c.loop-call.yielded (c.in-Some.call ∷ []));
      room = omega (arith, c.loop-call.invariant.room, c.push_reserved.ensures.len, c.push_reserved.ensures.capacity, ap length split);
    }
