use Rattle.std.proofs.Common.{◌<◌, ◌==◌, ◌||◌, length, rules}
use Rattle.event_channel.specs.Turns.{left_for_newcomers}
use Rattle.event_channel.proofs.WakeLemmas.{wakes_as_leaving}
use Rattle.event_channel.proofs.messages.Messages.cancel_in_turn.Goals as goal

pub returns-then-left_for_newcomers-gt0-clause-wakes : goal.returns-then-left_for_newcomers-gt0-clause-wakes
returns-then-left_for_newcomers-gt0-clause-wakes g c =
    let was = c.self.inside in
    let some : 0 < left_for_newcomers (was.is_closed || length c.strike.new.starving.items == 0) (length c.leave_then_tell.new.line.told) (length was.items.items) = Prim.search (rules) in
    rw (← c.self.view_is) (wakes_as_leaving g.S.WakeSink.woke c.args.key c.in-Some.gone _ _ _ _ _ _ c.in-Some.is (search rules) some c.leave_then_tell.ensures.wakes c.tell_all.ensures.wakes)
