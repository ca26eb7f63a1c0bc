use Rattle.std.proofs.Common.{arith}
use Rattle.std.proofs.Math.Numerals.{suc-eq-add-one}
use Rattle.event_listener.proofs.recorded.hand.new_hands.Goals as goal

pub loop-number-preserved : goal.loop-number-preserved
loop-number-preserved g c =
    rw (← suc-eq-add-one c.loop-number.number) (
      rw (c.loop-number.invariant.0, c.new.ensures) at c.push_reserved.ensures.items,
      omega (
        arith,
        c.loop-number.invariant.1,
        c.push_reserved.ensures.len,
      ),
      omega (arith, c.loop-number.invariant.2, c.push_reserved.ensures.capacity),
    )
