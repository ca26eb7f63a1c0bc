use Rattle.std.proofs.Common.{ℕ, ◌+◌, ◌*◌, ◌%◌, eqb, sym, subst, arith, Option}
use prog.Atomic.{either}
use Rattle.event_slot.specs.Ruling.{MayTrade}
use Rattle.test_slot.specs.Closed.{Right, PutsBack}
use Rattle.test_slot.specs.declared.rule.Tally.{Tally}
use Rattle.test_slot.proofs.Closing.{puts}
use Rattle.test_slot.proofs.guard.Counting.end.Goals as goal

-- src/guard.rt:237:33
pub exchange-found-requires-clause-keeps : goal.exchange-found-requires-clause-keeps
exchange-found-requires-clause-keeps g c = let mark = c.loop.mark in let seen : ℕ = c.peek-seen.result in let count : ℕ = (c.state_mut-tally.result.now.count % 268435456 + 1) % 268435456 in let new : ℕ = seen % 8589934592 + count * 17179869184 in (
  c.loop.invariant.4,
  subst (λ (out : Option Tally). MayTrade Right mark.id mark.view out (λ n. either (eqb n seen) new n) (PutsBack seen new mark.view out)) (sym c.loop.invariant.3)
      (puts mark.id mark.view (record { count = count }) seen new c.if-seen-eq0.false (omega arith) (omega arith, omega arith)),
)
