use Rattle.std.proofs.Common.{◌≡◌, false}
use Rattle.event_history.specs.Rule.{owing}
use Rattle.event_history.proofs.traced.wait_to_take.Given as goal

abbrev pub invariant-loop-pauses : goal.invariant-loop-pauses
invariant-loop-pauses g l = (l.mark.slot ≡ l.initial.mark.slot) × (l.mark.id ≡ l.initial.mark.id) × (l.mark.view ≡ l.initial.mark.view)

abbrev pub invariant-loop : goal.invariant-loop
invariant-loop g l = (l.mark.slot ≡ l.initial.mark.slot) × (l.mark.id ≡ l.initial.mark.id) × (owing false l.mark.view ≡ l.initial.mark.view)
