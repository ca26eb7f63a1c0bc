use Rattle.std.proofs.Common.{ℕ, ◌+◌, ◌≤◌, List, refl, arith, sym, subst}
use Rattle.event_wait.proofs.KeptTurns.{turns-left}
use Rattle.event_wait.proofs.StarvingLemmas.{fewer-struck}
use Rattle.event_wait.proofs.TurnLemmas.{line-left, line-struck}
use Rattle.event_wait.specs.Starving.{Starving, refusals_for}
use Rattle.event_wait.proofs.fair_queue.FairQueue.forbear.Goals as goal

pub invariant_of-self-then-is_told_uncounted : goal.invariant_of-self-then-is_told_uncounted
invariant_of-self-then-is_told_uncounted g c =
    let call = c.leave_line.ensures in
    let same = c.in-Some.ensures.same (λ none. cc) in
    line-left c.in-Some.key _ _ call.leaves (omega (arith, call.told, call.waiting)) (omega (arith, call.told)) (rw same at c.strike_off.ensures) refl c.self.invariant

pub invariant_of-self-else-is_told_uncounted : goal.invariant_of-self-else-is_told_uncounted
invariant_of-self-else-is_told_uncounted g c =
    let same = c.in-Some.ensures.same (λ none. cc) in
    line-struck c.in-Some.key _ _ refl (rw same at c.strike_off.ensures) refl c.self.invariant

pub returns-then-is_told_uncounted-clause-turns : goal.returns-then-is_told_uncounted-clause-turns
returns-then-is_told_uncounted-clause-turns g c = rw (← c.self.view_is) (turns-left c.in-Some.key _ _ c.leave_line.ensures.leaves)

pub returns-then-is_told_uncounted-clause-fewer : goal.returns-then-is_told_uncounted-clause-fewer
returns-then-is_told_uncounted-clause-fewer g c some =
    let same = c.in-Some.ensures.same (λ none. cc) in
    rw (← c.self.view_is) (let left = rw same at c.strike_off.ensures in
    subst (λ (those : List Starving). refusals_for those + 1 ≤ refusals_for c.self.inside.starving.items) (sym left) (fewer-struck c.in-Some.key c.self.inside.starving.items (sym c.in-Some.ensures.off)))

pub returns-else-is_told_uncounted-clause-fewer : goal.returns-else-is_told_uncounted-clause-fewer
returns-else-is_told_uncounted-clause-fewer g c some =
    let same = c.in-Some.ensures.same (λ none. cc) in
    rw (← c.self.view_is) (let left = rw same at c.strike_off.ensures in
    subst (λ (those : List Starving). refusals_for those + 1 ≤ refusals_for c.self.inside.starving.items) (sym left) (fewer-struck c.in-Some.key c.self.inside.starving.items (sym c.in-Some.ensures.off)))
