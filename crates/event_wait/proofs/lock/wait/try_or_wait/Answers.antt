use Rattle.std.proofs.Common.{rules, refl, ap, ◌∙◌, inl, Ok}
use Rattle.event_wait.specs.Rounds.{SomeRounds, Tries, Gets}
use Rattle.event_wait.proofs.RoundLemmas.{leaves_late, then_waits, waits_then}
use Rattle.event_wait.proofs.lock.wait.try_or_wait.Goals as goal

pub returns-then-has_passed-clause-trying : goal.returns-then-has_passed-clause-trying
returns-then-has_passed-clause-trying g c =
    let lock = g.L.Waitable.rules c.args.lock.now in
    let trying = g.L.Obtainable.trying c.args.lock.now in
    leaves_late lock (Tries lock trying) (Gets lock trying) (SomeRounds (Tries lock trying)) _ _ _ _ _ (Prim.search (rules)) (0, refl) (0, refl) c.leave_late.ensures.left c.leave_late.ensures.failed

pub returns-in-Some-clause-trying : goal.returns-in-Some-clause-trying
returns-in-Some-clause-trying g c = inl c.in-Some.ensures.obtained

pub returns-in-Ok-Some-clause-trying : goal.returns-in-Ok-Some-clause-trying
returns-in-Ok-Some-clause-trying g c =
    inl (record { between = c.try_a_while.new.request; waited = c.try_a_while.ensures.tried c.in_default.is; succeeded = inl (rw c.in-Ok-Some.field-0-is at c.in-Ok-Some.ensures.succeeded) })

pub returns-in-Ok-None-clause-trying : goal.returns-in-Ok-None-clause-trying
returns-in-Ok-None-clause-trying g c =
    let lock = g.L.Waitable.rules c.args.lock.now in
    let trying = g.L.Obtainable.trying c.args.lock.now in
    let waited = c.take_if_notified.ensures.waited (c.in-Ok-None.is ∙ ap (λ answer. Ok answer) c.in-Ok-None.field-0-is) in
    waits_then lock trying _ _ _ _ (then_waits lock trying _ _ _ (c.try_a_while.ensures.tried c.in_default.is) waited) _ c.wait.ensures.waits

pub returns-in-Err-clause-trying : goal.returns-in-Err-clause-trying
returns-in-Err-clause-trying g c =
    (c.try_a_while.new.request, c.try_a_while.ensures.tried c.in_default.is, inl c.in-Err.ensures.refused)
