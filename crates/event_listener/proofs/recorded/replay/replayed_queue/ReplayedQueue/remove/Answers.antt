use Rattle.std.proofs.Common.{◌≡◌, ℕ, Bool, true, List, Some, None, ap, sym, ◌∙◌}
use Rattle.std.specs.Map.{lookup}
use Rattle.event_queue.specs.declared.key.Key.{Key}
use Rattle.event_queue.specs.declared.notice.Notice.{Notice}
use Rattle.event_queue.specs.Key.{is_key}
use Rattle.event_listener.specs.recording.Replay.{Shape, after_notice, tells}
use Rattle.event_listener.proofs.recording.ShapeLemmas.{remove_entry-absent}
use Rattle.event_listener.proofs.recorded.replay.replayed_queue.ReplayedQueue.remove.Goals as goal

-- the shape with these told, once one of its waiting was told with that notice
abbrev after_one : {T : Type 0} (notice : Notice T) (waiting : List (Key × Bool)) (next_serial : ℕ) → List (Key × Notice T) → Shape T
after_one {T} notice waiting next_serial told =
    let left : Shape T = record { told = told; waiting = waiting; next_serial = next_serial } in
    after_notice (tells 1 notice.additional left) notice left

pub returns-in-Some-clause-shape : goal.returns-in-Some-clause-shape
returns-in-Some-clause-shape g c =
    let found : lookup (is_key c.args.key) c.self.inside.told.items ≡ Some c.in-Some.notice = sym c.take_entry.ensures.value ∙ c.in-Some.is in
    let passes : c.args.propagate ≡ true = c.if-not-propagate.false in
    rw (← c.self.view_is, found, passes) (c.in_ok-pass_on.ensures.shape ∙ ap (after_one c.in-Some.notice c.self.inside.waiting.items c.self.inside.next_serial) c.take_entry.ensures.taken)

pub returns-clause-shape : goal.returns-clause-shape
returns-clause-shape g c =
    let none : lookup (is_key c.args.key) c.self.inside.told.items ≡ None = sym c.take_entry.ensures.value ∙ c.in_default.is in
    let told = c.take_entry.ensures.taken ∙ remove_entry-absent (is_key c.args.key) _ none in
    rw (← c.self.view_is, none) (λ i. record { told = told i; waiting = c.take_entry-2.ensures.taken i; next_serial = c.self.inside.next_serial })
