use Rattle.std.proofs.Common.{◌≡◌, None, sym, ◌∙◌}
use Rattle.std.specs.Map.{lookup}
use Rattle.event_queue.specs.Key.{is_key}
use Rattle.event_listener.proofs.recording.ShapeLemmas.{remove_entry-absent}
use Rattle.event_listener.proofs.recorded.replay.replayed_queue.ReplayedQueue.register.Goals as goal

pub returns-clause-shape : goal.returns-clause-shape
returns-clause-shape g c =
    let none : lookup (is_key c.args.key) c.self.inside.told.items ≡ None = sym c.take_entry.ensures.value ∙ c.in_default.is in
    let told = c.take_entry.ensures.taken ∙ remove_entry-absent (is_key c.args.key) _ none in
    rw (← c.self.view_is, none) (λ i. record { told = told i; waiting = c.set_entry.ensures.set i; next_serial = c.self.inside.next_serial })
