-- How often one that competes has lost.
use Rattle.std.specs.Prelude.{◌≡◌, ℕ}
use Rattle.event_word.specs.Contender.{losses_after}
use Rattle.event_word.specs.declared.contender.Coming.{Coming}

-- one that came in some way has lost as often as before, or once more, as far as that is counted
abbrev pub LosesOnceAtMost : ℕ → ℕ → Type 0
LosesOnceAtMost before after = (coming : Coming) × (after ≡ losses_after before coming)
