-- How one competes.
use Rattle.std.specs.Prelude.{◌≡◌, ◌↔◌, ℕ, ◌+◌, ◌≤◌, min, if◌then◌else◌, Option, Some, None, is_some, IfSome, IsSome}
use Rattle.std.specs.Map.{lookup}
use Rattle.event_queue.specs.declared.key.Key.{Key}
use Rattle.event_queue.specs.Key.{is_key}
use Rattle.event_wait.specs.Attempted.{Stores}
use Rattle.event_wait.specs.Line.{IsNotIn}
use Rattle.event_wait.specs.FairQueue.{State, Joins}
use Rattle.event_wait.specs.Starving.{forborne_with}
use Rattle.event_word.specs.declared.contender.Coming.{Coming}
use Rattle.event_word.specs.declared.contender.Coming.TheVariants.{New, Notified, Waits}

-- how many came that were notified
abbrev pub count_of : Coming → ℕ
count_of New = 0
count_of Notified = 1
count_of (Waits key) = 0

-- how often one has lost whose attempt finds nothing now, as far as that is counted
abbrev pub losses_after : ℕ → Coming → ℕ
losses_after losses New = losses
losses_after losses Notified = min (losses + 1) 4294967295
losses_after losses (Waits key) = losses

-- how one comes whose place this is: who is notified leaves the queue, and who waits in it keeps its place
abbrev pub coming_of : {W : Type 0} → Option Key → State W → Coming
coming_of None line = New
coming_of (Some key) line =
    if is_some (lookup (is_key key) line.queue.told)
    then Notified
    else (if is_some (lookup (is_key key) line.queue.waiting) then Waits key else New)

-- nobody is in the queue by this key, if it is one
abbrev pub NobodyIsBy : {W : Type 0} → Option Key → State W → Type 0
NobodyIsBy None line = Unit {0}
NobodyIsBy (Some key) line = IsNotIn key line.queue

module _ {W C : Type 0} (exchanged : C → Option W → W → C → Type 0) where
  -- the place of one that comes: one that is not notified keeps it, and only its task is exchanged; any other has left it
  abbrev pub Comes : Option Key → C → Coming → State W → Option Key → C → Type 0
  Comes old before New line new after = NobodyIsBy old line × (new ≡ None) × (after ≡ before)
  Comes old before Notified line new after = IsSome old × NobodyIsBy old line × (new ≡ None) × (after ≡ before)
  Comes old before (Waits key) line new after = (old ≡ Some key) × (new ≡ Some key) × Stores exchanged before after

  -- one that came so and has lost so often waits at the end, and starves if it was notified and that is twice
  pub record Loses (coming : Coming) (losses : ℕ) (key : Key) (old : State W) (before : C) (new : State W) (after : C) : Type 0 where
    pub starves : Option ℕ
    pub twice : IsSome starves ↔ (count_of coming ≡ 1) × (2 ≤ losses)
    pub forborne : IfSome starves (λ n. n ≡ forborne_with losses)
    pub joins : Joins exchanged starves key old before new after
