-- Those in a queue that starve: each was notified and found nothing, twice at least.
use Rattle.std.specs.Prelude.{◌≡◌, ◌⊎◌, ℕ, ◌+◌, ◌-◌, ◌≤◌, min, Bool, true, false, if◌then◌else◌, Option, Some, None, is_some, List, [], ◌∷◌, ◌++◌}
use Rattle.std.specs.Map.{lookup}
use Rattle.event_queue.specs.declared.key.Key.{Key}
use Rattle.event_queue.specs.declared.reply.ListenError.{ListenError}
use Rattle.event_queue.specs.declared.reply.ListenError.TheVariants.{Memory}
use Rattle.event_queue.specs.Key.{is_key}
use Rattle.event_queue.specs.Queue.{Queue}
pub use Rattle.event_wait.specs.Starving.{Starving, but, forborne_with, less_forborne, refusals_for, struck_off}
use Rattle.event_wait.specs.Line.{CannotWait, Leaves, WaitsBy, waits_untold}
use Rattle.event_wait.specs.declared.request.Attempted.{Attempted}
use Rattle.event_wait.specs.declared.request.Attempted.TheVariants.{Done, Waits, Absent, Refused}

-- those that starve once one that was notified is in the queue no more; one that was not is not there
abbrev pub struck : Bool → Option Key → List Starving → List Starving
struck true key starving = but key starving
struck false key starving = starving

-- how often one has lost whose attempt finds nothing now: once more if it was notified
abbrev pub losses_with : Bool → ℕ → ℕ
losses_with false losses = losses
losses_with true losses = min (losses + 1) 4294967295

-- how much of this is there for newcomers: all, or what is not due to those that are notified
abbrev pub left_for_newcomers : Bool → ℕ → ℕ → ℕ
left_for_newcomers all_is told there = if all_is then there else there - told

-- how many are notified beside this one, which is one of them or is not
abbrev pub told_beside : Bool → ℕ → ℕ
told_beside true told = told - 1
told_beside false told = told

-- One found nothing, and waits by this key now. If it was notified it has lost once more, and is counted among those that
-- starve if that is twice at least. One that was not is counted as it was.
pub record Counts (told : Bool) (key : Option Key) (waits : Key) (losses : ℕ) (old : List Starving) (losses' : ℕ) (new : List Starving) : Type 0 where
  pub lost : losses' ≡ losses_with told losses
  pub untold : told ≡ false → new ≡ old
  pub starves : told ≡ true → 2 ≤ losses' → new ≡ but key old ++ (waits, forborne_with losses') ∷ []
  pub patient : told ≡ true → losses' ≤ 1 → new ≡ but key old

module _ {W : Type 0} where
  -- whether this one is in the queue, and notified
  abbrev pub is_told : Option Key → Queue (Unit {0}) W → Bool
  is_told None q = false
  is_told (Some key) q = is_some (lookup (is_key key) q.told)

  -- this one has no place in the queue
  abbrev pub IsNewcomer : Option Key → Queue (Unit {0}) W → Type 0
  IsNewcomer key q = (is_told key q ≡ false) × (waits_untold key q ≡ false)

  -- one could not be put at the end of the queue, or could not be counted among those that starve, and is in it no more
  abbrev pub CannotWaitInTurn : Bool → Option Key → ℕ → ListenError → Queue (Unit {0}) W → Queue (Unit {0}) W → Type 0
  CannotWaitInTurn told key losses error old new =
      CannotWait key error old new ⊎ ((told ≡ true) × (1 ≤ losses) × (error ≡ Memory) × Leaves key old new)

module _ {W C G E : Type 0} (exchanged : C → Option W → W → C → Type 0) where
  -- one waits on at its place, or has none
  abbrev pub WaitsAtPlace : Key → Queue (Unit {0}) W → C → Attempted G E → Queue (Unit {0}) W → C → Type 0
  WaitsAtPlace key old on (Done output) new on' = ⊥
  WaitsAtPlace key old on (Waits waits) new on' =
      (waits ≡ key) × WaitsBy exchanged (Some key) old on key new on' × (waits_untold (Some key) old ≡ true)
  WaitsAtPlace key old on Absent new on' = IsNewcomer (Some key) old × (new ≡ old) × (on' ≡ on)
  WaitsAtPlace key old on (Refused error) new on' = ⊥
