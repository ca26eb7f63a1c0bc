-- One that was not notified leaves as many notified as there were.
use Rattle.std.proofs.Common.{◌≡◌, ℕ, ◌<◌, ◌≤◌, Bool, true, false, List, [], ◌∷◌, length, refl, ap, arith, Option, Some, None, is_some, Result, Ok, Err}
use Rattle.std.specs.Prelude.{IfOk, IfErr}
use Rattle.std.specs.Map.{lookup, remove_entry}
use Rattle.event_queue.specs.declared.key.Key.{Key}
use Rattle.event_queue.specs.declared.reply.ListenError.{ListenError}
use Rattle.event_queue.specs.Key.{is_key}
use Rattle.event_queue.specs.Queue.{Queue}
use Rattle.event_wait.specs.Line.{CannotWait, Leaves, WaitsBy, others_of}
use Rattle.event_channel.specs.Turns.{is_told, left_for_newcomers}

-- there are no more for newcomers than there are, and no more of fewer
pub most_for_newcomers : (all_is : Bool) (told there : ℕ) → left_for_newcomers all_is told there ≤ there
most_for_newcomers true told there = omega arith
most_for_newcomers false told there = omega arith

pub fewer_for_newcomers : (all_is : Bool) (told there fewer : ℕ) → fewer ≤ there → 0 < left_for_newcomers all_is told fewer → 0 < left_for_newcomers all_is told there
fewer_for_newcomers true told there fewer less some = omega (arith, less, some)
fewer_for_newcomers false told there fewer less some = omega (arith, less, some)

module _ {X : Type 0} where
  removed-absent : (key : Key) (entries : List (Key × X)) → is_some (lookup (is_key key) entries) ≡ false → remove_entry (is_key key) entries ≡ entries
  removed-absent key [] absent = refl
  removed-absent key (e ∷ es) absent = by_test (is_key key e.0) refl (removed-absent key es)
    where
      by_test : (b : Bool) → is_key key e.0 ≡ b → (is_some (lookup (is_key key) es) ≡ false → remove_entry (is_key key) es ≡ es) → remove_entry (is_key key) (e ∷ es) ≡ e ∷ es
      by_test true here rest = absurd (let no : true ≡ false = rw here at absent in cc)
      by_test false apart rest = rw apart (ap (λ l. e ∷ l) (rest (rw apart at absent)))

module _ {W : Type 0} where
  others-untold : (key : Option Key) (q : Queue (Unit {0}) W) → is_told key q ≡ false → others_of key q.told ≡ q.told
  others-untold None q untold = refl
  others-untold (Some key) q untold = removed-absent key q.told untold

  left-untold : (key : Option Key) (old new : Queue (Unit {0}) W) → is_told key old ≡ false → Leaves key old new → length new.told ≡ length old.told
  left-untold None old new untold left = ap (λ (q : Queue (Unit {0}) W). length q.told) left
  left-untold (Some key) old new untold left = rw (left.told, others-untold (Some key) old untold) refl

  as_many-waits : {C : Type 0} (exchanged : C → Option W → W → C → Type 0) (key : Option Key) (old : Queue (Unit {0}) W) (before : C) (waits : Key) (new : Queue (Unit {0}) W) (after : C)
      → is_told key old ≡ false → WaitsBy exchanged key old before waits new after → length new.told ≡ length old.told
  as_many-waits exchanged key old before waits new after untold h = rw (h.told, others-untold key old untold) refl

  as_many-refused : (key : Option Key) (error : ListenError) (old new : Queue (Unit {0}) W) → is_told key old ≡ false → CannotWait key error old new → length new.told ≡ length old.told
  as_many-refused key error old new untold h = left-untold key old new untold h.leaves

  pub as_many : {C : Type 0} (exchanged : C → Option W → W → C → Type 0) (key : Option Key) (old : Queue (Unit {0}) W) (before : C) (result : Result Key ListenError) (new : Queue (Unit {0}) W) (after : C)
      → is_told key old ≡ false → IfOk result (λ waits. WaitsBy exchanged key old before waits new after) → IfErr result (λ error. CannotWait key error old new) → length new.told ≡ length old.told
  as_many exchanged key old before (Ok waits) new after untold waited refused = as_many-waits exchanged key old before waits new after untold waited
  as_many exchanged key old before (Err error) new after untold waited refused = as_many-refused key error old new untold refused
