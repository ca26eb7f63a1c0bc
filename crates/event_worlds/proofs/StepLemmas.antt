-- What each call of a line does, from the value that it is called on.
use Rattle.std.proofs.Common.{◌≡◌, ℕ, ◌<◌, Bool, true, false, if◌then◌else◌, List, [], ◌∷◌, ◌++◌, length, get_or, set, Option, Some, None, is_some, IsSome, IsSomeAnd, Result, Ok, Err, IsOk, refl, sym, ap, ◌∙◌, subst, arith, length-set, ◌↔◌}
use Rattle.std.specs.List.{FoldsTo}
use Rattle.std.specs.Map.{lookup}
use Rattle.std.specs.declared.alloc.AllocError.{AllocError}
use Rattle.event_queue.specs.declared.key.Key.{Key}
use Rattle.event_queue.specs.declared.reply.ListenError.{ListenError}
use Rattle.event_queue.specs.declared.reply.NotifyError.{NotifyError}
use Rattle.event_queue.specs.declared.reply.State.{State}
use Rattle.event_queue.specs.Key.{is_key}
use Rattle.event_queue.specs.Queue.{Queue, IsQueue, IsAbsent, order_of, told_leaves, tasks_of}
use Rattle.event_queue.specs.Insert.{Joins, Inserts}
use Rattle.event_queue.specs.Register.{after_storing}
use Rattle.event_queue.specs.Remove.{Removes, woken_by_removal}
use Rattle.event_queue.specs.Notify.{Notifies, told_by}
use Rattle.event_queue.proofs.LawLemmas.{untold-waiting}
use Rattle.event_worlds.specs.Line.{Line, Leaves, is_told, is_in_line, has_serial_left, joined, registered, told_left, waiting_left, wake_lost, notified, dropped}
use Rattle.event_worlds.specs.LineKeys.{line_of, IsTied}
use Rattle.event_worlds.proofs.KeyLemmas.{read_key}
use Rattle.event_worlds.proofs.LineLemmas.{IsOut, Changed, moves, kept, out-keyless, out-absent, told-found, stores, told-leaves, keyless-out, out-registers}
use Rattle.event_worlds.proofs.NotifyLemmas.{Wakes, found_value, notifies, leaves-line, drops-line}
use Rattle.event_worlds.proofs.JoinLemmas.{is_out, joins-line, refused-line, joined-if}

-- the value that a look-up finds
some_value : {X : Type 0} (o : Option X) → IsSome o → (x : X) × (o ≡ Some x)
some_value None some = absurd (cc)
some_value (Some x) some = (x, refl)

-- a plain notification's tags
abbrev pub GivesUnit : ℕ → Result Unit AllocError → ℕ → Type 0
GivesUnit before answer after = (answer ≡ Ok tt) × (after ≡ before)

-- two tests that pass alike
pub same_test : (a b : Bool) → (a ≡ true) ↔ (b ≡ true) → a ≡ b
same_test true b both = sym (both.0 refl)
same_test false true both = both.1 refl
same_test false false both = refl

-- an answer, and what the call leaves
pub record Answered (given asked kind : Bool) (q : Queue Unit ℕ) (keys : List (Option Key)) (awake : List Bool) (line : Line) : Type 0 where
  pub tied : IsTied kind q keys awake
  pub leaves : Leaves asked line given (line_of kind q keys awake)

answered : (given asked kind : Bool) (q : Queue Unit ℕ) (keys : List (Option Key)) (awake : List Bool) (line : Line) → given ≡ asked → Changed kind q keys awake line → Answered given asked kind q keys awake line
answered given asked kind q keys awake line same changed =
    record { tied = changed.tied; leaves = record { answered = same; line = changed.is } }

module _ (kind : Bool) (q : Queue Unit ℕ) (keys : List (Option Key)) (awake : List Bool) (tied : IsTied kind q keys awake) (now : Line) (view_is : line_of kind q keys awake ≡ now) where
  pub clears : (awake' : List Bool) (client : ℕ) → awake' ≡ set awake client false → Changed kind q keys awake' (wake_lost client now)
  clears awake' client cleared = grind (arith, kept, length-set)

  pub notifies-now : {N : Type 0} (gives : N → Result Unit AllocError → N → Type 0) (count : ℕ) (additional : Bool) → kind ≡ additional → (source source' : N) (result : Result ℕ NotifyError) (q' : Queue Unit ℕ) (awake' : List Bool) → Notifies gives count additional q source result q' source' → IsOk result → FoldsTo Wakes awake (tasks_of (told_by result) q) awake' → Changed kind q' keys awake' (notified count now)
  notifies-now gives count additional is source source' result q' awake' step ok wakes =
      let step' = subst (λ (b : Bool). Notifies gives count b q source result q' source') (sym is) step in
      let changed = notifies kind q keys awake tied gives count source source' result q' awake' step' ok wakes in
      record { tied = changed.tied; is = changed.is ∙ ap (notified count) view_is }

  module _ (client : ℕ) (within : client < length now.awake) where
    pub key-within : client < length keys
    key-within = omega (arith, within, ap (λ (l : Line). length l.awake) view_is, tied.flags)

    -- joining
    module _ (absent : is_in_line client now ≡ false) where
      keyless : get_or keys client None ≡ None
      keyless =
          keyless-out kind q keys awake tied client (is_out client (line_of kind q keys awake) (ap (is_in_line client) view_is ∙ absent))

      pub refused-now : (error : ListenError) (q' : Queue Unit ℕ) → Inserts q (Err error) q' → Answered false (has_serial_left now) kind q' keys awake (if has_serial_left now then joined client now else now)
      refused-now error q' step =
          let refused = refused-line kind q keys awake tied client key-within keyless error q' step in
          let none : has_serial_left now ≡ false = ap has_serial_left (sym view_is) ∙ refused.0 in
          answered _ _ _ _ _ _ _ (sym none) (rw none (moves kind q q' keys awake awake (line_of kind q keys awake) now refused.1 refl view_is (record { tied = tied; is = refl })))

      pub joins-now : (key : Key) (q' : Queue Unit ℕ) (awake' : List Bool) → IsQueue q' → Joins q key q' → order_of q' ≡ order_of q ++ key ∷ [] → awake' ≡ set awake client false → Answered true (has_serial_left now) kind q' (set keys client (Some key)) awake' (if has_serial_left now then joined client now else now)
      joins-now key q' awake' queue joins order cleared =
          let changed = joins-line kind q keys awake tied client key-within keyless key q' awake' queue joins order cleared in
          let next = ap (λ (l : Line). l.next) view_is in
          let has = joined-if client now (omega (arith, joins.serial_left, next)) in
          answered _ _ _ _ _ _ _ (sym has.0) (record { tied = changed.tied; is = changed.is ∙ (ap (joined client) view_is ∙ has.1) })

    -- what needs the client's key
    module _ (held : Option Key) (read : held ≡ get_or keys client held) where
      at : get_or keys client None ≡ held
      at = read_key keys client held key-within read

      pub out-now : held ≡ None → IsOut client now
      out-now none = subst (IsOut client) view_is (out-keyless kind q keys awake tied client (at ∙ none))

      module _ (key : Key) (some : held ≡ Some key) where
        pub told-now : is_told client now ≡ is_some (lookup (is_key key) q.told)
        told-now =
            ap (is_told client) (sym view_is) ∙ told-found kind q keys awake tied client key (at ∙ some)

        pub registers-told : (q' : Queue Unit ℕ) (tag : Unit) → IsSomeAnd (lookup (is_key key) q.told) (λ notice. notice.tag ≡ tag) × (q' ≡ told_leaves key q) → Answered true (is_told client now) kind q' (set keys client None) awake (if is_told client now then told_left client now else registered client now)
        registers-told q' tag step =
            let (notice, found, _) = found_value (lookup (is_key key) q.told) (λ notice. notice.tag ≡ tag) step.0 in
            let told : is_told client now ≡ true = told-now ∙ ap is_some found in
            let changed = told-leaves kind q keys awake tied client key (at ∙ some) notice key-within found in
            answered _ _ _ _ _ _ _ (sym told) (rw told (moves kind (told_leaves key q) q' (set keys client None) awake awake (told_left client (line_of kind q keys awake)) (told_left client now) step.1 refl (ap (told_left client) view_is) changed))

        pub registers-waiting : (q' : Queue Unit ℕ) → IsSome (lookup (is_key key) q.waiting) × (q' ≡ after_storing key client q) → Answered false (is_told client now) kind q' keys awake (if is_told client now then told_left client now else registered client now)
        registers-waiting q' step =
            let (task, found) = some_value (lookup (is_key key) q.waiting) step.0 in
            let untold : is_told client now ≡ false = told-now ∙ ap is_some (untold-waiting key q task tied.queue found) in
            let changed = stores kind q keys awake tied client key (at ∙ some) task found in
            answered _ _ _ _ _ _ _ (sym untold) (rw untold (moves kind (after_storing key client q) q' keys awake awake (registered client (line_of kind q keys awake)) (registered client now) step.1 refl (ap (registered client) view_is) changed))

        pub registers-absent : (q' : Queue Unit ℕ) → IsAbsent key q × (q' ≡ q) → Answered false (is_told client now) kind q' keys awake (if is_told client now then told_left client now else registered client now)
        registers-absent q' step =
            let out : IsOut client now = subst (IsOut client) view_is (out-absent kind q keys awake tied client key (at ∙ some) step.0) in
            answered _ _ _ _ _ _ _ (sym out.untold) (moves kind q q' keys awake awake (line_of kind q keys awake) _ step.1 refl (view_is ∙ out-registers client now out) (record { tied = tied; is = refl }))

        pub leaves-now : (result : Option (State Unit ℕ)) (q' : Queue Unit ℕ) (awake' : List Bool) → Removes q key false result q' → FoldsTo Wakes awake (woken_by_removal key false q) awake' → Changed kind q' (set keys client None) awake' (if is_told client now then told_left client now else waiting_left client now)
        leaves-now result q' awake' step wakes =
            let changed = leaves-line kind q keys awake tied client key (at ∙ some) key-within q' awake' result step wakes in
            record {
              tied = changed.tied;
              is =
                  changed.is
                  ∙ ap (λ (l : Line). if is_told client l then told_left client l else waiting_left client l) view_is;
            }

        pub drops-now : (result : Option (State Unit ℕ)) (q' : Queue Unit ℕ) (awake' : List Bool) → Removes q key true result q' → FoldsTo Wakes awake (woken_by_removal key true q) awake' → Changed kind q' (set keys client None) awake' (dropped client now)
        drops-now result q' awake' step wakes =
            let changed = drops-line kind q keys awake tied client key (at ∙ some) key-within q' awake' result step wakes in
            record { tied = changed.tied; is = changed.is ∙ ap (dropped client) view_is }
