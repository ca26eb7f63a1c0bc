-- The shape of a queue: what its lists become as listeners are told, store a task and leave.
use Rattle.std.proofs.Common.{◌≡◌, ℕ, zero, suc, ◌-◌, ◌≤◌, min, Bool, true, false, List, [], ◌∷◌, ◌++◌, map, length, take, drop, replicate, refl, sym, ap, ◌∙◌, arith, Option, Some, None}
use Rattle.std.specs.Prelude.{is_some, option_map}
use Rattle.std.proofs.lemmas.List.{length-map, drop-map, length-replicate}
use Rattle.std.proofs.lemmas.Map.Made.{lookup-map_values}
use Rattle.std.specs.Map.{keys_of, lookup, remove_entry, set_value}
use Rattle.event_queue.specs.declared.key.Key.{Key}
use Rattle.event_queue.specs.declared.notice.Notice.{Notice}
use Rattle.event_queue.specs.Key.{is_key}
use Rattle.event_queue.specs.Queue.{Queue, how_many, told_with, after_telling, told_leaves, waiting_leaves}
use Rattle.event_queue.specs.Register.{after_storing}
use Rattle.event_queue.specs.Remove.{told_by_passing}
use Rattle.event_listener.specs.recording.Replay.{shape_of, tells, waiting_at, after_notice, without_told, told_by_passing_at}

module _ {K X Y : Type 0} (test : K → Bool) (f : X → Y) where
  abbrev mapped : List (K × X) → List (K × Y)
  mapped entries = map (λ e. (e.0, f e.1)) entries

  remove_entry-mapped : (entries : List (K × X)) → remove_entry test (mapped entries) ≡ mapped (remove_entry test entries)
  remove_entry-mapped [] = refl
  remove_entry-mapped (e ∷ es) = by_test (test e.0) refl (remove_entry-mapped es)
    where
      by_test : (b : Bool) → test e.0 ≡ b → remove_entry test (mapped es) ≡ mapped (remove_entry test es) → remove_entry test (mapped (e ∷ es)) ≡ mapped (remove_entry test (e ∷ es))
      by_test true here rest = rw here refl
      by_test false apart rest = rw apart (ap (λ (xs : List (K × Y)). (e.0, f e.1) ∷ xs) rest)

  set_value-mapped : (entries : List (K × X)) (value : X) → set_value test (mapped entries) (f value) ≡ mapped (set_value test entries value)
  set_value-mapped [] value = refl
  set_value-mapped (e ∷ es) value = by_test (test e.0) refl (set_value-mapped es value)
    where
      by_test : (b : Bool) → test e.0 ≡ b → set_value test (mapped es) (f value) ≡ mapped (set_value test es value)
          → set_value test (mapped (e ∷ es)) (f value) ≡ mapped (set_value test (e ∷ es) value)
      by_test true here rest = rw here refl
      by_test false apart rest = rw apart (ap (λ (xs : List (K × Y)). (e.0, f e.1) ∷ xs) rest)

module _ {K X : Type 0} (test : K → Bool) where
  pub remove_entry-no_longer : (entries : List (K × X)) → length (remove_entry test entries) ≤ length entries
  remove_entry-no_longer [] = omega arith
  remove_entry-no_longer (e ∷ es) = by_test (test e.0) refl (remove_entry-no_longer es)
    where
      by_test : (b : Bool) → test e.0 ≡ b → length (remove_entry test es) ≤ length es → length (remove_entry test (e ∷ es)) ≤ length (e ∷ es)
      by_test true here rest = rw here (omega arith)
      by_test false apart rest = rw apart (omega (arith, rest))

  -- a key of nobody changes nothing
  pub remove_entry-absent : (entries : List (K × X)) → lookup test entries ≡ None → remove_entry test entries ≡ entries
  remove_entry-absent [] absent = refl
  remove_entry-absent (e ∷ es) absent = by_test (test e.0) refl (remove_entry-absent es)
    where
      by_test : (b : Bool) → test e.0 ≡ b → (lookup test es ≡ None → remove_entry test es ≡ es) → remove_entry test (e ∷ es) ≡ e ∷ es
      by_test true here rest = absurd (let some : Some e.1 ≡ None = rw here at absent in cc)
      by_test false apart rest = rw apart (ap (λ xs. e ∷ xs) (rest (rw apart at absent)))

  pub set_value-absent : (entries : List (K × X)) (value : X) → lookup test entries ≡ None → set_value test entries value ≡ entries
  set_value-absent [] value absent = refl
  set_value-absent (e ∷ es) value absent = by_test (test e.0) refl (set_value-absent es value)
    where
      by_test : (b : Bool) → test e.0 ≡ b → (lookup test es ≡ None → set_value test es value ≡ es) → set_value test (e ∷ es) value ≡ e ∷ es
      by_test true here rest = absurd (let some : Some e.1 ≡ None = rw here at absent in cc)
      by_test false apart rest = rw apart (ap (λ xs. e ∷ xs) (rest (rw apart at absent)))

-- the waiting, each with whether it has a task
abbrev pub flags : {W : Type 0} → List (Key × Option W) → List (Key × Bool)
flags waiting = map (λ e. (e.0, is_some e.1)) waiting

first_keys : {W : Type 0} (count : ℕ) (waiting : List (Key × Option W)) → keys_of (take count (flags waiting)) ≡ keys_of (take count waiting)
first_keys zero waiting = refl
first_keys (suc count) [] = refl
first_keys (suc count) (first ∷ rest) = ap (λ keys. first.0 ∷ keys) (first_keys count rest)

module _ {T W : Type 0} where
  pub waiting_at-shape : (key : Key) (q : Queue T W) → waiting_at key (shape_of q) ≡ option_map is_some (lookup (is_key key) q.waiting)
  waiting_at-shape key q = lookup-map_values is_some (is_key key) q.waiting

  pub tells-shape : (count : ℕ) (additional : Bool) (q : Queue T W) → tells count additional (shape_of q) ≡ how_many count additional q
  tells-shape count true q = ap (λ n. min count n) (length-map q.waiting (λ e. (e.0, is_some e.1)))
  tells-shape count false q = ap (λ n. min (count - length q.told) n) (length-map q.waiting (λ e. (e.0, is_some e.1)))

  -- the same are told by a notice that is passed on
  pub told_by_passing-shape : (notice : Notice T) (q : Queue T W) → told_by_passing_at notice (shape_of q) ≡ told_by_passing notice q
  told_by_passing-shape notice q =
      ap (λ n. keys_of (take n (flags q.waiting))) (tells-shape 1 notice.additional q) ∙ first_keys (how_many 1 notice.additional q) q.waiting

  -- a listener leaves, or stores a task

  pub shape-told_leaves : (key : Key) (q : Queue T W) → without_told key (shape_of q) ≡ shape_of (told_leaves key q)
  shape-told_leaves key q = refl

  pub shape-waiting_leaves : (key : Key) (q : Queue T W) → record (shape_of q) { waiting = remove_entry (is_key key) (flags q.waiting) } ≡ shape_of (waiting_leaves key q)
  shape-waiting_leaves key q =
      let left = remove_entry-mapped (is_key key) is_some q.waiting in
      λ i. record { told = q.told; waiting = left i; next_serial = q.next_serial }

  pub shape-after_storing : (key : Key) (task : W) (q : Queue T W) → record (shape_of q) { waiting = set_value (is_key key) (flags q.waiting) true } ≡ shape_of (after_storing key task q)
  shape-after_storing key task q =
      let stored = set_value-mapped (is_key key) is_some q.waiting (Some task) in
      λ i. record { told = q.told; waiting = stored i; next_serial = q.next_serial }

  -- nobody of that key waits

  pub shape-nobody_leaves : (key : Key) (q : Queue T W) → lookup (is_key key) q.waiting ≡ None → record (shape_of q) { waiting = remove_entry (is_key key) (flags q.waiting) } ≡ shape_of q
  shape-nobody_leaves key q absent =
      let none : lookup (is_key key) (flags q.waiting) ≡ None = waiting_at-shape key q ∙ ap (option_map is_some) absent in
      let same = remove_entry-absent (is_key key) (flags q.waiting) none in
      λ i. record { told = q.told; waiting = same i; next_serial = q.next_serial }

  pub shape-nobody_stores : (key : Key) (q : Queue T W) → lookup (is_key key) q.waiting ≡ None → record (shape_of q) { waiting = set_value (is_key key) (flags q.waiting) true } ≡ shape_of q
  shape-nobody_stores key q absent =
      let none : lookup (is_key key) (flags q.waiting) ≡ None = waiting_at-shape key q ∙ ap (option_map is_some) absent in
      let same = set_value-absent (is_key key) (flags q.waiting) true none in
      λ i. record { told = q.told; waiting = same i; next_serial = q.next_serial }

  -- the first so many are told with one tag

  told_with-copies : (additional : Bool) (tag : T) (count : ℕ) (waiting : List (Key × Option W))
      → told_with additional (replicate count tag) waiting ≡ map (λ e. (e.0, record { additional = additional; tag = tag })) (take count (flags waiting))
  told_with-copies additional tag zero waiting = refl
  told_with-copies additional tag (suc count) [] = refl
  told_with-copies additional tag (suc count) (first ∷ rest) =
      ap (λ (es : List (Key × Notice T)). (first.0, record { additional = additional; tag = tag }) ∷ es) (told_with-copies additional tag count rest)

  pub shape-after_telling : (additional : Bool) (tag : T) (count : ℕ) (q : Queue T W)
      → after_notice count (record { additional = additional; tag = tag }) (shape_of q) ≡ shape_of (after_telling additional (replicate count tag) q)
  shape-after_telling additional tag count q =
      let told = ap (λ es. q.told ++ es) (sym (told_with-copies additional tag count q.waiting)) in
      let waiting : drop count (flags q.waiting) ≡ flags (drop (length (replicate count tag)) q.waiting) =
      drop-map (λ (e : Key × Option W). (e.0, is_some e.1)) count q.waiting ∙ ap (λ n. flags (drop n q.waiting)) (sym (length-replicate count tag)) in
      λ i. record { told = told i; waiting = waiting i; next_serial = q.next_serial }
