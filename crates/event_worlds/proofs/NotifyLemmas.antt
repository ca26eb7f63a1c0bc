-- How a line stays tied to its queue as clients are notified.
use Rattle.std.proofs.Common.{◌≡◌, ℕ, zero, suc, ◌<◌, ◌≤◌, Bool, true, false, if◌then◌else◌, List, [], ◌∷◌, ◌++◌, take, drop, length, get_or, set, Option, Some, None, is_some, IfSome, IsSomeAnd, IsOk, Result, Ok, Err, refl, sym, ap, ◌∙◌, subst, arith, append_assoc, length-take, length-set}
use Rattle.std.specs.List.{AllByRecursion, FoldsTo, filter_map}
use Rattle.std.specs.Map.{lookup}
use Rattle.std.proofs.lemmas.List.{map-append, append-nil, length-map}
use Rattle.std.specs.declared.alloc.AllocError.{AllocError}
use Rattle.event_queue.specs.declared.key.Key.{Key}
use Rattle.event_queue.specs.declared.notice.Notice.{Notice}
use Rattle.event_queue.specs.declared.reply.NotifyError.{NotifyError}
use Rattle.event_queue.specs.declared.reply.State.{State}
use Rattle.event_queue.specs.declared.reply.State.TheVariants.{Created, Notified, Task, Passed, Lost}
use Rattle.event_queue.specs.Key.{is_key}
use Rattle.event_queue.specs.Queue.{Queue, how_many, told_with, after_telling, tasks_of, told_leaves, waiting_leaves}
use Rattle.event_queue.specs.Remove.{Removes, after_passing, woken_by_leaving, woken_by_removal}
use Rattle.event_queue.specs.Notify.{Notifies, told_by}
use Rattle.event_queue.proofs.OrderLemmas.{All-append}
use Rattle.event_queue.proofs.TellingLemmas.{order_of-after_telling, IsQueue-after_telling}
use Rattle.event_queue.proofs.LawLemmas.{untold-waiting, propagates-passed, propagates-lost}
use Rattle.event_worlds.specs.Line.{Line, is_told, told_left, waiting_left, woken, tell, notified, dropped}
use Rattle.event_worlds.specs.LineKeys.{client_of, told_clients, waiting_clients, line_of, IsTied}
use Rattle.event_worlds.proofs.ClientLemmas.{HasTask}
use Rattle.event_worlds.proofs.LineLemmas.{Changed, moves, IsOf, kept, told-found, told-leaves, waiting-leaves, not_absent}

-- what a wake does: the client gets its wake-up
abbrev pub Wakes : List Bool → ℕ → List Bool → Type 0
Wakes before client after = after ≡ set before client true

-- the tasks of the first `count`
abbrev tasks_among : ℕ → List (Key × Option ℕ) → List ℕ
tasks_among count waiting = filter_map (λ entry. entry.1) (take count waiting)

All-drop : {X : Type 0} (P : X → Type 0) (n : ℕ) (xs : List X) → AllByRecursion P xs → AllByRecursion P (drop n xs)
All-drop P zero xs all = all
All-drop P (suc n) [] all = tt
All-drop P (suc n) (x ∷ xs) all = All-drop P n xs all.1

all_kinds : (kind : Bool) (tags : List Unit) (waiting : List (Key × Option ℕ)) → AllByRecursion (IsOf kind) (told_with kind tags waiting)
all_kinds kind [] waiting = tt
all_kinds kind (tag ∷ tags) [] = tt
all_kinds kind (tag ∷ tags) (first ∷ rest) = (refl, all_kinds kind tags rest)

-- the wake-ups are as many as before
wakes-length : (tasks : List ℕ) (awake awake' : List Bool) → FoldsTo Wakes awake tasks awake' → length awake' ≡ length awake
wakes-length [] awake awake' wakes = ap length (sym wakes)
wakes-length (task ∷ tasks) awake awake' wakes = grind (arith, wakes-length tasks wakes.0 awake' wakes.2, length-set)

-- the first client gets its wake-up if it stored a task
first-woken : (task : Option ℕ) (client count : ℕ) (rest : List (Key × Option ℕ)) (key : Key) (awake awake' : List Bool) → IfSome task (λ t. t ≡ client) → FoldsTo Wakes awake (tasks_among (suc count) ((key, task) ∷ rest)) awake' → FoldsTo Wakes (woken client (is_some task) awake) (tasks_among count rest) awake'
first-woken None client count rest key awake awake' own wakes = wakes
first-woken (Some task) client count rest key awake awake' own wakes = grind (arith)

-- telling a line in which nobody waits changes nothing
tell-nobody : (count : ℕ) (told : List ℕ) (awake : List Bool) (next : ℕ) (kind : Bool) → tell count (record { told = told; waiting = []; awake = awake; next = next; additional = kind }) ≡ record { told = told; waiting = []; awake = awake; next = next; additional = kind }
tell-nobody zero told awake next kind = refl
tell-nobody (suc count) told awake next kind = tell-nobody count told awake next kind

module _ (kind : Bool) (keys : List (Option Key)) (next : ℕ) where
  abbrev line_with : List (Key × Notice Unit) → List (Key × Option ℕ) → List Bool → Line
  line_with told waiting awake = record {
    told = told_clients keys told;
    waiting = waiting_clients keys waiting;
    awake = awake;
    next = next;
    additional = kind;
  }

  -- telling the queue's first is telling the line's first
  tells-line : (tags : List Unit) (told : List (Key × Notice Unit)) (waiting : List (Key × Option ℕ)) (awake awake' : List Bool) → AllByRecursion (HasTask keys) waiting → FoldsTo Wakes awake (tasks_among (length tags) waiting) awake' → line_with (told ++ told_with kind tags waiting) (drop (length tags) waiting) awake' ≡ tell (length tags) (line_with told waiting awake)
  tells-line [] told waiting awake awake' has wakes = grind (arith, append-nil)
  tells-line (tag ∷ tags) told [] awake awake' has wakes = grind (arith, append-nil, tell-nobody)
  tells-line (tag ∷ tags) told (first ∷ rest) awake awake' has wakes =
      let entry : Key × Notice Unit = (first.0, record { additional = kind; tag = tag }) in
      let client : ℕ = client_of keys first.0 in
      let awake₁ : List Bool = woken client (is_some first.1) awake in
      let later = first-woken first.1 client (length tags) rest first.0 awake awake' has.0 wakes in
      let rest_told = tells-line tags (told ++ entry ∷ []) rest awake₁ awake' has.1 later in
      let in_row : told ++ (entry ∷ told_with kind tags rest) ≡ (told ++ entry ∷ []) ++ told_with kind tags rest =
      sym (append_assoc told (entry ∷ []) (told_with kind tags rest)) in
      let clients : told_clients keys (told ++ entry ∷ []) ≡ told_clients keys told ++ client ∷ [] =
      map-append (λ (e : Key × Notice Unit). client_of keys e.0) told (entry ∷ []) in
      ap (λ (es : List (Key × Notice Unit)). line_with es (drop (length tags) rest) awake') in_row
      ∙ (rest_told ∙ ap (λ (cs : List ℕ). tell (length tags) (record { told = cs; waiting = waiting_clients keys rest; awake = awake₁; next = next; additional = kind })) clients)

module _ (kind : Bool) (q : Queue Unit ℕ) (keys : List (Option Key)) (awake : List Bool) (tied : IsTied kind q keys awake) where
  pub tells : (tags : List Unit) (awake' : List Bool) → FoldsTo Wakes awake (tasks_of (length tags) q) awake' → Changed kind (after_telling kind tags q) keys awake' (tell (length tags) (line_of kind q keys awake))
  tells tags awake' wakes = record {
    tied = kept kind q keys awake tied (after_telling kind tags q) awake' (IsQueue-after_telling kind tags q tied.queue) (order_of-after_telling kind tags q) refl refl (All-drop (HasTask keys) (length tags) q.waiting tied.tasks) (All-append (IsOf kind) q.told (told_with kind tags q.waiting) tied.kinds (all_kinds kind tags q.waiting)) (wakes-length (tasks_of (length tags) q) awake awake' wakes);
    is = tells-line kind keys q.next_serial tags q.told q.waiting awake awake' tied.tasks wakes;
  }

  -- as many are notified as a notification is for
  tells-many : (count : ℕ) → tell (how_many count kind q) (line_of kind q keys awake) ≡ notified count (line_of kind q keys awake)
  tells-many count = grind (arith, length-map)

  pub notifies-tags : (count : ℕ) (tags : List Unit) (q' : Queue Unit ℕ) (awake' : List Bool) → length tags ≡ how_many count kind q → q' ≡ after_telling kind tags q → FoldsTo Wakes awake (tasks_of (how_many count kind q) q) awake' → Changed kind q' keys awake' (notified count (line_of kind q keys awake))
  notifies-tags count tags q' awake' many same wakes = grind (arith, moves, tells, tells-many)

  pub notifies : {N : Type 0} (gives : N → Result Unit AllocError → N → Type 0) (count : ℕ) (source source' : N) (result : Result ℕ NotifyError) (q' : Queue Unit ℕ) (awake' : List Bool) → Notifies gives count kind q source result q' source' → IsOk result → FoldsTo Wakes awake (tasks_of (told_by result) q) awake' → Changed kind q' keys awake' (notified count (line_of kind q keys awake))
  notifies gives count source source' (Ok told) q' awake' step ok wakes =
      let wakes' = subst (λ (n : ℕ). FoldsTo Wakes awake (tasks_of n q) awake') step.0 wakes in
      notifies-tags count step.1.tags q' awake' (step.1.as_many ∙ step.0) step.1.queue wakes'
  notifies gives count source source' (Err error) q' awake' step ok wakes = absurd (cc)

-- the value that a look-up finds
pub found_value : {X : Type 0} (o : Option X) (P : X → Type 0) → IsSomeAnd o P → (x : X) × (o ≡ Some x) × P x
found_value None P h = absurd h
found_value (Some x) P h = (x, refl, h)

found-kind : (kind : Bool) (test : Key → Bool) (told : List (Key × Notice Unit)) (notice : Notice Unit) → AllByRecursion (IsOf kind) told → lookup test told ≡ Some notice → notice.additional ≡ kind
found-kind kind test [] notice all found = absurd (cc)
found-kind kind test (e ∷ es) notice all found = by_test (test e.0) refl (found-kind kind test es notice all.1)
  where
    by_test : (b : Bool) → test e.0 ≡ b → (lookup test es ≡ Some notice → notice.additional ≡ kind) → notice.additional ≡ kind
    by_test true here later = grind (arith)
    by_test false no_match later = later (rw no_match at found)

-- no more are notified than a notification is for
how_many-le : (additional : Bool) (count : ℕ) (q : Queue Unit ℕ) → how_many count additional q ≤ count
how_many-le true count q = omega arith
how_many-le false count q = omega arith

-- a removal that passes nothing on wakes nobody, nor does one of a waiting listener

none-woken : (notice : Option (Notice Unit)) (key : Key) (q : Queue Unit ℕ) → woken_by_leaving notice false key q ≡ []
none-woken None key q = refl
none-woken (Some notice) key q = refl

module _ (kind : Bool) (q : Queue Unit ℕ) (keys : List (Option Key)) (awake : List Bool) (tied : IsTied kind q keys awake) (client : ℕ) (key : Key) (at : get_or keys client None ≡ Some key) (within : client < length keys) where
  abbrev line : Line
  line = line_of kind q keys awake

  told-if : (notice : Notice Unit) → lookup (is_key key) q.told ≡ Some notice → is_told client line ≡ true
  told-if notice found = told-found kind q keys awake tied client key at ∙ ap is_some found

  untold-if : (task : Option ℕ) → lookup (is_key key) q.waiting ≡ Some task → is_told client line ≡ false
  untold-if task found =
      told-found kind q keys awake tied client key at ∙ ap is_some (untold-waiting key q task tied.queue found)

  -- a removal that passes nothing on
  module _ (q' : Queue Unit ℕ) (awake' : List Bool) where
    waiting-leaves' : (propagate : Bool) (task : Option ℕ) (line' : Line) → lookup (is_key key) q.waiting ≡ Some task → q' ≡ waiting_leaves key q → FoldsTo Wakes awake (woken_by_removal key propagate q) awake' → waiting_left client line ≡ line' → Changed kind q' (set keys client None) awake' line'
    waiting-leaves' propagate task line' found same wakes same_line =
        let untold = untold-waiting key q task tied.queue found in
        let none : woken_by_removal key propagate q ≡ [] =
        ap (λ (o : Option (Notice Unit)). woken_by_leaving o propagate key q) untold in
        let still : awake ≡ awake' = subst (λ (ts : List ℕ). FoldsTo Wakes awake ts awake') none wakes in
        moves kind (waiting_leaves key q) q' (set keys client None) awake awake' (waiting_left client line) line' same (sym still) same_line (waiting-leaves kind q keys awake tied client key at task within found)

    pub leaves-line : (result : Option (State Unit ℕ)) → Removes q key false result q' → FoldsTo Wakes awake (woken_by_removal key false q) awake' → Changed kind q' (set keys client None) awake' (if is_told client line then told_left client line else waiting_left client line)
    leaves-line None step wakes = absurd (not_absent kind q keys awake tied client key at step.0)
    leaves-line (Some Created) step wakes =
        waiting-leaves' false None _ step.0 step.1 wakes (rw (untold-if None step.0) refl)
    leaves-line (Some (Task task)) step wakes =
        waiting-leaves' false (Some task) _ step.0 step.1 wakes (rw (untold-if (Some task) step.0) refl)
    leaves-line (Some (Notified additional tag)) step wakes =
        let notice : Notice Unit = record { additional = additional; tag = tag } in
        let still : awake ≡ awake' = subst (λ (ts : List ℕ). FoldsTo Wakes awake ts awake') (none-woken (lookup (is_key key) q.told) key q) wakes in
        moves kind (told_leaves key q) q' (set keys client None) awake awake' (told_left client line) _ step.2 (sym still) (rw (told-if notice step.1) refl) (told-leaves kind q keys awake tied client key at notice within step.1)
    leaves-line (Some (Passed to)) step wakes = absurd (let e = step.0 in cc)
    leaves-line (Some (Lost additional tag)) step wakes = absurd (let e = step.0 in cc)

    -- a notified listener leaves, and its notification is propagated
    passes : (notice : Notice Unit) → lookup (is_key key) q.told ≡ Some notice → q' ≡ after_passing notice (told_leaves key q) → FoldsTo Wakes awake (woken_by_removal key true q) awake' → Changed kind q' (set keys client None) awake' (dropped client line)
    passes notice found same wakes =
        let left : Queue Unit ℕ = told_leaves key q in
        let keys' : List (Option Key) = set keys client None in
        let gone = told-leaves kind q keys awake tied client key at notice within found in
        let same_kind = found-kind kind (is_key key) q.told notice tied.kinds found in
        let many : ℕ = how_many 1 kind left in
        let tags : List Unit = take many (notice.tag ∷ []) in
        let few : many ≤ 1 = how_many-le kind 1 left in
        let as_many : length tags ≡ many = length-take many (notice.tag ∷ []) ∙ omega arith in
        let same' : q' ≡ after_telling kind tags left =
        same ∙ ap (λ (b : Bool). after_telling b (take (how_many 1 b left) (notice.tag ∷ [])) left) same_kind in
        let passing : woken_by_removal key true q ≡ tasks_of many left =
        ap (λ (o : Option (Notice Unit)). woken_by_leaving o true key q) found ∙ ap (λ (b : Bool). tasks_of (how_many 1 b left) left) same_kind in
        let wakes' = subst (λ (ts : List ℕ). FoldsTo Wakes awake ts awake') passing wakes in
        let changed = notifies-tags kind left keys' awake gone.tied 1 tags q' awake' as_many same' wakes' in
        let line' : notified 1 (line_of kind left keys' awake) ≡ dropped client line =
        rw (told-if notice found) (ap (notified 1) gone.is) in
        record { tied = changed.tied; is = changed.is ∙ line' }

    pub drops-line : (result : Option (State Unit ℕ)) → Removes q key true result q' → FoldsTo Wakes awake (woken_by_removal key true q) awake' → Changed kind q' (set keys client None) awake' (dropped client line)
    drops-line None step wakes = absurd (not_absent kind q keys awake tied client key at step.0)
    drops-line (Some Created) step wakes =
        waiting-leaves' true None _ step.0 step.1 wakes (rw (untold-if None step.0) refl)
    drops-line (Some (Task task)) step wakes =
        waiting-leaves' true (Some task) _ step.0 step.1 wakes (rw (untold-if (Some task) step.0) refl)
    drops-line (Some (Notified additional tag)) step wakes = absurd (cc)
    drops-line (Some (Passed to)) step wakes = grind (arith, passes, propagates-passed)
    drops-line (Some (Lost additional tag)) step wakes =
        let lost = propagates-lost q key true additional tag q' step in
        passes lost.notice lost.found lost.queue wakes
