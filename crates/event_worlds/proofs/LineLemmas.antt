-- How a line stays tied to its queue as clients register, leave and join.
use Rattle.std.proofs.Common.{◌≡◌, ◌≢◌, ℕ, ◌+◌, ◌<◌, Bool, false, if◌then◌else◌, eqb, List, length, get_or, set, Option, Some, None, is_some, refl, sym, ap, ◌∙◌, subst, inl, inr, arith, length-set, get_or-set_same, get_or-set_other}
use Rattle.std.proofs.lemmas.Map.Made.{is_some-lookup}
use Rattle.std.proofs.lemmas.List.Folds.{list_any-append}
use Rattle.std.proofs.lemmas.List.{length-map}
use Rattle.std.specs.List.{AllByRecursion, list_any}
use Rattle.std.specs.Map.{keys_of, lookup}
use Rattle.std.proofs.lemmas.Bool.{cases_eq, both_ways, or_from, false_from_ne_true}
use Rattle.std.proofs.lemmas.Option.{none-some}
use Rattle.event_queue.specs.declared.key.Key.{Key}
use Rattle.event_queue.specs.declared.notice.Notice.{Notice}
use Rattle.event_queue.specs.Key.{is_key, without}
use Rattle.event_queue.specs.Queue.{Queue, IsQueue, IsAbsent, order_of, told_leaves, waiting_leaves}
use Rattle.event_queue.specs.Register.{after_storing}
use Rattle.event_queue.proofs.ChainLookups.{same_key}
use Rattle.event_queue.proofs.OrderLemmas.{NoneIs, All-front, All-back, All-implied, All-filter, none_is-without}
use Rattle.event_queue.proofs.QueueLemmas.{order_of-told_leaves, order_of-waiting_leaves, order_of-after_storing, IsQueue-told_leaves, IsQueue-waiting_leaves, IsQueue-after_storing}
use Rattle.event_worlds.specs.Line.{Line, IsLine, is_told, is_waiting, registered, told_left, waiting_left, dropped}
use Rattle.event_worlds.specs.LineKeys.{holds, client_of, line_of, IsKeyOf, IsTied}
use Rattle.event_worlds.proofs.KeyLemmas.{client_of-set, is_client, not_client, keyless-leaves}
use Rattle.event_worlds.proofs.ClientLemmas.{All-both, All-remove, any-without, AreClient, any-lookup, any-none, clients-remove, clients-same, keys_of-waiting, waiting-same, waiting-remove, waiting-set, set_value-none, remove_entry-none, HasTask, tasks-same, tasks-set}

-- the client is neither notified nor waits
pub record IsOut (client : ℕ) (line : Line) : Type 0 where
  pub untold : is_told client line ≡ false
  pub unwaiting : is_waiting client line ≡ false

-- a client that is out changes nothing by registering or leaving

pub out-registers : (client : ℕ) (line : Line) → IsOut client line → line ≡ (if is_told client line then told_left client line else registered client line)
out-registers client line out = grind (arith, set_value-none)

out-waiting_left : (client : ℕ) (line : Line) → IsOut client line → line ≡ waiting_left client line
out-waiting_left client line out = grind (arith, remove_entry-none)

pub out-leaves : (client : ℕ) (line : Line) → IsOut client line → line ≡ (if is_told client line then told_left client line else waiting_left client line)
out-leaves client line out = rw out.untold (out-waiting_left client line out)

pub out-drops : (client : ℕ) (line : Line) → IsOut client line → line ≡ dropped client line
out-drops client line out = rw out.untold (out-waiting_left client line out)

-- a line is a line

pub line_is : (kind : Bool) (q : Queue Unit ℕ) (keys : List (Option Key)) (awake : List Bool) → IsQueue q → IsLine (line_of kind q keys awake)
line_is kind q keys awake queue = grind (arith, length-map)

-- the queue, the keys and the wake-ups are tied, and are this line
pub record Changed (kind : Bool) (q : Queue Unit ℕ) (keys : List (Option Key)) (awake : List Bool) (line : Line) : Type 0 where
  pub tied : IsTied kind q keys awake
  pub is : line_of kind q keys awake ≡ line

pub moves : (kind : Bool) (q q' : Queue Unit ℕ) (keys : List (Option Key)) (awake awake' : List Bool) (line line' : Line) → q' ≡ q → awake' ≡ awake → line ≡ line' → Changed kind q keys awake line → Changed kind q' keys awake' line'
moves kind q q' keys awake awake' line line' same same' same_line changed = grind (arith, same, same_line)

abbrev Names : List (Option Key) → Key → Type 0
Names keys key = client_of keys key < length keys

abbrev pub IsOf : Bool → Key × Notice Unit → Type 0
IsOf kind entry = entry.1.additional ≡ kind

none_is : {X : Type 0} (o : Option X) → is_some o ≡ false → o ≡ None
none_is None none = refl
none_is (Some x) none = absurd (cc)

module _ (kind : Bool) (q : Queue Unit ℕ) (keys : List (Option Key)) (awake : List Bool) (tied : IsTied kind q keys awake) where
  told-names : AllByRecursion (Names keys) (keys_of q.told)
  told-names = All-front (Names keys) (keys_of q.told) (keys_of q.waiting) tied.listed

  waiting-names : AllByRecursion (Names keys) (keys_of q.waiting)
  waiting-names = All-back (Names keys) (keys_of q.told) (keys_of q.waiting) tied.listed

  -- the same keys, in the same order, are tied as they were
  pub kept : (q' : Queue Unit ℕ) (awake' : List Bool) → IsQueue q' → order_of q' ≡ order_of q → q'.next_serial ≡ q.next_serial → q'.spare ≡ q.spare → AllByRecursion (HasTask keys) q'.waiting → AllByRecursion (IsOf kind) q'.told → length awake' ≡ length awake → IsTied kind q' keys awake'
  kept q' awake' queue order next spare tasks kinds flags = record {
    queue = queue;
    listed = subst (AllByRecursion (Names keys)) (sym order) tied.listed;
    mapped =
        λ client key at.
        let was = tied.mapped client key at in
        record {
          own = was.own;
          given = omega (arith, was.given, next);
          stands = ap (list_any (is_key key)) order ∙ was.stands;
        };
    tasks = tasks;
    kinds = kinds;
    room = omega (arith, tied.room, spare);
    flags = flags ∙ tied.flags;
  }

  module _ (client : ℕ) where
    pub out-keyless : get_or keys client None ≡ None → IsOut client (line_of kind q keys awake)
    out-keyless none = grind (arith, All-implied, any-none, keys_of-waiting, not_client, told-names, waiting-names)

    module _ (key : Key) (at : get_or keys client None ≡ Some key) where
      own : IsKeyOf q keys client key
      own = tied.mapped client key at

      named : (other : Key) → Names keys other → is_key key other ≡ eqb client (client_of keys other)
      named other names = is_client keys client key other at own.own names

      told-are : AreClient (is_key key) client keys (keys_of q.told)
      told-are = grind (arith, All-implied, named, told-names)

      waiting-are : AreClient (is_key key) client keys (keys_of q.waiting)
      waiting-are = grind (arith, All-implied, named, waiting-names)

      -- the client is notified, or waits, where its key is
      pub told-found : is_told client (line_of kind q keys awake) ≡ is_some (lookup (is_key key) q.told)
      told-found = any-lookup (is_key key) client keys q.told told-are

      pub waiting-found : is_waiting client (line_of kind q keys awake) ≡ is_some (lookup (is_key key) q.waiting)
      waiting-found = grind (arith, any-lookup, keys_of-waiting, waiting-are)

      pub out-absent : IsAbsent key q → IsOut client (line_of kind q keys awake)
      out-absent absent = grind (arith, absent, told-found, waiting-found)

      -- a client's key is in the queue
      pub not_absent : IsAbsent key q → ⊥
      not_absent absent =
          let told = sym (is_some-lookup (is_key key) q.told) ∙ ap is_some absent.untold in
          let waiting = sym (is_some-lookup (is_key key) q.waiting) ∙ ap is_some absent.unwaiting in
          let nowhere : list_any (is_key key) (order_of q) ≡ false =
          list_any-append (is_key key) (keys_of q.told) (keys_of q.waiting) ∙ or_from (list_any (is_key key) (keys_of q.told)) (list_any (is_key key) (keys_of q.waiting)) told waiting in
          both_ways (list_any (is_key key) (order_of q)) nowhere own.stands

      -- a waiting client stores its task
      pub stores : (task : Option ℕ) → lookup (is_key key) q.waiting ≡ Some task → Changed kind (after_storing key client q) keys awake (registered client (line_of kind q keys awake))
      stores task found = record {
        tied = kept (after_storing key client q) awake (IsQueue-after_storing key client q tied.queue) (order_of-after_storing key client q) refl refl (tasks-set keys client key q.waiting own.own tied.tasks) tied.kinds refl;
        is = ap (λ (ws : List (ℕ × Bool)). record (line_of kind q keys awake) { waiting = ws }) (waiting-set keys (is_key key) client client q.waiting waiting-are);
      }

      -- a client leaves, and its key with it
      module _ (q' : Queue Unit ℕ) (within : client < length keys) (queue : IsQueue q') (order : order_of q' ≡ without key (order_of q)) (next : q'.next_serial ≡ q.next_serial) (spare : q'.spare ≡ q.spare + 1) where
        abbrev left : List (Option Key)
        left = set keys client None

        others : AllByRecursion (λ other. is_key key other ≡ false) (order_of q')
        others = subst (NoneIs key) (sym order) (none_is-without key (order_of q))

        abbrev Same : Key → Type 0
        Same other = client_of left other ≡ client_of keys other

        same-if : (other : Key) → is_key key other ≡ false → Same other
        same-if other differs = client_of-set keys client None other (ap (holds other) at ∙ differs) refl

        same : AllByRecursion Same (order_of q')
        same = All-implied (λ other. is_key key other ≡ false) Same (order_of q') same-if others

        told-same : AllByRecursion Same (keys_of q'.told)
        told-same = All-front Same (keys_of q'.told) (keys_of q'.waiting) same

        waiting-same' : AllByRecursion Same (keys_of q'.waiting)
        waiting-same' = All-back Same (keys_of q'.told) (keys_of q'.waiting) same

        names' : (other : Key) → Names keys other → Same other → Names left other
        names' other names is = omega (arith, names, is, length-set keys client None)

        other-key : (other : ℕ) (k : Key) → other ≢ client → get_or keys other None ≡ Some k → IsKeyOf q' left other k
        other-key other k apart at' =
            let was = tied.mapped other k at' in
            let differs : is_key key k ≡ false =
            false_from_ne_true (is_key key k) (λ is. apart (sym was.own ∙ (ap (client_of keys) (same_key key k is) ∙ own.own))) in
            record {
              own = same-if k differs ∙ was.own;
              given = omega (arith, was.given, next);
              stands = ap (list_any (is_key k)) order ∙ (any-without key k (order_of q) differs ∙ was.stands);
            }

        mapped' : (other : ℕ) (k : Key) → get_or left other None ≡ Some k → IsKeyOf q' left other k
        mapped' other k at' =
            elim (cases_eq other client) [
              | inl is ↦
                  let gone : get_or left other None ≡ None =
                  ap (λ (n : ℕ). get_or left n None) is ∙ get_or-set_same keys client None None within in
                  absurd (none-some k (sym gone ∙ at'))
              | inr apart ↦
                  other-key other k apart (sym (get_or-set_other keys client other None None apart) ∙ at')
            ]

        pub leaves : AllByRecursion (HasTask keys) q'.waiting → AllByRecursion (IsOf kind) q'.told → IsTied kind q' left awake
        leaves tasks kinds = record {
          queue = queue;
          listed = All-both (Names keys) Same (Names left) (order_of q') names' (subst (AllByRecursion (Names keys)) (sym order) (All-filter (Names keys) _ (order_of q) tied.listed)) same;
          mapped = mapped';
          tasks = tasks-same keys left q'.waiting waiting-same' tasks;
          kinds = kinds;
          room = omega (arith, tied.room, spare, keyless-leaves keys client key at);
          flags = tied.flags ∙ sym (length-set keys client None);
        }

        pub same_line : line_of kind q' left awake ≡ line_of kind q' keys awake
        same_line = grind (arith, clients-same, told-same, waiting-same, waiting-same')

      pub told-leaves : (notice : Notice Unit) → client < length keys → lookup (is_key key) q.told ≡ Some notice → Changed kind (told_leaves key q) (set keys client None) awake (told_left client (line_of kind q keys awake))
      told-leaves notice within found =
          let queue = IsQueue-told_leaves key q notice tied.queue found in
          let order = order_of-told_leaves key q notice tied.queue found in
          record {
            tied = leaves (told_leaves key q) within queue order refl refl tied.tasks (All-remove (IsOf kind) (is_key key) q.told tied.kinds);
            is =
                same_line (told_leaves key q) within queue order refl refl
                ∙ ap (λ (cs : List ℕ). record (line_of kind q keys awake) { told = cs }) (clients-remove (is_key key) client keys q.told told-are);
          }

      pub waiting-leaves : (task : Option ℕ) → client < length keys → lookup (is_key key) q.waiting ≡ Some task → Changed kind (waiting_leaves key q) (set keys client None) awake (waiting_left client (line_of kind q keys awake))
      waiting-leaves task within found =
          let queue = IsQueue-waiting_leaves key q task tied.queue found in
          let order = order_of-waiting_leaves key q task tied.queue found in
          record {
            tied = leaves (waiting_leaves key q) within queue order refl refl (All-remove (HasTask keys) (is_key key) q.waiting tied.tasks) tied.kinds;
            is =
                same_line (waiting_leaves key q) within queue order refl refl
                ∙ ap (λ (ws : List (ℕ × Bool)). record (line_of kind q keys awake) { waiting = ws }) (waiting-remove keys (is_key key) client q.waiting waiting-are);
          }

    -- a client that is out has no key
    pub keyless-out : IsOut client (line_of kind q keys awake) → get_or keys client None ≡ None
    keyless-out out = by_option (get_or keys client None) refl
      where
        absent : (key : Key) → get_or keys client None ≡ Some key → IsAbsent key q
        absent key at = record {
          untold = none_is (lookup (is_key key) q.told) (sym (told-found key at) ∙ out.untold);
          unwaiting = none_is (lookup (is_key key) q.waiting) (sym (waiting-found key at) ∙ out.unwaiting);
        }

        by_option : (o : Option Key) → get_or keys client None ≡ o → get_or keys client None ≡ None
        by_option None at = at
        by_option (Some key) at = absurd (not_absent key at (absent key at))
