-- How a `ClientLine` keeps its clients in a queue of listeners. No public clause cites this module.
use Rattle.std.specs.Prelude.{◌≡◌, ℕ, zero, suc, ◌<◌, ◌≤◌, Bool, true, false, if◌then◌else◌, List, [], ◌∷◌, map, length, get_or, Option, Some, None, is_some, IfSome}
use Rattle.std.specs.List.{AllByRecursion, list_any}
use Rattle.event_queue.specs.declared.key.Key.{Key}
use Rattle.event_queue.specs.declared.notice.Notice.{Notice}
use Rattle.event_queue.specs.Key.{is_key}
use Rattle.event_queue.specs.Queue.{Queue, IsQueue, order_of}
use Rattle.event_worlds.specs.Line.{Line}

-- whether this is the key that a client has
abbrev pub holds : Key → Option Key → Bool
holds key None = false
holds key (Some held) = is_key held key

-- the number of the first client that has the key; the number of clients where none has
abbrev pub client_of : List (Option Key) → Key → ℕ
client_of [] key = zero
client_of (first ∷ rest) key = if holds key first then zero else suc (client_of rest key)

-- the clients that these notified listeners are, and these waiting ones, each with whether it stored a task
abbrev pub told_clients : List (Option Key) → List (Key × Notice Unit) → List ℕ
told_clients keys told = map (λ entry. client_of keys entry.0) told

abbrev pub waiting_clients : List (Option Key) → List (Key × Option ℕ) → List (ℕ × Bool)
waiting_clients keys waiting = map (λ entry. (client_of keys entry.0, is_some entry.1)) waiting

-- the line that a queue, the clients' keys and their wake-ups are, where notifications are of that kind
abbrev pub line_of : Bool → Queue Unit ℕ → List (Option Key) → List Bool → Line
line_of kind q keys awake = record {
  told = told_clients keys q.told;
  waiting = waiting_clients keys q.waiting;
  awake = awake;
  next = q.next_serial;
  additional = kind;
}

-- how many clients have no key
abbrev pub keyless : List (Option Key) → ℕ
keyless [] = zero
keyless (None ∷ rest) = suc (keyless rest)
keyless (Some _ ∷ rest) = keyless rest

-- a client's key is nobody else's, was given out, and is in the queue
pub record IsKeyOf (q : Queue Unit ℕ) (keys : List (Option Key)) (client : ℕ) (key : Key) : Type 0 where
  pub own : client_of keys key ≡ client
  pub given : key.serial < q.next_serial
  pub stands : list_any (is_key key) (order_of q) ≡ true

-- the listeners are the clients that have keys, each with its own number for a task; all notified were notified by a
-- notification of that kind; there is room for the others
pub record IsTied (kind : Bool) (q : Queue Unit ℕ) (keys : List (Option Key)) (awake : List Bool) : Type 0 where
  pub queue : IsQueue q
  pub listed : AllByRecursion (λ key. client_of keys key < length keys) (order_of q)
  pub mapped : (client : ℕ) (key : Key) → get_or keys client None ≡ Some key → IsKeyOf q keys client key
  pub tasks : AllByRecursion (λ entry. IfSome entry.1 (λ task. task ≡ client_of keys entry.0)) q.waiting
  pub kinds : AllByRecursion (λ entry. entry.1.additional ≡ kind) q.told
  pub room : keyless keys ≤ q.spare
  pub flags : length awake ≡ length keys
