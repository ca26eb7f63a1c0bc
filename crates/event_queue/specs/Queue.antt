-- What a contract sees of a `List`: two plain lists, of the notified listeners, which names call told, and of the others,
-- which wait.
use Rattle.std.specs.Prelude.{◌≡◌, ℕ, ◌+◌, ◌-◌, ◌^◌, ◌<◌, min, Bool, if◌then◌else◌, List, [], ◌∷◌, ◌++◌, length, take, drop, filter_map, Option, None, IsSomeAnd}
use Rattle.std.specs.List.Sorted.{IsStrictlyIncreasing}
use Rattle.std.specs.Map.{keys_of, lookup, remove_entry}
use Rattle.event_queue.specs.declared.key.Key.{Key}
use Rattle.event_queue.specs.declared.notice.Notice.{Notice}
use Rattle.event_queue.specs.Key.{is_key, serials}

-- the notified listeners, each with the kind and the tag that it got, and those that wait, each with its task if it
-- stored one, both in order of listening; the serial of the next listener; how many more fit with no allocation
pub record Queue (T W : Type 0) : Type 0 where
  pub told : List (Key × Notice T)
  pub waiting : List (Key × Option W)
  pub next_serial : ℕ
  pub spare : ℕ

module _ {T W : Type 0} where
  -- the keys in order of listening, those of the notified first
  abbrev pub order_of : Queue T W → List Key
  order_of q = keys_of q.told ++ keys_of q.waiting

  -- how many listeners there are, notified or waiting
  abbrev pub listeners_of : Queue T W → ℕ
  listeners_of q = length q.told + length q.waiting

  -- the serials rise strictly in order of listening, all below the next one, which a `u64` holds; a `usize`
  -- holds the number of listeners and spare slots together
  pub record IsQueue (q : Queue T W) : Type 0 where
    pub rising : IsStrictlyIncreasing (serials (order_of q) ++ q.next_serial ∷ [])
    pub serial_fits : q.next_serial < 2 ^ 64
    pub slots_fit : listeners_of q + q.spare < 2 ^ 64

  -- neither list has a listener of that key
  pub record IsAbsent (key : Key) (q : Queue T W) : Type 0 where
    pub untold : lookup (is_key key) q.told ≡ None
    pub unwaiting : lookup (is_key key) q.waiting ≡ None

  -- the listener of that key has left: it is in neither list, and no later listener gets its serial
  pub record IsGone (key : Key) (q : Queue T W) : Type 0 where
    pub absent : IsAbsent key q
    pub spent : key.serial < q.next_serial

  -- the listener of that key is notified, by a notification of that kind
  abbrev pub IsToldAs : Key → Bool → Queue T W → Type 0
  IsToldAs key additional q = IsSomeAnd (lookup (is_key key) q.told) (λ notice. notice.additional ≡ additional)

  -- how many listeners a notification wants notified anew: its count, less those notified before if it is a default one
  abbrev pub wanted : ℕ → Bool → Queue T W → ℕ
  wanted count additional q = if additional then count else count - length q.told

  -- how many it notifies: as many as it wants, or all that wait if they are fewer
  abbrev pub how_many : ℕ → Bool → Queue T W → ℕ
  how_many count additional q = min (wanted count additional q) (length q.waiting)

  -- the first of these waiting listeners, the i-th with the i-th tag, and all with that kind
  abbrev pub told_with : Bool → List T → List (Key × Option W) → List (Key × Notice T)
  told_with additional [] waiting = []
  told_with additional (tag ∷ tags) [] = []
  told_with additional (tag ∷ tags) (first ∷ rest) =
      (first.0, record { additional = additional; tag = tag }) ∷ told_with additional tags rest

  -- the queue once as many waiting listeners as there are tags have gone to the end of the notified
  abbrev pub after_telling : Bool → List T → Queue T W → Queue T W
  after_telling additional tags q = record q {
    told = q.told ++ told_with additional tags q.waiting;
    waiting = drop (length tags) q.waiting;
  }

  -- the tasks of the first `count` that wait, of those that stored one
  abbrev pub tasks_of : ℕ → Queue T W → List W
  tasks_of count q = filter_map (λ entry. entry.1) (take count q.waiting)

  -- the queue once the notified listener of that key has left, and its slot is spare
  abbrev pub told_leaves : Key → Queue T W → Queue T W
  told_leaves key q = record q { told = remove_entry (is_key key) q.told; spare = q.spare + 1 }

  -- the queue once the waiting listener of that key has left, and its slot is spare
  abbrev pub waiting_leaves : Key → Queue T W → Queue T W
  waiting_leaves key q = record q { waiting = remove_entry (is_key key) q.waiting; spare = q.spare + 1 }
