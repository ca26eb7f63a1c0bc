-- What a contract sees of a fair queue of those that compete: each that waits has a turn.
use Rattle.std.specs.Prelude.{◌≡◌, ℕ, ◌+◌, ◌<◌, ◌≤◌, Bool, true, false, if◌then◌else◌, Option, Some, None, IsSome, List, [], ◌∷◌, ◌++◌, length, map}
use Rattle.std.specs.List.{AllByRecursion, list_any}
use Rattle.std.specs.Map.{keys_of, lookup}
use Rattle.event_queue.specs.declared.key.Key.{Key}
use Rattle.event_queue.specs.declared.reply.ListenError.{ListenError}
use Rattle.event_queue.specs.declared.reply.ListenError.TheVariants.{Memory, SerialsUsedUp}
use Rattle.event_queue.specs.declared.reply.RegisterResult.{RegisterResult}
use Rattle.event_queue.specs.declared.reply.RegisterResult.TheVariants.{Notified, Registered, NeverInserted}
use Rattle.event_queue.specs.Insert.{JoinsStoring, SerialsAreUsedUp}
use Rattle.event_queue.specs.Key.{is_key, without}
use Rattle.event_queue.specs.Queue.{Queue, IsAbsent, order_of, listeners_of, told_leaves}
use Rattle.event_queue.specs.Register.{after_storing}
use Rattle.event_wait.specs.Line.{HasLeft, woken_up_to}
use Rattle.event_wait.specs.Starving.{Starving, but, counted_in, less_forborne, struck_off}
use Rattle.event_wait.specs.declared.fair_queue.Queued.{Queued}

-- the queue; the waiters in it that starve, each with how many newcomers beside the last are refused for its sake; how many notified ones have come, ever
pub record State (W : Type 0) : Type 0 where
  pub queue : Queue (Unit {0}) (Queued W)
  pub starving : List Starving
  pub came : ℕ

-- whether this key is one of these
abbrev pub is_among : List Key → Key → Bool
is_among keys key = list_any (is_key key) keys

-- each key is another one than those after it
abbrev pub AllDiffer : List Key → Type 0
AllDiffer [] = Unit {0}
AllDiffer (key ∷ keys) = AllByRecursion (λ other. is_key key other ≡ false) keys × AllDiffer keys

module _ {W : Type 0} where
  -- one has stored its task, and has this turn or a later one
  abbrev pub HasTurnFrom : ℕ → Option (Queued W) → Type 0
  HasTurnFrom before (Some waiter) = before ≤ waiter.turn
  HasTurnFrom before None = ⊥

  -- the first has this turn or a later one, the next has the next turn or a later one, and so on
  abbrev pub HaveTurnsFrom : ℕ → List (Key × Option (Queued W)) → Type 0
  HaveTurnsFrom before [] = Unit {0}
  HaveTurnsFrom before (entry ∷ entries) = HasTurnFrom before entry.1 × HaveTurnsFrom (before + 1) entries

  -- as many as came, are notified, or wait before it, are no more than the turn of one that waits says
  abbrev pub NobodyWaitsPastItsTurn : State W → Type 0
  NobodyWaitsPastItsTurn s = HaveTurnsFrom (s.came + length s.queue.told) s.queue.waiting

  -- what holds between any two calls
  pub record IsFairQueue (s : State W) : Type 0 where
    pub turns : NobodyWaitsPastItsTurn s
    -- those that starve are in the queue, notified or not
    pub among : AllByRecursion (λ key. is_among (order_of s.queue) key ≡ true) (keys_of s.starving)
    pub differ : AllDiffer (keys_of s.starving)
    -- whoever came or is in the queue had a serial number of its own
    pub counted : s.came + listeners_of s.queue ≤ s.queue.next_serial

  -- the turn of one that joins now: all that came, and all that are in the queue, are before it
  abbrev pub next_turn : State W → ℕ
  next_turn s = s.came + listeners_of s.queue

  -- the task of one that waits, if it stored one
  abbrev pub task_of : Option (Queued W) → Option W
  task_of None = None
  task_of (Some waiter) = Some waiter.task

  -- its turn, or this one if it has none
  abbrev pub turn_or : ℕ → Option (Queued W) → ℕ
  turn_or turn None = turn
  turn_or turn (Some waiter) = waiter.turn

  -- the tasks that are woken where the first are notified until so many are
  abbrev pub woken_tasks : ℕ → State W → List W
  woken_tasks free s = map (λ waiter. waiter.task) (woken_up_to free s.queue)

  -- a notified one has come: it left the queue, and starves no more
  pub record Comes (key : Key) (old new : State W) : Type 0 where
    pub told : IsSome (lookup (is_key key) old.queue.told)
    pub queue : new.queue ≡ told_leaves key old.queue
    pub order : order_of new.queue ≡ without key (order_of old.queue)
    pub starving : new.starving ≡ but (Some key) old.starving
    pub came : new.came ≡ old.came + 1

  -- the turn of one that waits
  abbrev pub turn_in : Option (Option (Queued W)) → Option ℕ
  turn_in None = None
  turn_in (Some None) = None
  turn_in (Some (Some waiter)) = Some waiter.turn

  abbrev pub turn_of : Key → State W → Option ℕ
  turn_of key s = turn_in (lookup (is_key key) s.queue.waiting)

  -- of those that had joined by then, each that waits has waited all along, with the same turn
  pub record KeepsTurns (old new : State W) : Type 0 where
    pub turns : (key : Key) → key.serial < old.queue.next_serial → IsSome (turn_of key new) → turn_of key new ≡ turn_of key old
    pub serial : old.queue.next_serial ≤ new.queue.next_serial

  -- one has joined, and its turn is after all that came before it and all that were in the queue
  pub record HasJoined (key : Key) (old new : State W) : Type 0 where
    pub turn : turn_of key new ≡ Some (next_turn old)
    pub given : key.serial < new.queue.next_serial

  -- no more have come since one joined that waits still than were in the queue before it
  abbrev pub FewCame : State W → Type 0
  FewCame now =
      (key : Key) (old joined : State W) → HasJoined key old joined → KeepsTurns joined now → IsSome (turn_of key now)
      → now.came ≤ old.came + listeners_of old.queue

  -- one was struck off: it starves no more; if it was notified it has left the queue, and else it waits as before
  pub record IsStruck (key : Key) (old new : State W) : Type 0 where
    pub starving : new.starving ≡ but (Some key) old.starving
    pub told : IsSome (lookup (is_key key) old.queue.told) → HasLeft key old.queue new.queue
    pub untold : (IsSome (lookup (is_key key) old.queue.told) → ⊥) → new.queue ≡ old.queue
    pub came : new.came ≡ old.came

  -- a newcomer was refused for the sake of the first that starves: that one is struck off, or forborne with for one fewer
  abbrev pub ForbearsBy : Option Key → State W → State W → Type 0
  ForbearsBy None old new = new ≡ record old { starving = less_forborne old.starving }
  ForbearsBy (Some key) old new = IsStruck key old new

  abbrev pub Forbears : State W → State W → Type 0
  Forbears old new = ForbearsBy (struck_off old.starving) old new

  -- why one could not join
  abbrev pub CannotJoin : Option ℕ → ListenError → State W → Type 0
  CannotJoin starves Memory s = starves ≡ None → s.queue.spare ≡ 0
  CannotJoin starves SerialsUsedUp s = SerialsAreUsedUp s.queue

  module _ {C : Type 0} (exchanged : C → Option W → W → C → Type 0) where
    -- a task was exchanged for the one stored; one that had a turn has kept it, and a newcomer has this
    pub record StoresInTurn (next : ℕ) (before : C) (stored : Option (Queued W)) (waiter : Queued W) (after : C) : Type 0 where
      pub turn : waiter.turn ≡ turn_or next stored
      pub made : exchanged before (task_of stored) waiter.task after

    -- one that waits has stored a task that was exchanged for its own, and has kept its turn, which has not passed
    pub record WaitsOn (key : Key) (old : State W) (before : C) (new : State W) (after : C) : Type 0 where
      pub waiter : Queued W
      pub task : W
      pub found : lookup (is_key key) old.queue.waiting ≡ Some (Some waiter)
      pub made : exchanged before (Some waiter.task) task after
      pub stored : new ≡ record old { queue = after_storing key (record { task = task; turn = waiter.turn }) old.queue }
      pub within : new.came + length new.queue.told ≤ waiter.turn

    -- what a look finds, and what it leaves
    abbrev pub Looks : Key → State W → C → RegisterResult (Unit {0}) → State W → C → Type 0
    Looks key old before (Notified tag) new after = Comes key old new × (after ≡ before)
    Looks key old before Registered new after = WaitsOn key old before new after
    Looks key old before NeverInserted new after = IsAbsent key old.queue × (new ≡ old) × (after ≡ before)

    -- a newcomer waits at the end, by a key of its own, with a task that was made of none, and is counted among those that
    -- starve if it does
    pub record Joins (starves : Option ℕ) (key : Key) (old : State W) (before : C) (new : State W) (after : C) : Type 0 where
      pub task : W
      pub made : exchanged before None task after
      pub queue : JoinsStoring (Some (record { task = task; turn = next_turn old })) old.queue key new.queue
      pub its_own : is_among (order_of old.queue) key ≡ false
      pub starving : new.starving ≡ counted_in key starves old.starving
      pub came : new.came ≡ old.came
