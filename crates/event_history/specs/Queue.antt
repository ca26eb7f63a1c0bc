-- What each call on a queue does to its two lists.
use Rattle.std.specs.Prelude.{◌≡◌, ◌⊎◌, ◌<◌, ℕ, Bool, List, [], ◌∷◌, length, Some, Result, Ok, Err, IsSomeAnd}
use Rattle.std.specs.Map.{lookup}
use Rattle.event_queue.specs.declared.key.Key.{Key}
use Rattle.event_queue.specs.declared.reply.RegisterResult.{RegisterResult}
use Rattle.event_queue.specs.declared.reply.RegisterResult.TheVariants.{Notified, Registered, NeverInserted}
use Rattle.event_queue.specs.declared.reply.NotifyError.{NotifyError}
use Rattle.event_queue.specs.Key.{is_key}
use Rattle.event_queue.specs.Queue.{Queue, IsQueue, IsAbsent, listeners_of, how_many, after_telling, told_leaves}
use Rattle.event_queue.specs.Insert.{Inserts}
use Rattle.event_queue.specs.Register.{Registers}
use Rattle.event_queue.specs.Remove.{Removes}
use Rattle.event_history.specs.History.{Machine}
use Rattle.event_history.specs.declared.queue_call.QueueCall.{QueueCall}
use Rattle.event_history.specs.declared.queue_call.QueueCall.TheVariants.{Insert, Register, Remove, Notify, Counts}

module _ {T W : Type 0} where
  -- nobody is notified and nobody waits
  abbrev pub is_empty : Queue T W → Type 0
  is_empty q = (q.told ≡ []) × (q.waiting ≡ [])

  -- the first that wait are notified, each with one of as many tags as are counted
  abbrev pub TellsSome : Bool → Queue T W → ℕ → Queue T W → Type 0
  TellsSome additional old told new = (tags : List T) × (length tags ≡ told) × (new ≡ after_telling additional tags old)

  -- a notification tells as many as it wants, or less where a tag was refused
  abbrev pub NotifiesSome : ℕ → Bool → Queue T W → Result ℕ NotifyError → Queue T W → Type 0
  NotifiesSome count additional old (Ok told) new = (told ≡ how_many count additional old) × TellsSome additional old told new
  NotifiesSome count additional old (Err error) new = (error.told < how_many count additional old) × TellsSome additional old error.told new

  -- a registration, with some task where one is stored
  abbrev pub RegistersSome : Queue T W → Key → RegisterResult T → Queue T W → Type 0
  RegistersSome old key (Notified tag) new = IsSomeAnd (lookup (is_key key) old.told) (λ notice. notice.tag ≡ tag) × (new ≡ told_leaves key old)
  RegistersSome old key Registered new = (task : W) × Registers old key task Registered new
  RegistersSome old key NeverInserted new = IsAbsent key old × (new ≡ old)

  abbrev pub Does : Queue T W → QueueCall T W → Queue T W → Type 0
  Does old (Insert reply) new = Inserts old reply new
  Does old (Register key reply) new = RegistersSome old key reply new
  Does old (Remove key propagate reply) new = Removes old key propagate reply new
  Does old (Notify count additional reply) new = NotifiesSome count additional old reply new
  Does old (Counts told total) new = (told ≡ length old.told) × (total ≡ listeners_of old) × (new ≡ old)

  abbrev pub calls : Queue T W → QueueCall T W → Queue T W → Type 0
  calls old call new = Does old call new × IsQueue new

  -- only the hand that a listener joined by takes its tag, stores its task or takes it out
  abbrev pub rests_on : QueueCall T W → List (QueueCall T W)
  rests_on (Register key reply) = Insert (Ok key) ∷ []
  rests_on (Remove key propagate reply) = Insert (Ok key) ∷ []
  rests_on _ = []

  abbrev pub queue_machine : Machine (Queue T W) (QueueCall T W)
  queue_machine = record { starts = is_empty; goes = calls; rests = rests_on }

  -- the call takes that listener out: with its tag, or by removing it
  abbrev pub TakesOut : Key → QueueCall T W → Type 0
  TakesOut key (Register other (Notified tag)) = other ≡ key
  TakesOut key (Remove other propagate (Some was)) = other ≡ key
  TakesOut key _ = ⊥

  -- one of these calls takes it out
  abbrev pub IsTakenOut : Key → List (QueueCall T W) → Type 0
  IsTakenOut key [] = ⊥
  IsTakenOut key (call ∷ calls) = TakesOut key call ⊎ IsTakenOut key calls

  -- if that call inserted a listener, one of the later calls takes it out
  abbrev pub LeavesNone : QueueCall T W → List (QueueCall T W) → Type 0
  LeavesNone (Insert (Ok key)) later = IsTakenOut key later
  LeavesNone _ later = Unit {0}

  -- of a hand's calls: each listener that one of them inserted, a later one took out
  abbrev pub NoneLeft : List (QueueCall T W) → Type 0
  NoneLeft [] = Unit {0}
  NoneLeft (call ∷ calls) = LeavesNone call calls × NoneLeft calls

  -- the same, but that listener may be left
  abbrev pub LeavesOnly : Key → QueueCall T W → List (QueueCall T W) → Type 0
  LeavesOnly key (Insert (Ok other)) later = (other ≡ key) ⊎ IsTakenOut other later
  LeavesOnly key _ later = Unit {0}

  -- of the listeners that a hand's calls inserted, none is left but that one
  abbrev pub OnlyLeft : Key → List (QueueCall T W) → Type 0
  OnlyLeft key [] = Unit {0}
  OnlyLeft key (call ∷ calls) = LeavesOnly key call calls × OnlyLeft key calls
