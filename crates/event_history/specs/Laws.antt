-- What the laws say of a listener in a history of a queue.
use Rattle.std.specs.Prelude.{◌≡◌, ◌⊎◌, ℕ, Bool, true, false, List, [], ◌∷◌, ◌++◌, length, Option, Some, IsSome, Ok}
use Rattle.std.specs.Map.{keys_of, lookup}
use Rattle.event_queue.specs.declared.key.Key.{Key}
use Rattle.event_queue.specs.declared.notice.Notice.{Notice}
use Rattle.event_queue.specs.declared.reply.RegisterResult.TheVariants.{Notified}
use Rattle.event_queue.specs.declared.reply.State.{State}
use Rattle.event_queue.specs.declared.reply.State.TheVariants.{Notified as WasNotified, Passed, Lost}
use Rattle.event_queue.specs.Key.{is_key}
use Rattle.event_queue.specs.Queue.{Queue}
use Rattle.event_history.specs.declared.history.Entry.{Entry}
use Rattle.event_history.specs.declared.queue_call.QueueCall.{QueueCall}
use Rattle.event_history.specs.declared.queue_call.QueueCall.TheVariants.{Insert, Register, Remove, Notify}
use Rattle.event_history.specs.History.{entry, Runs, LeadsTo}
use Rattle.event_history.specs.Queue.{calls, queue_machine}

-- a history of a queue
abbrev pub QueueLog : Type 0 → Type 0 → Type 0
QueueLog T W = List (Entry (QueueCall T W))

module _ {T W : Type 0} where
  -- the listener of that key is notified, or waits
  abbrev pub IsTold : Key → Queue T W → Type 0
  IsTold key q = IsSome (lookup (is_key key) q.told)

  abbrev pub Waits : Key → Queue T W → Type 0
  Waits key q = IsSome (lookup (is_key key) q.waiting)

  abbrev pub IsIn : Key → Queue T W → Type 0
  IsIn key q = Waits key q ⊎ IsTold key q

  -- the call does not take that listener out
  abbrev pub Stays : Key → QueueCall T W → Type 0
  Stays key (Register other (Notified tag)) = is_key key other ≡ false
  Stays key (Remove other propagate (Some was)) = is_key key other ≡ false
  Stays key _ = Unit {0}

  abbrev pub EachStays : Key → QueueLog T W → Type 0
  EachStays key [] = Unit {0}
  EachStays key (e ∷ es) = Stays key e.call × EachStays key es

  -- its listening stands in the history, and no later call took it out
  pub record Listens (key : Key) (log : QueueLog T W) : Type 0 where
    pub earlier : QueueLog T W
    pub by : ℕ
    pub later : QueueLog T W
    pub inserted : log ≡ earlier ++ entry by (Insert (Ok key)) ∷ later
    pub stays : EachStays key later

  -- none of these calls takes that listener out
  abbrev pub AllStay : Key → List (QueueCall T W) → Type 0
  AllStay key [] = Unit {0}
  AllStay key (call ∷ calls) = Stays key call × AllStay key calls

  -- of a hand's calls: the listener joined by one, and no later one took it out
  pub record OwnsListener (key : Key) (mine : List (QueueCall T W)) : Type 0 where
    pub earlier : List (QueueCall T W)
    pub later : List (QueueCall T W)
    pub joined : mine ≡ earlier ++ Insert (Ok key) ∷ later
    pub stays : AllStay key later

  -- what a removal answers that found the listener notified: its notification, or what became of it where that is propagated
  abbrev pub FindsTold : Bool → Option (State T W) → Type 0
  FindsTold propagate (Some (WasNotified additional tag)) = propagate ≡ false
  FindsTold propagate (Some (Passed to)) = propagate ≡ true
  FindsTold propagate (Some (Lost additional tag)) = propagate ≡ true
  FindsTold propagate _ = ⊥

  -- the first `count` that waited are notified, and the others wait on
  pub record TellsFirst (count : ℕ) (old new : Queue T W) : Type 0 where
    pub first : List (Key × Option W)
    pub as_many : length first ≡ count
    pub waited : old.waiting ≡ first ++ new.waiting
    pub told : keys_of new.told ≡ keys_of old.told ++ keys_of first

  -- the first that waited is notified of what this notice says
  pub record GoesToFirst (to : Key) (notice : Notice T) (old new : Queue T W) : Type 0 where
    pub task : Option W
    pub rest : List (Key × Option W)
    pub waited : old.waiting ≡ (to, task) ∷ rest
    pub told : lookup (is_key to) new.told ≡ Some notice

  -- the call is a notification, or a removal that passed one on to that listener
  abbrev pub MayTell : Key → QueueCall T W → Type 0
  MayTell key (Notify count additional reply) = Unit {0}
  MayTell key (Remove other propagate (Some (Passed to))) = (propagate ≡ true) × (to ≡ key)
  MayTell key _ = ⊥

  -- the listener of that key listened and waited until a call of the history notified it of what this notice says
  pub record WasTold (key : Key) (notice : Notice T) (log : QueueLog T W) (q : Queue T W) : Type 0 where
    pub earlier : QueueLog T W
    pub by : ℕ
    pub call : QueueCall T W
    pub later : QueueLog T W
    pub made : log ≡ earlier ++ entry by call ∷ later
    pub tells : MayTell key call
    pub before : Queue T W
    pub after : Queue T W
    pub led : LeadsTo queue_machine earlier before
    pub step : calls before call after
    pub leads_on : Runs calls after later q
    pub listened : Listens key earlier
    pub waited : Waits key before
    pub told : lookup (is_key key) after.told ≡ Some notice
