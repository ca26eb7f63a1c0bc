-- The insert step: a newcomer waits at the end of the queue.
use Rattle.std.specs.Prelude.{◌≡◌, ◌+◌, ◌<◌, ◌≤◌, ◌^◌, [], ◌∷◌, ◌++◌, Option, None, Result, Ok, Err, IfOk}
use Rattle.event_queue.specs.declared.key.Key.{Key}
use Rattle.event_queue.specs.declared.reply.ListenError.{ListenError}
use Rattle.event_queue.specs.declared.reply.ListenError.TheVariants.{Memory, SerialsUsedUp}
use Rattle.event_queue.specs.Queue.{Queue, IsQueue, order_of}

module _ {T W : Type 0} where
  -- the next serial is below the greatest `u64`, which no listener gets
  abbrev pub HasSerialLeft : Queue T W → Type 0
  HasSerialLeft q = q.next_serial + 1 < 2 ^ 64

  -- the next serial is the greatest `u64`
  abbrev pub SerialsAreUsedUp : Queue T W → Type 0
  SerialsAreUsedUp q = q.next_serial + 1 ≡ 2 ^ 64

  -- a newcomer that has the next serial waits at the end, and stores this, be it a task or none; a spare slot,
  -- if there was one, is taken
  pub record JoinsStoring (stored : Option W) (old : Queue T W) (key : Key) (new : Queue T W) : Type 0 where
    pub serial_left : HasSerialLeft old
    pub serial : key.serial ≡ old.next_serial
    pub queue : new ≡ record old {
      waiting = old.waiting ++ (key, stored) ∷ [];
      next_serial = old.next_serial + 1;
      spare = new.spare;
    }
    pub slot : 0 < old.spare → new.spare + 1 ≡ old.spare

  -- the same, with no task
  abbrev pub Joins : Queue T W → Key → Queue T W → Type 0
  Joins old key new = JoinsStoring None old key new

  -- what an insertion answers, and the queue that it leaves
  abbrev pub Inserts : Queue T W → Result Key ListenError → Queue T W → Type 0
  Inserts old (Ok key) new = Joins old key new
  Inserts old (Err Memory) new = HasSerialLeft old × (old.spare ≡ 0) × (new ≡ old)
  Inserts old (Err SerialsUsedUp) new = SerialsAreUsedUp old × (new ≡ old)

  -- what holds of every insertion with this step, be the newcomer's task stored in it or later
  pub record IsInsertionBy (Step : Type 0) (old : Queue T W) (answer : Result Key ListenError) (new : Queue T W) : Type 0 where
    -- what the call answers, and the queue that it leaves
    pub step : Step
    -- serials rise, and numbers fit
    pub queue : IsQueue new
    -- the newcomer is last, and the others keep their order
    pub order : IfOk answer (λ key. order_of new ≡ order_of old ++ key ∷ [])
    -- the next serial does not fall
    pub serial : old.next_serial ≤ new.next_serial

  -- what holds of every insertion of a listener with no task
  abbrev pub IsInsertion : Queue T W → Result Key ListenError → Queue T W → Type 0
  IsInsertion old answer new = IsInsertionBy (Inserts old answer new) old answer new
