-- The steps that make the task to store: a register step of the one that is stored, an insert step of none.
use Rattle.std.specs.Prelude.{◌≡◌, Option, Some, None, Result, Ok, Err, IsSomeAnd}
use Rattle.std.specs.Map.{lookup}
use Rattle.event_queue.specs.declared.key.Key.{Key}
use Rattle.event_queue.specs.declared.reply.ListenError.{ListenError}
use Rattle.event_queue.specs.declared.reply.RegisterResult.{RegisterResult}
use Rattle.event_queue.specs.declared.reply.RegisterResult.TheVariants.{Notified, Registered, NeverInserted}
use Rattle.event_queue.specs.Key.{is_key}
use Rattle.event_queue.specs.Queue.{Queue, IsAbsent, told_leaves}
use Rattle.event_queue.specs.Insert.{JoinsStoring, Inserts}
use Rattle.event_queue.specs.Register.{after_storing}

module _ {T W C : Type 0} (exchanged : C → Option W → W → C → Type 0) where
  -- the waiting listener of that key handed its task out, if it had one, and stores what it was exchanged for
  pub record Exchanges (old : Queue T W) (key : Key) (before : C) (new : Queue T W) (after : C) : Type 0 where
    pub handed_out : Option W
    pub task : W
    pub found : lookup (is_key key) old.waiting ≡ Some handed_out
    pub made : exchanged before handed_out task after
    pub stored : new ≡ after_storing key task old

  -- what such a registration answers, and the queue that it leaves: only the task of a waiting listener is exchanged
  abbrev pub RegistersWith : Queue T W → Key → C → RegisterResult T → Queue T W → C → Type 0
  RegistersWith old key before (Notified tag) new after =
      IsSomeAnd (lookup (is_key key) old.told) (λ notice. notice.tag ≡ tag) × (new ≡ told_leaves key old)
      × (after ≡ before)
  RegistersWith old key before Registered new after = Exchanges old key before new after
  RegistersWith old key before NeverInserted new after = IsAbsent key old × (new ≡ old) × (after ≡ before)

  -- a newcomer waits at the end of the queue, and stores a task that was made of none
  pub record JoinsWithTask (old : Queue T W) (before : C) (key : Key) (new : Queue T W) (after : C) : Type 0 where
    pub task : W
    pub made : exchanged before None task after
    pub joins : JoinsStoring (Some task) old key new

  -- what an insertion answers that stores such a task, and the queue that it leaves: a refusal is that of any insertion,
  -- and no task is made
  abbrev pub InsertsWith : Queue T W → C → Result Key ListenError → Queue T W → C → Type 0
  InsertsWith old before (Ok key) new after = JoinsWithTask old before key new after
  InsertsWith old before (Err error) new after = Inserts old (Err error) new × (after ≡ before)
