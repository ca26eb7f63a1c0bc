-- The register step: a notified listener takes its tag and leaves, a waiting one stores the task.
use Rattle.std.specs.Prelude.{◌≡◌, Some, IsSome, IsSomeAnd}
use Rattle.std.specs.Map.{lookup, set_value}
use Rattle.event_queue.specs.declared.key.Key.{Key}
use Rattle.event_queue.specs.declared.reply.RegisterResult.{RegisterResult}
use Rattle.event_queue.specs.declared.reply.RegisterResult.TheVariants.{Notified, Registered, NeverInserted}
use Rattle.event_queue.specs.Key.{is_key, without}
use Rattle.event_queue.specs.Queue.{Queue, IsQueue, IsAbsent, IsGone, order_of, told_leaves}

-- what holds where the answer is a tag, and what holds where it is none
abbrev pub OnNotified : {T : Type 0} → RegisterResult T → Type 0 → Type 0
OnNotified (Notified tag) P = P
OnNotified Registered P = Unit {0}
OnNotified NeverInserted P = Unit {0}

abbrev pub UnlessNotified : {T : Type 0} → RegisterResult T → Type 0 → Type 0
UnlessNotified (Notified tag) P = Unit {0}
UnlessNotified Registered P = P
UnlessNotified NeverInserted P = P

module _ {T W : Type 0} where
  -- the queue once the waiting listener of that key has stored the task, in place of an earlier one
  abbrev pub after_storing : Key → W → Queue T W → Queue T W
  after_storing key task q = record q { waiting = set_value (is_key key) q.waiting (Some task) }

  -- what a registration answers, and the queue that it leaves
  abbrev pub Registers : Queue T W → Key → W → RegisterResult T → Queue T W → Type 0
  Registers old key task (Notified tag) new =
      IsSomeAnd (lookup (is_key key) old.told) (λ notice. notice.tag ≡ tag) × (new ≡ told_leaves key old)
  Registers old key task Registered new =
      IsSome (lookup (is_key key) old.waiting) × (new ≡ after_storing key task old)
  Registers old key task NeverInserted new = IsAbsent key old × (new ≡ old)

  -- what holds of every registration with this step, be the task given or exchanged
  pub record IsRegistration (Step : Type 0) (old : Queue T W) (key : Key) (answer : RegisterResult T) (new : Queue T W) : Type 0 where
    -- what the call answers, and the queue that it leaves
    pub step : Step
    -- serials rise, and numbers fit
    pub queue : IsQueue new
    -- a listener that took its tag is gone
    pub gone : OnNotified answer (IsGone key new)
    -- and the others keep their order
    pub order_without : OnNotified answer (order_of new ≡ without key (order_of old))
    -- if none took its tag, the order of listening is as it was
    pub order_kept : UnlessNotified answer (order_of new ≡ order_of old)
    -- the next serial is as it was
    pub serial : new.next_serial ≡ old.next_serial
