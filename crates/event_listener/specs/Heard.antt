-- What hands have seen of a listener.
use Rattle.std.specs.Prelude.{◌≡◌, ◌^◌, ◌-◌, ℕ, Bool, ◌∷◌, ◌++◌, Ok}
use Rattle.event_queue.specs.declared.key.Key.{Key}
use Rattle.event_wait.specs.declared.lock.task.Task.{Task}
use Rattle.event_history.specs.declared.history.Met.{Met}
use Rattle.event_history.specs.declared.queue_call.QueueCall.{QueueCall}
use Rattle.event_history.specs.declared.queue_call.QueueCall.TheVariants.{Insert, Notify}
use Rattle.event_history.specs.History.{entry, calls_by, IsAmong}
use Rattle.event_history.specs.Laws.{QueueLog}
use Rattle.event_listener.specs.Listening.{Known}
use Rattle.event_listener.specs.Waiting.{Calls}

module _ {T : Type 0} where
  -- what a hand knew that takes in another, of which it learns this: `both_views` of the two
  abbrev pub taking_in : Met (QueueCall T Task) → Known T → Known T
  taking_in met knows = record knows { met = met ∷ knows.met }

  -- the listener of that key listened, by a call of the history
  pub record HasListened (key : Key) (log : QueueLog T Task) : Type 0 where
    pub by : ℕ
    pub among : IsAmong (Insert (Ok key)) (calls_by by log)

  -- after it listened all were notified, by the greatest count, which was refused no tag
  pub record AllNotified (key : Key) (log : QueueLog T Task) : Type 0 where
    pub earlier : QueueLog T Task
    pub by : ℕ
    pub additional : Bool
    pub told : ℕ
    pub later : QueueLog T Task
    pub listened : HasListened key earlier
    pub notified : log ≡ earlier ++ entry by (Notify (2 ^ 64 - 1) additional (Ok told)) ∷ later

  -- the hand made one call: a notification of the greatest count, which was refused no tag
  abbrev pub NotifiesAll : Known T → Known T → Type 0
  NotifiesAll before after = (additional : Bool) × (told : ℕ) × Calls before (Notify (2 ^ 64 - 1) additional (Ok told)) after
