-- What a contract sees of a `RecordedState`: its entries and its queue.
use Rattle.std.specs.Prelude.{◌≡◌, ◌+◌, ◌≤◌, ℕ, Bool, true, List, [], ◌∷◌, ◌++◌, All, None, Some, ⊤}
use Rattle.event_queue.specs.declared.key.Key.{Key}
use Rattle.event_queue.specs.Queue.{Queue, IsQueue, listeners_of}
use Rattle.event_wait.specs.declared.lock.task.Task.{Task}
use Rattle.event_listener.specs.declared.recorded.call.RecordedCall.{RecordedCall}
use Rattle.event_listener.specs.declared.recorded.call.RecordedCall.TheVariants.{Remove}
use Rattle.event_listener.specs.declared.recorded.entry.Entry.{Entry}
use Rattle.event_listener.specs.declared.recorded.reply.RecordedReply.{RecordedReply}
use Rattle.event_listener.specs.declared.recorded.reply.RecordedReply.TheVariants.{Removed}
use Rattle.event_listener.specs.declared.recorded.reply.Former.{Former}
use Rattle.event_listener.specs.recording.Step.{StepsAnySpare}
use Rattle.event_listener.specs.recording.Replay.{ReplaysTo}

-- a queue with nothing spare
abbrev pub unspared : {T W : Type 0} → Queue T W → Queue T W
unspared q = record q { spare = 0 }

-- the entries, and the queue, whose spare slots are not looked at and count as 0
pub record Recording (T : Type 0) : Type 0 where
  pub entries : List (Entry T)
  pub queue : Queue T Task

module _ {T : Type 0} where
  -- the end of a listener: it was there, it left, and its notification was propagated
  abbrev pub IsEnd : RecordedCall T → RecordedReply T → Type 0
  IsEnd (Remove key true) (Removed (Some was)) = ⊤
  IsEnd _ _ = ⊥

  -- each entry of no hand is the end of a listener
  abbrev pub HandlessAreEnds : List (Entry T) → Type 0
  HandlessAreEnds entries = All (λ entry. entry.hand ≡ None → IsEnd entry.call entry.reply) entries

  -- the entries replay to the queue, and those of no hand are ends; they are in a vector of that length and capacity,
  -- which has room for one more for each listener
  pub record IsRecording (eq : T → T → Bool) (entries : List (Entry T)) (queue : Queue T Task) (len capacity : ℕ) : Type 0 where
    pub replays : ReplaysTo eq entries queue
    pub is_queue : IsQueue queue
    pub ends : HandlessAreEnds entries
    pub has_room : len + listeners_of queue ≤ capacity

  -- a listener that was in the queue left it, its notification was propagated, and that was recorded without a hand
  pub record Ends (old : Recording T) (key : Key) (new : Recording T) : Type 0 where
    pub was : Former T
    pub step : StepsAnySpare old.queue (Remove key true) None (Removed (Some was)) new.queue
    pub recorded : new.entries ≡ old.entries ++ record { hand = None; call = Remove key true; reply = Removed (Some was) } ∷ []
