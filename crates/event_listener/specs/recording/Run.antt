-- A record as a run: each entry is a step of a queue, one after another.
use Rattle.std.specs.Prelude.{◌≡◌, Bool, true, List, [], ◌∷◌, Option}
use Rattle.event_queue.specs.Queue.{Queue}
use Rattle.event_listener.specs.declared.recorded.entry.Entry.{Entry}
use Rattle.event_listener.specs.declared.recorded.reply.RecordedReply.{RecordedReply}
use Rattle.event_listener.specs.recording.Step.{StepsAnySpare, IsReplyTo}
use Rattle.event_listener.specs.recording.Replay.{same_reply}

-- an empty queue, whose first listener gets the serial 0
abbrev pub empty_queue : {T W : Type 0} → Queue T W
empty_queue = record { told = []; waiting = []; next_serial = 0; spare = 0 }

module _ {T W : Type 0} (eq : T → T → Bool) where
  -- the entry is a step from one queue to the other, with some task if it registers one: the queue's reply is the
  -- entry's, by `same_reply`
  pub record IsStep (old : Queue T W) (entry : Entry T) (new : Queue T W) : Type 0 where
    pub task : Option W
    pub reply : RecordedReply T
    pub step : StepsAnySpare old entry.call task reply new
    pub kind : IsReplyTo entry.call reply
    pub same : same_reply eq reply entry.reply ≡ true

  -- these entries, one after another, are steps that lead from one queue to the other
  abbrev pub IsRun : Queue T W → List (Entry T) → Queue T W → Type 0
  IsRun old [] new = new ≡ old
  IsRun old (entry ∷ rest) new = (between : Queue T W) × IsStep old entry between × IsRun between rest new
