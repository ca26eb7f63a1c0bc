-- What a contract sees of a recorded event, of its hands and of its listeners.
use Rattle.std.specs.Prelude.{◌≡◌, ◌<◌, ℕ, zero, suc, List, [], ◌∷◌, ◌++◌}
use Rattle.event_queue.specs.declared.key.Key.{Key}
use Rattle.event_listener.specs.declared.recorded.call.RecordedCall.{RecordedCall}
use Rattle.event_listener.specs.declared.recorded.hand.Note.{Note}
use Rattle.event_listener.specs.declared.recorded.reply.RecordedReply.{RecordedReply}

-- the number of a recorded event's identity, and how many hands it has
pub record Recorded : Type 0 where
  pub number : ℕ
  pub hands : ℕ

-- a recorded listener: its event, and its key in the queue there
pub record RecordedListening : Type 0 where
  pub event : Recorded
  pub key : Key

-- a hand: its number, the number of its event, and its calls with their replies, in order
pub record HandNotes (T : Type 0) : Type 0 where
  pub number : ℕ
  pub event_number : ℕ
  pub notes : List (Note T)

module _ {T : Type 0} where
  -- the hand is one of the event's
  pub record Owns (recorded : Recorded) (hand : HandNotes T) : Type 0 where
    pub same_event : hand.event_number ≡ recorded.number
    pub is_below : hand.number < recorded.hands

  abbrev pub note : RecordedCall T → RecordedReply T → Note T
  note call reply = record { call = call; reply = reply }

  -- the hand once it has noted one call more
  abbrev pub noted : HandNotes T → RecordedCall T → RecordedReply T → HandNotes T
  noted hand call reply = record hand { notes = hand.notes ++ note call reply ∷ [] }

  -- the hands of a new event, which have noted nothing
  abbrev pub new_hands : ℕ → ℕ → List (HandNotes T)
  new_hands event_number zero = []
  new_hands event_number (suc count) =
      new_hands event_number count ++ record { number = count; event_number = event_number; notes = [] } ∷ []
