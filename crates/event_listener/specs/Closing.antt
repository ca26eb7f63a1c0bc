-- When the record of an event and the notes of its hands are one history.
use Rattle.std.specs.Prelude.{◌≡◌, ◌==◌, ◌&&◌, ◌<◌, ◌+◌, ℕ, Bool, true, false, List, [], ◌∷◌, length, filter, nat_lt, Option, Some, None, is_some, if◌then◌else◌}
use Rattle.std.specs.Bool.{beq}
use Rattle.event_queue.specs.Key.{is_key}
use Rattle.event_listener.specs.declared.recorded.call.RecordedCall.{RecordedCall}
use Rattle.event_listener.specs.declared.recorded.call.RecordedCall.TheVariants.{Listen, Register, Remove, Notify, TotalListeners, IsNotified}
use Rattle.event_listener.specs.declared.recorded.entry.Entry.{Entry}
use Rattle.event_listener.specs.declared.recorded.hand.Note.{Note}
use Rattle.event_listener.specs.Noting.{HandNotes}
use Rattle.event_listener.specs.recording.Replay.{same_reply}

-- that hand made the call
abbrev pub is_by : ℕ → Option ℕ → Bool
is_by number (Some hand) = hand == number
is_by number None = false

-- no hand made the call, or one with a number below the count
abbrev pub is_below : ℕ → Option ℕ → Bool
is_below count (Some hand) = nat_lt hand count
is_below count None = true

module _ {T : Type 0} where
  -- the entries of that hand, in order
  abbrev pub entries_of : ℕ → List (Entry T) → List (Entry T)
  entries_of number entries = filter (λ entry. is_by number entry.hand) entries

  -- the entries that are some hand's
  abbrev pub entries_of_hands : List (Entry T) → List (Entry T)
  entries_of_hands entries = filter (λ entry. is_some entry.hand) entries

  -- each of them is that of a hand with a number below the count
  abbrev pub are_hands_below : ℕ → List (Entry T) → Bool
  are_hands_below count [] = true
  are_hands_below count (entry ∷ rest) = is_below count entry.hand && are_hands_below count rest

  -- how many of the hands have that number
  abbrev pub how_many_with : ℕ → List (HandNotes T) → ℕ
  how_many_with number [] = 0
  how_many_with number (hand ∷ rest) = (if number == hand.number then 1 else 0) + how_many_with number rest

  -- each number below the count is the number of exactly one of them
  abbrev pub AreAllHands : ℕ → List (HandNotes T) → Type 0
  AreAllHands count hands = (number : ℕ) → number < count → how_many_with number hands ≡ 1

  -- how many notes they have together
  abbrev pub notes_of_all : List (HandNotes T) → ℕ
  notes_of_all [] = 0
  notes_of_all (hand ∷ rest) = length hand.notes + notes_of_all rest

  module _ (eq : T → T → Bool) where
    -- the two calls are equal, their tags by `eq`
    abbrev pub same_call : RecordedCall T → RecordedCall T → Bool
    same_call Listen Listen = true
    same_call (Register key) (Register key') = is_key key key'
    same_call (Remove key propagate) (Remove key' propagate') = is_key key key' && beq propagate propagate'
    same_call (Notify count additional tag) (Notify count' additional' tag') =
        count == count' && (beq additional additional' && eq tag tag')
    same_call TotalListeners TotalListeners = true
    same_call IsNotified IsNotified = true
    same_call _ _ = false

    -- the notes are these entries, in order, in call and reply
    abbrev pub are_notes : List (Entry T) → List (Note T) → Bool
    are_notes [] [] = true
    are_notes (entry ∷ entries) (note ∷ notes) =
        same_call entry.call note.call && same_reply eq entry.reply note.reply && are_notes entries notes
    are_notes _ _ = false

    -- the notes of each hand are the entries of that hand
    abbrev pub are_notes_of_all : List (Entry T) → List (HandNotes T) → Bool
    are_notes_of_all entries [] = true
    are_notes_of_all entries (hand ∷ rest) =
        are_notes (entries_of hand.number entries) hand.notes && are_notes_of_all entries rest
