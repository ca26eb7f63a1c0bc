-- What a hand notes of a wait, and what the wait answers by that.
use Rattle.std.specs.Prelude.{◌≡◌, ◌⊎◌, ◌≤◌, ℕ, Bool, false, List, [], ◌∷◌, ◌++◌, replicate, Option, Some, None, Result, Ok, Err}
use Rattle.event_queue.specs.declared.key.Key.{Key}
use Rattle.event_queue.specs.declared.reply.RegisterResult.{RegisterResult}
use Rattle.event_queue.specs.declared.reply.RegisterResult.TheVariants as register
use Rattle.event_listener.specs.declared.listener.wait_error.WaitError.{WaitError}
use Rattle.event_listener.specs.declared.listener.wait_error.WaitError.TheVariants as wait
use Rattle.event_listener.specs.declared.recorded.call.RecordedCall.TheVariants as call
use Rattle.event_listener.specs.declared.recorded.hand.Note.{Note}
use Rattle.event_listener.specs.declared.recorded.reply.Former.{Former}
use Rattle.event_listener.specs.declared.recorded.reply.Former.TheVariants as former
use Rattle.event_listener.specs.declared.recorded.reply.RecordedReply.TheVariants as reply
use Rattle.event_listener.specs.Noting.{HandNotes, RecordedListening, note}

-- the answer of a wait that has no deadline, as one of a wait that may have one
abbrev pub as_some : {T E : Type 0} → Result T E → Result (Option T) E
as_some (Ok tag) = Ok (Some tag)
as_some (Err error) = Err error

module _ {T : Type 0} where
  -- a registration that found the listener waiting
  abbrev pub still_waiting : Key → Note T
  still_waiting key = note (call.Register key) (reply.Registered register.Registered)

  -- the wait's last note is a registration with this answer
  abbrev pub RegistersLast : Key → RegisterResult T → List (Note T) → Type 0
  RegistersLast key answer last = last ≡ note (call.Register key) (reply.Registered answer) ∷ []

  -- the deadline had passed after some registration, and the wait's last note is a removal with this answer, which
  -- propagated nothing
  pub record RemovesLast (may_end : Type 0) (key : Key) (rounds : ℕ) (answer : Option (Former T)) (last : List (Note T)) : Type 0 where
    pub has_deadline : may_end
    pub registered : 1 ≤ rounds
    pub removal : last ≡ note (call.Remove key false) (reply.Removed answer) ∷ []

  -- what a wait answers by its last note; if it failed for memory it returns the same listener
  abbrev pub EndsBy : Type 0 → RecordedListening → ℕ → List (Note T) → Result (Option T) (WaitError RecordedListening) → Type 0
  EndsBy may_end listener rounds last (Ok (Some tag)) =
      RegistersLast listener.key (register.Notified tag) last
      ⊎ ((additional : Bool) × RemovesLast may_end listener.key rounds (Some (former.Notified additional tag)) last)
  EndsBy may_end listener rounds last (Ok None) =
      RemovesLast may_end listener.key rounds (Some former.Created) last
      ⊎ RemovesLast may_end listener.key rounds (Some former.Task) last
  EndsBy may_end listener rounds last (Err wait.NeverInserted) =
      RegistersLast listener.key register.NeverInserted last ⊎ RemovesLast may_end listener.key rounds None last
  EndsBy may_end listener rounds last (Err (wait.Memory back)) = (back ≡ listener) × (last ≡ [])

  -- a wait that may end at a deadline notes some registrations that found the listener waiting, and then what ended it
  pub record NotesWait (may_end : Type 0) (listener : RecordedListening) (old : HandNotes T) (result : Result (Option T) (WaitError RecordedListening)) (new : HandNotes T) : Type 0 where
    pub rounds : ℕ
    pub last : List (Note T)
    pub notes : new ≡ record old { notes = old.notes ++ replicate rounds (still_waiting listener.key) ++ last }
    pub ended : EndsBy may_end listener rounds last result
