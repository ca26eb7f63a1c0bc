-- What a hand notes of each call of a recorded event and of its listeners, and what the call answers by that.
use Rattle.std.specs.Prelude.{◌≡◌, ℕ, Bool, true, false, Option, Some, Result, Ok, Err}
use Rattle.futures.specs.declared.task.Poll.{Poll}
use Rattle.futures.specs.declared.task.Poll.TheVariants.{Ready, Pending}
use Rattle.event_queue.specs.declared.key.Key.{Key}
use Rattle.event_queue.specs.declared.reply.ListenError.TheVariants as listen
use Rattle.event_queue.specs.declared.reply.RegisterResult.TheVariants as register
use Rattle.event_listener.specs.declared.listener.wait_error.WaitError.{WaitError}
use Rattle.event_listener.specs.declared.listener.wait_error.WaitError.TheVariants as wait
use Rattle.event_listener.specs.declared.recorded.call.RecordedCall.TheVariants as call
use Rattle.event_listener.specs.declared.recorded.error.RecordError.{RecordError}
use Rattle.event_listener.specs.declared.recorded.error.RecordError.TheVariants as record_error
use Rattle.event_listener.specs.declared.recorded.listener.RecordedPollError.{RecordedPollError}
use Rattle.event_listener.specs.declared.recorded.listener.RecordedPollError.TheVariants as poll_error
use Rattle.event_listener.specs.declared.recorded.reply.Former.{Former}
use Rattle.event_listener.specs.declared.recorded.reply.Former.TheVariants as former
use Rattle.event_listener.specs.declared.recorded.reply.RecordedReply.TheVariants as reply
use Rattle.event_listener.specs.Noting.{HandNotes, RecordedListening, noted}

-- what was removed was a notified listener, whose notification was not propagated
abbrev pub was_told : {T : Type 0} → Option (Former T) → Bool
was_told (Some (former.Notified additional tag)) = true
was_told _ = false

module _ {T : Type 0} where
  -- a call notes itself with its answer, or nothing if it failed for memory
  abbrev pub Listens : {L : Type 0} → (key_of : L → Key) → HandNotes T → Result L RecordError → HandNotes T → Type 0
  Listens key_of old (Ok listener) new = new ≡ noted old call.Listen (reply.Listened (Ok (key_of listener)))
  Listens key_of old (Err record_error.SerialsUsedUp) new =
      new ≡ noted old call.Listen (reply.Listened (Err listen.SerialsUsedUp))
  Listens key_of old (Err record_error.Memory) new = new ≡ old

  abbrev pub NotesNotify : ℕ → Bool → T → HandNotes T → Result ℕ RecordError → HandNotes T → Type 0
  NotesNotify count additional tag old (Ok told) new =
      new ≡ noted old (call.Notify count additional tag) (reply.Notified told)
  NotesNotify count additional tag old (Err error) new = (error ≡ record_error.Memory) × (new ≡ old)

  abbrev pub NotesTotal : HandNotes T → Result ℕ RecordError → HandNotes T → Type 0
  NotesTotal old (Ok total) new = new ≡ noted old call.TotalListeners (reply.TotalListeners total)
  NotesTotal old (Err error) new = (error ≡ record_error.Memory) × (new ≡ old)

  abbrev pub NotesIsNotified : HandNotes T → Result Bool RecordError → HandNotes T → Type 0
  NotesIsNotified old (Ok told) new = new ≡ noted old call.IsNotified (reply.IsNotified told)
  NotesIsNotified old (Err error) new = (error ≡ record_error.Memory) × (new ≡ old)

  -- a poll notes a registration of the listener's key
  abbrev pub Polls : Key → HandNotes T → Result (Poll T) RecordedPollError → HandNotes T → Type 0
  Polls key old (Ok (Ready tag)) new = new ≡ noted old (call.Register key) (reply.Registered (register.Notified tag))
  Polls key old (Ok Pending) new = new ≡ noted old (call.Register key) (reply.Registered register.Registered)
  Polls key old (Err poll_error.NeverInserted) new =
      new ≡ noted old (call.Register key) (reply.Registered register.NeverInserted)
  Polls key old (Err poll_error.Memory) new = new ≡ old

  -- a discard notes a removal of the listener's key with no propagation; if it fails for memory it returns the same
  -- listener
  abbrev pub Discards : RecordedListening → HandNotes T → Result Bool (WaitError RecordedListening) → HandNotes T → Type 0
  Discards listener old (Ok told) new =
      (answer : Option (Former T)) × (new ≡ noted old (call.Remove listener.key false) (reply.Removed answer)) × (told ≡ was_told answer)
  Discards listener old (Err wait.NeverInserted) new = ⊥
  Discards listener old (Err (wait.Memory back)) new = (back ≡ listener) × (new ≡ old)
