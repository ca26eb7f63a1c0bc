-- What a recorded wait notes of one of its steps. No public clause cites this module.
use Rattle.std.specs.Prelude.{◌≡◌, ◌⊎◌, Bool, false, Option, Some, None, Result, Ok, Err}
use Rattle.event_queue.specs.declared.key.Key.{Key}
use Rattle.event_queue.specs.declared.reply.RegisterResult.TheVariants as register
use Rattle.event_listener.specs.declared.recorded.call.RecordedCall.TheVariants as call
use Rattle.event_listener.specs.declared.recorded.reply.Former.TheVariants as former
use Rattle.event_listener.specs.declared.recorded.reply.RecordedReply.TheVariants as reply
use Rattle.event_listener.specs.Noting.{HandNotes, noted}

module _ {T : Type 0} where
  -- a registration that found the listener waiting
  abbrev pub NotesRound : Key → HandNotes T → HandNotes T → Type 0
  NotesRound key old new = new ≡ noted old (call.Register key) (reply.Registered register.Registered)

  -- one with this answer
  abbrev pub NotesAttempt : {E : Type 0} → Key → HandNotes T → Result T E → HandNotes T → Type 0
  NotesAttempt key old (Ok tag) new = new ≡ noted old (call.Register key) (reply.Registered (register.Notified tag))
  NotesAttempt key old (Err error) new = new ≡ noted old (call.Register key) (reply.Registered register.NeverInserted)

  -- the removal at the limit
  abbrev pub NotesRemoval : {E : Type 0} → Key → HandNotes T → Option (Result T E) → HandNotes T → Type 0
  NotesRemoval key old (Some (Ok tag)) new =
      (additional : Bool) × (new ≡ noted old (call.Remove key false) (reply.Removed (Some (former.Notified additional tag))))
  NotesRemoval key old None new =
      (new ≡ noted old (call.Remove key false) (reply.Removed (Some former.Created)))
      ⊎ (new ≡ noted old (call.Remove key false) (reply.Removed (Some former.Task)))
  NotesRemoval key old (Some (Err error)) new = new ≡ noted old (call.Remove key false) (reply.Removed None)
