-- Equality of replies as the derive makes it is `same_reply`.
use denote.RattleType.{RattleType}
use mir.Syntax.{Dict}
use Rattle.std.specs.declared.cmp.PartialEq.{Ghosts}
use Rattle.std.proofs.Common.{◌≡◌, Option, Some, None, Result, Ok, Err, refl}
use Rattle.event_queue.specs.declared.key.Key.{Key}
use Rattle.event_queue.specs.declared.reply.ListenError.{ListenError}
use Rattle.event_queue.specs.declared.reply.ListenError.TheVariants.{Memory, SerialsUsedUp}
use Rattle.event_queue.specs.declared.reply.RegisterResult.{RegisterResult}
use Rattle.event_queue.specs.declared.reply.RegisterResult.TheVariants as register
use Rattle.event_listener.specs.declared.recorded.reply.RecordedReply.{RecordedReply}
use Rattle.event_listener.specs.declared.recorded.reply.RecordedReply.TheVariants as reply
use Rattle.event_listener.specs.declared.recorded.reply.Former.{Former}
use Rattle.event_listener.specs.declared.recorded.reply.Former.TheVariants as former
use Rattle.event_listener.specs.recording.Replay.{same_reply}
use Rattle.event_listener.specs.contracts.recorded.reply.RecordedReplyPartialEq.TheImpl.{ghosts}

module _ (row : RattleType) (bound : Ghosts row.Denot) (dict : Dict) where
  abbrev pub IsSame : RecordedReply row.Denot → RecordedReply row.Denot → Type 0
  IsSame a b = (ghosts row bound dict).eq a b ≡ same_reply bound.eq a b

  same_listening : (a b : Result Key ListenError) → IsSame (reply.Listened a) (reply.Listened b)
  same_listening (Ok key) (Ok other) = refl
  same_listening (Ok key) (Err error) = refl
  same_listening (Err Memory) (Ok key) = refl
  same_listening (Err SerialsUsedUp) (Ok key) = refl
  same_listening (Err Memory) (Err Memory) = refl
  same_listening (Err Memory) (Err SerialsUsedUp) = refl
  same_listening (Err SerialsUsedUp) (Err Memory) = refl
  same_listening (Err SerialsUsedUp) (Err SerialsUsedUp) = refl

  same_registration : (a b : RegisterResult row.Denot) → IsSame (reply.Registered a) (reply.Registered b)
  same_registration (register.Notified tag) (register.Notified other) = refl
  same_registration register.Registered register.Registered = refl
  same_registration register.NeverInserted register.NeverInserted = refl
  same_registration _ _ = refl

  same_former : (a b : Former row.Denot) → IsSame (reply.Removed (Some a)) (reply.Removed (Some b))
  same_former former.Created former.Created = refl
  same_former (former.Notified additional tag) (former.Notified additional' tag') = refl
  same_former former.Task former.Task = refl
  same_former (former.Passed to) (former.Passed to') = refl
  same_former (former.Lost additional tag) (former.Lost additional' tag') = refl
  same_former _ _ = refl

  same_removal : (a b : Option (Former row.Denot)) → IsSame (reply.Removed a) (reply.Removed b)
  same_removal None None = refl
  same_removal None (Some was) = refl
  same_removal (Some was) None = refl
  same_removal (Some was) (Some was') = same_former was was'

  pub derived_same : (a b : RecordedReply row.Denot) → IsSame a b
  derived_same (reply.Listened a) (reply.Listened b) = same_listening a b
  derived_same (reply.Registered a) (reply.Registered b) = same_registration a b
  derived_same (reply.Removed a) (reply.Removed b) = same_removal a b
  derived_same (reply.Notified told) (reply.Notified told') = refl
  derived_same (reply.TotalListeners total) (reply.TotalListeners total') = refl
  derived_same (reply.IsNotified told) (reply.IsNotified told') = refl
  derived_same _ _ = refl
