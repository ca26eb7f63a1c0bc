-- Which calls of a channel's history an attempt is, leaving at the limit of a wait, and giving up, by their answers.
use Rattle.std.specs.Prelude.{◌≡◌, ◌⊎◌, ℕ, Bool, false, List, length, Option, Some, None, Result, Ok, Err}
use Rattle.event_queue.specs.declared.key.Key.{Key}
use Rattle.event_queue.specs.declared.reply.ListenError.{ListenError}
use Rattle.event_queue.specs.declared.reply.ListenError.TheVariants.{Memory}
use Rattle.event_wait.specs.declared.request.Attempted.{Attempted}
use Rattle.event_wait.specs.declared.request.Attempted.TheVariants.{Done, Waits, Absent, Refused}
use Rattle.event_channel.specs.declared.call.ChannelCall.{ChannelCall}
use Rattle.event_channel.specs.declared.call.ChannelCall.TheVariants as call
use Rattle.event_channel.specs.declared.error.SendReason.{SendReason}
use Rattle.event_channel.specs.declared.error.TryRecvError.TheVariants.{Empty, Closed}
use Rattle.event_channel.specs.Calls.{sent_at_once, received_at_once}
use Rattle.event_channel.specs.Many.{Many}
use Rattle.event_channel.specs.Waits.{Sent, Received}

module _ {T : Type 0} where
  -- of one that is to send this message; one whose message is sent is absent, and leaves the queue
  abbrev pub TriesToSend : Option T → Option (Result (Unit {0}) SendReason) → ChannelCall T → Type 0
  TriesToSend (Some message) answer c = c ≡ call.Send message (sent_at_once answer)
  TriesToSend None answer c = (answer ≡ None) × (c ≡ call.LeaveSenders None)

  abbrev pub SendsOrWaits : Option T → Sent → ChannelCall T → Type 0
  SendsOrWaits (Some message) answer c = (key : Option Key) × (c ≡ call.SendOrWait message key answer)
  SendsOrWaits None answer c = (answer ≡ Absent) × (key : Option Key) × (c ≡ call.LeaveSenders key)

  abbrev pub SendsOrLeaves : Option T → Option (Result (Unit {0}) SendReason) → ChannelCall T → Type 0
  SendsOrLeaves (Some message) answer c = (key : Option Key) × (c ≡ call.SendOrLeave message key (sent_at_once answer))
  SendsOrLeaves None answer c = (answer ≡ None) × (key : Option Key) × (c ≡ call.LeaveSenders key)

  abbrev pub GivesUpSending : Option T → ChannelCall T → Type 0
  GivesUpSending message c = (key : Option Key) × (c ≡ call.LeaveSenders key)

  -- of one that is to receive a message, as a stream or not
  abbrev pub TriesToReceive : Bool → Option (Option T) → ChannelCall T → Type 0
  TriesToReceive is_stream answer c = c ≡ call.Receive (received_at_once answer)

  abbrev pub ReceivesOrWaits : Bool → Received T → ChannelCall T → Type 0
  ReceivesOrWaits is_stream answer c = (key : Option Key) × (c ≡ call.ReceiveOrWait is_stream key answer)

  abbrev pub ReceivesOrLeaves : Bool → Option (Option T) → ChannelCall T → Type 0
  ReceivesOrLeaves is_stream answer c = (key : Option Key) × (c ≡ call.ReceiveOrLeave is_stream key (received_at_once answer))

  abbrev pub GivesUpReceiving : Bool → ChannelCall T → Type 0
  GivesUpReceiving is_stream c = (key : Option Key) × (c ≡ call.LeaveReceivers is_stream key)

  -- of one that is to receive many, and leaves the queue if it is there by this key: it got so many messages, or the end, or
  -- nothing; where it has no room for any, it leaves and looks at none
  abbrev pub ReceivesMany : Option Key → Option (Option ℕ) → ChannelCall T → Type 0
  ReceivesMany key None c = (c ≡ call.ReceiveOrLeave false key (Err Empty)) ⊎ (c ≡ call.LeaveReceivers false key)
  ReceivesMany key (Some None) c = c ≡ call.ReceiveOrLeave false key (Err Closed)
  ReceivesMany key (Some (Some count)) c = (messages : List T) × (length messages ≡ count) × (c ≡ call.ReceiveMany messages key)

  abbrev pub TriesToReceiveMany : Many T → Option (Option ℕ) → ChannelCall T → Type 0
  TriesToReceiveMany many answer c = ReceivesMany None answer c

  abbrev pub ReceivesManyOrWaits : Many T → Attempted (Option ℕ) ListenError → ChannelCall T → Type 0
  ReceivesManyOrWaits many (Done output) c = (key : Option Key) × ReceivesMany key (Some output) c
  ReceivesManyOrWaits many (Waits waits) c = (key : Option Key) × (c ≡ call.ReceiveOrWait false key (Waits waits))
  ReceivesManyOrWaits many Absent c = (key : Option Key) × (c ≡ call.ReceiveOrWait false key Absent)
  ReceivesManyOrWaits many (Refused error) c =
      (key : Option Key) × (((error ≡ Memory) × (c ≡ call.LeaveReceivers false key)) ⊎ (c ≡ call.ReceiveOrWait false key (Refused error)))

  abbrev pub ReceivesManyOrLeaves : Many T → Option (Option ℕ) → ChannelCall T → Type 0
  ReceivesManyOrLeaves many answer c = (key : Option Key) × ReceivesMany key answer c

  abbrev pub GivesUpReceivingMany : Many T → ChannelCall T → Type 0
  GivesUpReceivingMany many c = (key : Option Key) × (c ≡ call.LeaveReceivers false key)

-- leaving is not refused
abbrev pub NotRefused : {Q O E C : Type 0} → (Q → O → C → Type 0) → Q → Result O E → C → Type 0
NotRefused leaves before (Ok answer) c = leaves before answer c
NotRefused leaves before (Err error) c = ⊥
