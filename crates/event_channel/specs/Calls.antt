-- What each call does to the state under a channel's lock.
use Rattle.std.specs.Prelude.{◌≡◌, ◌↔◌, ℕ, ◌<◌, ◌≤◌, Bool, true, false, IsTrue, List, [], ◌∷◌, length, Option, Some, None, Result, Ok, Err}
use Rattle.event_queue.specs.declared.key.Key.{Key}
use Rattle.event_wait.specs.Line.{LeavesThenTells}
use Rattle.event_history.specs.History.{Machine}
use Rattle.event_channel.specs.declared.call.ChannelCall.{ChannelCall}
use Rattle.event_channel.specs.declared.call.ChannelCall.TheVariants as call
use Rattle.event_channel.specs.declared.error.SendError.{SendError}
use Rattle.event_channel.specs.declared.error.SendReason.{SendReason}
use Rattle.event_channel.specs.declared.error.SendReason.TheVariants.{Full}
use Rattle.event_channel.specs.declared.error.TryRecvError.{TryRecvError}
use Rattle.event_channel.specs.declared.error.TryRecvError.TheVariants.{Empty, Closed}
use Rattle.event_channel.specs.Messages.{State, IsFull, due_to_no_other, for_one, limit_of, new_state, room_for_one}
use Rattle.event_channel.specs.Forbearing.{ForbearsFor, RefusedFor}
use Rattle.event_channel.specs.Steps.{Pushes, Refuses, RefusesAt, Forces, Takes, FindsNone, Closes, KeepsAllButSenders, KeepsAllButReceivers, KeepsAllButStreams}
use Rattle.event_channel.specs.Waits.{ReceiverLeaves, Receives, ReceivesInTurn, Received, SenderLeaves, SendsInTurn}

-- why a message was not sent, without the message
abbrev pub answer_of : {T G : Type 0} → Result G (SendError T) → Result G SendReason
answer_of (Ok sent) = Ok sent
answer_of (Err error) = Err error.reason

-- one that was to send and not to wait got nothing because the channel was full
abbrev pub sent_at_once : Option (Result (Unit {0}) SendReason) → Result (Unit {0}) SendReason
sent_at_once None = Err Full
sent_at_once (Some reply) = reply

-- one that was to receive and not to wait got nothing because the channel was empty
abbrev pub received_at_once : {T : Type 0} → Option (Option T) → Result T TryRecvError
received_at_once None = Err Empty
received_at_once (Some None) = Err Closed
received_at_once (Some (Some message)) = Ok message

-- one that waits stored any task
abbrev pub with_any_task : {W : Type 0} → Unit {0} → Option W → W → Unit {0} → Type 0
with_any_task on stored task on' = Unit {0}

-- the key of a receiver that is no stream
abbrev pub receiver_key : Bool → Option Key → Option Key
receiver_key false key = key
receiver_key true key = None

-- no call comes after others of its hand
abbrev pub rests_on_none : {T : Type 0} → ChannelCall T → List (ChannelCall T)
rests_on_none = λ _. []

module _ {T W : Type 0} where
  -- an open channel without messages, at which nobody is, of the capacity that was asked for
  abbrev pub is_new : Option ℕ → State T W → Type 0
  is_new capacity s = s ≡ new_state (limit_of capacity)

  -- the message of this one, which may have a place in the queue, was put behind all others, and there was room for it; or it
  -- was refused, for the sake of those that starve or else with nothing changed
  abbrev pub SendsOne : Option Key → T → Result (Unit {0}) SendReason → State T W → State T W → Type 0
  SendsOne key message (Ok sent) before after = Pushes message before after × (0 < room_for_one key before)
  SendsOne key message (Err reason) before after = RefusesAt (room_for_one key before) before reason × RefusedFor reason key before after

  -- the message was put behind all others, and if the channel was full the first of all went out; or it was refused
  abbrev pub ForcesOne : T → Result (Option T) SendReason → State T W → State T W → Type 0
  ForcesOne message (Ok out) before after = Forces message out before after
  ForcesOne message (Err reason) before after = Refuses before reason × (after ≡ before)

  -- the message was in front of all others, and there for this one, which may have a place in the queue; or there was none for
  -- it: none at all, and nothing changed, or it was refused for the sake of those that starve
  abbrev pub ReceivesOne : Option Key → Result T TryRecvError → State T W → State T W → Type 0
  ReceivesOne key (Ok message) before after = Takes (message ∷ []) before after × (0 < for_one key before)
  ReceivesOne key (Err error) before after = FindsNone (for_one key before) before error × ForbearsFor key before after

  -- these messages were in front of all others: the first was there for this one, which may have a place in the queue, and the
  -- rest were due to no other. Senders are notified of the first, and then of the rest.
  abbrev pub ReceivesSome : List T → Option Key → State T W → State T W → Type 0
  ReceivesSome [] key before after = ⊥
  ReceivesSome (message ∷ messages) key before after =
      (between : State T W) × Takes (message ∷ []) before between × Takes messages between after
      × (0 < for_one key before) × (length messages ≤ due_to_no_other key between)

  -- this one, which is to receive many, took so many; or none will come
  abbrev pub TakesMany : Option Key → Option ℕ → State T W → State T W → Type 0
  TakesMany key (Some count) before after = (messages : List T) × (length messages ≡ count) × ReceivesSome messages key before after
  TakesMany key None before after = (before.messages ≡ []) × (before.is_closed ≡ true) × (after ≡ before)

  -- this one, if it is one, left the queue of the senders, and another is notified in its place if one is due
  abbrev pub LeavesSenders : Option Key → State T W → State T W → Type 0
  LeavesSenders key before after = KeepsAllButSenders before after × SenderLeaves key before after

  -- the same of the queue of the receivers, or of the streams
  abbrev pub LeavesReceivers : Bool → Option Key → State T W → State T W → Type 0
  LeavesReceivers false key before after = KeepsAllButReceivers before after × ReceiverLeaves key before after
  LeavesReceivers true key before after =
      KeepsAllButStreams before after × LeavesThenTells key (length after.messages) before.streams after.streams

  -- one that receives or waits, in the queue of the receivers or of the streams
  abbrev pub ReceivesOrWaits : Bool → Option Key → Received T → State T W → State T W → Type 0
  ReceivesOrWaits false key answer before after =
      (losses losses' : ℕ) × ReceivesInTurn with_any_task key before losses tt answer after losses' tt
  ReceivesOrWaits true key answer before after =
      Receives with_any_task key before before.streams tt answer (record after { streams = before.streams }) after.streams tt

  -- an open channel was closed, or it was closed already
  abbrev pub ClosesOnce : Bool → State T W → State T W → Type 0
  ClosesOnce true before after = Closes before after
  ClosesOnce false before after = (before.is_closed ≡ true) × (after ≡ before)

  abbrev pub calls : State T W → ChannelCall T → State T W → Type 0
  calls before (call.Send message reply) after = SendsOne None message reply before after
  calls before (call.ForceSend message reply) after = ForcesOne message reply before after
  calls before (call.SendOrWait message key answer) after =
      (losses losses' : ℕ) × SendsInTurn with_any_task (Some message) key before losses tt answer after losses' tt
  calls before (call.SendOrLeave message key reply) after =
      (between : State T W) × SendsOne key message reply before between × LeavesSenders key between after
  calls before (call.LeaveSenders key) after = LeavesSenders key before after
  calls before (call.Receive reply) after = ReceivesOne None reply before after
  calls before (call.ReceiveOrWait is_stream key answer) after = ReceivesOrWaits is_stream key answer before after
  calls before (call.ReceiveOrLeave is_stream key reply) after =
      (between : State T W) × ReceivesOne (receiver_key is_stream key) reply before between × LeavesReceivers is_stream key between after
  calls before (call.ReceiveMany messages key) after =
      (between : State T W) × ReceivesSome messages key before between × LeavesReceivers false key between after
  calls before (call.LeaveReceivers is_stream key) after = LeavesReceivers is_stream key before after
  calls before (call.Close closed) after = ClosesOnce closed before after
  calls before (call.IsClosed answer) after = (answer ≡ before.is_closed) × (after ≡ before)
  calls before (call.IsFull answer) after = (IsTrue answer ↔ IsFull before) × (after ≡ before)
  calls before (call.Len count) after = (count ≡ length before.messages) × (after ≡ before)

  -- what calls may do to a channel of this capacity
  abbrev pub channel_machine : Option ℕ → Machine (State T W) (ChannelCall T)
  channel_machine capacity = record { starts = is_new capacity; goes = calls; rests = rests_on_none }
