-- What the calls of a hand were that waited.
use Rattle.std.specs.Prelude.{◌≡◌, ◌⊎◌, ℕ, false, List, [], ◌∷◌, Option, Some, None, Result, Ok, Err}
use Rattle.event_queue.specs.declared.key.Key.{Key}
use Rattle.event_queue.specs.declared.reply.ListenError.{ListenError}
use Rattle.event_wait.specs.declared.request.Attempted.TheVariants as attempted
use Rattle.event_wait.specs.Rounds.{SomeRounds}
use Rattle.event_history.specs.declared.history.View.{View}
use Rattle.event_history.specs.History.{Machine, Makes}
use Rattle.event_history.specs.Waiting.{IsUndone}
use Rattle.event_channel.specs.declared.call.ChannelCall.{ChannelCall}
use Rattle.event_channel.specs.declared.call.ChannelCall.TheVariants as call
use Rattle.event_channel.specs.declared.error.RecvError.{RecvError}
use Rattle.event_channel.specs.declared.error.RecvError.TheVariants as received
use Rattle.event_channel.specs.declared.error.SendError.{SendError}
use Rattle.event_channel.specs.declared.error.SendReason.{SendReason}
use Rattle.event_channel.specs.declared.error.SendReason.TheVariants.{Closed, Full, TimedOut, Memory, WaitFailed}
use Rattle.event_channel.specs.declared.error.TryRecvError.TheVariants.{Empty}
use Rattle.event_channel.specs.Calls.{received_at_once, channel_machine}
use Rattle.event_channel.specs.Messages.{State}
use Rattle.event_channel.specs.Waits.{Received, Sent}

module _ {T : Type 0} where
  -- an attempt to send this message found the channel full
  abbrev pub IsVainSend : T → ChannelCall T → Type 0
  IsVainSend message c =
      (c ≡ call.Send message (Err Full)) ⊎ ((key : Option Key) × (answer : Sent) × IsUndone answer × (c ≡ call.SendOrWait message key answer))

  -- an attempt to send this message had this reply
  abbrev pub IsSend : T → Result (Unit {0}) SendReason → ChannelCall T → Type 0
  IsSend message reply c = (c ≡ call.Send message reply) ⊎ ((key : Option Key) × (c ≡ call.SendOrWait message key (attempted.Done reply)))

  -- one that was to send this message could not wait, or left the queue
  abbrev pub IsSendGivenUp : T → ChannelCall T → Type 0
  IsSendGivenUp message c =
      ((key : Option Key) × (error : ListenError) × (c ≡ call.SendOrWait message key (attempted.Refused error))) ⊎ ((key : Option Key) × (c ≡ call.LeaveSenders key))

  -- an attempt to receive found the channel empty
  abbrev pub IsVainReceive : ChannelCall T → Type 0
  IsVainReceive c =
      (c ≡ call.Receive (Err Empty)) ⊎ ((key : Option Key) × (answer : Received T) × IsUndone answer × (c ≡ call.ReceiveOrWait false key answer))

  -- an attempt to receive gave this message, or the end
  abbrev pub IsReceive : Option T → ChannelCall T → Type 0
  IsReceive output c =
      (c ≡ call.Receive (received_at_once (Some output))) ⊎ ((key : Option Key) × (c ≡ call.ReceiveOrWait false key (attempted.Done output)))

  -- one that was to receive could not wait, or left the queue
  abbrev pub IsReceiveGivenUp : ChannelCall T → Type 0
  IsReceiveGivenUp c =
      ((key : Option Key) × (error : ListenError) × (c ≡ call.ReceiveOrWait false key (attempted.Refused error))) ⊎ ((key : Option Key) × (c ≡ call.LeaveReceivers false key))

-- of what a hand knows, before and after
module _ {S C : Type 0} (machine : Machine S C) where
  -- it made some calls, one after another, and this is said of each
  abbrev pub MakesSome : View S C → (C → Type 0) → View S C → Type 0
  MakesSome v is w = SomeRounds (λ (v w : View S C). Makes machine v is w) v w

  -- it made some calls of which the one is said, and then one of which the other is
  abbrev pub MakesAtLast : View S C → (C → Type 0) → (C → Type 0) → View S C → Type 0
  MakesAtLast v vain last w = (u : View S C) × MakesSome v vain u × Makes machine u last w

  -- how a wait ends that has no limit: attempts in vain, and then one that got this; or it could not wait
  abbrev pub WaitsFor : {G E : Type 0} → (C → Type 0) → (G → C → Type 0) → (C → Type 0) → View S C → Result (Option G) E → View S C → Type 0
  WaitsFor vain gets over v (Ok (Some output)) w = MakesAtLast v vain (gets output) w
  WaitsFor vain gets over v (Ok None) w = ⊥
  WaitsFor vain gets over v (Err error) w = MakesSome v (λ c. vain c ⊎ over c) w

-- of a channel of this capacity
module _ {T W : Type 0} (capacity : Option ℕ) where
  abbrev pub SendsWaiting : {E : Type 0} → T → View (State T W) (ChannelCall T) → Result (Option (Result (Unit {0}) SendReason)) E → View (State T W) (ChannelCall T) → Type 0
  SendsWaiting message = WaitsFor (channel_machine capacity) (IsVainSend message) (IsSend message) (IsSendGivenUp message)

  abbrev pub ReceivesWaiting : {E : Type 0} → View (State T W) (ChannelCall T) → Result (Option (Option T)) E → View (State T W) (ChannelCall T) → Type 0
  ReceivesWaiting = WaitsFor (channel_machine capacity) IsVainReceive IsReceive IsReceiveGivenUp

  -- a message was not sent for this reason
  abbrev pub EndsUnsent : T → View (State T W) (ChannelCall T) → SendReason → View (State T W) (ChannelCall T) → Type 0
  EndsUnsent message v Closed w = MakesAtLast (channel_machine capacity) v (IsVainSend message) (IsSend message (Err Closed)) w
  EndsUnsent message v Full w = ⊥
  EndsUnsent message v TimedOut w = ⊥
  EndsUnsent message v Memory w = MakesAtLast (channel_machine capacity) v (IsVainSend message) (IsSend message (Err Memory)) w
  EndsUnsent message v (WaitFailed error) w = MakesSome (channel_machine capacity) v (λ c. IsVainSend message c ⊎ IsSendGivenUp message c) w

  -- The hand attempted to send this message until an attempt had this reply, which is its last call; or it could not wait.
  abbrev pub SendsBlocking : T → View (State T W) (ChannelCall T) → Result (Unit {0}) (SendError T) → View (State T W) (ChannelCall T) → Type 0
  SendsBlocking message v (Ok sent) w = MakesAtLast (channel_machine capacity) v (IsVainSend message) (IsSend message (Ok sent)) w
  SendsBlocking message v (Err error) w = EndsUnsent message v error.reason w

  -- The same of one that receives.
  abbrev pub ReceivesBlocking : View (State T W) (ChannelCall T) → Result T RecvError → View (State T W) (ChannelCall T) → Type 0
  ReceivesBlocking v (Ok message) w = MakesAtLast (channel_machine capacity) v IsVainReceive (IsReceive (Some message)) w
  ReceivesBlocking v (Err received.Closed) w = MakesAtLast (channel_machine capacity) v IsVainReceive (IsReceive None) w
  ReceivesBlocking v (Err (received.WaitFailed error)) w = MakesSome (channel_machine capacity) v (λ c. IsVainReceive c ⊎ IsReceiveGivenUp c) w

-- what a wait without a limit received
abbrev pub Says : {T E : Type 0} → Result (Option (Option T)) E → Result T RecvError → Type 0
Says waited (Ok message) = waited ≡ Ok (Some (Some message))
Says waited (Err received.Closed) = waited ≡ Ok (Some None)
Says {E = E} waited (Err (received.WaitFailed error)) = (refused : E) × (waited ≡ Err refused)

-- one hand rests there, and its lock has the name that is wanted
abbrev pub IsOneHand : {A V : Type 0} → A → A → List V → Type 0
IsOneHand {V = V} wanted table views = (table ≡ wanted) × (v : V) × (views ≡ v ∷ [])
