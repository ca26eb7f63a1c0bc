-- What the calls of one history sent and received.
use Rattle.std.specs.Prelude.{◌≡◌, ℕ, List, [], ◌∷◌, ◌++◌, Option, Some, Ok}
use Rattle.event_history.specs.History.{LeadsTo}
use Rattle.event_history.specs.declared.history.Entry.{Entry}
use Rattle.event_wait.specs.declared.request.Attempted.TheVariants.{Done}
use Rattle.event_channel.specs.declared.call.ChannelCall.{ChannelCall}
use Rattle.event_channel.specs.declared.call.ChannelCall.TheVariants as call
use Rattle.event_channel.specs.Calls.{channel_machine}
use Rattle.event_channel.specs.Messages.{State}

-- a history of a channel
abbrev pub ChannelLog : Type 0 → Type 0
ChannelLog T = List (Entry (ChannelCall T))

module _ {T W : Type 0} where
  -- before the last call of this history the state was one of which this is said
  abbrev pub WasBefore : Option ℕ → (State T W → Type 0) → ChannelLog T → Type 0
  WasBefore capacity is log =
      (earlier : ChannelLog T) × (last : Entry (ChannelCall T)) × (log ≡ earlier ++ last ∷ [])
      × (q : State T W) × LeadsTo (channel_machine capacity) earlier q × is q

module _ {T : Type 0} where
  -- the message that a call sent
  abbrev pub sent_by : ChannelCall T → List T
  sent_by (call.Send message (Ok sent)) = message ∷ []
  sent_by (call.ForceSend message (Ok out)) = message ∷ []
  sent_by (call.SendOrWait message key (Done (Ok sent))) = message ∷ []
  sent_by (call.SendOrLeave message key (Ok sent)) = message ∷ []
  sent_by _ = []

  -- the messages that a call received
  abbrev pub received_by : ChannelCall T → List T
  received_by (call.Receive (Ok message)) = message ∷ []
  received_by (call.ReceiveOrWait is_stream key (Done (Some message))) = message ∷ []
  received_by (call.ReceiveOrLeave is_stream key (Ok message)) = message ∷ []
  received_by (call.ReceiveMany messages key) = messages
  received_by _ = []

  -- the message that went out for a forced send into a full channel
  abbrev pub forced_out_by : ChannelCall T → List T
  forced_out_by (call.ForceSend message (Ok (Some first))) = first ∷ []
  forced_out_by _ = []

  -- the messages that went out by a call
  abbrev pub out_by : ChannelCall T → List T
  out_by c = forced_out_by c ++ received_by c

  -- those of all calls, in order
  abbrev pub all_of : (ChannelCall T → List T) → ChannelLog T → List T
  all_of by [] = []
  all_of by (e ∷ es) = by e.call ++ all_of by es
