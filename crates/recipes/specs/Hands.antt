-- What a hand of a channel has seen of a message, and did.
use Rattle.std.specs.Prelude.{ℕ, Option, Result}
use Rattle.event_history.specs.Hands.{known_by}
use Rattle.event_history.specs.History.{Extends, IsAmong}
use Rattle.event_history.specs.declared.hand.Hand.{Hand}
use Rattle.event_channel.specs.Calls.{answer_of, channel_machine}
use Rattle.event_channel.specs.Messages.{AreDue, State}
use Rattle.event_channel.specs.Sent.{WasBefore, all_of, out_by, sent_by}
use Rattle.event_channel.specs.declared.call.ChannelCall.{ChannelCall}
use Rattle.event_channel.specs.declared.call.ChannelCall.TheVariants as call
use Rattle.event_channel.specs.declared.error.SendError.{SendError}

module _ {T W : Type 0} where
  -- a call that sent it
  abbrev pub SawSent : Hand (State T W) (ChannelCall T) → T → Type 0
  SawSent hand message = IsAmong message (all_of sent_by (known_by hand).seen)

  -- a call by which it went out
  abbrev pub SawOut : Hand (State T W) (ChannelCall T) → T → Type 0
  SawOut hand message = IsAmong message (all_of out_by (known_by hand).seen)

  -- before the last call that it has seen each message was due to a receiver that was notified, while one starves
  abbrev pub SawAllDue : Option ℕ → Hand (State T W) (ChannelCall T) → Type 0
  SawAllDue capacity hand = WasBefore capacity (λ (q : State T W). AreDue q) (known_by hand).seen

  -- one call, of a channel of this capacity: a send of this message, with this answer
  abbrev pub Sends : Option ℕ → T → Hand (State T W) (ChannelCall T) → Result (Unit {0}) (SendError T) → Hand (State T W) (ChannelCall T) → Type 0
  Sends capacity message before answer after =
      Extends (channel_machine capacity) (known_by before) (call.Send message (answer_of answer)) (known_by after)
