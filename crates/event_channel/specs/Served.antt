-- How those are served that starve.
use Rattle.std.specs.Prelude.{◌≡◌, ℕ, ◌-◌, ◌<◌, ◌≤◌, ◌||◌, Bool, true, false, not, Option, is_some, Err, length}
use Rattle.event_queue.specs.declared.key.Key.{Key}
use Rattle.event_wait.specs.declared.request.Attempted.TheVariants.{Absent, Waits}
use Rattle.event_channel.specs.declared.call.ChannelCall.{ChannelCall}
use Rattle.event_channel.specs.declared.call.ChannelCall.TheVariants as call
use Rattle.event_channel.specs.Calls.{calls}
use Rattle.event_channel.specs.Messages.{State, room_in}
use Rattle.event_channel.specs.Turns.{is_told, refusals_for}
use Rattle.event_channel.specs.declared.error.SendReason.TheVariants.{Full}

module _ {T W : Type 0} where
  -- how many more receivers are notified than there are messages
  abbrev pub receivers_in_vain : State T W → ℕ
  receivers_in_vain s = length s.receivers.told - length s.messages

  -- a receiver starves, and the channel stays open
  abbrev pub OneStarves : State T W → State T W → Type 0
  OneStarves before after = (0 < length before.starving_receivers) × (after.is_closed ≡ false)

  -- while a receiver starves no call has more receivers notified above the messages
  abbrev pub NoMoreInVain : ChannelCall T → State T W → State T W → Type 0
  NoMoreInVain c before after =
      calls before c after → OneStarves before after → receivers_in_vain after ≤ receivers_in_vain before

  -- one that was notified and waits again has found nothing: then there were more notified than messages, and now are fewer
  abbrev pub LosesByThose : Option Key → Key → State T W → State T W → Type 0
  LosesByThose key waits before after =
      calls before (call.ReceiveOrWait false key (Waits waits)) after → is_told key before.receivers ≡ true
      → receivers_in_vain after < receivers_in_vain before

-- whether a call takes a place by force
abbrev pub is_by_force : {T : Type 0} → ChannelCall T → Bool
is_by_force (call.ForceSend message answer) = true
is_by_force _ = false

module _ {T W : Type 0} where
  -- how many more senders are notified than there are places free
  abbrev pub senders_in_vain : State T W → ℕ
  senders_in_vain s = length s.senders.told - room_in s

  -- a sender starves, and the channel stays open
  abbrev pub OneSenderStarves : State T W → State T W → Type 0
  OneSenderStarves before after = (0 < length before.starving_senders) × (after.is_closed ≡ false)

  -- while a sender starves no call but one by force has more senders notified above the free places
  abbrev pub NoMoreSendersInVain : ChannelCall T → State T W → State T W → Type 0
  NoMoreSendersInVain c before after =
      calls before c after → OneSenderStarves before after → length before.messages ≤ before.capacity → is_by_force c ≡ false
      → senders_in_vain after ≤ senders_in_vain before

  -- one that was notified and waits again has found no room: then there were more notified than places free, and now are fewer
  abbrev pub SenderLosesByThose : T → Option Key → Key → State T W → State T W → Type 0
  SenderLosesByThose message key waits before after =
      calls before (call.SendOrWait message key (Waits waits)) after → is_told key before.senders ≡ true
      → senders_in_vain after < senders_in_vain before

-- a receive is refused that a newcomer makes, at once, or to wait, or as a stream
abbrev pub is_refused : {T : Type 0} → ChannelCall T → Bool
is_refused (call.Receive (Err error)) = true
is_refused (call.ReceiveOrWait is_stream key Absent) = is_stream || not (is_some key)
is_refused _ = false

-- a receive waits on, or anew
abbrev pub is_wait : {T : Type 0} → ChannelCall T → Bool
is_wait (call.ReceiveOrWait false key (Waits waits)) = true
is_wait _ = false

-- a send of a newcomer is refused for want of room
abbrev pub is_send_refused : {T : Type 0} → ChannelCall T → Bool
is_send_refused (call.Send message (Err Full)) = true
is_send_refused (call.SendOrWait message key Absent) = not (is_some key)
is_send_refused _ = false

abbrev pub is_send_wait : {T : Type 0} → ChannelCall T → Bool
is_send_wait (call.SendOrWait message key (Waits waits)) = true
is_send_wait _ = false

module _ {T W : Type 0} where
  -- how many newcomers are refused at most for the sake of the receivers that starve
  abbrev pub refusals_left : State T W → ℕ
  refusals_left s = refusals_for s.starving_receivers

  -- each time that a newcomer is refused though a message is there, one fewer is from then on
  abbrev pub RefusesFewer : ChannelCall T → State T W → State T W → Type 0
  RefusesFewer c before after =
      calls before c after → is_refused c ≡ true → 0 < length before.messages → refusals_left after < refusals_left before

  -- no call has more refused but that of one that was notified, and waits anew
  abbrev pub RefusesNoMore : ChannelCall T → State T W → State T W → Type 0
  RefusesNoMore c before after = calls before c after → is_wait c ≡ false → refusals_left after ≤ refusals_left before

  -- the same of senders, and of room
  abbrev pub sends_refused : State T W → ℕ
  sends_refused s = refusals_for s.starving_senders

  abbrev pub RefusesFewerSends : ChannelCall T → State T W → State T W → Type 0
  RefusesFewerSends c before after =
      calls before c after → is_send_refused c ≡ true → 0 < room_in before → sends_refused after < sends_refused before

  abbrev pub RefusesNoMoreSends : ChannelCall T → State T W → State T W → Type 0
  RefusesNoMoreSends c before after = calls before c after → is_send_wait c ≡ false → sends_refused after ≤ sends_refused before
