-- What the channel world keeps in its type: each step of the tables keeps it, and what `ChannelSafety` says follows. No
-- public clause cites this module.
use Rattle.std.specs.Prelude.{◌≡◌, ℕ, ◌≤◌, Bool, true, false, length, slice_get, Option, Some, None, IfSome}
use Rattle.event_worlds.specs.declared.world.channel.ChannelClient.{ChannelClient}
use Rattle.event_worlds.specs.declared.world.channel.CloserPlace.{CloserPlace}
use Rattle.event_worlds.specs.Line.{Line}
use Rattle.event_worlds.specs.Channel.{Side, ChannelState, is_closed}
use Rattle.event_worlds.specs.ChannelSafety.{places_of, all_owed, room, senders_notified, receivers_notified, MessagesFit}
use Rattle.event_worlds.specs.Served.{is_inside, IsServed}

-- a client owes a notification while it is inside alone
pub record OwnFits (own : ChannelClient) : Type 0 where
  pub owed : is_inside own.place ≡ false → own.owed ≡ 0

-- how many of a side may count on taking one, if there are `now` of them: as many as there are while the channel is
-- open; none once it is closed; any number once the side was notified of that, for then nobody waits who is not
-- notified
abbrev pub MayTake : (notified closed : Bool) (now free : ℕ) → Type 0
MayTake true closed now free = 0 ≤ free
MayTake false true now free = free ≤ 0
MayTake false false now free = free ≤ now

abbrev pub SendersMayTake : CloserPlace → ℕ → ℕ → Type 0
SendersMayTake closer = MayTake (senders_notified closer) (is_closed closer)

abbrev pub ReceiversMayTake : CloserPlace → ℕ → ℕ → Type 0
ReceiversMayTake closer = MayTake (receivers_notified closer) (is_closed closer)

-- a side that is served however many of those that may be taken are counted, and to which `owed` notifications are
-- still to come
pub record IsSideSound (MayTake : ℕ → Type 0) (owed : ℕ) (side : Side) : Type 0 where
  pub served : (free : ℕ) → MayTake free → IsServed free owed (places_of side.clients) side.line
  pub owns : (client : ℕ) → IfSome (slice_get side.clients client) OwnFits
  pub flags : length side.line.awake ≡ length side.clients
  pub kind : side.line.additional ≡ true

pub record IsSound (state : ChannelState) : Type 0 where
  pub senders : IsSideSound (SendersMayTake state.closer (room state)) (all_owed state.receivers) state.senders
  pub receivers : IsSideSound (ReceiversMayTake state.closer (length state.messages)) (all_owed state.senders) state.receivers
  pub fits : MessagesFit state

-- the step of a client leaves this client and these lines; where it is none, the lines stay
abbrev pub Moves : Option (ChannelClient × Line × Line) → Line → Line → Option ChannelClient → Line → Line → Type 0
Moves step line other None new new_other = (step ≡ None) × (new ≡ line) × (new_other ≡ other)
Moves step line other (Some made) new new_other = step ≡ Some (made, new, new_other)
