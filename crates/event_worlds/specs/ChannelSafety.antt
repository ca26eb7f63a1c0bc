-- What holds of the channel world after every schedule.
use Rattle.std.specs.Prelude.{◌≡◌, ℕ, ◌-◌, ◌≤◌, Bool, true, false, List, ◌++◌, map, length, sum_by, IsTrue, IsFalse}
use Rattle.event_worlds.specs.declared.world.channel.ChannelClient.{ChannelClient}
use Rattle.event_worlds.specs.declared.world.channel.CloserPlace.{CloserPlace}
use Rattle.event_worlds.specs.declared.world.channel.CloserPlace.TheVariants.{ToNotifyReceivers, Done}
use Rattle.event_worlds.specs.declared.world.place.Place.{Place}
use Rattle.event_worlds.specs.Clients.{SomeUntoldWaits, EnoughAreOnTheirWay, ToldRun, AreListening}
use Rattle.event_worlds.specs.Channel.{Side, ChannelState, is_closed, sent, received}

abbrev pub place_of : ChannelClient → Place
place_of own = own.place

abbrev pub places_of : List ChannelClient → List Place
places_of clients = map place_of clients

-- how many notifications of the other side the clients of a side owe
abbrev pub all_owed : Side → ℕ
all_owed side = sum_by (λ own. own.owed) side.clients

-- how many messages may still be sent
abbrev pub room : ChannelState → ℕ
room state = state.capacity - length state.messages

-- all senders, and all receivers, were notified that the channel is closed

abbrev pub senders_notified : CloserPlace → Bool
senders_notified ToNotifyReceivers = true
senders_notified Done = true
senders_notified _ = false

abbrev pub receivers_notified : CloserPlace → Bool
receivers_notified Done = true
receivers_notified _ = false

-- if some client of a side that is not notified is at `ToRegister` or `Parked`, `free` is at most the length of `told`,
-- plus the clients at `First { woken: true }`, plus the notifications that the other side owes
abbrev pub SideIsServed : ℕ → ℕ → Side → Type 0
SideIsServed free owed side = EnoughAreOnTheirWay (places_of side.clients) side.line free owed

-- some client of a side that is not notified is at `ToRegister` or `Parked`
abbrev pub SomeOfSideWaits : Side → Type 0
SomeOfSideWaits side = SomeUntoldWaits (places_of side.clients) side.line

-- while the channel is open, receivers wait for no message that nobody is about to take, and senders for no such room;
-- once a side was notified that it is closed, nobody of it waits who is not notified; and each notified client runs, or
-- has its wake-up
pub record IsSafe (state : ChannelState) : Type 0 where
  pub receivers : IsFalse (is_closed state.closer) → SideIsServed (length state.messages) (all_owed state.senders) state.receivers
  pub senders : IsFalse (is_closed state.closer) → SideIsServed (room state) (all_owed state.receivers) state.senders
  pub closed_receivers : IsTrue (receivers_notified state.closer) → ¬ SomeOfSideWaits state.receivers
  pub closed_senders : IsTrue (senders_notified state.closer) → ¬ SomeOfSideWaits state.senders
  pub told_receivers : ToldRun (places_of state.receivers.clients) state.receivers.line
  pub told_senders : ToldRun (places_of state.senders.clients) state.senders.line

-- no more messages are in the channel than may be
abbrev pub MessagesFit : ChannelState → Type 0
MessagesFit state = length state.messages ≤ state.capacity

-- every notification is additional
abbrev pub NotifiesAdditional : ChannelState → Type 0
NotifiesAdditional state = (state.senders.line.additional ≡ true) × (state.receivers.line.additional ≡ true)

-- the clients of a side that are notified or wait are exactly those at listening places
abbrev pub InLineAreListening : ChannelState → Type 0
InLineAreListening state =
    AreListening (places_of state.senders.clients) state.senders.line
    × AreListening (places_of state.receivers.clients) state.receivers.line

-- what was received and what is left then are what was there before and what was sent, in that order
abbrev pub InOrder : List ℕ → List ℕ → ChannelState → ChannelState → Type 0
InOrder received sent old new = received ++ new.messages ≡ old.messages ++ sent
