-- What the channel world keeps implies that it is safe.
use Rattle.std.proofs.Common.{ℕ, ◌+◌, Bool, true, false, length, IsTrue, IsFalse, arith}
use Rattle.event_worlds.specs.declared.world.channel.CloserPlace.{CloserPlace}
use Rattle.event_worlds.specs.Clients.{clients_woken}
use Rattle.event_worlds.specs.Channel.{Side, ChannelState, is_closed}
use Rattle.event_worlds.specs.ChannelSafety.{places_of, all_owed, room, SomeOfSideWaits, senders_notified, receivers_notified, IsSafe, InLineAreListening}
use Rattle.event_worlds.specs.ChannelInvariant.{MayTake, SendersMayTake, ReceiversMayTake, IsSideSound, IsSound}
use Rattle.event_worlds.proofs.ServedLemmas.{enough_are, told_run, are_listening}

-- how many may be taken, by how far the closing is

none_may : (notified closed : Bool) (now : ℕ) → MayTake notified closed now 0
none_may true closed now = omega arith
none_may false true now = omega arith
none_may false false now = omega arith

all_may : (notified closed : Bool) (now : ℕ) → IsFalse closed → MayTake notified closed now now
all_may true closed now not_closed = omega arith
all_may false true now not_closed = absurd (cc)
all_may false false now not_closed = omega arith

any_may : (notified closed : Bool) (now : ℕ) → IsTrue notified → (free : ℕ) → MayTake notified closed now free
any_may true closed now were free = omega arith
any_may false closed now were free = absurd (cc)

pub senders-none : (closer : CloserPlace) (now : ℕ) → SendersMayTake closer now 0
senders-none closer now = none_may (senders_notified closer) (is_closed closer) now

pub receivers-none : (closer : CloserPlace) (now : ℕ) → ReceiversMayTake closer now 0
receivers-none closer now = none_may (receivers_notified closer) (is_closed closer) now

-- where any number may be taken, nobody waits who is not notified
nobody_waits : (MayTake : ℕ → Type 0) (owed : ℕ) (side : Side) → IsSideSound MayTake owed side → ((free : ℕ) → MayTake free) → SomeOfSideWaits side → ⊥
nobody_waits MayTake owed side sound any some =
    let more = length side.line.told + clients_woken (places_of side.clients) + owed + 1 in
    let few = enough_are more owed (places_of side.clients) side.line (sound.served more (any more)) some in
    omega arith

module _ (state : ChannelState) (sound : IsSound state) where
  abbrev SendersMay : ℕ → Type 0
  SendersMay = SendersMayTake state.closer (room state)

  abbrev ReceiversMay : ℕ → Type 0
  ReceiversMay = ReceiversMayTake state.closer (length state.messages)

  pub safe : IsSafe state
  safe = record {
    receivers =
        λ not_closed.
        enough_are _ _ _ _ (sound.receivers.served (length state.messages) (all_may (receivers_notified state.closer) (is_closed state.closer) (length state.messages) not_closed));
    senders =
        λ not_closed.
        enough_are _ _ _ _ (sound.senders.served (room state) (all_may (senders_notified state.closer) (is_closed state.closer) (room state) not_closed));
    closed_receivers =
        λ were.
        nobody_waits ReceiversMay (all_owed state.senders) state.receivers sound.receivers (any_may (receivers_notified state.closer) (is_closed state.closer) (length state.messages) were);
    closed_senders =
        λ were.
        nobody_waits SendersMay (all_owed state.receivers) state.senders sound.senders (any_may (senders_notified state.closer) (is_closed state.closer) (room state) were);
    told_receivers = told_run _ _ _ _ (sound.receivers.served 0 (receivers-none state.closer (length state.messages)));
    told_senders = told_run _ _ _ _ (sound.senders.served 0 (senders-none state.closer (room state)));
  }

  pub in_line_are_listening : InLineAreListening state
  in_line_are_listening = (
    are_listening _ _ _ _ (sound.senders.served 0 (senders-none state.closer (room state))),
    are_listening _ _ _ _ (sound.receivers.served 0 (receivers-none state.closer (length state.messages))),
  )
