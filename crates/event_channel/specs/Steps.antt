-- What each call does to the messages.
use Rattle.std.specs.Prelude.{◌≡◌, ℕ, ◌<◌, ◌++◌, List, [], ◌∷◌, Option, Some, None, true, false, length}
use Rattle.event_wait.specs.Line.{TellsUpTo, TellsAll, or_more, woken_up_to, woken_at_once}
use Rattle.event_channel.specs.Messages.{State, IsFull, IsBounded, for_newcomers, room_for_newcomers, room_in}
use Rattle.event_channel.specs.declared.error.SendReason.{SendReason}
use Rattle.event_channel.specs.declared.error.SendReason.TheVariants.{Closed, Full, TimedOut, Memory, WaitFailed}
use Rattle.event_channel.specs.declared.error.TryRecvError.{TryRecvError}
use Rattle.event_channel.specs.declared.error.TryRecvError.TheVariants.{Empty, Closed as WasClosed}

module _ {T W : Type 0} where
  -- how many receivers a push has notified: one for each message, and one more than were
  abbrev pub receivers_due : State T W → State T W → ℕ
  receivers_due before after = or_more (length after.messages) 1 before.receivers

  -- how many senders a call has notified that took so many messages: one for each free place, and as many more than were
  abbrev pub senders_due : ℕ → State T W → State T W → ℕ
  senders_due taken before after = or_more (room_in after) taken before.senders

  -- the message is put behind all others of an open channel that is not full; receivers are notified, and all streams are
  pub record Pushes (message : T) (before after : State T W) : Type 0 where
    pub is_open : before.is_closed ≡ false
    pub has_room : length before.messages < before.capacity
    pub rest : after ≡ record before { messages = before.messages ++ (message ∷ []); receivers = after.receivers; streams = after.streams }
    pub receivers : TellsUpTo (receivers_due before after) before.receivers after.receivers
    pub streams : TellsAll before.streams after.streams

  -- a channel refuses the message of one for whom there is so much room if it is closed, or open and that is none, or, without a
  -- limit, out of memory
  abbrev pub RefusesAt : ℕ → State T W → SendReason → Type 0
  RefusesAt room before Closed = before.is_closed ≡ true
  RefusesAt room before Full = (before.is_closed ≡ false) × (room ≡ 0)
  RefusesAt room before TimedOut = ⊥
  RefusesAt room before Memory = (before.is_closed ≡ false) × ¬ IsBounded before
  RefusesAt room before (WaitFailed error) = ⊥

  -- it refuses the message of a newcomer
  abbrev pub Refuses : State T W → SendReason → Type 0
  Refuses before reason = RefusesAt (room_for_newcomers before) before reason

  -- the message is put behind all others of a full channel, and the first of all goes out; nobody need be notified
  pub record Replaces (message first : T) (before after : State T W) : Type 0 where
    pub is_open : before.is_closed ≡ false
    pub is_full : IsFull before
    pub moves : before.messages ++ (message ∷ []) ≡ first ∷ after.messages
    pub rest : after ≡ record before { messages = after.messages }

  -- the message is put behind all others, and just where the channel is full the first of all goes out
  abbrev pub Forces : T → Option T → State T W → State T W → Type 0
  Forces message None before after = Pushes message before after
  Forces message (Some first) before after = Replaces message first before after

  -- the tasks that a push wakes: of receivers, then of all streams
  abbrev pub woken_by_pushing : State T W → State T W → List W
  woken_by_pushing before after =
      woken_up_to (receivers_due before after) before.receivers ++ woken_at_once before.streams

  abbrev pub woken_by_forcing : Option T → State T W → State T W → List W
  woken_by_forcing None before after = woken_by_pushing before after
  woken_by_forcing (Some first) before after = []

  -- these messages were in front of all others; senders are notified
  pub record Takes (taken : List T) (before after : State T W) : Type 0 where
    pub first : before.messages ≡ taken ++ after.messages
    pub rest : after ≡ record before { messages = after.messages; senders = after.senders }
    pub senders : TellsUpTo (senders_due (length taken) before after) before.senders after.senders

  -- the tasks that it wakes: of senders
  abbrev pub woken_by_taking : ℕ → State T W → State T W → List W
  woken_by_taking taken before after = woken_up_to (senders_due taken before after) before.senders

  -- of so many messages that are there for one there is none, and the channel is open; or there is none at all, and it is closed
  abbrev pub FindsNone : ℕ → State T W → TryRecvError → Type 0
  FindsNone there before Empty = (there ≡ 0) × (before.is_closed ≡ false)
  FindsNone there before WasClosed = (before.messages ≡ []) × (before.is_closed ≡ true)

  -- there is no message for newcomers, and the channel is open or closed
  abbrev pub IsEmptyFor : State T W → TryRecvError → Type 0
  IsEmptyFor before error = FindsNone (for_newcomers before) before error

  -- an open channel is closed, and all that wait are notified
  pub record Closes (before after : State T W) : Type 0 where
    pub was_open : before.is_closed ≡ false
    pub rest : after ≡ record before { is_closed = true; senders = after.senders; receivers = after.receivers; streams = after.streams }
    pub senders : TellsAll before.senders after.senders
    pub receivers : TellsAll before.receivers after.receivers
    pub streams : TellsAll before.streams after.streams

  -- nothing changes but the queue of the senders, of the receivers and with them the streams, or of the streams
  abbrev pub KeepsAllButSenders : State T W → State T W → Type 0
  KeepsAllButSenders before after =
      after ≡ record before { senders = after.senders; starving_senders = after.starving_senders }

  abbrev pub KeepsAllButReceivers : State T W → State T W → Type 0
  KeepsAllButReceivers before after =
      after
      ≡ record before { receivers = after.receivers; starving_receivers = after.starving_receivers; streams = after.streams }

  abbrev pub KeepsAllButStreams : State T W → State T W → Type 0
  KeepsAllButStreams before after = after ≡ record before { streams = after.streams }
