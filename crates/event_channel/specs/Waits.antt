-- What became of one that was to send or to receive, or else to wait.
use Rattle.std.specs.Prelude.{◌≡◌, ℕ, ◌<◌, List, [], ◌∷◌, ◌++◌, Option, Some, None, Result, Ok, Err, true, false, length}
use Rattle.event_queue.specs.declared.key.Key.{Key}
use Rattle.event_queue.specs.declared.reply.ListenError.{ListenError}
use Rattle.event_queue.specs.Queue.{Queue}
use Rattle.event_wait.specs.Line.{Leaves, LeavesThenTells, WaitsBy, CannotWait, waits_untold, woken_by_leaving}
use Rattle.event_wait.specs.declared.request.Attempted.{Attempted}
use Rattle.event_wait.specs.declared.request.Attempted.TheVariants.{Done, Waits, Absent, Refused}
use Rattle.event_channel.specs.Errors.{IsUnsent}
use Rattle.event_channel.specs.Forbearing.{Forbears, ForbearsFor, ForbearsSendingFor, StreamsFollow, woken_by_forbearing, woken_by_forbearing_for, woken_by_forbearing_sending_for, woken_streams}
use Rattle.event_channel.specs.Messages.{State, for_newcomers, for_one, room_for_newcomers, room_for_one, room_in}
use Rattle.event_channel.specs.Steps.{Pushes, RefusesAt, Takes, woken_by_pushing, woken_by_taking}
use Rattle.event_channel.specs.Turns.{CannotWaitInTurn, Counts, IsNewcomer, but, is_told, struck}
use Rattle.event_channel.specs.declared.error.SendReason.{SendReason}

-- what an attempt to send leads to, and one to receive: a message, or the end of them
abbrev pub Sent : Type 0
Sent = Attempted (Result (Unit {0}) SendReason) ListenError

abbrev pub Received : Type 0 → Type 0
Received T = Attempted (Option T) ListenError

-- how a wait ends whose rounds change nothing: it got what it waits for, or is as it was
abbrev pub Gets : {S G E : Type 0} → (S → G → S → Type 0) → S → Result (Option G) E → S → Type 0
Gets succeeds before (Ok (Some output)) after = succeeds before output after
Gets succeeds before (Ok None) after = after ≡ before
Gets succeeds before (Err error) after = after ≡ before

-- a message that was sent is gone, and one that was refused is where it was
abbrev pub Empties : {T : Type 0} → Option T → Result (Unit {0}) SendReason → Option T → Type 0
Empties before (Ok sent) after = after ≡ None
Empties before (Err reason) after = IsUnsent reason × (after ≡ before)

module _ {T W : Type 0} where
  -- the message, if there is one, was put behind all others
  abbrev pub PushesFrom : Option T → State T W → State T W → Type 0
  PushesFrom (Some message) before after = Pushes message before after
  PushesFrom None before after = ⊥

module _ {T W C : Type 0} (exchanged : C → Option W → W → C → Type 0) where
  -- Of a stream, by its queue before and after, and by the state but for that queue: the message was in front of all others, and
  -- there for newcomers; or none was, and it waits, or is in the queue no more. Where messages are there, each due to others, it is
  -- in the queue no more and comes again.
  abbrev pub Receives : Option Key → State T W → Queue (Unit {0}) W → C → Received T → State T W → Queue (Unit {0}) W → C → Type 0
  Receives key before line on (Done (Some message)) rest line' on' =
      (0 < for_newcomers before) × Takes (message ∷ []) before rest × LeavesThenTells key (length rest.messages) line line' × (on' ≡ on)
  Receives key before line on (Done None) rest line' on' =
      (before.messages ≡ []) × (before.is_closed ≡ true) × (rest ≡ before) × LeavesThenTells key (length rest.messages) line line' × (on' ≡ on)
  Receives key before line on (Waits waits) rest line' on' =
      (for_newcomers before ≡ 0) × (before.is_closed ≡ false) × (rest ≡ before) × WaitsBy exchanged key line on waits line' on'
      × (length before.messages ≡ 0)
  Receives key before line on Absent rest line' on' =
      (for_newcomers before ≡ 0) × (before.is_closed ≡ false) × (0 < length before.messages)
      × ((told : Queue (Unit {0}) W) × Forbears (record before { streams = line }) (record rest { streams = told }) × Leaves key told line') × (on' ≡ on)
  Receives key before line on (Refused error) rest line' on' =
      (for_newcomers before ≡ 0) × (before.is_closed ≡ false) × (rest ≡ before) × CannotWait key error line line' × (on' ≡ on)

module _ {T W : Type 0} where
  -- the state but for the queue of the receivers, and but for the streams
  abbrev pub but_receivers : State T W → State T W → State T W
  but_receivers before after =
      record after { receivers = before.receivers; starving_receivers = before.starving_receivers }

  abbrev pub but_receivers_and_streams : State T W → State T W → State T W
  but_receivers_and_streams before after = record (but_receivers before after) { streams = before.streams }

  -- the state but for the queue of the senders
  abbrev pub but_senders : State T W → State T W → State T W
  but_senders before after = record after { senders = before.senders; starving_senders = before.starving_senders }

  -- one left the queue of the senders, if it was there, and starves no more; others are notified in its place if they are due
  pub record SenderLeaves (key : Option Key) (before after : State T W) : Type 0 where
    pub left : LeavesThenTells key (room_in after) before.senders after.senders
    pub struck : after.starving_senders ≡ but key before.starving_senders

  -- where one leaves the queue of the receivers the streams follow
  abbrev pub StreamsGoOn : Option Key → State T W → State T W → Type 0
  StreamsGoOn None before after = after.streams ≡ before.streams
  StreamsGoOn (Some key) before after = StreamsFollow before after

  -- the same of the queue of the receivers: what was due to one that leaves may be there for newcomers
  pub record ReceiverLeaves (key : Option Key) (before after : State T W) : Type 0 where
    pub left : LeavesThenTells key (length after.messages) before.receivers after.receivers
    pub struck : after.starving_receivers ≡ but key before.starving_receivers
    pub streams : StreamsGoOn key before after

  -- There was no message to send, and one that was in the queue has left it. Or one that is in none found room, each place of which is
  -- due to others: it comes again.
  abbrev pub NotSent : Option T → Option Key → State T W → State T W → Type 0
  NotSent None key before after = (but_senders before after ≡ before) × SenderLeaves key before after
  NotSent (Some message) key before after =
      IsNewcomer key before.senders × (room_for_newcomers before ≡ 0) × (before.is_closed ≡ false) × (0 < room_in before)
      × ForbearsSendingFor key before after

module _ {T W C : Type 0} (exchanged : C → Option W → W → C → Type 0) where
  -- Of one that was to send, by how often it lost: the message was put behind all others, and there was room for it; or it was
  -- refused; or there was no room for it, and it waits and is counted, or is in the queue no more; or there was no message, or room
  -- that is due to others: only one that waits already waits on behind that.
  abbrev pub SendsInTurn : Option T → Option Key → State T W → ℕ → C → Sent → State T W → ℕ → C → Type 0
  SendsInTurn message key before losses on (Done (Ok sent)) after losses' on' =
      (0 < room_for_one key before) × PushesFrom message before (but_senders before after) × SenderLeaves key before after × (losses' ≡ losses) × (on' ≡ on)
  SendsInTurn message key before losses on (Done (Err reason)) after losses' on' =
      RefusesAt (room_for_one key before) before reason × (but_senders before after ≡ before) × SenderLeaves key before after × (losses' ≡ losses) × (on' ≡ on)
  SendsInTurn message key before losses on (Waits waits) after losses' on' =
      (room_for_one key before ≡ 0) × (before.is_closed ≡ false) × (but_senders before after ≡ before)
      × WaitsBy exchanged key before.senders on waits after.senders on'
      × Counts (is_told key before.senders) key waits losses before.starving_senders losses' after.starving_senders
      × (0 < room_in before → waits_untold key before.senders ≡ true)
  SendsInTurn message key before losses on Absent after losses' on' =
      NotSent message key before after × (losses' ≡ losses) × (on' ≡ on)
  SendsInTurn message key before losses on (Refused error) after losses' on' =
      (room_for_one key before ≡ 0) × (before.is_closed ≡ false) × (but_senders before after ≡ before)
      × CannotWaitInTurn (is_told key before.senders) key losses error before.senders after.senders
      × (after.starving_senders ≡ struck (is_told key before.senders) key before.starving_senders) × (losses' ≡ losses) × (on' ≡ on)

  -- Of one that was to receive one message, likewise: the message was in front of all others, and there for it; or there is none,
  -- and none will come; or none was there for it, and it waits and is counted, or is in the queue no more. One that is in no queue
  -- comes again where messages are there, each due to others.
  abbrev pub ReceivesInTurn : Option Key → State T W → ℕ → C → Received T → State T W → ℕ → C → Type 0
  ReceivesInTurn key before losses on (Done (Some message)) after losses' on' =
      (0 < for_one key before) × Takes (message ∷ []) before (but_receivers_and_streams before after) × ReceiverLeaves key before after × (losses' ≡ losses) × (on' ≡ on)
  ReceivesInTurn key before losses on (Done None) after losses' on' =
      (before.messages ≡ []) × (before.is_closed ≡ true) × (but_receivers_and_streams before after ≡ before) × ReceiverLeaves key before after × (losses' ≡ losses) × (on' ≡ on)
  ReceivesInTurn key before losses on (Waits waits) after losses' on' =
      (for_one key before ≡ 0) × (before.is_closed ≡ false) × (but_receivers before after ≡ before)
      × WaitsBy exchanged key before.receivers on waits after.receivers on'
      × Counts (is_told key before.receivers) key waits losses before.starving_receivers losses' after.starving_receivers
      × (0 < length before.messages → waits_untold key before.receivers ≡ true)
  ReceivesInTurn key before losses on Absent after losses' on' =
      IsNewcomer key before.receivers × (for_newcomers before ≡ 0) × (before.is_closed ≡ false) × (0 < length before.messages)
      × ForbearsFor key before after
      × (losses' ≡ losses) × (on' ≡ on)
  ReceivesInTurn key before losses on (Refused error) after losses' on' =
      (for_one key before ≡ 0) × (before.is_closed ≡ false) × (but_receivers before after ≡ before)
      × CannotWaitInTurn (is_told key before.receivers) key losses error before.receivers after.receivers
      × (after.starving_receivers ≡ struck (is_told key before.receivers) key before.starving_receivers) × (losses' ≡ losses) × (on' ≡ on)

module _ {T W : Type 0} where
  -- the tasks that are woken where nothing was sent
  abbrev pub woken_by_sending_none : Option T → Option Key → State T W → State T W → List W
  woken_by_sending_none None key before after = woken_by_leaving key (room_in after) before.senders
  woken_by_sending_none (Some message) key before after = woken_by_forbearing_sending_for key before after

  -- the tasks that this wakes: of those that wait for the message, and of senders if one that was notified has left
  abbrev pub woken_by_sending : Option T → Option Key → State T W → Sent → State T W → List W
  woken_by_sending message key before (Done (Ok sent)) after =
      woken_by_pushing before after ++ woken_by_leaving key (room_in after) before.senders
  woken_by_sending message key before (Done (Err reason)) after = woken_by_leaving key (room_in after) before.senders
  woken_by_sending message key before (Waits waits) after = []
  woken_by_sending message key before Absent after = woken_by_sending_none message key before after
  woken_by_sending message key before (Refused error) after = []

  -- the tasks that are woken where one leaves the queue of the receivers: of the next ones, and of streams
  abbrev pub woken_by_receiver_leaving : Option Key → State T W → State T W → List W
  woken_by_receiver_leaving key before after =
      woken_by_leaving key (length after.messages) before.receivers ++ woken_streams key before after

  -- the tasks that one wakes that was to receive: of senders, and those
  abbrev pub woken_by_receiver : Option Key → State T W → Received T → State T W → List W
  woken_by_receiver key before (Done (Some message)) after =
      woken_by_taking 1 before after ++ woken_by_receiver_leaving key before after
  woken_by_receiver key before (Done None) after = woken_by_receiver_leaving key before after
  woken_by_receiver key before (Waits waits) after = []
  woken_by_receiver key before Absent after = woken_by_forbearing_for key before after
  woken_by_receiver key before (Refused error) after = []

  -- the tasks that a stream wakes: of senders, and of those that wait in the same queue if one that was notified has left
  abbrev pub woken_by_receiving : Option Key → State T W → Queue (Unit {0}) W → Received T → State T W → List W
  woken_by_receiving key before line (Done (Some message)) after =
      woken_by_taking 1 before after ++ woken_by_leaving key (length after.messages) line
  woken_by_receiving key before line (Done None) after = woken_by_leaving key (length after.messages) line
  woken_by_receiving key before line (Waits waits) after = []
  woken_by_receiving key before line Absent after = woken_by_forbearing before after
  woken_by_receiving key before line (Refused error) after = []
