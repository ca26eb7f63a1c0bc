-- What a contract sees of the state under a channel's lock.
use Rattle.std.specs.Prelude.{◌≡◌, ℕ, ◌+◌, ◌<◌, ◌≤◌, ◌^◌, ◌-◌, ◌==◌, ◌||◌, Bool, true, false, List, [], length, Option, Some, None}
use Rattle.event_queue.specs.declared.key.Key.{Key}
use Rattle.event_queue.specs.Queue.{Queue}
use Rattle.event_channel.specs.Turns.{Starving, is_told, left_for_newcomers, told_beside}

-- the messages, first the one that is received next; how many there may be at most; whether the channel is closed; and the
-- queues of those that wait: to send, to receive one message, and to receive all as a stream; and the senders and the receivers
-- in their queues that starve, first the one that has longest
pub record State (T W : Type 0) : Type 0 where
  pub messages : List T
  pub capacity : ℕ
  pub is_closed : Bool
  pub senders : Queue (Unit {0}) W
  pub receivers : Queue (Unit {0}) W
  pub streams : Queue (Unit {0}) W
  pub starving_senders : List Starving
  pub starving_receivers : List Starving

-- how many messages there may be at most: without a limit the greatest `usize`
abbrev pub limit_of : Option ℕ → ℕ
limit_of (Some capacity) = capacity
limit_of None = 2 ^ 64 - 1

module _ {T W : Type 0} where
  -- nobody has come yet
  abbrev pub empty_queue : Queue T W
  empty_queue = record { told = []; waiting = []; next_serial = 0; spare = 0 }

module _ {T W : Type 0} where
  -- an open channel without messages, at which nobody is
  abbrev pub new_state : ℕ → State T W
  new_state capacity = record {
    messages = [];
    capacity = capacity;
    is_closed = false;
    senders = empty_queue;
    receivers = empty_queue;
    streams = empty_queue;
    starving_senders = [];
    starving_receivers = [];
  }

  -- how many messages more there may be
  abbrev pub room_in : State T W → ℕ
  room_in s = s.capacity - length s.messages

  -- how many messages there are for newcomers: all, if the channel is closed or no receiver starves
  abbrev pub for_newcomers : State T W → ℕ
  for_newcomers s =
      left_for_newcomers (s.is_closed || length s.starving_receivers == 0) (length s.receivers.told) (length s.messages)

  -- how many there are for one that was notified, or was not
  abbrev pub there_for : Bool → State T W → ℕ
  there_for true s = length s.messages
  there_for false s = for_newcomers s

  -- how many there are for this one, by its place in the queue of the receivers
  abbrev pub for_one : Option Key → State T W → ℕ
  for_one key s = there_for (is_told key s.receivers) s

  -- how many of them are due to no receiver beside this one: all, if the channel is closed or no receiver starves
  abbrev pub due_to_no_other : Option Key → State T W → ℕ
  due_to_no_other key s =
      left_for_newcomers (s.is_closed || length s.starving_receivers == 0)
      (told_beside (is_told key s.receivers) (length s.receivers.told)) (length s.messages)

  -- a receiver starves, and as many are notified as there are messages: each is due to one of them, and none is there for
  -- newcomers
  pub record AreDue (s : State T W) : Type 0 where
    pub is_open : s.is_closed ≡ false
    pub starves : 0 < length s.starving_receivers
    pub few : length s.messages ≤ length s.receivers.told

  -- how many messages more there may be from newcomers: as many as there is room for, if the channel is closed or no sender
  -- starves
  abbrev pub room_for_newcomers : State T W → ℕ
  room_for_newcomers s =
      left_for_newcomers (s.is_closed || length s.starving_senders == 0) (length s.senders.told) (room_in s)

  -- how many from one that was notified, or was not
  abbrev pub room_for : Bool → State T W → ℕ
  room_for true s = room_in s
  room_for false s = room_for_newcomers s

  -- how many from this one, by its place in the queue of the senders
  abbrev pub room_for_one : Option Key → State T W → ℕ
  room_for_one key s = room_for (is_told key s.senders) s

  -- a sender starves, and as many are notified as there is room for: each place is due to one of them, and none is there for
  -- newcomers
  pub record PlacesAreDue (s : State T W) : Type 0 where
    pub is_open : s.is_closed ≡ false
    pub starves : 0 < length s.starving_senders
    pub few : room_in s ≤ length s.senders.told

  -- as many messages are there as may be
  abbrev pub IsFull : State T W → Type 0
  IsFull s = s.capacity ≤ length s.messages

  -- there is a limit below the greatest `usize`
  abbrev pub IsBounded : State T W → Type 0
  IsBounded s = s.capacity + 1 < 2 ^ 64

  pub record NobodyWaitsInVain (s : State T W) : Type 0 where
    -- while fewer receivers are notified than there are messages, no receiver waits
    pub receivers : length s.receivers.told < length s.messages → length s.receivers.waiting ≡ 0
    -- while fewer senders are notified than there is room for, no sender waits
    pub senders : length s.messages + length s.senders.told < s.capacity → length s.senders.waiting ≡ 0
    -- while there is a message for newcomers, no stream waits
    pub streams : 0 < for_newcomers s → length s.streams.waiting ≡ 0
    -- nobody waits at a closed channel
    pub closed : s.is_closed ≡ true → length s.senders.waiting + length s.receivers.waiting + length s.streams.waiting ≡ 0

  -- what the state keeps, where there are `places` places for messages: there are no more messages than may be, and where there is a
  -- limit each has its place from the beginning
  pub record IsKept (s : State T W) (places : ℕ) : Type 0 where
    pub waits : NobodyWaitsInVain s
    pub fits : length s.messages ≤ s.capacity
    pub reserved : IsBounded s → s.capacity ≤ places
