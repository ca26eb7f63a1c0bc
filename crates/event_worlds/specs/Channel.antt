-- The channel world: the senders and the receivers of a bounded channel, each side in a line of its own, who closes it,
-- and the tables of their steps.
use Rattle.std.specs.Prelude.{ℕ, Bool, true, false, nat_lt, if◌then◌else◌, List, [], ◌∷◌, ◌++◌, length, drop, replicate, slice_get, slice_set, Option, Some, None, option_to_list, option_and_then, option_map}
use Rattle.event_worlds.specs.declared.world.acts.Act.TheVariants as act
use Rattle.event_worlds.specs.declared.world.acts.ChannelAct.{ChannelAct}
use Rattle.event_worlds.specs.declared.world.acts.ChannelAct.TheVariants.{Go, Send, Poll, TimeOut, Cancel}
use Rattle.event_worlds.specs.declared.world.acts.ChannelActor.{ChannelActor}
use Rattle.event_worlds.specs.declared.world.acts.ChannelActor.TheVariants.{Sender, Receiver, Closer}
use Rattle.event_worlds.specs.declared.world.acts.ChannelStep.{ChannelStep}
use Rattle.event_worlds.specs.declared.world.channel.ChannelClient.{ChannelClient}
use Rattle.event_worlds.specs.declared.world.channel.CloserPlace.{CloserPlace}
use Rattle.event_worlds.specs.declared.world.channel.CloserPlace.TheVariants.{ToClose, ToNotifySenders, ToNotifyReceivers, Done}
use Rattle.event_worlds.specs.declared.world.channel.Found.{Found}
use Rattle.event_worlds.specs.declared.world.channel.Found.TheVariants.{One, Nothing, Over}
use Rattle.event_worlds.specs.declared.world.place.Place.{Place}
use Rattle.event_worlds.specs.declared.world.place.Place.TheVariants.{Idle, First, ToListen, Second, Ending, ToRegister, Holding}
use Rattle.event_worlds.specs.Buffer.{Buffer}
use Rattle.event_worlds.specs.Line.{Line, empty_line, everybody, notified, dropped}
use Rattle.event_worlds.specs.Steps.{after_step, after_steps, steps_taken}
use Rattle.event_worlds.specs.Waiting.{waits}

-- the senders, or the receivers: of each, by its number, its place, how many notifications of the other side it owes,
-- and its message; who is notified, who waits and who has its wake-up
pub record Side : Type 0 where
  pub clients : List ChannelClient
  pub line : Line

-- how many messages may wait in the channel; those that do, the oldest first; how far its closing is; both sides
pub record ChannelState : Type 0 where
  pub capacity : ℕ
  pub messages : List ℕ
  pub closer : CloserPlace
  pub senders : Side
  pub receivers : Side

-- the channel of this buffer, closed so far, with these clients and these lines
abbrev pub channel_of : Buffer → CloserPlace → List ChannelClient → Line → List ChannelClient → Line → ChannelState
channel_of buffer closer senders sender_line receivers receiver_line = record {
  capacity = buffer.capacity;
  messages = buffer.messages;
  closer = closer;
  senders = record { clients = senders; line = sender_line };
  receivers = record { clients = receivers; line = receiver_line };
}

-- a client that wants nothing
abbrev pub idle : ChannelClient
idle = record { place = Idle; owed = 0; message = 0 }

-- a side of that many clients, who want nothing; nobody is in its line, whose notifications are additional
abbrev pub idle_side : ℕ → Side
idle_side clients = record { clients = replicate clients idle; line = empty_line true clients 0 }

-- the channel is empty and not closed
abbrev pub start : ℕ → ℕ → ℕ → ChannelState
start senders receivers capacity = record {
  capacity = capacity;
  messages = [];
  closer = ToClose;
  senders = idle_side senders;
  receivers = idle_side receivers;
}

abbrev pub is_closed : CloserPlace → Bool
is_closed ToClose = false
is_closed _ = true

-- what the look of a sender with this message finds
abbrev pub room_found : ℕ → ChannelState → Found
room_found message state =
    if is_closed state.closer
    then Over
    else (if nat_lt (length state.messages) state.capacity then One message else Nothing)

-- what the look of a receiver finds, by the messages and whether the channel is closed
abbrev pub first_found : List ℕ → Bool → Found
first_found [] closed = if closed then Over else Nothing
first_found (message ∷ _) closed = One message

abbrev pub message_found : ChannelState → Found
message_found state = first_found state.messages (is_closed state.closer)

-- a client that has looked. It goes to the first place, if it found one or it is over, and to the second, if it found
-- nothing; with one it owes the other side one notification
abbrev pub looked : Place → Place → ChannelClient → Found → ChannelClient
looked got busy own (One message) = record { place = got; owed = 1; message = message }
looked got busy own Nothing = record own { place = busy }
looked got busy own Over = record own { place = got }

-- a client that owes nothing, and is at another place
abbrev pub paid : Place → ChannelClient → ChannelClient
paid place own = record own { place = place; owed = 0 }

-- the client is at another place
abbrev pub moved : ChannelClient → Line → Place × Line → ChannelClient × Line × Line
moved own other to = (record own { place = to.0 }, to.1, other)

-- the table of both sides: what this act of a client at this place, whose look finds that, makes of the client, of its
-- line and of the other side's; none where it is no step. A sender begins with a message, and a receiver without
abbrev pub from : ChannelAct → Place → Bool → ℕ → ChannelClient → Found → Line → Line → Option (ChannelClient × Line × Line)
from Go Idle sends client own found line other =
    if sends then None else Some (record own { place = First false }, line, other)
from Go (First woken) sends client own found line other = Some (looked Holding ToListen own found, line, other)
from Go Second sends client own found line other = Some (looked Ending ToRegister own found, line, other)
from Go Ending sends client own found line other =
    if nat_lt 0 own.owed
    then Some (paid Ending own, line, notified own.owed other)
    else Some (record own { place = Holding }, dropped client line, other)
from Go Holding sends client own found line other = Some (paid Idle own, line, notified own.owed other)
from (Send message) Idle sends client own found line other =
    if sends then Some (record own { place = First false; message = message }, line, other) else None
from (Send message) _ sends client own found line other = None
from Go place sends client own found line other = option_map (moved own other) (waits act.Go place client line)
from Poll place sends client own found line other = option_map (moved own other) (waits act.Poll place client line)
from TimeOut place sends client own found line other =
    option_map (moved own other) (waits act.TimeOut place client line)
from Cancel place sends client own found line other =
    option_map (moved own other) (waits act.Cancel place client line)

-- the message that a look finds, if it finds one
abbrev pub message_in : Found → Option ℕ
message_in (One message) = Some message
message_in _ = None

-- the message that this act of a client at this place takes, if its look finds that: a sender's goes into the channel,
-- and a receiver's out of it
abbrev pub passed : ChannelAct → Place → Found → Option ℕ
passed Go (First woken) found = message_in found
passed Go Second found = message_in found
passed _ _ _ = None

-- the state once this sender has sent that, if anything, and the sender and both lines are these
abbrev pub sender_goes : ℕ → Option ℕ → ChannelState → ChannelClient × Line × Line → ChannelState
sender_goes client sent state to = record state {
  messages = state.messages ++ option_to_list sent;
  senders = record { clients = slice_set state.senders.clients client to.0; line = to.1 };
  receivers = record { clients = state.receivers.clients; line = to.2 };
}

-- the same of a receiver
abbrev pub receiver_goes : ℕ → Option ℕ → ChannelState → ChannelClient × Line × Line → ChannelState
receiver_goes client received state to = record state {
  messages = drop (length (option_to_list received)) state.messages;
  senders = record { clients = state.senders.clients; line = to.2 };
  receivers = record { clients = slice_set state.receivers.clients client to.0; line = to.1 };
}

-- the step of a sender that is this one, and of a receiver

abbrev pub step_of_sender : ℕ → ChannelAct → ChannelState → ChannelClient → Option ChannelState
step_of_sender client act state own =
    option_map (sender_goes client (passed act own.place (room_found own.message state)) state) (from act own.place true client own (room_found own.message state) state.senders.line state.receivers.line)

abbrev pub step_of_receiver : ℕ → ChannelAct → ChannelState → ChannelClient → Option ChannelState
step_of_receiver client act state own =
    option_map (receiver_goes client (passed act own.place (message_found state)) state) (from act own.place false client own (message_found state) state.receivers.line state.senders.line)

abbrev pub next_of_sender : ℕ → ChannelAct → ChannelState → Option ChannelState
next_of_sender client act state =
    option_and_then (step_of_sender client act state) (slice_get state.senders.clients client)

abbrev pub next_of_receiver : ℕ → ChannelAct → ChannelState → Option ChannelState
next_of_receiver client act state =
    option_and_then (step_of_receiver client act state) (slice_get state.receivers.clients client)

-- the table of closing: it is closed, all senders are notified, and all receivers
abbrev pub next_of_closer : CloserPlace → ChannelState → Option ChannelState
next_of_closer ToClose state = Some (record state { closer = ToNotifySenders })
next_of_closer ToNotifySenders state =
    Some (record state {
      closer = ToNotifyReceivers;
      senders = record { clients = state.senders.clients; line = notified everybody state.senders.line };
    })
next_of_closer ToNotifyReceivers state =
    Some (record state {
      closer = Done;
      receivers = record { clients = state.receivers.clients; line = notified everybody state.receivers.line };
    })
next_of_closer Done state = None

-- the state after this act of this actor, or none where it is no step
abbrev pub next : ChannelActor → ChannelAct → ChannelState → Option ChannelState
next (Sender client) act state = next_of_sender client act state
next (Receiver client) act state = next_of_receiver client act state
next Closer Go state = next_of_closer state.closer state
next Closer _ state = None

abbrev pub next_of : ChannelStep → ChannelState → Option ChannelState
next_of step = next step.actor step.act

-- the state after this act of this actor, where what is no step changes nothing
abbrev pub after : ChannelActor → ChannelAct → ChannelState → ChannelState
after actor = after_step (next actor)

-- the state after a schedule, and how many of its steps are steps of the tables

abbrev pub after_all : List ChannelStep → ChannelState → ChannelState
after_all = after_steps next_of

abbrev pub taken : List ChannelStep → ChannelState → ℕ
taken = steps_taken next_of

-- the message that this act of this actor sends, if it sends one
abbrev pub sent_by : ChannelActor → ChannelAct → ChannelState → List ℕ
sent_by (Sender client) act state =
    option_to_list (option_and_then (λ own. passed act own.place (room_found own.message state)) (slice_get state.senders.clients client))
sent_by _ act state = []

-- the message that it receives, if it receives one
abbrev pub received_by : ChannelActor → ChannelAct → ChannelState → List ℕ
received_by (Receiver client) act state =
    option_to_list (option_and_then (λ own. passed act own.place (message_found state)) (slice_get state.receivers.clients client))
received_by _ act state = []

-- the messages that a schedule sends, and those that it receives, one after another

abbrev pub sent : List ChannelStep → ChannelState → List ℕ
sent [] state = []
sent (step ∷ steps) state = sent_by step.actor step.act state ++ sent steps (after step.actor step.act state)

abbrev pub received : List ChannelStep → ChannelState → List ℕ
received [] state = []
received (step ∷ steps) state = received_by step.actor step.act state ++ received steps (after step.actor step.act state)
