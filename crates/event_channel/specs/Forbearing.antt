-- What becomes of those that starve as newcomers are refused for their sake.
use Rattle.std.specs.Prelude.{◌≡◌, ◌<◌, ◌==◌, ◌++◌, if◌then◌else◌, Bool, true, false, List, [], Option, Some, None, length}
use Rattle.event_queue.specs.declared.key.Key.{Key}
use Rattle.event_wait.specs.Line.{LeavesThenTells, TellsAll, woken_at_once, woken_by_leaving}
use Rattle.event_channel.specs.declared.error.SendReason.{SendReason}
use Rattle.event_channel.specs.declared.error.SendReason.TheVariants.{Closed, Full, TimedOut, Memory, WaitFailed}
use Rattle.event_channel.specs.Messages.{State, for_newcomers, room_in}
use Rattle.event_channel.specs.Steps.{KeepsAllButReceivers, KeepsAllButSenders}
use Rattle.event_channel.specs.Turns.{but, is_told, less_forborne, struck_off}

module _ {T W : Type 0} where
  -- all streams were notified if there is a message for newcomers, and else none
  pub record StreamsFollow (before after : State T W) : Type 0 where
    pub tells : 0 < for_newcomers after → TellsAll before.streams after.streams
    pub stay : for_newcomers after ≡ 0 → after.streams ≡ before.streams

  -- the tasks of streams that are woken where one leaves the queue of the receivers
  abbrev pub woken_streams : Option Key → State T W → State T W → List W
  woken_streams None before after = []
  woken_streams (Some key) before after = if for_newcomers after == 0 then [] else woken_at_once before.streams

  -- A receiver starves no more. If it was notified it has left the queue as well, and the next is notified in its place; if it waits
  -- it waits on where it is.
  pub record ReceiverStruckOff (key : Key) (before after : State T W) : Type 0 where
    pub rest : KeepsAllButReceivers before after
    pub struck : after.starving_receivers ≡ but (Some key) before.starving_receivers
    pub told : is_told (Some key) before.receivers ≡ true → LeavesThenTells (Some key) (length after.messages) before.receivers after.receivers
    pub waits : is_told (Some key) before.receivers ≡ false → after.receivers ≡ before.receivers
    pub streams : StreamsFollow before after

  -- the same of a sender
  pub record SenderStruckOff (key : Key) (before after : State T W) : Type 0 where
    pub rest : KeepsAllButSenders before after
    pub struck : after.starving_senders ≡ but (Some key) before.starving_senders
    pub told : is_told (Some key) before.senders ≡ true → LeavesThenTells (Some key) (room_in after) before.senders after.senders
    pub waits : is_told (Some key) before.senders ≡ false → after.senders ≡ before.senders

  -- one more was refused for the sake of the first receiver that starves: it is struck off, or forborne with for one fewer
  abbrev pub ForbearsWithReceiver : Option Key → State T W → State T W → Type 0
  ForbearsWithReceiver None before after =
      after ≡ record before { starving_receivers = less_forborne before.starving_receivers }
  ForbearsWithReceiver (Some key) before after = ReceiverStruckOff key before after

  abbrev pub ForbearsWithSender : Option Key → State T W → State T W → Type 0
  ForbearsWithSender None before after =
      after ≡ record before { starving_senders = less_forborne before.starving_senders }
  ForbearsWithSender (Some key) before after = SenderStruckOff key before after

  -- so it is unless nothing is there at all
  abbrev pub ForbearsUnless : Bool → State T W → State T W → Type 0
  ForbearsUnless true before after = after ≡ before
  ForbearsUnless false before after = ForbearsWithReceiver (struck_off before.starving_receivers) before after

  abbrev pub ForbearsSendingUnless : Bool → State T W → State T W → Type 0
  ForbearsSendingUnless true before after = after ≡ before
  ForbearsSendingUnless false before after = ForbearsWithSender (struck_off before.starving_senders) before after

  -- A newcomer got no message. Where there is none, nothing changes. Else it was refused for the sake of those that starve.
  abbrev pub Forbears : State T W → State T W → Type 0
  Forbears before after = ForbearsUnless (length before.messages == 0) before after

  -- the same of a newcomer whose message found no room
  abbrev pub ForbearsSending : State T W → State T W → Type 0
  ForbearsSending before after = ForbearsSendingUnless (room_in before == 0) before after

  -- one that has a place in the queue, or had, counts as no newcomer
  abbrev pub ForbearsFor : Option Key → State T W → State T W → Type 0
  ForbearsFor None before after = Forbears before after
  ForbearsFor (Some key) before after = after ≡ before

  abbrev pub ForbearsSendingFor : Option Key → State T W → State T W → Type 0
  ForbearsSendingFor None before after = ForbearsSending before after
  ForbearsSendingFor (Some key) before after = after ≡ before

  -- what a refusal for this reason leaves
  abbrev pub RefusedFor : SendReason → Option Key → State T W → State T W → Type 0
  RefusedFor Closed key before after = after ≡ before
  RefusedFor Full key before after = ForbearsSendingFor key before after
  RefusedFor TimedOut key before after = after ≡ before
  RefusedFor Memory key before after = after ≡ before
  RefusedFor (WaitFailed error) key before after = after ≡ before

  -- the tasks that it wakes: of the next in the queue if one was struck off that was notified, and of streams
  abbrev pub woken_by_striking : Bool → Key → State T W → State T W → List W
  woken_by_striking true key before after =
      woken_by_leaving (Some key) (length after.messages) before.receivers ++ woken_streams (Some key) before after
  woken_by_striking false key before after = woken_streams (Some key) before after

  abbrev pub woken_by_forbearing_with : Option Key → State T W → State T W → List W
  woken_by_forbearing_with None before after = []
  woken_by_forbearing_with (Some key) before after = woken_by_striking (is_told (Some key) before.receivers) key before after

  abbrev pub woken_by_forbearing : State T W → State T W → List W
  woken_by_forbearing before after =
      if length before.messages == 0 then [] else woken_by_forbearing_with (struck_off before.starving_receivers) before after

  -- and of senders
  abbrev pub woken_by_striking_sender : Option Key → State T W → State T W → List W
  woken_by_striking_sender None before after = []
  woken_by_striking_sender (Some key) before after =
      if is_told (Some key) before.senders then woken_by_leaving (Some key) (room_in after) before.senders else []

  abbrev pub woken_by_forbearing_sending : State T W → State T W → List W
  woken_by_forbearing_sending before after =
      if room_in before == 0 then [] else woken_by_striking_sender (struck_off before.starving_senders) before after

  abbrev pub woken_by_forbearing_for : Option Key → State T W → State T W → List W
  woken_by_forbearing_for None before after = woken_by_forbearing before after
  woken_by_forbearing_for (Some key) before after = []

  abbrev pub woken_by_forbearing_sending_for : Option Key → State T W → State T W → List W
  woken_by_forbearing_sending_for None before after = woken_by_forbearing_sending before after
  woken_by_forbearing_sending_for (Some key) before after = []

  abbrev pub woken_by_refusal_for : SendReason → State T W → State T W → List W
  woken_by_refusal_for Closed before after = []
  woken_by_refusal_for Full before after = woken_by_forbearing_sending before after
  woken_by_refusal_for TimedOut before after = []
  woken_by_refusal_for Memory before after = []
  woken_by_refusal_for (WaitFailed error) before after = []
