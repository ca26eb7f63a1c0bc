-- By which place in a queue each call of a hand comes, and which it leaves it.
use Rattle.std.specs.Prelude.{◌≡◌, Bool, true, false, List, [], ◌∷◌, Option, Some, None}
use Rattle.event_queue.specs.declared.key.Key.{Key}
use Rattle.event_wait.specs.Attempted.{key_of}
use Rattle.event_channel.specs.declared.call.ChannelCall.{ChannelCall}
use Rattle.event_channel.specs.declared.call.ChannelCall.TheVariants as call

-- the place of one that waits to send, to receive, or as a stream
pub data Place : Type 0 where
  to_send : Key → Place
  to_receive : Key → Place
  as_stream : Key → Place

-- the place of a sender, if it has one
abbrev pub sender_at : Option Key → Option Place
sender_at None = None
sender_at (Some key) = Some (to_send key)

-- and of one that receives, as a stream or not
abbrev pub to_receive_as : Bool → Key → Place
to_receive_as false = to_receive
to_receive_as true = as_stream

abbrev pub receiver_at : Bool → Option Key → Option Place
receiver_at is_stream None = None
receiver_at is_stream (Some key) = Some (to_receive_as is_stream key)

module _ {T : Type 0} where
  -- the place by which a call comes, if it is by one
  abbrev pub came_by : ChannelCall T → Option Place
  came_by (call.SendOrWait message key answer) = sender_at key
  came_by (call.SendOrLeave message key reply) = sender_at key
  came_by (call.LeaveSenders key) = sender_at key
  came_by (call.ReceiveOrWait is_stream key answer) = receiver_at is_stream key
  came_by (call.ReceiveOrLeave is_stream key reply) = receiver_at is_stream key
  came_by (call.ReceiveMany messages key) = receiver_at false key
  came_by (call.LeaveReceivers is_stream key) = receiver_at is_stream key
  came_by _ = None

  -- the place that it leaves to whoever made it: that of one that waits
  abbrev pub left_at : ChannelCall T → Option Place
  left_at (call.SendOrWait message key answer) = sender_at (key_of answer)
  left_at (call.ReceiveOrWait is_stream key answer) = receiver_at is_stream (key_of answer)
  left_at _ = None

  -- One after another, each of these calls comes by the place that the one before it left, and the first by this one. The last left
  -- that one.
  abbrev pub Follow : Option Place → List (ChannelCall T) → Option Place → Type 0
  Follow from [] to = to ≡ from
  Follow from (c ∷ cs) to = (came_by c ≡ from) × Follow (left_at c) cs to

  -- a hand that made these calls waits at this place, if there is one, and at no other
  abbrev pub WaitsAt : Option Place → List (ChannelCall T) → Type 0
  WaitsAt place mine = Follow None mine place

  -- it waits nowhere
  abbrev pub WaitsNowhere : List (ChannelCall T) → Type 0
  WaitsNowhere mine = WaitsAt None mine
