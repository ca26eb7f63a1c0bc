-- Newcomers are refused only so often for the sake of those that starve.
use Rattle.std.proofs.Common.{◌≡◌, ℕ, ◌-◌, ◌<◌, ◌≤◌, ◌==◌, ◌||◌, Bool, true, false, if◌then◌else◌, List, [], ◌∷◌, length, refl, sym, ap, ◌∙◌, subst, arith, Option, Some, None, Ok, Err}
use Rattle.std.proofs.lemmas.Bool.{false≢true}
use Rattle.event_queue.specs.declared.key.Key.{Key}
use Rattle.event_queue.specs.Key.{is_key}
use Rattle.event_wait.specs.declared.request.Attempted.TheVariants.{Done, Waits, Absent, Refused}
use Rattle.event_channel.specs.declared.call.ChannelCall.{ChannelCall}
use Rattle.event_channel.specs.declared.call.ChannelCall.TheVariants as call
use Rattle.event_channel.specs.declared.error.SendReason.{SendReason}
use Rattle.event_channel.specs.declared.error.SendReason.TheVariants.{Closed, Full, TimedOut, Memory, WaitFailed}
use Rattle.event_channel.specs.declared.error.TryRecvError.TheVariants.{Empty, Closed as WasClosed}
use Rattle.event_channel.specs.Calls.{LeavesReceivers, LeavesSenders, receiver_key}
use Rattle.event_channel.specs.Forbearing.{Forbears, ForbearsFor, ForbearsSending, ForbearsSendingFor, ForbearsSendingUnless, ForbearsUnless, ForbearsWithReceiver, ForbearsWithSender, RefusedFor}
use Rattle.event_channel.specs.Messages.{State, for_newcomers, room_for_newcomers, room_in}
use Rattle.event_channel.specs.Served.{RefusesFewer, RefusesFewerSends, RefusesNoMore, RefusesNoMoreSends, refusals_left, sends_refused}
use Rattle.event_channel.specs.Turns.{Starving, but, less_forborne, refusals_for, struck, struck_off}
use Rattle.event_channel.proofs.ForbearLemmas.{forborne, forborne_for, refused_for, sending_for as sender_kept}

-- those that are left have no more refused
left-refused : (key : Key) (all : List Starving) → refusals_for (but (Some key) all) ≤ refusals_for all
left-refused key [] = omega arith
left-refused key (one ∷ others) = by_test (is_key key one.0) refl (left-refused key others)
  where
    by_test : (b : Bool) → is_key key one.0 ≡ b → refusals_for (but (Some key) others) ≤ refusals_for others → refusals_for (but (Some key) (one ∷ others)) ≤ refusals_for (one ∷ others)
    by_test true goes rest = rw goes (omega (arith, rest))
    by_test false stays rest = rw stays (omega (arith, rest))

left-refused_if : (key : Option Key) (all : List Starving) → refusals_for (but key all) ≤ refusals_for all
left-refused_if None all = omega arith
left-refused_if (Some key) all = left-refused key all

struck-refused : (told : Bool) (key : Option Key) (all : List Starving) → refusals_for (struck told key all) ≤ refusals_for all
struck-refused true key all = left-refused_if key all
struck-refused false key all = omega arith

is_itself : (key : Key) → is_key key key ≡ true
is_itself key = grind arith

some_more : (n : ℕ) → (n == 0) ≡ false → 0 < n
some_more n some = grind arith

-- one fewer is refused for the sake of the first, if there is one
less-refused : (all : List Starving) → struck_off all ≡ None → 0 < length all → refusals_for (less_forborne all) < refusals_for all
less-refused [] off some = absurd (omega (arith, some))
less-refused (one ∷ others) off some = by_test (one.1 == 0) refl
  where
    by_test : (b : Bool) → (one.1 == 0) ≡ b → refusals_for (less_forborne (one ∷ others)) < refusals_for (one ∷ others)
    by_test true last = absurd (let no : Some one.0 ≡ None = rw last at off in cc)
    by_test false more = let some_left = some_more one.1 more in omega (arith, some_left)

less-no_more : (all : List Starving) → refusals_for (less_forborne all) ≤ refusals_for all
less-no_more [] = omega arith
less-no_more (one ∷ others) = omega arith

-- none is refused for the sake of one that is struck off
off-refused : (key : Key) (all : List Starving) → struck_off all ≡ Some key → refusals_for (but (Some key) all) < refusals_for all
off-refused key [] off = absurd (cc)
off-refused key (one ∷ others) off = by_test (one.1 == 0) refl
  where
    by_key : one.0 ≡ key → refusals_for (but (Some key) (one ∷ others)) < refusals_for (one ∷ others)
    by_key same =
        let rest = left-refused key others in
        let its : is_key key one.0 ≡ true = rw same (is_itself key) in
        rw its (omega (arith, rest))

    by_test : (b : Bool) → (one.1 == 0) ≡ b → refusals_for (but (Some key) (one ∷ others)) < refusals_for (one ∷ others)
    by_test true last = by_key (let is : Some one.0 ≡ Some key = rw last at off in cc)
    by_test false more = absurd (let no : None ≡ Some key = rw more at off in cc)

some_is : (n : ℕ) → 0 < n → (n == 0) ≡ false
some_is n some = grind arith

-- a message or a place is there, and none for newcomers: one starves
one_starves : (is_closed : Bool) (told there : ℕ) (all : List Starving) → is_closed ≡ false → 0 < there → (if is_closed || length all == 0 then there else there - told) ≡ 0 → 0 < length all
one_starves is_closed told there [] is_open some none = absurd (let all_is : there ≡ 0 = rw is_open at none in omega (arith, some, all_is))
one_starves is_closed told there (one ∷ others) is_open some none = omega arith

module _ {T W : Type 0} where
  same : (before after : State T W) → after.starving_receivers ≡ before.starving_receivers → refusals_left after ≤ refusals_left before
  same before after is = let as_many : refusals_left after ≡ refusals_left before = ap refusals_for is in omega (arith, as_many)

  all_same : (before after : State T W) → after ≡ before → refusals_left after ≤ refusals_left before
  all_same before after is = same before after (ap (λ (s : State T W). s.starving_receivers) is)

  gone : (key : Option Key) (before after : State T W) → after.starving_receivers ≡ but key before.starving_receivers → refusals_left after ≤ refusals_left before
  gone key before after is =
      let fewer = left-refused_if key before.starving_receivers in
      let as_many : refusals_left after ≡ refusals_for (but key before.starving_receivers) = ap refusals_for is in
      omega (arith, fewer, as_many)

  gone_by : (told : Bool) (key : Option Key) (before after : State T W) → after.starving_receivers ≡ struck told key before.starving_receivers → refusals_left after ≤ refusals_left before
  gone_by told key before after is =
      let fewer = struck-refused told key before.starving_receivers in
      let as_many : refusals_left after ≡ refusals_for (struck told key before.starving_receivers) = ap refusals_for is in
      omega (arith, fewer, as_many)

  left : (is_stream : Bool) (key : Option Key) (before after : State T W) → LeavesReceivers is_stream key before after → refusals_left after ≤ refusals_left before
  left false key before after h = gone key before after h.1.struck
  left true key before after h = same before after (ap (λ (s : State T W). s.starving_receivers) h.0)

  -- one newcomer fewer is refused, if a message is there
  with_receiver : (off : Option Key) (before after : State T W) → struck_off before.starving_receivers ≡ off → 0 < length before.starving_receivers → ForbearsWithReceiver off before after → refusals_left after < refusals_left before
  with_receiver None before after is starves h =
      let fewer = less-refused before.starving_receivers is starves in
      let as_many : refusals_left after ≡ refusals_for (less_forborne before.starving_receivers) = ap (λ (s : State T W). refusals_for s.starving_receivers) h in
      omega (arith, fewer, as_many)
  with_receiver (Some key) before after is starves h =
      let fewer = off-refused key before.starving_receivers is in
      let as_many : refusals_left after ≡ refusals_for (but (Some key) before.starving_receivers) = ap refusals_for h.struck in
      omega (arith, fewer, as_many)

  pub refuses_fewer : (before after : State T W) → for_newcomers before ≡ 0 → before.is_closed ≡ false → 0 < length before.messages → Forbears before after → refusals_left after < refusals_left before
  refuses_fewer before after none is_open some h =
      let starves = one_starves before.is_closed (length before.receivers.told) (length before.messages) before.starving_receivers is_open some none in
      let there = some_is (length before.messages) some in
      with_receiver (struck_off before.starving_receivers) before after refl starves (subst (λ (b : Bool). ForbearsUnless b before after) there h)

  with_any : (off : Option Key) (before after : State T W) → ForbearsWithReceiver off before after → refusals_left after ≤ refusals_left before
  with_any None before after h =
      let fewer = less-no_more before.starving_receivers in
      let as_many : refusals_left after ≡ refusals_for (less_forborne before.starving_receivers) = ap (λ (s : State T W). refusals_for s.starving_receivers) h in
      omega (arith, fewer, as_many)
  with_any (Some key) before after h = gone (Some key) before after h.struck

  unless : (none : Bool) (before after : State T W) → ForbearsUnless none before after → refusals_left after ≤ refusals_left before
  unless true before after h = all_same before after h
  unless false before after h = with_any (struck_off before.starving_receivers) before after h

  no_more : (before after : State T W) → Forbears before after → refusals_left after ≤ refusals_left before
  no_more before after h = unless (length before.messages == 0) before after h

  no_more_for : (key : Option Key) (before after : State T W) → ForbearsFor key before after → refusals_left after ≤ refusals_left before
  no_more_for None before after h = no_more before after h
  no_more_for (Some key) before after h = all_same before after h

  of_sender : (before after : State T W) → after ≡ record before { senders = after.senders; starving_senders = after.starving_senders } → refusals_left after ≤ refusals_left before
  of_sender before after h = same before after (ap (λ (s : State T W). s.starving_receivers) h)

  pub fewer_receives : (before after : State T W) (c : ChannelCall T) → RefusesFewer c before after
  fewer_receives before after (call.Receive (Err Empty)) h is some = refuses_fewer before after h.0.0 h.0.1 some h.1
  fewer_receives before after (call.Receive (Err WasClosed)) h is some = absurd (let none : length before.messages ≡ 0 = ap length h.0.0 in omega (arith, some, none))
  fewer_receives before after (call.ReceiveOrWait false None Absent) (losses, losses', h) is some = refuses_fewer before after h.1 h.2 some h.4
  fewer_receives before after (call.ReceiveOrWait false (Some key) Absent) h is some = absurd (false≢true is)
  fewer_receives before after (call.ReceiveOrWait true key Absent) h is some = refuses_fewer before (record after { streams = h.3.0 }) h.0 h.1 some h.3.1
  fewer_receives before after (call.Send message (Ok sent)) h is some = absurd (false≢true is)
  fewer_receives before after (call.Send message (Err reason)) h is some = absurd (false≢true is)
  fewer_receives before after (call.ForceSend message (Ok None)) h is some = absurd (false≢true is)
  fewer_receives before after (call.ForceSend message (Ok (Some first))) h is some = absurd (false≢true is)
  fewer_receives before after (call.ForceSend message (Err reason)) h is some = absurd (false≢true is)
  fewer_receives before after (call.SendOrWait message key (Done (Ok sent))) h is some = absurd (false≢true is)
  fewer_receives before after (call.SendOrWait message key (Done (Err reason))) h is some = absurd (false≢true is)
  fewer_receives before after (call.SendOrWait message key (Waits waits)) h is some = absurd (false≢true is)
  fewer_receives before after (call.SendOrWait message key Absent) h is some = absurd (false≢true is)
  fewer_receives before after (call.SendOrWait message key (Refused error)) h is some = absurd (false≢true is)
  fewer_receives before after (call.SendOrLeave message key (Ok sent)) h is some = absurd (false≢true is)
  fewer_receives before after (call.SendOrLeave message key (Err reason)) h is some = absurd (false≢true is)
  fewer_receives before after (call.LeaveSenders key) h is some = absurd (false≢true is)
  fewer_receives before after (call.Receive (Ok message)) h is some = absurd (false≢true is)
  fewer_receives before after (call.ReceiveOrWait false key (Done (Some message))) h is some = absurd (false≢true is)
  fewer_receives before after (call.ReceiveOrWait false key (Done None)) h is some = absurd (false≢true is)
  fewer_receives before after (call.ReceiveOrWait false key (Waits waits)) h is some = absurd (false≢true is)
  fewer_receives before after (call.ReceiveOrWait false key (Refused error)) h is some = absurd (false≢true is)
  fewer_receives before after (call.ReceiveOrWait true key (Done (Some message))) h is some = absurd (false≢true is)
  fewer_receives before after (call.ReceiveOrWait true key (Done None)) h is some = absurd (false≢true is)
  fewer_receives before after (call.ReceiveOrWait true key (Waits waits)) h is some = absurd (false≢true is)
  fewer_receives before after (call.ReceiveOrWait true key (Refused error)) h is some = absurd (false≢true is)
  fewer_receives before after (call.ReceiveOrLeave is_stream key (Ok message)) h is some = absurd (false≢true is)
  fewer_receives before after (call.ReceiveOrLeave is_stream key (Err error)) h is some = absurd (false≢true is)
  fewer_receives before after (call.ReceiveMany [] key) h is some = absurd (false≢true is)
  fewer_receives before after (call.ReceiveMany (message ∷ messages) key) h is some = absurd (false≢true is)
  fewer_receives before after (call.LeaveReceivers is_stream key) h is some = absurd (false≢true is)
  fewer_receives before after (call.Close true) h is some = absurd (false≢true is)
  fewer_receives before after (call.Close false) h is some = absurd (false≢true is)
  fewer_receives before after (call.IsClosed answer) h is some = absurd (false≢true is)
  fewer_receives before after (call.IsFull answer) h is some = absurd (false≢true is)
  fewer_receives before after (call.Len count) h is some = absurd (false≢true is)

  pub no_more_receives : (before after : State T W) (c : ChannelCall T) → RefusesNoMore c before after
  no_more_receives before after (call.Send message (Ok sent)) h is = same before after (ap (λ (s : State T W). s.starving_receivers) (h.0.rest))
  no_more_receives before after (call.Send message (Err reason)) h is = of_sender before after (refused_for reason None before after h.1)
  no_more_receives before after (call.ForceSend message (Ok None)) h is = same before after (ap (λ (s : State T W). s.starving_receivers) (h.rest))
  no_more_receives before after (call.ForceSend message (Ok (Some first))) h is = same before after (ap (λ (s : State T W). s.starving_receivers) (h.rest))
  no_more_receives before after (call.ForceSend message (Err reason)) h is = all_same before after h.1
  no_more_receives before after (call.SendOrWait message key (Done (Ok sent))) (losses, losses', h) is = same before after (ap (λ (s : State T W). s.starving_receivers) (h.1.rest))
  no_more_receives before after (call.SendOrWait message key (Done (Err reason))) (losses, losses', h) is = same before after (ap (λ (s : State T W). s.starving_receivers) (h.1))
  no_more_receives before after (call.SendOrWait message key (Waits waits)) (losses, losses', h) is = same before after (ap (λ (s : State T W). s.starving_receivers) (h.2))
  no_more_receives before after (call.SendOrWait message key Absent) (losses, losses', h) is = of_sender before after (sender_kept key before after h.0.4)
  no_more_receives before after (call.SendOrWait message key (Refused error)) (losses, losses', h) is = same before after (ap (λ (s : State T W). s.starving_receivers) (h.2))
  no_more_receives before after (call.SendOrLeave message key (Ok sent)) h is = same before after (ap (λ (s : State T W). s.starving_receivers) h.2.0 ∙ ap (λ (s : State T W). s.starving_receivers) h.1.0.rest)
  no_more_receives before after (call.SendOrLeave message key (Err reason)) h is = same before after (ap (λ (s : State T W). s.starving_receivers) h.2.0 ∙ ap (λ (s : State T W). s.starving_receivers) (refused_for reason key before h.0 h.1.1))
  no_more_receives before after (call.LeaveSenders key) h is = same before after (ap (λ (s : State T W). s.starving_receivers) (h.0))
  no_more_receives before after (call.Receive (Ok message)) h is = same before after (ap (λ (s : State T W). s.starving_receivers) (h.0.rest))
  no_more_receives before after (call.Receive (Err error)) h is = no_more before after h.1
  no_more_receives before after (call.ReceiveOrWait false key (Done (Some message))) (losses, losses', h) is = gone key before after h.2.struck
  no_more_receives before after (call.ReceiveOrWait false key (Done None)) (losses, losses', h) is = gone key before after h.3.struck
  no_more_receives before after (call.ReceiveOrWait false key (Waits waits)) h is = absurd (false≢true (sym is))
  no_more_receives before after (call.ReceiveOrWait false key Absent) (losses, losses', h) is = no_more_for key before after h.4
  no_more_receives before after (call.ReceiveOrWait false key (Refused error)) (losses, losses', h) is = gone_by _ key before after h.4
  no_more_receives before after (call.ReceiveOrWait true key (Done (Some message))) h is = same before after (ap (λ (s : State T W). s.starving_receivers) (h.1.rest))
  no_more_receives before after (call.ReceiveOrWait true key (Done None)) h is = same before after (ap (λ (s : State T W). s.starving_receivers) (h.2))
  no_more_receives before after (call.ReceiveOrWait true key (Waits waits)) h is = same before after (ap (λ (s : State T W). s.starving_receivers) (h.2))
  no_more_receives before after (call.ReceiveOrWait true key Absent) h is = no_more before (record after { streams = h.3.0 }) h.3.1
  no_more_receives before after (call.ReceiveOrWait true key (Refused error)) h is = same before after (ap (λ (s : State T W). s.starving_receivers) (h.2))
  no_more_receives before after (call.ReceiveOrLeave is_stream key (Ok message)) h is =
      let first = same before h.0 (ap (λ (s : State T W). s.starving_receivers) h.1.0.rest) in let last = left is_stream key h.0 after h.2 in omega (arith, first, last)
  no_more_receives before after (call.ReceiveOrLeave is_stream key (Err error)) h is =
      let first = no_more_for (receiver_key is_stream key) before h.0 h.1.1 in let last = left is_stream key h.0 after h.2 in omega (arith, first, last)
  no_more_receives before after (call.ReceiveMany [] key) h is = absurd h.1
  no_more_receives before after (call.ReceiveMany (message ∷ messages) key) h is =
      let some = h.1 in
      let first = same before some.0 (ap (λ (s : State T W). s.starving_receivers) some.1.rest) in
      let more = same some.0 h.0 (ap (λ (s : State T W). s.starving_receivers) some.2.rest) in
      let last = left false key h.0 after h.2 in omega (arith, first, more, last)
  no_more_receives before after (call.LeaveReceivers is_stream key) h is = left is_stream key before after h
  no_more_receives before after (call.Close true) h is = same before after (ap (λ (s : State T W). s.starving_receivers) (h.rest))
  no_more_receives before after (call.Close false) h is = all_same before after h.1
  no_more_receives before after (call.IsClosed answer) h is = all_same before after h.1
  no_more_receives before after (call.IsFull answer) h is = all_same before after h.1
  no_more_receives before after (call.Len count) h is = all_same before after h.1

-- the same of senders
module _ {T W : Type 0} where
  same_sends : (before after : State T W) → after.starving_senders ≡ before.starving_senders → sends_refused after ≤ sends_refused before
  same_sends before after is = let as_many : sends_refused after ≡ sends_refused before = ap refusals_for is in omega (arith, as_many)

  all_same_sends : (before after : State T W) → after ≡ before → sends_refused after ≤ sends_refused before
  all_same_sends before after is = same_sends before after (ap (λ (s : State T W). s.starving_senders) is)

  gone_sends : (key : Option Key) (before after : State T W) → after.starving_senders ≡ but key before.starving_senders → sends_refused after ≤ sends_refused before
  gone_sends key before after is =
      let fewer = left-refused_if key before.starving_senders in
      let as_many : sends_refused after ≡ refusals_for (but key before.starving_senders) = ap refusals_for is in
      omega (arith, fewer, as_many)

  gone_sends_by : (told : Bool) (key : Option Key) (before after : State T W) → after.starving_senders ≡ struck told key before.starving_senders → sends_refused after ≤ sends_refused before
  gone_sends_by told key before after is =
      let fewer = struck-refused told key before.starving_senders in
      let as_many : sends_refused after ≡ refusals_for (struck told key before.starving_senders) = ap refusals_for is in
      omega (arith, fewer, as_many)

  left_senders : (key : Option Key) (before after : State T W) → LeavesSenders key before after → sends_refused after ≤ sends_refused before
  left_senders key before after h = gone_sends key before after h.1.struck

  left_receivers : (is_stream : Bool) (key : Option Key) (before after : State T W) → LeavesReceivers is_stream key before after → sends_refused after ≤ sends_refused before
  left_receivers false key before after h = same_sends before after (ap (λ (s : State T W). s.starving_senders) h.0)
  left_receivers true key before after h = same_sends before after (ap (λ (s : State T W). s.starving_senders) h.0)

  with_sender : (off : Option Key) (before after : State T W) → struck_off before.starving_senders ≡ off → 0 < length before.starving_senders → ForbearsWithSender off before after → sends_refused after < sends_refused before
  with_sender None before after is starves h =
      let fewer = less-refused before.starving_senders is starves in
      let as_many : sends_refused after ≡ refusals_for (less_forborne before.starving_senders) = ap (λ (s : State T W). refusals_for s.starving_senders) h in
      omega (arith, fewer, as_many)
  with_sender (Some key) before after is starves h =
      let fewer = off-refused key before.starving_senders is in
      let as_many : sends_refused after ≡ refusals_for (but (Some key) before.starving_senders) = ap refusals_for h.struck in
      omega (arith, fewer, as_many)

  refuses_fewer_sends : (before after : State T W) → room_for_newcomers before ≡ 0 → before.is_closed ≡ false → 0 < room_in before → ForbearsSending before after → sends_refused after < sends_refused before
  refuses_fewer_sends before after none is_open some h =
      let starves = one_starves before.is_closed (length before.senders.told) (room_in before) before.starving_senders is_open some none in
      let there = some_is (room_in before) some in
      with_sender (struck_off before.starving_senders) before after refl starves (subst (λ (b : Bool). ForbearsSendingUnless b before after) there h)

  with_any_sender : (off : Option Key) (before after : State T W) → ForbearsWithSender off before after → sends_refused after ≤ sends_refused before
  with_any_sender None before after h =
      let fewer = less-no_more before.starving_senders in
      let as_many : sends_refused after ≡ refusals_for (less_forborne before.starving_senders) = ap (λ (s : State T W). refusals_for s.starving_senders) h in
      omega (arith, fewer, as_many)
  with_any_sender (Some key) before after h = gone_sends (Some key) before after h.struck

  sending_unless : (none : Bool) (before after : State T W) → ForbearsSendingUnless none before after → sends_refused after ≤ sends_refused before
  sending_unless true before after h = all_same_sends before after h
  sending_unless false before after h = with_any_sender (struck_off before.starving_senders) before after h

  no_more_sending : (before after : State T W) → ForbearsSending before after → sends_refused after ≤ sends_refused before
  no_more_sending before after h = sending_unless (room_in before == 0) before after h

  sending_for : (key : Option Key) (before after : State T W) → ForbearsSendingFor key before after → sends_refused after ≤ sends_refused before
  sending_for None before after h = no_more_sending before after h
  sending_for (Some key) before after h = all_same_sends before after h

  refused_no_more : (reason : SendReason) (key : Option Key) (before after : State T W) → RefusedFor reason key before after → sends_refused after ≤ sends_refused before
  refused_no_more Closed key before after h = all_same_sends before after h
  refused_no_more Full key before after h = sending_for key before after h
  refused_no_more TimedOut key before after h = all_same_sends before after h
  refused_no_more Memory key before after h = all_same_sends before after h
  refused_no_more (WaitFailed error) key before after h = all_same_sends before after h

  pub fewer_sends : (before after : State T W) (c : ChannelCall T) → RefusesFewerSends c before after
  fewer_sends before after (call.Send message (Err Full)) h is some = refuses_fewer_sends before after h.0.1 h.0.0 some h.1
  fewer_sends before after (call.SendOrWait message None Absent) (losses, losses', h) is some = refuses_fewer_sends before after h.0.1 h.0.2 some h.0.4
  fewer_sends before after (call.SendOrWait message (Some key) Absent) h is some = absurd (false≢true is)
  fewer_sends before after (call.Send message (Ok sent)) h is some = absurd (false≢true is)
  fewer_sends before after (call.Send message (Err Closed)) h is some = absurd (false≢true is)
  fewer_sends before after (call.Send message (Err TimedOut)) h is some = absurd (false≢true is)
  fewer_sends before after (call.Send message (Err Memory)) h is some = absurd (false≢true is)
  fewer_sends before after (call.Send message (Err (WaitFailed error))) h is some = absurd (false≢true is)
  fewer_sends before after (call.ForceSend message (Ok None)) h is some = absurd (false≢true is)
  fewer_sends before after (call.ForceSend message (Ok (Some first))) h is some = absurd (false≢true is)
  fewer_sends before after (call.ForceSend message (Err reason)) h is some = absurd (false≢true is)
  fewer_sends before after (call.SendOrWait message key (Done (Ok sent))) h is some = absurd (false≢true is)
  fewer_sends before after (call.SendOrWait message key (Done (Err reason))) h is some = absurd (false≢true is)
  fewer_sends before after (call.SendOrWait message key (Waits waits)) h is some = absurd (false≢true is)
  fewer_sends before after (call.SendOrWait message key (Refused error)) h is some = absurd (false≢true is)
  fewer_sends before after (call.SendOrLeave message key (Ok sent)) h is some = absurd (false≢true is)
  fewer_sends before after (call.SendOrLeave message key (Err reason)) h is some = absurd (false≢true is)
  fewer_sends before after (call.LeaveSenders key) h is some = absurd (false≢true is)
  fewer_sends before after (call.Receive (Ok message)) h is some = absurd (false≢true is)
  fewer_sends before after (call.Receive (Err error)) h is some = absurd (false≢true is)
  fewer_sends before after (call.ReceiveOrWait false key (Done (Some message))) h is some = absurd (false≢true is)
  fewer_sends before after (call.ReceiveOrWait false key (Done None)) h is some = absurd (false≢true is)
  fewer_sends before after (call.ReceiveOrWait false key (Waits waits)) h is some = absurd (false≢true is)
  fewer_sends before after (call.ReceiveOrWait false key Absent) h is some = absurd (false≢true is)
  fewer_sends before after (call.ReceiveOrWait false key (Refused error)) h is some = absurd (false≢true is)
  fewer_sends before after (call.ReceiveOrWait true key (Done (Some message))) h is some = absurd (false≢true is)
  fewer_sends before after (call.ReceiveOrWait true key (Done None)) h is some = absurd (false≢true is)
  fewer_sends before after (call.ReceiveOrWait true key (Waits waits)) h is some = absurd (false≢true is)
  fewer_sends before after (call.ReceiveOrWait true key Absent) h is some = absurd (false≢true is)
  fewer_sends before after (call.ReceiveOrWait true key (Refused error)) h is some = absurd (false≢true is)
  fewer_sends before after (call.ReceiveOrLeave is_stream key (Ok message)) h is some = absurd (false≢true is)
  fewer_sends before after (call.ReceiveOrLeave is_stream key (Err error)) h is some = absurd (false≢true is)
  fewer_sends before after (call.ReceiveMany [] key) h is some = absurd (false≢true is)
  fewer_sends before after (call.ReceiveMany (message ∷ messages) key) h is some = absurd (false≢true is)
  fewer_sends before after (call.LeaveReceivers is_stream key) h is some = absurd (false≢true is)
  fewer_sends before after (call.Close true) h is some = absurd (false≢true is)
  fewer_sends before after (call.Close false) h is some = absurd (false≢true is)
  fewer_sends before after (call.IsClosed answer) h is some = absurd (false≢true is)
  fewer_sends before after (call.IsFull answer) h is some = absurd (false≢true is)
  fewer_sends before after (call.Len count) h is some = absurd (false≢true is)

  pub no_more_sends : (before after : State T W) (c : ChannelCall T) → RefusesNoMoreSends c before after
  no_more_sends before after (call.Send message (Ok sent)) h is = same_sends before after (ap (λ (s : State T W). s.starving_senders) (h.0.rest))
  no_more_sends before after (call.Send message (Err reason)) h is = refused_no_more reason None before after h.1
  no_more_sends before after (call.ForceSend message (Ok None)) h is = same_sends before after (ap (λ (s : State T W). s.starving_senders) (h.rest))
  no_more_sends before after (call.ForceSend message (Ok (Some first))) h is = same_sends before after (ap (λ (s : State T W). s.starving_senders) (h.rest))
  no_more_sends before after (call.ForceSend message (Err reason)) h is = all_same_sends before after h.1
  no_more_sends before after (call.SendOrWait message key (Done (Ok sent))) (losses, losses', h) is = gone_sends key before after h.2.struck
  no_more_sends before after (call.SendOrWait message key (Done (Err reason))) (losses, losses', h) is = gone_sends key before after h.2.struck
  no_more_sends before after (call.SendOrWait message key (Waits waits)) h is = absurd (false≢true (sym is))
  no_more_sends before after (call.SendOrWait message key Absent) (losses, losses', h) is = sending_for key before after h.0.4
  no_more_sends before after (call.SendOrWait message key (Refused error)) (losses, losses', h) is = gone_sends_by _ key before after h.4
  no_more_sends before after (call.SendOrLeave message key (Ok sent)) h is =
      let first = same_sends before h.0 (ap (λ (s : State T W). s.starving_senders) h.1.0.rest) in let last = left_senders key h.0 after h.2 in omega (arith, first, last)
  no_more_sends before after (call.SendOrLeave message key (Err reason)) h is =
      let first = refused_no_more reason key before h.0 h.1.1 in let last = left_senders key h.0 after h.2 in omega (arith, first, last)
  no_more_sends before after (call.LeaveSenders key) h is = left_senders key before after h
  no_more_sends before after (call.Receive (Ok message)) h is = same_sends before after (ap (λ (s : State T W). s.starving_senders) (h.0.rest))
  no_more_sends before after (call.Receive (Err error)) h is = same_sends before after (ap (λ (s : State T W). s.starving_senders) (forborne before after h.1))
  no_more_sends before after (call.ReceiveOrWait false key (Done (Some message))) (losses, losses', h) is = same_sends before after (ap (λ (s : State T W). s.starving_senders) (h.1.rest))
  no_more_sends before after (call.ReceiveOrWait false key (Done None)) (losses, losses', h) is = same_sends before after (ap (λ (s : State T W). s.starving_senders) (h.2))
  no_more_sends before after (call.ReceiveOrWait false key (Waits waits)) (losses, losses', h) is = same_sends before after (ap (λ (s : State T W). s.starving_senders) (h.2))
  no_more_sends before after (call.ReceiveOrWait false key Absent) (losses, losses', h) is = same_sends before after (ap (λ (s : State T W). s.starving_senders) (forborne_for key before after h.4))
  no_more_sends before after (call.ReceiveOrWait false key (Refused error)) (losses, losses', h) is = same_sends before after (ap (λ (s : State T W). s.starving_senders) (h.2))
  no_more_sends before after (call.ReceiveOrWait true key (Done (Some message))) h is = same_sends before after (ap (λ (s : State T W). s.starving_senders) (h.1.rest))
  no_more_sends before after (call.ReceiveOrWait true key (Done None)) h is = same_sends before after (ap (λ (s : State T W). s.starving_senders) (h.2))
  no_more_sends before after (call.ReceiveOrWait true key (Waits waits)) h is = same_sends before after (ap (λ (s : State T W). s.starving_senders) (h.2))
  no_more_sends before after (call.ReceiveOrWait true key Absent) h is = same_sends before after (ap (λ (s : State T W). s.starving_senders) (forborne before (record after { streams = h.3.0 }) h.3.1))
  no_more_sends before after (call.ReceiveOrWait true key (Refused error)) h is = same_sends before after (ap (λ (s : State T W). s.starving_senders) (h.2))
  no_more_sends before after (call.ReceiveOrLeave is_stream key (Ok message)) h is =
      let first = same_sends before h.0 (ap (λ (s : State T W). s.starving_senders) h.1.0.rest) in let last = left_receivers is_stream key h.0 after h.2 in omega (arith, first, last)
  no_more_sends before after (call.ReceiveOrLeave is_stream key (Err error)) h is =
      let first = same_sends before h.0 (ap (λ (s : State T W). s.starving_senders) (forborne_for (receiver_key is_stream key) before h.0 h.1.1)) in let last = left_receivers is_stream key h.0 after h.2 in omega (arith, first, last)
  no_more_sends before after (call.ReceiveMany [] key) h is = absurd h.1
  no_more_sends before after (call.ReceiveMany (message ∷ messages) key) h is =
      let some = h.1 in
      let first = same_sends before some.0 (ap (λ (s : State T W). s.starving_senders) some.1.rest) in
      let more = same_sends some.0 h.0 (ap (λ (s : State T W). s.starving_senders) some.2.rest) in
      let last = left_receivers false key h.0 after h.2 in omega (arith, first, more, last)
  no_more_sends before after (call.LeaveReceivers is_stream key) h is = left_receivers is_stream key before after h
  no_more_sends before after (call.Close true) h is = same_sends before after (ap (λ (s : State T W). s.starving_senders) (h.rest))
  no_more_sends before after (call.Close false) h is = all_same_sends before after h.1
  no_more_sends before after (call.IsClosed answer) h is = all_same_sends before after h.1
  no_more_sends before after (call.IsFull answer) h is = all_same_sends before after h.1
  no_more_sends before after (call.Len count) h is = all_same_sends before after h.1
