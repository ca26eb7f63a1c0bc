-- While a receiver starves no call has more of them notified above the messages.
use Rattle.std.proofs.Common.{◌≡◌, ℕ, ◌+◌, ◌-◌, ◌<◌, ◌≤◌, ◌==◌, min, max, Bool, true, false, List, [], ◌∷◌, length, refl, sym, ap, subst, ◌∙◌, inl, inr, arith, length-append, Option, Some, None, is_some, Ok, Err}
use Rattle.std.proofs.lemmas.Bool.{false≢true}
use Rattle.std.specs.Map.{lookup, remove_entry}
use Rattle.event_queue.specs.declared.key.Key.{Key}
use Rattle.event_queue.specs.declared.reply.ListenError.{ListenError}
use Rattle.event_queue.specs.Key.{is_key}
use Rattle.event_queue.specs.Queue.{Queue}
use Rattle.event_wait.specs.Line.{Leaves, LeavesThenTells, others_of}
use Rattle.event_wait.specs.declared.request.Attempted.TheVariants.{Done, Waits, Absent, Refused}
use Rattle.event_channel.specs.declared.call.ChannelCall.{ChannelCall}
use Rattle.event_channel.specs.declared.call.ChannelCall.TheVariants as call
use Rattle.event_channel.specs.Calls.{LeavesReceivers, LeavesSenders, receiver_key}
use Rattle.event_channel.specs.Messages.{State, due_to_no_other, for_newcomers, for_one, room_for_newcomers, room_for_one, room_in}
use Rattle.event_channel.specs.Forbearing.{Forbears, ForbearsFor, ForbearsSending, ForbearsSendingFor, ForbearsSendingUnless, ForbearsUnless, ForbearsWithReceiver, ForbearsWithSender, RefusedFor}
use Rattle.event_channel.specs.declared.error.SendReason.{SendReason}
use Rattle.event_channel.specs.declared.error.SendReason.TheVariants.{Closed, Full, TimedOut, Memory, WaitFailed}
use Rattle.event_channel.proofs.ForbearLemmas.{forborne, forborne_for, refused_for, sending_for}
use Rattle.event_channel.specs.Served.{LosesByThose, NoMoreInVain, NoMoreSendersInVain, OneStarves, SenderLosesByThose, receivers_in_vain, senders_in_vain}
use Rattle.event_channel.specs.Steps.{Closes, Pushes, Replaces, Takes}
use Rattle.event_channel.specs.Turns.{CannotWaitInTurn, Starving, is_told, struck_off, told_beside}
use Rattle.event_channel.specs.Waits.{but_receivers, but_receivers_and_streams, but_senders}

module _ {X : Type 0} where
  fewer : (test : Key → Bool) (entries : List (Key × X)) → length (remove_entry test entries) ≤ length entries
  fewer test [] = omega arith
  fewer test (e ∷ es) = by_test (test e.0) refl (fewer test es)
    where
      by_test : (b : Bool) → test e.0 ≡ b → length (remove_entry test es) ≤ length es → length (remove_entry test (e ∷ es)) ≤ length (e ∷ es)
      by_test true goes rest = rw goes (omega (arith, rest))
      by_test false stays rest = rw stays (omega (arith, rest))

  one_fewer : (test : Key → Bool) (entries : List (Key × X)) → is_some (lookup test entries) ≡ true → length (remove_entry test entries) < length entries
  one_fewer test [] found = absurd (false≢true found)
  one_fewer test (e ∷ es) found = by_test (test e.0) refl (one_fewer test es)
    where
      by_test : (b : Bool) → test e.0 ≡ b → (is_some (lookup test es) ≡ true → length (remove_entry test es) < length es) → length (remove_entry test (e ∷ es)) < length (e ∷ es)
      by_test true goes rest = let few = fewer test es in rw goes (omega (arith, few))
      by_test false stays rest = let few = rest (rw stays at found) in rw stays (omega (arith, few))

  others_fewer : (key : Option Key) (entries : List (Key × X)) → length (others_of key entries) ≤ length entries
  others_fewer None entries = omega arith
  others_fewer (Some key) entries = fewer (is_key key) entries

-- with numbers: before and after, messages and those that are notified
told_more : (m t w m' t' : ℕ) → m' ≡ m + 1 → t' ≡ t + min (max m' (t + 1) - t) w → t' - m' ≤ t - m
told_more m t w m' t' more told = omega (arith, more, told)

told_again : (m t o w t' : ℕ) → o ≤ t → t' ≡ o + min (m - o) w → t' - m ≤ t - m
told_again m t o w t' few told = omega (arith, few, told)

one_came : (m t o w m' t' : ℕ) → m ≡ m' + 1 → o < t → t' ≡ o + min (m' - o) w → t' - m' ≤ t - m
one_came m t o w m' t' one few told = omega (arith, one, few, told)

more_places : (capacity m m' k t w room t' : ℕ) → m ≤ capacity → m ≡ k + m' → room ≡ capacity - m' → t' ≡ t + min (max room (t + k) - t) w → t' - room ≤ t - (capacity - m)
more_places capacity m m' k t w room t' fits fewer is told = omega (arith, fits, fewer, is, told)

module _ {W : Type 0} where
  -- how many are notified once one has left and others are notified in its place
  left_then_told : (key : Option Key) (n m t : ℕ) (old new : Queue (Unit {0}) W) → LeavesThenTells key n old new → length old.told ≤ t → m ≤ n → length new.told - n ≤ t - m
  left_then_told None n m t old new left few less = let same : length new.told ≡ length old.told = ap (λ (q : Queue (Unit {0}) W). length q.told) left in omega (arith, same, few, less)
  left_then_told (Some key) n m t old new left few less =
      let rest = fewer (is_key key) old.told in
      omega (arith, left.tells.told, rest, few, less)

  -- of one that was notified there is one fewer
  came_then_told : (key : Option Key) (n : ℕ) (old new : Queue (Unit {0}) W) → is_told key old ≡ true → LeavesThenTells key n old new → length new.told - n ≤ length old.told - (n + 1)
  came_then_told None n old new told left = absurd (false≢true told)
  came_then_told (Some key) n old new told left =
      let rest = one_fewer (is_key key) old.told told in
      omega (arith, left.tells.told, rest)

  left_fewer : (key : Option Key) (old new : Queue (Unit {0}) W) → Leaves key old new → length new.told ≤ length old.told
  left_fewer None old new left = let same : length new.told ≡ length old.told = ap (λ (q : Queue (Unit {0}) W). length q.told) left in omega (arith, same)
  left_fewer (Some key) old new left =
      let rest = fewer (is_key key) old.told in
      let same : length new.told ≡ length (remove_entry (is_key key) old.told) = ap length left.told in
      omega (arith, same, rest)

  others_one_fewer : (key : Option Key) (q : Queue (Unit {0}) W) → is_told key q ≡ true → length (others_of key q.told) < length q.told
  others_one_fewer None q told = absurd (false≢true told)
  others_one_fewer (Some key) q told = one_fewer (is_key key) q.told told

module _ {T W : Type 0} where
  -- while one starves in an open channel there is for newcomers what is not due
  newcomers_leave : (s : State T W) → s.is_closed ≡ false → 0 < length s.starving_receivers → for_newcomers s ≡ length s.messages - length s.receivers.told
  newcomers_leave s is_open starves = by_keys s.starving_receivers refl
    where
      by_keys : (keys : List Starving) → s.starving_receivers ≡ keys → for_newcomers s ≡ length s.messages - length s.receivers.told
      by_keys [] is = absurd (let none : length s.starving_receivers ≡ 0 = ap length is in omega (arith, starves, none))
      by_keys (key ∷ keys) is = let some : (length (key ∷ keys) == 0) ≡ false = grind arith in rw (is_open, is, some) refl

  shorter : (taken : List T) (before after : State T W) → Takes taken before after → length before.messages ≡ length taken + length after.messages
  shorter taken before after h = ap length h.first ∙ length-append taken after.messages

  no_other : (before after : State T W) → length after.messages ≡ length before.messages → length after.receivers.told ≤ length before.receivers.told → receivers_in_vain after ≤ receivers_in_vain before
  no_other before after same few = omega (arith, same, few)

  as_before : (before after : State T W) → after.messages ≡ before.messages → after.receivers ≡ before.receivers → receivers_in_vain after ≤ receivers_in_vain before
  as_before before after messages line =
      let told : length after.receivers.told ≡ length before.receivers.told = ap (λ (q : Queue (Unit {0}) W). length q.told) line in
      no_other before after (ap length messages) (omega (arith, told))

  alike : (before after : State T W) → after ≡ before → receivers_in_vain after ≤ receivers_in_vain before
  alike before after same = as_before before after (ap (λ (s : State T W). s.messages) same) (ap (λ (s : State T W). s.receivers) same)

  pushed : (message : T) (before after : State T W) → Pushes message before after → receivers_in_vain after ≤ receivers_in_vain before
  pushed message before after h =
      let more : length after.messages ≡ length before.messages + 1 = ap (λ (s : State T W). length s.messages) h.rest ∙ length-append before.messages (message ∷ []) in
      told_more (length before.messages) (length before.receivers.told) (length before.receivers.waiting) (length after.messages) (length after.receivers.told) more h.receivers.told

  replaced : (message first : T) (before after : State T W) → Replaces message first before after → receivers_in_vain after ≤ receivers_in_vain before
  replaced message first before after h =
      let moved : length before.messages + 1 ≡ 1 + length after.messages = sym (length-append before.messages (message ∷ [])) ∙ ap length h.moves ∙ length-append (first ∷ []) after.messages in
      let told : length after.receivers.told ≡ length before.receivers.told = ap (λ (s : State T W). length s.receivers.told) h.rest in
      omega (arith, moved, told)

  sender_left : (key : Option Key) (before after : State T W) → LeavesSenders key before after → receivers_in_vain after ≤ receivers_in_vain before
  sender_left key before after h = as_before before after (ap (λ (s : State T W). s.messages) h.0) (ap (λ (s : State T W). s.receivers) h.0)

  left : (is_stream : Bool) (key : Option Key) (before after : State T W) → LeavesReceivers is_stream key before after → receivers_in_vain after ≤ receivers_in_vain before
  left false key before after h =
      let same : length after.messages ≡ length before.messages = ap (λ (s : State T W). length s.messages) h.0 in
      left_then_told key (length after.messages) (length before.messages) (length before.receivers.told) before.receivers after.receivers h.1.left (omega arith) (omega (arith, same))
  left true key before after h = as_before before after (ap (λ (s : State T W). s.messages) h.0) (ap (λ (s : State T W). s.receivers) h.0)

  -- one took the first message that was there for it, and left the queue
  one_out : (key : Option Key) (message : T) (before between : State T W) (n : ℕ) (line : Queue (Unit {0}) W) → Takes (message ∷ []) before between → n ≡ length between.messages → 0 < for_one key before
      → LeavesThenTells key n before.receivers line → before.is_closed ≡ false → 0 < length before.starving_receivers → length line.told - n ≤ receivers_in_vain before
  one_out key message before between n line takes is may leaves is_open starves = by (is_told key before.receivers) refl
    where
      one : length before.messages ≡ 1 + length between.messages
      one = shorter (message ∷ []) before between takes

      by : (b : Bool) → is_told key before.receivers ≡ b → length line.told - n ≤ receivers_in_vain before
      by true told = let fewer = came_then_told key n before.receivers line told leaves in omega (arith, fewer, one, is)
      by false untold =
          let some : 0 < for_newcomers before = rw untold at may in
          let there = newcomers_leave before is_open starves in
          let few : length before.receivers.told ≤ n = omega (arith, some, there, one, is) in
          let told = left_then_told key n n (length before.receivers.told) before.receivers line leaves (omega arith) (omega arith) in
          omega (arith, told, few)

  same_line : (taken : List T) (before between : State T W) → Takes taken before between → between.receivers ≡ before.receivers
  same_line taken before between takes = ap (λ (s : State T W). s.receivers) takes.rest

  same_gate : (taken : List T) (before between : State T W) → Takes taken before between → between.is_closed ≡ before.is_closed
  same_gate taken before between takes = ap (λ (s : State T W). s.is_closed) takes.rest

  one_out_then_left : (is_stream : Bool) (key : Option Key) (message : T) (before between after : State T W) → Takes (message ∷ []) before between → 0 < for_one (receiver_key is_stream key) before
      → LeavesReceivers is_stream key between after → OneStarves before after → receivers_in_vain after ≤ receivers_in_vain before
  one_out_then_left false key message before between after takes may leaves starves =
      let is_open = sym (same_gate (message ∷ []) before between takes) ∙ sym (ap (λ (s : State T W). s.is_closed) leaves.0) ∙ starves.1 in
      one_out key message before between (length after.messages) after.receivers takes (ap (λ (s : State T W). length s.messages) leaves.0) may
      (subst (λ (q : Queue (Unit {0}) W). LeavesThenTells key (length after.messages) q after.receivers) (same_line (message ∷ []) before between takes) leaves.1.left) is_open starves.0
  one_out_then_left true key message before between after takes may leaves starves =
      let is_open = sym (same_gate (message ∷ []) before between takes) ∙ sym (ap (λ (s : State T W). s.is_closed) leaves.0) ∙ starves.1 in
      let line : after.receivers ≡ before.receivers = ap (λ (s : State T W). s.receivers) leaves.0 ∙ same_line (message ∷ []) before between takes in
      one_out None message before between (length after.messages) after.receivers takes (ap (λ (s : State T W). length s.messages) leaves.0) may line is_open starves.0

  -- while one starves in an open channel there is for one beside others what is not due to them
  others_leave : (key : Option Key) (s : State T W) → s.is_closed ≡ false → 0 < length s.starving_receivers
      → due_to_no_other key s ≡ length s.messages - told_beside (is_told key s.receivers) (length s.receivers.told)
  others_leave key s is_open starves = by_keys s.starving_receivers refl
    where
      by_keys : (keys : List Starving) → s.starving_receivers ≡ keys → due_to_no_other key s ≡ length s.messages - told_beside (is_told key s.receivers) (length s.receivers.told)
      by_keys [] is = absurd (let none : length s.starving_receivers ≡ 0 = ap length is in omega (arith, starves, none))
      by_keys (one ∷ more) is = let some : (length (one ∷ more) == 0) ≡ false = grind arith in rw (is_open, is, some) refl

  -- one took the first message, and the rest that were due to no other, and left the queue
  many_out : (key : Option Key) (message : T) (messages : List T) (before between taken after : State T W) → Takes (message ∷ []) before between → Takes messages between taken
      → 0 < for_one key before → length messages ≤ due_to_no_other key between → LeavesReceivers false key taken after → OneStarves before after
      → receivers_in_vain after ≤ receivers_in_vain before
  many_out key message messages before between taken after first rest may few leaves starves = by (is_told key before.receivers) refl
    where
      one : length before.messages ≡ 1 + length between.messages
      one = shorter (message ∷ []) before between first

      more : length between.messages ≡ length messages + length taken.messages
      more = shorter messages between taken rest

      same : length after.messages ≡ length taken.messages
      same = ap (λ (s : State T W). length s.messages) leaves.0

      is_open : before.is_closed ≡ false
      is_open = sym (same_gate (message ∷ []) before between first) ∙ sym (same_gate messages between taken rest) ∙ sym (ap (λ (s : State T W). s.is_closed) leaves.0) ∙ starves.1

      open_between : between.is_closed ≡ false
      open_between = same_gate (message ∷ []) before between first ∙ is_open

      keys : length between.starving_receivers ≡ length before.starving_receivers
      keys = ap (λ (s : State T W). length s.starving_receivers) first.rest

      line : between.receivers ≡ before.receivers
      line = same_line (message ∷ []) before between first

      last : LeavesThenTells key (length after.messages) before.receivers after.receivers
      last = subst (λ (q : Queue (Unit {0}) W). LeavesThenTells key (length after.messages) q after.receivers) (same_line messages between taken rest ∙ line) leaves.1.left

      undue : due_to_no_other key between ≡ length between.messages - told_beside (is_told key before.receivers) (length before.receivers.told)
      undue =
          others_leave key between open_between (omega (arith, starves.0, keys))
          ∙ ap (λ (q : Queue (Unit {0}) W). length between.messages - told_beside (is_told key q) (length q.told)) line

      by : (b : Bool) → is_told key before.receivers ≡ b → receivers_in_vain after ≤ receivers_in_vain before
      by true told =
          let there : due_to_no_other key between ≡ length between.messages - (length before.receivers.told - 1) = rw told at undue in
          let fewer = came_then_told key (length after.messages) before.receivers after.receivers told last in
          omega (arith, one, more, same, there, few, fewer)
      by false untold =
          let there : due_to_no_other key between ≡ length between.messages - length before.receivers.told = rw untold at undue in
          let some : 0 < for_newcomers before = rw untold at may in
          let there_first = newcomers_leave before is_open starves.0 in
          let left_now = left_then_told key (length after.messages) (length after.messages) (length before.receivers.told) before.receivers after.receivers last (omega arith) (omega arith) in
          omega (arith, one, more, same, there, few, some, there_first, left_now)

  waits_still : (key : Option Key) (before : State T W) (line : Queue (Unit {0}) W) (n : ℕ) → line.told ≡ others_of key before.receivers.told → n ≡ length before.messages → length line.told - n ≤ receivers_in_vain before
  waits_still key before line n told same =
      let few = others_fewer key before.receivers.told in
      let is : length line.told ≡ length (others_of key before.receivers.told) = ap length told in
      omega (arith, few, is, same)

  cannot_wait : (told : Bool) (key : Option Key) (losses : ℕ) (error : ListenError) (before : State T W) (line : Queue (Unit {0}) W) → CannotWaitInTurn told key losses error before.receivers line → length line.told ≤ length before.receivers.told
  cannot_wait told key losses error before line (inl h) = left_fewer key before.receivers line h.leaves
  cannot_wait told key losses error before line (inr h) = left_fewer key before.receivers line h.3

  -- one was refused for the sake of those that starve: one that is struck off may be notified no more, and the next is in its place
  with_receiver : (key : Option Key) (before after : State T W) → ForbearsWithReceiver key before after → receivers_in_vain after ≤ receivers_in_vain before
  with_receiver None before after h = as_before before after (ap (λ (s : State T W). s.messages) h) (ap (λ (s : State T W). s.receivers) h)
  with_receiver (Some key) before after h = by (is_told (Some key) before.receivers) refl
    where
      same : length after.messages ≡ length before.messages
      same = ap (λ (s : State T W). length s.messages) h.rest

      by : (b : Bool) → is_told (Some key) before.receivers ≡ b → receivers_in_vain after ≤ receivers_in_vain before
      by true is = left_then_told (Some key) (length after.messages) (length before.messages) (length before.receivers.told) before.receivers after.receivers (h.told is) (omega arith) (omega (arith, same))
      by false is = as_before before after (ap (λ (s : State T W). s.messages) h.rest) (h.waits is)

  unless : (none : Bool) (before after : State T W) → ForbearsUnless none before after → receivers_in_vain after ≤ receivers_in_vain before
  unless true before after h = alike before after h
  unless false before after h = with_receiver (struck_off before.starving_receivers) before after h

  forborne_in_vain : (before after : State T W) → Forbears before after → receivers_in_vain after ≤ receivers_in_vain before
  forborne_in_vain before after h = unless (length before.messages == 0) before after h

  forborne_in_vain_for : (key : Option Key) (before after : State T W) → ForbearsFor key before after → receivers_in_vain after ≤ receivers_in_vain before
  forborne_in_vain_for None before after h = forborne_in_vain before after h
  forborne_in_vain_for (Some key) before after h = alike before after h

  sender_refused : (reason : SendReason) (key : Option Key) (before after : State T W) → RefusedFor reason key before after → receivers_in_vain after ≤ receivers_in_vain before
  sender_refused reason key before after h =
      let left = refused_for reason key before after h in
      as_before before after (ap (λ (s : State T W). s.messages) left) (ap (λ (s : State T W). s.receivers) left)

  sender_forborne : (key : Option Key) (before after : State T W) → ForbearsSendingFor key before after → receivers_in_vain after ≤ receivers_in_vain before
  sender_forborne key before after h =
      let left = sending_for key before after h in
      as_before before after (ap (λ (s : State T W). s.messages) left) (ap (λ (s : State T W). s.receivers) left)

  closed_by : (before after : State T W) → Closes before after → after.is_closed ≡ true
  closed_by before after h = ap (λ (s : State T W). s.is_closed) h.rest

  pub no_more_in_vain : (before after : State T W) (c : ChannelCall T) → NoMoreInVain c before after
  no_more_in_vain before after (call.Send message (Ok sent)) h starves = pushed message before after h.0
  no_more_in_vain before after (call.Send message (Err reason)) h starves = sender_refused reason None before after h.1
  no_more_in_vain before after (call.ForceSend message (Ok None)) h starves = pushed message before after h
  no_more_in_vain before after (call.ForceSend message (Ok (Some first))) h starves = replaced message first before after h
  no_more_in_vain before after (call.ForceSend message (Err reason)) h starves = alike before after h.1
  no_more_in_vain before after (call.SendOrWait message key (Done (Ok sent))) (losses, losses', h) starves = pushed message before (but_senders before after) h.1
  no_more_in_vain before after (call.SendOrWait message key (Done (Err reason))) (losses, losses', h) starves = alike before (but_senders before after) h.1
  no_more_in_vain before after (call.SendOrWait message key (Waits waits)) (losses, losses', h) starves = alike before (but_senders before after) h.2
  no_more_in_vain before after (call.SendOrWait message key Absent) (losses, losses', h) starves = sender_forborne key before after h.0.4
  no_more_in_vain before after (call.SendOrWait message key (Refused error)) (losses, losses', h) starves = alike before (but_senders before after) h.2
  no_more_in_vain before after (call.SendOrLeave message key (Ok sent)) h starves =
      let first = pushed message before h.0 h.1.0 in let last = sender_left key h.0 after h.2 in omega (arith, first, last)
  no_more_in_vain before after (call.SendOrLeave message key (Err reason)) h starves =
      let first = sender_refused reason key before h.0 h.1.1 in let last = sender_left key h.0 after h.2 in omega (arith, first, last)
  no_more_in_vain before after (call.LeaveSenders key) h starves = sender_left key before after h
  no_more_in_vain before after (call.Receive (Ok message)) h starves =
      let is_open = sym (same_gate (message ∷ []) before after h.0) ∙ starves.1 in
      one_out None message before after (length after.messages) after.receivers h.0 refl h.1 (same_line (message ∷ []) before after h.0) is_open starves.0
  no_more_in_vain before after (call.Receive (Err error)) h starves = forborne_in_vain before after h.1
  no_more_in_vain before after (call.ReceiveOrWait false key (Done (Some message))) (losses, losses', h) starves =
      let is_open = sym (same_gate (message ∷ []) before (but_receivers_and_streams before after) h.1) ∙ starves.1 in
      one_out key message before (but_receivers_and_streams before after) (length after.messages) after.receivers h.1 refl h.0 h.2.left is_open starves.0
  no_more_in_vain before after (call.ReceiveOrWait false key (Done None)) (losses, losses', h) starves =
      let same : length after.messages ≡ length before.messages = ap (λ (s : State T W). length s.messages) h.2 in
      left_then_told key (length after.messages) (length before.messages) (length before.receivers.told) before.receivers after.receivers h.3.left (omega arith) (omega (arith, same))
  no_more_in_vain before after (call.ReceiveOrWait false key (Waits waits)) (losses, losses', h) starves =
      waits_still key before after.receivers (length after.messages) h.3.told (ap (λ (s : State T W). length s.messages) h.2)
  no_more_in_vain before after (call.ReceiveOrWait false key Absent) (losses, losses', h) starves = forborne_in_vain_for key before after h.4
  no_more_in_vain before after (call.ReceiveOrWait false key (Refused error)) (losses, losses', h) starves =
      no_other before after (ap (λ (s : State T W). length s.messages) h.2) (cannot_wait (is_told key before.receivers) key losses error before after.receivers h.3)
  no_more_in_vain before after (call.ReceiveOrWait true key (Done (Some message))) h starves =
      let rest : State T W = record after { streams = before.streams } in
      let is_open = sym (same_gate (message ∷ []) before rest h.1) ∙ starves.1 in
      one_out None message before rest (length after.messages) after.receivers h.1 refl h.0 (same_line (message ∷ []) before rest h.1) is_open starves.0
  no_more_in_vain before after (call.ReceiveOrWait true key (Done None)) h starves = alike before (record after { streams = before.streams }) h.2
  no_more_in_vain before after (call.ReceiveOrWait true key (Waits waits)) h starves = alike before (record after { streams = before.streams }) h.2
  no_more_in_vain before after (call.ReceiveOrWait true key Absent) h starves = forborne_in_vain before (record after { streams = h.3.0 }) h.3.1
  no_more_in_vain before after (call.ReceiveOrWait true key (Refused error)) h starves = alike before (record after { streams = before.streams }) h.2
  no_more_in_vain before after (call.ReceiveOrLeave is_stream key (Ok message)) h starves =
      one_out_then_left is_stream key message before h.0 after h.1.0 h.1.1 h.2 starves
  no_more_in_vain before after (call.ReceiveOrLeave is_stream key (Err error)) h starves =
      let first = forborne_in_vain_for (receiver_key is_stream key) before h.0 h.1.1 in let last = left is_stream key h.0 after h.2 in omega (arith, first, last)
  no_more_in_vain before after (call.ReceiveMany [] key) h starves = absurd h.1
  no_more_in_vain before after (call.ReceiveMany (message ∷ messages) key) h starves =
      let some = h.1 in many_out key message messages before some.0 h.0 after some.1 some.2 some.3 some.4 h.2 starves
  no_more_in_vain before after (call.LeaveReceivers is_stream key) h starves = left is_stream key before after h
  no_more_in_vain before after (call.Close true) h starves = absurd (false≢true (sym starves.1 ∙ closed_by before after h))
  no_more_in_vain before after (call.Close false) h starves = alike before after h.1
  no_more_in_vain before after (call.IsClosed answer) h starves = alike before after h.1
  no_more_in_vain before after (call.IsFull answer) h starves = alike before after h.1
  no_more_in_vain before after (call.Len count) h starves = alike before after h.1

  pub loses_by_those : (before after : State T W) (key : Option Key) (waits : Key) → LosesByThose key waits before after
  loses_by_those before after key waits (losses, losses', h) told =
      let none : length before.messages ≡ 0 = rw told at h.0 in
      let same : length after.messages ≡ length before.messages = ap (λ (s : State T W). length s.messages) h.2 in
      let few = others_one_fewer key before.receivers told in
      let is : length after.receivers.told ≡ length (others_of key before.receivers.told) = ap length h.3.told in
      omega (arith, none, same, few, is)

-- the same of senders, where no more messages are there than may be
module _ {T W : Type 0} where
  newcomers_leave_places : (s : State T W) → s.is_closed ≡ false → 0 < length s.starving_senders → room_for_newcomers s ≡ room_in s - length s.senders.told
  newcomers_leave_places s is_open starves = by_keys s.starving_senders refl
    where
      by_keys : (keys : List Starving) → s.starving_senders ≡ keys → room_for_newcomers s ≡ room_in s - length s.senders.told
      by_keys [] is = absurd (let none : length s.starving_senders ≡ 0 = ap length is in omega (arith, starves, none))
      by_keys (key ∷ keys) is = let some : (length (key ∷ keys) == 0) ≡ false = grind arith in rw (is_open, is, some) refl

  alike_there : (before after : State T W) → room_in after ≡ room_in before → after.senders ≡ before.senders → senders_in_vain after ≤ senders_in_vain before
  alike_there before after room line =
      let told : length after.senders.told ≡ length before.senders.told = ap (λ (q : Queue (Unit {0}) W). length q.told) line in
      omega (arith, room, told)

  same_there : (before after : State T W) → after ≡ before → senders_in_vain after ≤ senders_in_vain before
  same_there before after same = alike_there before after (ap (λ (s : State T W). room_in s) same) (ap (λ (s : State T W). s.senders) same)

  replaced_there : (message first : T) (before after : State T W) → Replaces message first before after → senders_in_vain after ≤ senders_in_vain before
  replaced_there message first before after h =
      let moved : length before.messages + 1 ≡ 1 + length after.messages = sym (length-append before.messages (message ∷ [])) ∙ ap length h.moves ∙ length-append (first ∷ []) after.messages in
      let room : after.capacity ≡ before.capacity = ap (λ (s : State T W). s.capacity) h.rest in
      alike_there before after (omega (arith, moved, room)) (ap (λ (s : State T W). s.senders) h.rest)

  -- messages were taken: so many places more are there, and as many senders more are notified at most
  taken_there : (taken : List T) (before after : State T W) → Takes taken before after → length before.messages ≤ before.capacity → senders_in_vain after ≤ senders_in_vain before
  taken_there taken before after h fits =
      let fewer = shorter taken before after h in
      let room : after.capacity ≡ before.capacity = ap (λ (s : State T W). s.capacity) h.rest in
      more_places before.capacity (length before.messages) (length after.messages) (length taken) (length before.senders.told) (length before.senders.waiting) (room_in after) (length after.senders.told)
      fits fewer (omega (arith, room)) h.senders.told

  receiver_left : (is_stream : Bool) (key : Option Key) (before after : State T W) → LeavesReceivers is_stream key before after → senders_in_vain after ≤ senders_in_vain before
  receiver_left false key before after h = alike_there before after (ap (λ (s : State T W). room_in s) h.0) (ap (λ (s : State T W). s.senders) h.0)
  receiver_left true key before after h = alike_there before after (ap (λ (s : State T W). room_in s) h.0) (ap (λ (s : State T W). s.senders) h.0)

  left_there : (key : Option Key) (before after : State T W) → LeavesSenders key before after → senders_in_vain after ≤ senders_in_vain before
  left_there key before after h =
      let same : room_in after ≡ room_in before = ap (λ (s : State T W). room_in s) h.0 in
      left_then_told key (room_in after) (room_in before) (length before.senders.told) before.senders after.senders h.1.left (omega arith) (omega (arith, same))

  -- one put its message where there was room for it, and left the queue
  one_in : (key : Option Key) (message : T) (before between : State T W) (n : ℕ) (line : Queue (Unit {0}) W) → Pushes message before between → n ≡ room_in between → 0 < room_for_one key before
      → LeavesThenTells key n before.senders line → before.is_closed ≡ false → 0 < length before.starving_senders → length line.told - n ≤ senders_in_vain before
  one_in key message before between n line pushes is may leaves is_open starves = by (is_told key before.senders) refl
    where
      more : length between.messages ≡ length before.messages + 1
      more = ap (λ (s : State T W). length s.messages) pushes.rest ∙ length-append before.messages (message ∷ [])

      capacity : between.capacity ≡ before.capacity
      capacity = ap (λ (s : State T W). s.capacity) pushes.rest

      one : room_in before ≡ n + 1
      one = omega (arith, more, capacity, is, pushes.has_room)

      by : (b : Bool) → is_told key before.senders ≡ b → length line.told - n ≤ senders_in_vain before
      by true told = let fewer = came_then_told key n before.senders line told leaves in omega (arith, fewer, one)
      by false untold =
          let some : 0 < room_for_newcomers before = rw untold at may in
          let there = newcomers_leave_places before is_open starves in
          let few : length before.senders.told ≤ n = omega (arith, some, there, one) in
          let told = left_then_told key n n (length before.senders.told) before.senders line leaves (omega arith) (omega arith) in
          omega (arith, told, few)

  one_in_then_left : (key : Option Key) (message : T) (before between after : State T W) → Pushes message before between → 0 < room_for_one key before → LeavesSenders key between after
      → before.is_closed ≡ false → 0 < length before.starving_senders → senders_in_vain after ≤ senders_in_vain before
  one_in_then_left key message before between after pushes may leaves is_open starves =
      one_in key message before between (room_in after) after.senders pushes (ap (λ (s : State T W). room_in s) leaves.0) may
      (subst (λ (q : Queue (Unit {0}) W). LeavesThenTells key (room_in after) q after.senders) (ap (λ (s : State T W). s.senders) pushes.rest) leaves.1.left) is_open starves

  fits_still : (message : T) (before between : State T W) → Takes (message ∷ []) before between → length before.messages ≤ before.capacity → length between.messages ≤ between.capacity
  fits_still message before between takes fits =
      let fewer = shorter (message ∷ []) before between takes in
      let room : between.capacity ≡ before.capacity = ap (λ (s : State T W). s.capacity) takes.rest in
      omega (arith, fewer, room, fits)

  waits_there : (key : Option Key) (before : State T W) (line : Queue (Unit {0}) W) (n : ℕ) → line.told ≡ others_of key before.senders.told → n ≡ room_in before → length line.told - n ≤ senders_in_vain before
  waits_there key before line n told same =
      let few = others_fewer key before.senders.told in
      let is : length line.told ≡ length (others_of key before.senders.told) = ap length told in
      omega (arith, few, is, same)

  cannot_wait_there : (told : Bool) (key : Option Key) (losses : ℕ) (error : ListenError) (before : State T W) (line : Queue (Unit {0}) W) → CannotWaitInTurn told key losses error before.senders line → length line.told ≤ length before.senders.told
  cannot_wait_there told key losses error before line (inl h) = left_fewer key before.senders line h.leaves
  cannot_wait_there told key losses error before line (inr h) = left_fewer key before.senders line h.3

  with_sender : (key : Option Key) (before after : State T W) → ForbearsWithSender key before after → senders_in_vain after ≤ senders_in_vain before
  with_sender None before after h = alike_there before after (ap (λ (s : State T W). room_in s) h) (ap (λ (s : State T W). s.senders) h)
  with_sender (Some key) before after h = by (is_told (Some key) before.senders) refl
    where
      same : room_in after ≡ room_in before
      same = ap (λ (s : State T W). room_in s) h.rest

      by : (b : Bool) → is_told (Some key) before.senders ≡ b → senders_in_vain after ≤ senders_in_vain before
      by true is = left_then_told (Some key) (room_in after) (room_in before) (length before.senders.told) before.senders after.senders (h.told is) (omega arith) (omega (arith, same))
      by false is = alike_there before after same (h.waits is)

  sending_unless : (none : Bool) (before after : State T W) → ForbearsSendingUnless none before after → senders_in_vain after ≤ senders_in_vain before
  sending_unless true before after h = same_there before after h
  sending_unless false before after h = with_sender (struck_off before.starving_senders) before after h

  forborne_there : (before after : State T W) → ForbearsSending before after → senders_in_vain after ≤ senders_in_vain before
  forborne_there before after h = sending_unless (room_in before == 0) before after h

  forborne_there_for : (key : Option Key) (before after : State T W) → ForbearsSendingFor key before after → senders_in_vain after ≤ senders_in_vain before
  forborne_there_for None before after h = forborne_there before after h
  forborne_there_for (Some key) before after h = same_there before after h

  refused_there : (reason : SendReason) (key : Option Key) (before after : State T W) → RefusedFor reason key before after → senders_in_vain after ≤ senders_in_vain before
  refused_there Closed key before after h = same_there before after h
  refused_there Full key before after h = forborne_there_for key before after h
  refused_there TimedOut key before after h = same_there before after h
  refused_there Memory key before after h = same_there before after h
  refused_there (WaitFailed error) key before after h = same_there before after h

  receiver_forborne : (before after : State T W) → Forbears before after → senders_in_vain after ≤ senders_in_vain before
  receiver_forborne before after h =
      let left = forborne before after h in
      alike_there before after (ap (λ (s : State T W). room_in s) left) (ap (λ (s : State T W). s.senders) left)

  receiver_forborne_for : (key : Option Key) (before after : State T W) → ForbearsFor key before after → senders_in_vain after ≤ senders_in_vain before
  receiver_forborne_for key before after h =
      let left = forborne_for key before after h in
      alike_there before after (ap (λ (s : State T W). room_in s) left) (ap (λ (s : State T W). s.senders) left)

  pub no_more_senders_in_vain : (before after : State T W) (c : ChannelCall T) → NoMoreSendersInVain c before after
  no_more_senders_in_vain before after (call.Send message (Ok sent)) h starves fits other =
      one_in None message before after (room_in after) after.senders h.0 refl h.1 (ap (λ (s : State T W). s.senders) h.0.rest) h.0.is_open starves.0
  no_more_senders_in_vain before after (call.Send message (Err reason)) h starves fits other = refused_there reason None before after h.1
  no_more_senders_in_vain before after (call.ForceSend message (Ok None)) h starves fits other = absurd (false≢true (sym other))
  no_more_senders_in_vain before after (call.ForceSend message (Ok (Some first))) h starves fits other = absurd (false≢true (sym other))
  no_more_senders_in_vain before after (call.ForceSend message (Err reason)) h starves fits other = same_there before after h.1
  no_more_senders_in_vain before after (call.SendOrWait message key (Done (Ok sent))) (losses, losses', h) starves fits other =
      one_in key message before (but_senders before after) (room_in after) after.senders h.1 refl h.0 h.2.left h.1.is_open starves.0
  no_more_senders_in_vain before after (call.SendOrWait message key (Done (Err reason))) (losses, losses', h) starves fits other =
      let same : room_in after ≡ room_in before = ap (λ (s : State T W). room_in s) h.1 in
      left_then_told key (room_in after) (room_in before) (length before.senders.told) before.senders after.senders h.2.left (omega arith) (omega (arith, same))
  no_more_senders_in_vain before after (call.SendOrWait message key (Waits waits)) (losses, losses', h) starves fits other =
      waits_there key before after.senders (room_in after) h.3.told (ap (λ (s : State T W). room_in s) h.2)
  no_more_senders_in_vain before after (call.SendOrWait message key Absent) (losses, losses', h) starves fits other = forborne_there_for key before after h.0.4
  no_more_senders_in_vain before after (call.SendOrWait message key (Refused error)) (losses, losses', h) starves fits other =
      let same : room_in after ≡ room_in before = ap (λ (s : State T W). room_in s) h.2 in
      let few = cannot_wait_there (is_told key before.senders) key losses error before after.senders h.3 in
      omega (arith, same, few)
  no_more_senders_in_vain before after (call.SendOrLeave message key (Ok sent)) h starves fits other = one_in_then_left key message before h.0 after h.1.0 h.1.1 h.2 h.1.0.is_open starves.0
  no_more_senders_in_vain before after (call.SendOrLeave message key (Err reason)) h starves fits other =
      let first = refused_there reason key before h.0 h.1.1 in let last = left_there key h.0 after h.2 in omega (arith, first, last)
  no_more_senders_in_vain before after (call.LeaveSenders key) h starves fits other = left_there key before after h
  no_more_senders_in_vain before after (call.Receive (Ok message)) h starves fits other = taken_there (message ∷ []) before after h.0 fits
  no_more_senders_in_vain before after (call.Receive (Err error)) h starves fits other = receiver_forborne before after h.1
  no_more_senders_in_vain before after (call.ReceiveOrWait false key (Done (Some message))) (losses, losses', h) starves fits other = taken_there (message ∷ []) before (but_receivers_and_streams before after) h.1 fits
  no_more_senders_in_vain before after (call.ReceiveOrWait false key (Done None)) (losses, losses', h) starves fits other = same_there before (but_receivers_and_streams before after) h.2
  no_more_senders_in_vain before after (call.ReceiveOrWait false key (Waits waits)) (losses, losses', h) starves fits other = same_there before (but_receivers before after) h.2
  no_more_senders_in_vain before after (call.ReceiveOrWait false key Absent) (losses, losses', h) starves fits other = receiver_forborne_for key before after h.4
  no_more_senders_in_vain before after (call.ReceiveOrWait false key (Refused error)) (losses, losses', h) starves fits other = same_there before (but_receivers before after) h.2
  no_more_senders_in_vain before after (call.ReceiveOrWait true key (Done (Some message))) h starves fits other = taken_there (message ∷ []) before (record after { streams = before.streams }) h.1 fits
  no_more_senders_in_vain before after (call.ReceiveOrWait true key (Done None)) h starves fits other = same_there before (record after { streams = before.streams }) h.2
  no_more_senders_in_vain before after (call.ReceiveOrWait true key (Waits waits)) h starves fits other = same_there before (record after { streams = before.streams }) h.2
  no_more_senders_in_vain before after (call.ReceiveOrWait true key Absent) h starves fits other = receiver_forborne before (record after { streams = h.3.0 }) h.3.1
  no_more_senders_in_vain before after (call.ReceiveOrWait true key (Refused error)) h starves fits other = same_there before (record after { streams = before.streams }) h.2
  no_more_senders_in_vain before after (call.ReceiveOrLeave is_stream key (Ok message)) h starves fits other =
      let first = taken_there (message ∷ []) before h.0 h.1.0 fits in let last = receiver_left is_stream key h.0 after h.2 in omega (arith, first, last)
  no_more_senders_in_vain before after (call.ReceiveOrLeave is_stream key (Err error)) h starves fits other =
      let first = receiver_forborne_for (receiver_key is_stream key) before h.0 h.1.1 in let last = receiver_left is_stream key h.0 after h.2 in omega (arith, first, last)
  no_more_senders_in_vain before after (call.ReceiveMany [] key) h starves fits other = absurd h.1
  no_more_senders_in_vain before after (call.ReceiveMany (message ∷ messages) key) h starves fits other =
      let some = h.1 in
      let first = taken_there (message ∷ []) before some.0 some.1 fits in
      let more = taken_there messages some.0 h.0 some.2 (fits_still message before some.0 some.1 fits) in
      let last = receiver_left false key h.0 after h.2 in omega (arith, first, more, last)
  no_more_senders_in_vain before after (call.LeaveReceivers is_stream key) h starves fits other = receiver_left is_stream key before after h
  no_more_senders_in_vain before after (call.Close true) h starves fits other = absurd (false≢true (sym starves.1 ∙ closed_by before after h))
  no_more_senders_in_vain before after (call.Close false) h starves fits other = same_there before after h.1
  no_more_senders_in_vain before after (call.IsClosed answer) h starves fits other = same_there before after h.1
  no_more_senders_in_vain before after (call.IsFull answer) h starves fits other = same_there before after h.1
  no_more_senders_in_vain before after (call.Len count) h starves fits other = same_there before after h.1

  pub sender_loses_by_those : (before after : State T W) (message : T) (key : Option Key) (waits : Key) → SenderLosesByThose message key waits before after
  sender_loses_by_those before after message key waits (losses, losses', h) told =
      let none : room_in before ≡ 0 = rw told at h.0 in
      let same : room_in after ≡ room_in before = ap (λ (s : State T W). room_in s) h.2 in
      let few = others_one_fewer key before.senders told in
      let is : length after.senders.told ≡ length (others_of key before.senders.told) = ap length h.3.told in
      omega (arith, none, same, few, is)
