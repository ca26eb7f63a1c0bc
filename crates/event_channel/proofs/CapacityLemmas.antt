-- A channel keeps its capacity, has no more messages than that, and is closed only by a call.
use Rattle.std.proofs.Common.{◌≡◌, ◌⊎◌, ℕ, ◌+◌, ◌-◌, ◌<◌, ◌≤◌, ◌==◌, Bool, List, [], ◌∷◌, ◌++◌, length, refl, sym, ap, subst, ◌∙◌, ⊎_elim, inl, inr, arith, length-append, Option, Some, None, Ok, Err, true, false}
use Rattle.std.proofs.lemmas.Bool.{false≢true}
use Rattle.event_history.specs.History.{Extends, LeadsTo, Runs, entry}
use Rattle.event_history.specs.declared.history.View.{View}
use Rattle.event_queue.specs.declared.key.Key.{Key}
use Rattle.event_wait.specs.declared.request.Attempted.TheVariants.{Done, Waits, Absent, Refused}
use Rattle.event_channel.specs.declared.call.ChannelCall.{ChannelCall}
use Rattle.event_channel.specs.declared.call.ChannelCall.TheVariants as call
use Rattle.event_channel.specs.declared.error.SendReason.TheVariants.{Closed, Full}
use Rattle.event_channel.specs.Calls.{LeavesReceivers, calls, channel_machine, receiver_key}
use Rattle.event_channel.specs.Messages.{State, PlacesAreDue, limit_of, room_for_newcomers}
use Rattle.event_channel.specs.Turns.{Starving}
use Rattle.event_channel.proofs.ForbearLemmas.{forborne, forborne_for, forborne_sending, refused_for, sending_for}
use Rattle.event_channel.specs.Sent.{ChannelLog, WasBefore, sent_by, out_by, all_of}
use Rattle.event_channel.proofs.HistoryLemmas.{in_order_from_start, leads_as_seen, moves}

none_more : (n room sent out : ℕ) → sent ≡ 0 → n ≤ room → n + sent ≤ room + out
none_more n room sent out none le = omega (arith, none, le)

one_more : (n room sent out : ℕ) → sent ≡ 1 → n < room → n + sent ≤ room + out
one_more n room sent out one lt = omega (arith, one, lt)

one_for_one : (n room : ℕ) → n ≤ room → n + 1 ≤ room + 1
one_for_one n room le = omega (arith, le)

left_over : (n sent room out m : ℕ) → n + sent ≤ room + out → n + sent ≡ out + m → m ≤ room
left_over n sent room out m le moved = omega (arith, le, moved)

as_many : (n room : ℕ) → n ≤ room → room ≤ n → n ≡ room
as_many n room le ge = omega (arith, le, ge)

module _ {T W : Type 0} where
  -- of a call: it keeps the capacity, closes the channel or leaves it as open as it was, and sends no more than there is room for
  abbrev Keeps : State T W → ChannelCall T → State T W → Type 0
  Keeps before c after =
      (after.capacity ≡ before.capacity) × ((c ≡ call.Close true) ⊎ (after.is_closed ≡ before.is_closed)) × (length before.messages ≤ before.capacity → length before.messages + length (sent_by c) ≤ before.capacity + length (out_by c))

  abbrev Alike : State T W → State T W → Type 0
  Alike before after = (after.capacity ≡ before.capacity) × (after.is_closed ≡ before.is_closed)

  both : (before after : State T W) → after ≡ before → Alike before after
  both before after same = (ap (λ (s : State T W). s.capacity) same, ap (λ (s : State T W). s.is_closed) same)

  via : (before between after : State T W) → Alike before between → Alike between after → Alike before after
  via before between after first second = (second.0 ∙ first.0, second.1 ∙ first.1)

  left : (is_stream : Bool) (key : Option Key) (before after : State T W) → LeavesReceivers is_stream key before after → Alike before after
  left false key before after h = both _ _ h.0
  left true key before after h = both _ _ h.0

  idle : (before after : State T W) (c : ChannelCall T) → length (sent_by c) ≡ 0 → Alike before after → Keeps before c after
  idle before after c none same = (same.0, inr same.1, none_more (length before.messages) before.capacity (length (sent_by c)) (length (out_by c)) none)

  pushed : (before after : State T W) (c : ChannelCall T) → length (sent_by c) ≡ 1 → length before.messages < before.capacity → Alike before after → Keeps before c after
  pushed before after c one room same = (same.0, inr same.1, λ _. one_more (length before.messages) before.capacity (length (sent_by c)) (length (out_by c)) one room)

  keeps : (before after : State T W) (c : ChannelCall T) → calls before c after → Keeps before c after
  keeps before after (call.Send message (Ok sent)) h = pushed before after (call.Send message (Ok sent)) refl h.0.has_room (both _ _ h.0.rest)
  keeps before after (call.Send message (Err reason)) h = idle before after (call.Send message (Err reason)) refl (both _ _ (refused_for reason None before after h.1))
  keeps before after (call.ForceSend message (Ok None)) h = pushed before after (call.ForceSend message (Ok None)) refl h.has_room (both _ _ h.rest)
  keeps before after (call.ForceSend message (Ok (Some first))) h =
      let same : Alike before after = both _ _ h.rest in (same.0, inr same.1, one_for_one (length before.messages) before.capacity)
  keeps before after (call.ForceSend message (Err reason)) h = idle before after (call.ForceSend message (Err reason)) refl (both _ _ h.1)
  keeps before after (call.SendOrWait message key (Done (Ok sent))) h = pushed before after (call.SendOrWait message key (Done (Ok sent))) refl h.2.1.has_room (both _ _ h.2.1.rest)
  keeps before after (call.SendOrWait message key (Done (Err reason))) h = idle before after (call.SendOrWait message key (Done (Err reason))) refl (both _ _ h.2.1)
  keeps before after (call.SendOrWait message key (Waits waits)) h = idle before after (call.SendOrWait message key (Waits waits)) refl (both _ _ h.2.2)
  keeps before after (call.SendOrWait message key Absent) h = idle before after (call.SendOrWait message key Absent) refl (both _ _ (sending_for key before after h.2.0.4))
  keeps before after (call.SendOrWait message key (Refused error)) h = idle before after (call.SendOrWait message key (Refused error)) refl (both _ _ h.2.2)
  keeps before after (call.SendOrLeave message key (Ok sent)) h =
      pushed before after (call.SendOrLeave message key (Ok sent)) refl h.1.0.has_room (via before h.0 after (both _ _ h.1.0.rest) (both _ _ h.2.0))
  keeps before after (call.SendOrLeave message key (Err reason)) h =
      idle before after (call.SendOrLeave message key (Err reason)) refl (via before h.0 after (both _ _ (refused_for reason key before h.0 h.1.1)) (both _ _ h.2.0))
  keeps before after (call.LeaveSenders key) h = idle before after (call.LeaveSenders key) refl (both _ _ h.0)
  keeps before after (call.Receive (Ok message)) h = idle before after (call.Receive (Ok message)) refl (both _ _ h.0.rest)
  keeps before after (call.Receive (Err error)) h = idle before after (call.Receive (Err error)) refl (both _ _ (forborne before after h.1))
  keeps before after (call.ReceiveOrWait false key (Done (Some message))) h = idle before after (call.ReceiveOrWait false key (Done (Some message))) refl (both _ _ h.2.1.rest)
  keeps before after (call.ReceiveOrWait false key (Done None)) h = idle before after (call.ReceiveOrWait false key (Done None)) refl (both _ _ h.2.2)
  keeps before after (call.ReceiveOrWait false key (Waits waits)) h = idle before after (call.ReceiveOrWait false key (Waits waits)) refl (both _ _ h.2.2)
  keeps before after (call.ReceiveOrWait false key Absent) h = idle before after (call.ReceiveOrWait false key Absent) refl (both _ _ (forborne_for key before after h.2.4))
  keeps before after (call.ReceiveOrWait false key (Refused error)) h = idle before after (call.ReceiveOrWait false key (Refused error)) refl (both _ _ h.2.2)
  keeps before after (call.ReceiveOrWait true key (Done (Some message))) h = idle before after (call.ReceiveOrWait true key (Done (Some message))) refl (both _ _ h.1.rest)
  keeps before after (call.ReceiveOrWait true key (Done None)) h = idle before after (call.ReceiveOrWait true key (Done None)) refl (both _ _ h.2)
  keeps before after (call.ReceiveOrWait true key (Waits waits)) h = idle before after (call.ReceiveOrWait true key (Waits waits)) refl (both _ _ h.2)
  keeps before after (call.ReceiveOrWait true key Absent) h = idle before after (call.ReceiveOrWait true key Absent) refl (both _ _ (forborne before (record after { streams = h.3.0 }) h.3.1))
  keeps before after (call.ReceiveOrWait true key (Refused error)) h = idle before after (call.ReceiveOrWait true key (Refused error)) refl (both _ _ h.2)
  keeps before after (call.ReceiveOrLeave is_stream key (Ok message)) h =
      idle before after (call.ReceiveOrLeave is_stream key (Ok message)) refl (via before h.0 after (both _ _ h.1.0.rest) (left is_stream key h.0 after h.2))
  keeps before after (call.ReceiveOrLeave is_stream key (Err error)) h =
      idle before after (call.ReceiveOrLeave is_stream key (Err error)) refl (via before h.0 after (both _ _ (forborne_for (receiver_key is_stream key) before h.0 h.1.1)) (left is_stream key h.0 after h.2))
  keeps before after (call.ReceiveMany [] key) h = absurd h.1
  keeps before after (call.ReceiveMany (message ∷ messages) key) h =
      idle before after (call.ReceiveMany (message ∷ messages) key) refl
      (via before h.0 after (via before h.1.0 h.0 (both _ _ h.1.1.rest) (both _ _ h.1.2.rest)) (left false key h.0 after h.2))
  keeps before after (call.LeaveReceivers is_stream key) h = idle before after (call.LeaveReceivers is_stream key) refl (left is_stream key before after h)
  keeps before after (call.Close true) h = (ap (λ (s : State T W). s.capacity) h.rest, inl refl, none_more (length before.messages) before.capacity 0 0 refl)
  keeps before after (call.Close false) h = idle before after (call.Close false) refl (both _ _ h.1)
  keeps before after (call.IsClosed answer) h = idle before after (call.IsClosed answer) refl (both _ _ h.1)
  keeps before after (call.IsFull answer) h = idle before after (call.IsFull answer) refl (both _ _ h.1)
  keeps before after (call.Len count) h = idle before after (call.Len count) refl (both _ _ h.1)

  -- what a call leaves fits, too
  fits : (before after : State T W) (c : ChannelCall T) → calls before c after → length before.messages ≤ before.capacity → length after.messages ≤ after.capacity
  fits before after c h le =
      let kept = keeps before after c h in
      let moved = sym (length-append before.messages (sent_by c)) ∙ ap length (moves before after c h) ∙ length-append (out_by c) after.messages in
      subst (λ (room : ℕ). length after.messages ≤ room) (sym kept.0) (left_over (length before.messages) (length (sent_by c)) before.capacity (length (out_by c)) (length after.messages) (kept.2 le) moved)

  kept_between : (log : ChannelLog T) (q r : State T W) → Runs calls q log r → length q.messages ≤ q.capacity → (r.capacity ≡ q.capacity) × (length r.messages ≤ r.capacity)
  kept_between [] q r run le = (ap (λ (s : State T W). s.capacity) (sym run), subst (λ (s : State T W). length s.messages ≤ s.capacity) run le)
  kept_between (e ∷ es) q r run le =
      let later = kept_between es run.0 r run.2 (fits q run.0 e.call run.1 le) in (later.0 ∙ (keeps q run.0 e.call run.1).0, later.1)

  -- the capacity is the one that was asked for, and there are no more messages
  pub kept : (capacity : Option ℕ) (log : ChannelLog T) (q : State T W) → LeadsTo (channel_machine capacity) log q → (q.capacity ≡ limit_of capacity) × (length q.messages ≤ limit_of capacity)
  kept capacity log q leads =
      let room : 0 ≤ limit_of capacity = omega arith in
      let first : length leads.0.messages ≤ leads.0.capacity = subst (λ (s : State T W). length s.messages ≤ s.capacity) (sym leads.1) room in
      let last = kept_between log leads.0 q leads.2 first in
      let is : q.capacity ≡ limit_of capacity = last.0 ∙ ap (λ (s : State T W). s.capacity) leads.1 in
      (is, subst (λ (n : ℕ). length q.messages ≤ n) is last.1)

  -- a channel that has been closed was closed by a call
  closed_between : (log : ChannelLog T) (q r : State T W) → Runs calls q log r → q.is_closed ≡ false → r.is_closed ≡ true
      → (earlier : ChannelLog T) × (later : ChannelLog T) × (by : ℕ) × (log ≡ earlier ++ entry by (call.Close true) ∷ later)
  closed_between [] q r run was is = absurd (false≢true (sym was ∙ ap (λ (s : State T W). s.is_closed) run ∙ is))
  closed_between (e ∷ es) q r run was is = ⊎_elim
      (λ (closes : e.call ≡ call.Close true). ([], es, e.by, ap (λ (c : ChannelCall T). entry e.by c ∷ es) closes))
      (λ (same : run.0.is_closed ≡ q.is_closed). let found = closed_between es run.0 r run.2 (same ∙ was) is in (e ∷ found.0, found.1, found.2, ap (λ (l : ChannelLog T). e ∷ l) found.3))
      (keeps q run.0 e.call run.1).1

  pub closed_by_a_call : (capacity : Option ℕ) (log : ChannelLog T) (q : State T W) → LeadsTo (channel_machine capacity) log q → q.is_closed ≡ true
      → (earlier : ChannelLog T) × (later : ChannelLog T) × (by : ℕ) × (log ≡ earlier ++ entry by (call.Close true) ∷ later)
  closed_by_a_call capacity log q leads is = closed_between log leads.0 q leads.2 (ap (λ (s : State T W). s.is_closed) leads.1) is

  -- where a send finds the channel full, it has as many messages as may be, or each free place is due
  full_or_due : (s : State T W) → s.is_closed ≡ false → room_for_newcomers s ≡ 0 → (s.capacity ≤ length s.messages) ⊎ PlacesAreDue s
  full_or_due s is_open none = by_keys s.starving_senders refl
    where
      by_keys : (keys : List Starving) → s.starving_senders ≡ keys → (s.capacity ≤ length s.messages) ⊎ PlacesAreDue s
      by_keys [] is = let full : s.capacity - length s.messages ≡ 0 = rw (is_open, is) at none in inl (omega (arith, full))
      by_keys (key ∷ keys) is =
          let some : (length (key ∷ keys) == 0) ≡ false = grind arith in
          let due : s.capacity - length s.messages - length s.senders.told ≡ 0 = rw (is_open, is, some) at none in
          inr (record { is_open = is_open; starves = rw is (omega arith); few = omega (arith, due) })

  pub full : (capacity : Option ℕ) (v w : View (State T W) (ChannelCall T)) (message : T) → Extends (channel_machine capacity) v (call.Send message (Err Full)) w
      → ((q : State T W) × LeadsTo (channel_machine capacity) w.seen q × (length q.messages ≡ limit_of capacity)) ⊎ WasBefore capacity (λ (q : State T W). PlacesAreDue q) w.seen
  full capacity v w message (before, after, led) =
      let leads = leads_as_seen capacity v w (call.Send message (Err Full)) before after led in
      let is = kept capacity w.seen after leads in
      ⊎_elim
      (λ (many : before.capacity ≤ length before.messages).
      let left = forborne_sending before after led.step.1 in
      let as_many_there : length after.messages ≡ length before.messages = ap (λ (s : State T W). length s.messages) left in
      let same_capacity : after.capacity ≡ before.capacity = ap (λ (s : State T W). s.capacity) left in
      let is_full : after.capacity ≤ length after.messages = omega (arith, many, as_many_there, same_capacity) in
      let least : limit_of capacity ≤ length after.messages = subst (λ (n : ℕ). n ≤ length after.messages) is.0 is_full in
      inl (after, leads, as_many (length after.messages) (limit_of capacity) is.1 least))
      (λ (due : PlacesAreDue before). inr (v.seen ++ led.between, entry led.number (call.Send message (Err Full)), led.seen, before, led.runs, due))
      (full_or_due before led.step.0.0 led.step.0.1)

  -- where a send finds it closed, a call has closed it
  pub closed_was_closed : (capacity : Option ℕ) (v w : View (State T W) (ChannelCall T)) (message : T) → Extends (channel_machine capacity) v (call.Send message (Err Closed)) w
      → (earlier : ChannelLog T) × (later : ChannelLog T) × (by : ℕ) × (w.seen ≡ earlier ++ entry by (call.Close true) ∷ later)
  closed_was_closed capacity v w message (before, after, led) =
      let leads = leads_as_seen capacity v w (call.Send message (Err Closed)) before after led in
      closed_by_a_call capacity w.seen after leads (ap (λ (s : State T W). s.is_closed) led.step.1 ∙ led.step.0)

  -- so many more were sent than went out
  pub full_was_sent : (capacity : Option ℕ) (v w : View (State T W) (ChannelCall T)) (message : T) → Extends (channel_machine capacity) v (call.Send message (Err Full)) w
      → (length (all_of sent_by w.seen) ≡ length (all_of out_by w.seen) + limit_of capacity) ⊎ WasBefore capacity (λ (q : State T W). PlacesAreDue q) w.seen
  full_was_sent capacity v w message called =
      ⊎_elim
      (λ t. inl (ap length (in_order_from_start capacity w.seen t.0 t.1) ∙ length-append (all_of out_by w.seen) t.0.messages ∙ ap (λ (n : ℕ). length (all_of out_by w.seen) + n) t.2))
      (λ due. inr due)
      (full capacity v w message called)
