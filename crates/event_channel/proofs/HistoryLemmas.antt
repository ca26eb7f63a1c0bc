-- In one history messages are received in the order in which they were sent.
use Rattle.std.proofs.Common.{◌≡◌, ◌⊎◌, ◌-◌, ◌==◌, length, arith, inl, inr, Bool, List, [], ◌∷◌, ◌++◌, ℕ, refl, sym, ap, subst, ◌∙◌, ⊎_elim, Option, Some, None, Ok, Err, true, false}
use Rattle.std.proofs.lemmas.List.{append-nil, append_assoc}
use Rattle.event_history.specs.History.{Extends, IsAmong, Leads, LeadsTo, Runs, entry}
use Rattle.event_history.proofs.RestsOnLemmas.{among_back, among_either, among_front}
use Rattle.event_history.specs.declared.history.Entry.{Entry}
use Rattle.event_history.specs.declared.history.View.{View}
use Rattle.event_queue.specs.declared.key.Key.{Key}
use Rattle.event_wait.specs.declared.request.Attempted.TheVariants.{Done, Waits, Absent, Refused}
use Rattle.event_channel.specs.declared.call.ChannelCall.{ChannelCall}
use Rattle.event_channel.specs.declared.call.ChannelCall.TheVariants as call
use Rattle.event_channel.specs.Calls.{LeavesReceivers, calls, channel_machine, receiver_key}
use Rattle.event_channel.specs.Messages.{State, AreDue, for_newcomers}
use Rattle.event_channel.specs.Turns.{Starving}
use Rattle.event_channel.proofs.ForbearLemmas.{forborne, forborne_for, refused_for, sending_for}
use Rattle.event_channel.specs.declared.error.TryRecvError.{TryRecvError}
use Rattle.event_channel.specs.declared.error.TryRecvError.TheVariants.{Empty, Closed}
use Rattle.event_channel.specs.Steps.{FindsNone}
use Rattle.event_channel.specs.Sent.{ChannelLog, WasBefore, sent_by, received_by, forced_out_by, out_by, all_of}

module _ {T W : Type 0} where
  alike : (before after : State T W) → after ≡ before → after.messages ≡ before.messages
  alike before after same = ap (λ (s : State T W). s.messages) same

  stays : (before after : State T W) → after.messages ≡ before.messages → before.messages ++ [] ≡ after.messages
  stays before after same = append-nil before.messages ∙ sym same

  left : (is_stream : Bool) (key : Option Key) (before after : State T W) → LeavesReceivers is_stream key before after → after.messages ≡ before.messages
  left false key before after h = ap (λ (s : State T W). s.messages) h.0
  left true key before after h = ap (λ (s : State T W). s.messages) h.0

  -- each call sends behind all others, and receives from the front
  pub moves : (before after : State T W) (c : ChannelCall T) → calls before c after → before.messages ++ sent_by c ≡ out_by c ++ after.messages
  moves before after (call.Send message (Ok sent)) h = sym (ap (λ (s : State T W). s.messages) h.0.rest)
  moves before after (call.Send message (Err reason)) h = stays before after (ap (λ (s : State T W). s.messages) (refused_for reason None before after h.1))
  moves before after (call.ForceSend message (Ok None)) h = sym (ap (λ (s : State T W). s.messages) h.rest)
  moves before after (call.ForceSend message (Ok (Some first))) h = h.moves
  moves before after (call.ForceSend message (Err reason)) h = stays before after (alike before after h.1)
  moves before after (call.SendOrWait message key (Done (Ok sent))) h = sym (ap (λ (s : State T W). s.messages) h.2.1.rest)
  moves before after (call.SendOrWait message key (Done (Err reason))) h = stays before after (ap (λ (s : State T W). s.messages) h.2.1)
  moves before after (call.SendOrWait message key (Waits waits)) h = stays before after (ap (λ (s : State T W). s.messages) h.2.2)
  moves before after (call.SendOrWait message key Absent) h = stays before after (ap (λ (s : State T W). s.messages) (sending_for key before after h.2.0.4))
  moves before after (call.SendOrWait message key (Refused error)) h = stays before after (ap (λ (s : State T W). s.messages) h.2.2)
  moves before after (call.SendOrLeave message key (Ok sent)) h =
      sym (ap (λ (s : State T W). s.messages) h.2.0 ∙ ap (λ (s : State T W). s.messages) h.1.0.rest)
  moves before after (call.SendOrLeave message key (Err reason)) h =
      stays before after (ap (λ (s : State T W). s.messages) h.2.0 ∙ ap (λ (s : State T W). s.messages) (refused_for reason key before h.0 h.1.1))
  moves before after (call.LeaveSenders key) h = stays before after (ap (λ (s : State T W). s.messages) h.0)
  moves before after (call.Receive (Ok message)) h = append-nil before.messages ∙ h.0.first
  moves before after (call.Receive (Err error)) h = stays before after (ap (λ (s : State T W). s.messages) (forborne before after h.1))
  moves before after (call.ReceiveOrWait false key (Done (Some message))) h = append-nil before.messages ∙ h.2.1.first
  moves before after (call.ReceiveOrWait false key (Done None)) h = stays before after (ap (λ (s : State T W). s.messages) h.2.2)
  moves before after (call.ReceiveOrWait false key (Waits waits)) h = stays before after (ap (λ (s : State T W). s.messages) h.2.2)
  moves before after (call.ReceiveOrWait false key Absent) h = stays before after (ap (λ (s : State T W). s.messages) (forborne_for key before after h.2.4))
  moves before after (call.ReceiveOrWait false key (Refused error)) h = stays before after (ap (λ (s : State T W). s.messages) h.2.2)
  moves before after (call.ReceiveOrWait true key (Done (Some message))) h = append-nil before.messages ∙ h.1.first
  moves before after (call.ReceiveOrWait true key (Done None)) h = stays before after (ap (λ (s : State T W). s.messages) h.2)
  moves before after (call.ReceiveOrWait true key (Waits waits)) h = stays before after (ap (λ (s : State T W). s.messages) h.2)
  moves before after (call.ReceiveOrWait true key Absent) h = stays before after (ap (λ (s : State T W). s.messages) (forborne before (record after { streams = h.3.0 }) h.3.1))
  moves before after (call.ReceiveOrWait true key (Refused error)) h = stays before after (ap (λ (s : State T W). s.messages) h.2)
  moves before after (call.ReceiveOrLeave is_stream key (Ok message)) h =
      append-nil before.messages ∙ h.1.0.first ∙ ap (λ ms. message ∷ ms) (sym (left is_stream key h.0 after h.2))
  moves before after (call.ReceiveOrLeave is_stream key (Err error)) h =
      stays before after (left is_stream key h.0 after h.2 ∙ ap (λ (s : State T W). s.messages) (forborne_for (receiver_key is_stream key) before h.0 h.1.1))
  moves before after (call.ReceiveMany [] key) h = absurd h.1
  moves before after (call.ReceiveMany (message ∷ messages) key) h =
      append-nil before.messages ∙ h.1.1.first ∙ ap (λ ms. message ∷ ms) (h.1.2.first ∙ ap (λ ms. messages ++ ms) (sym (left false key h.0 after h.2)))
  moves before after (call.LeaveReceivers is_stream key) h = stays before after (left is_stream key before after h)
  moves before after (call.Close true) h = stays before after (ap (λ (s : State T W). s.messages) h.rest)
  moves before after (call.Close false) h = stays before after (alike before after h.1)
  moves before after (call.IsClosed answer) h = stays before after (alike before after h.1)
  moves before after (call.IsFull answer) h = stays before after (alike before after h.1)
  moves before after (call.Len count) h = stays before after (alike before after h.1)

  pub in_order_between : (log : ChannelLog T) (q r : State T W) → Runs calls q log r → q.messages ++ all_of sent_by log ≡ all_of out_by log ++ r.messages
  in_order_between [] q r run = append-nil q.messages ∙ ap (λ (s : State T W). s.messages) run
  in_order_between (e ∷ es) q r run =
      sym (append_assoc q.messages (sent_by e.call) (all_of sent_by es))
      ∙ ap (λ xs. xs ++ all_of sent_by es) (moves q run.0 e.call run.1)
      ∙ append_assoc (out_by e.call) run.0.messages (all_of sent_by es)
      ∙ ap (λ xs. out_by e.call ++ xs) (in_order_between es run.0 r run.2)
      ∙ sym (append_assoc (out_by e.call) (all_of out_by es) r.messages)

  pub in_order_from_start : (capacity : Option ℕ) (log : ChannelLog T) (q : State T W) → LeadsTo (channel_machine capacity) log q → all_of sent_by log ≡ all_of out_by log ++ q.messages
  in_order_from_start capacity log q leads =
      ap (λ (s : State T W). s.messages ++ all_of sent_by log) (sym leads.1) ∙ in_order_between log leads.0 q leads.2

  -- one call more
  run_more : (log : ChannelLog T) (e : Entry (ChannelCall T)) (q m r : State T W) → Runs calls q log m → calls m e.call r → Runs calls q (log ++ e ∷ []) r
  run_more [] e q m r run step = (r, subst (λ (s : State T W). calls s e.call r) (sym run) step, refl)
  run_more (x ∷ xs) e q m r (n, first, rest) step = (n, first, run_more xs e n m r rest step)

  -- what a hand has seen after a call leads to the state after it
  pub leads_as_seen : (capacity : Option ℕ) (v w : View (State T W) (ChannelCall T)) (c : ChannelCall T) (before after : State T W) → Leads (channel_machine capacity) v c before after w → LeadsTo (channel_machine capacity) w.seen after
  leads_as_seen capacity v w c before after led =
      let (s, starts, runs) = led.runs in
      let more = run_more (v.seen ++ led.between) (entry led.number c) s before after runs led.step in
      subst (λ (log : ChannelLog T). LeadsTo (channel_machine capacity) log after) (sym led.seen) (s, starts, more)

  -- so it is of what a hand has seen after a call
  pub in_order_as_seen : (capacity : Option ℕ) (v w : View (State T W) (ChannelCall T)) (c : ChannelCall T) → Extends (channel_machine capacity) v c w
      → (q : State T W) × LeadsTo (channel_machine capacity) w.seen q × (all_of sent_by w.seen ≡ all_of out_by w.seen ++ q.messages)
  in_order_as_seen capacity v w c (before, after, led) =
      let leads = leads_as_seen capacity v w c before after led in
      (after, leads, in_order_from_start capacity w.seen after leads)

-- both parts of an empty list are empty
front_empty : {X : Type 0} (xs ys : List X) → xs ++ ys ≡ [] → xs ≡ []
front_empty [] ys h = refl
front_empty (x ∷ xs) ys h = absurd (cc)

back_empty : {X : Type 0} (xs ys : List X) → xs ++ ys ≡ [] → ys ≡ []
back_empty [] ys h = h
back_empty (x ∷ xs) ys h = absurd (cc)

-- where no forced send found the channel full, what went out was received
pub all_received : {T : Type 0} (log : ChannelLog T) → all_of forced_out_by log ≡ [] → all_of out_by log ≡ all_of received_by log
all_received [] none = refl
all_received (e ∷ es) none =
    ap (λ xs. (xs ++ received_by e.call) ++ all_of out_by es) (front_empty (forced_out_by e.call) (all_of forced_out_by es) none)
    ∙ ap (λ xs. received_by e.call ++ xs) (all_received es (back_empty (forced_out_by e.call) (all_of forced_out_by es) none))

-- what a call received went out by it
received_out : {T : Type 0} (log : ChannelLog T) (message : T) → IsAmong message (all_of received_by log) → IsAmong message (all_of out_by log)
received_out [] message h = absurd h
received_out (e ∷ es) message h = ⊎_elim
    (λ here. among_front message (out_by e.call) (all_of out_by es) (among_back message (forced_out_by e.call) (received_by e.call) here))
    (λ later. among_back message (out_by e.call) (all_of out_by es) (received_out es message later))
    (among_either message (received_by e.call) (all_of received_by es) h)

-- so it was sent
pub received_was_sent : {T W : Type 0} (capacity : Option ℕ) (log : ChannelLog T) (q : State T W) → LeadsTo (channel_machine capacity) log q → (message : T) → IsAmong message (all_of received_by log) → IsAmong message (all_of sent_by log)
received_was_sent capacity log q leads message h =
    subst (λ xs. IsAmong message xs) (sym (in_order_from_start capacity log q leads)) (among_front message (all_of out_by log) q.messages (received_out log message h))

-- what the last call received is among what all received
received_last : {T : Type 0} (log : ChannelLog T) (e : Entry (ChannelCall T)) (message : T) → IsAmong message (received_by e.call) → IsAmong message (all_of received_by (log ++ e ∷ []))
received_last [] e message h = among_front message (received_by e.call) [] h
received_last (x ∷ xs) e message h = among_back message (received_by x.call) (all_of received_by (xs ++ e ∷ [])) (received_last xs e message h)

pub seen_to_be_sent : {T W : Type 0} (capacity : Option ℕ) (v w : View (State T W) (ChannelCall T)) (c : ChannelCall T) → Extends (channel_machine capacity) v c w → (message : T) → IsAmong message (received_by c) → IsAmong message (all_of sent_by w.seen)
seen_to_be_sent capacity v w c called message h =
    let led = called.2 in
    let seen = in_order_as_seen capacity v w c called in
    received_was_sent capacity w.seen seen.0 seen.1 message (subst (λ log. IsAmong message (all_of received_by log)) (sym led.seen) (received_last (v.seen ++ led.between) (entry led.number c) message h))

no_length : {X : Type 0} (xs : List X) → length xs ≡ 0 → xs ≡ []
no_length [] h = refl
no_length (x ∷ xs) h = absurd (omega (arith, h))

-- where no message is there for newcomers there is none, or each is due
none_or_due : {T W : Type 0} (q : State T W) (error : TryRecvError) → FindsNone (for_newcomers q) q error → (q.messages ≡ []) ⊎ AreDue q
none_or_due q Closed h = inl h.0
none_or_due {T} {W} q Empty h = by_keys q.starving_receivers refl
  where
    by_keys : (keys : List Starving) → q.starving_receivers ≡ keys → (q.messages ≡ []) ⊎ AreDue q
    by_keys [] is = inl (no_length q.messages (rw (h.1, is) at h.0))
    by_keys (key ∷ keys) is =
        let some : (length (key ∷ keys) == 0) ≡ false = grind arith in
        let none : length q.messages - length q.receivers.told ≡ 0 = rw (h.1, is, some) at h.0 in
        inr (record { is_open = h.1; starves = rw is (omega arith); few = omega (arith, none) })

module _ {T W : Type 0} (capacity : Option ℕ) (v w : View (State T W) (ChannelCall T)) (error : TryRecvError) where
  -- where the last call found no message at all, all that was sent went out
  went_out : (before after : State T W) → Leads (channel_machine capacity) v (call.Receive (Err error)) before after w → before.messages ≡ [] → all_of sent_by w.seen ≡ all_of out_by w.seen
  went_out before after led none =
      in_order_from_start capacity w.seen after (leads_as_seen capacity v w (call.Receive (Err error)) before after led)
      ∙ ap (λ ms. all_of out_by w.seen ++ ms) (ap (λ (s : State T W). s.messages) (forborne before after led.step.1) ∙ none)
      ∙ append-nil (all_of out_by w.seen)

  -- where it found none for newcomers, that is so, or each that waited before it was due
  pub none_waits : Extends (channel_machine capacity) v (call.Receive (Err error)) w
      → (all_of sent_by w.seen ≡ all_of out_by w.seen) ⊎ WasBefore capacity (λ (q : State T W). AreDue q) w.seen
  none_waits (before, after, led) = ⊎_elim
      (λ none. inl (went_out before after led none))
      (λ due. inr (v.seen ++ led.between, entry led.number (call.Receive (Err error)), led.seen, before, led.runs, due))
      (none_or_due before error led.step.0)

-- where it found the end, all that was sent went out
pub end_comes_last : {T W : Type 0} (capacity : Option ℕ) (v w : View (State T W) (ChannelCall T)) → Extends (channel_machine capacity) v (call.Receive (Err Closed)) w → all_of sent_by w.seen ≡ all_of out_by w.seen
end_comes_last capacity v w (before, after, led) = went_out capacity v w Closed before after led led.step.0.0
