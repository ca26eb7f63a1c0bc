-- What a function of the state does, as a call of a history.
use Rattle.std.proofs.Common.{◌≡◌, ◌⊎◌, ◌+◌, ◌<◌, ◌≤◌, ◌==◌, ◌||◌, ℕ, suc, min, take, arith, Bool, true, false, List, [], ◌∷◌, length, refl, sym, ap, ◌∙◌, subst, inl, inr, Option, Some, None, Result, Ok, Err, IfOk, IfErr}
use Rattle.std.specs.Prelude.{◌↔◌, OnErr, OnOk, IfSome, IsTrue, IsFalse}
use Rattle.std.proofs.lemmas.Bool.{false≢true}
use Rattle.std.proofs.lemmas.List.{length-take-le}
use Rattle.event_queue.specs.declared.key.Key.{Key}
use Rattle.event_queue.specs.declared.reply.ListenError.{ListenError}
use Rattle.event_queue.specs.declared.reply.ListenError.TheVariants.{Memory}
use Rattle.event_queue.specs.Queue.{Queue}
use Rattle.event_wait.specs.Attempted.{key_of}
use Rattle.event_wait.specs.Line.{WaitsBy}
use Rattle.event_wait.specs.declared.request.Attempted.TheVariants.{Done, Waits, Absent, Refused}
use Rattle.event_channel.specs.declared.call.ChannelCall.{ChannelCall}
use Rattle.event_channel.specs.declared.call.ChannelCall.TheVariants as call
use Rattle.event_channel.specs.declared.error.SendError.{SendError}
use Rattle.event_channel.specs.declared.error.SendReason.{SendReason}
use Rattle.event_channel.specs.declared.error.SendReason.TheVariants.{Full}
use Rattle.event_channel.specs.declared.error.TryRecvError.{TryRecvError}
use Rattle.event_channel.specs.declared.error.TryRecvError.TheVariants.{Empty, Closed}
use Rattle.event_channel.specs.Forbearing.{Forbears, ForbearsFor, ForbearsUnless, RefusedFor}
use Rattle.event_channel.specs.Messages.{State, due_to_no_other, for_newcomers, for_one, room_for_newcomers, room_for_one}
use Rattle.event_channel.proofs.PlaceLemmas.{Moves}
use Rattle.event_channel.proofs.TurnLemmas.{most_for_newcomers}
use Rattle.event_channel.specs.Places.{Place, receiver_at, sender_at}
use Rattle.event_channel.specs.Steps.{Pushes, Refuses, RefusesAt, Forces, Takes, FindsNone, IsEmptyFor, Closes}
use Rattle.event_channel.specs.Turns.{is_told, told_beside}
use Rattle.event_channel.specs.Waits.{Received, Receives, ReceivesInTurn, SendsInTurn, Sent}
use Rattle.event_channel.specs.Calls.{ClosesOnce, ForcesOne, LeavesReceivers, LeavesSenders, ReceivesOne as DoesReceive, SendsOne, TakesMany, answer_of, calls, received_at_once, receiver_key, sent_at_once, with_any_task}
use Rattle.event_channel.specs.Requests.{GivesUpReceiving, GivesUpSending, ReceivesMany, ReceivesOrLeaves, ReceivesOrWaits, SendsOrLeaves, SendsOrWaits, TriesToReceive, TriesToSend}

one_more : (n : ℕ) → suc n ≡ 1 + n
one_more n = omega arith

module _ {T W : Type 0} (old new : State T W) where
  pub sends_one : (message : T) (reply : Result (Unit {0}) (SendError T)) → IfOk reply (λ _. Pushes message old new) → OnOk reply (0 < room_for_newcomers old) → IfErr reply (λ error. RefusedFor error.reason None old new)
      → IfErr reply (λ error. Refuses old error.reason) → SendsOne None message (answer_of reply) old new
  sends_one message (Ok sent) pushed may refused reason = (pushed, may)
  sends_one message (Err error) pushed may refused reason = (reason, refused)

  pub forces_one : (X : Type 0) (message : T) (reply : Result (Option T) (SendError T)) → IfOk reply (λ out. Forces message out old new) → OnErr reply ((new ≡ old) × X) → IfErr reply (λ error. Refuses old error.reason)
      → ForcesOne message (answer_of reply) old new
  forces_one X message (Ok out) forced refused reason = forced
  forces_one X message (Err error) forced refused reason = (reason, refused.0)

  -- an attempt to send this message; one whose message is sent attempts nothing
  pub tries_to_send : (before slot : Option T) (answer : Option (Result (Unit {0}) SendReason)) → before ≡ slot → ((message : T) → slot ≡ Some message → SendsOne None message (sent_at_once answer) old new)
      → (slot ≡ None → (answer ≡ None) × (new ≡ old)) → (c : ChannelCall T) × TriesToSend before answer c × Moves None c None × calls old c new
  tries_to_send before (Some message) answer is sends absent = rw is (call.Send message (sent_at_once answer), refl, (refl, refl), sends message refl)
  tries_to_send before None answer is sends absent = rw is (call.LeaveSenders None, ((absent refl).0, refl), (refl, refl), left_with_nothing (absent refl).1)
    where
      left_with_nothing : new ≡ old → LeavesSenders None old new
      left_with_nothing same = subst (λ (s : State T W). LeavesSenders None old s) (sym same) (refl, record { left = refl; struck = refl })

  -- a send that was refused for this reason found the channel full
  pub found_it_full : (key : Option Key) (message : T) (why : SendReason) → why ≡ Full → RefusesAt (room_for_one key old) old why → RefusedFor why key old new → SendsOne key message (Err Full) old new
  found_it_full key message why full refuses left =
      (subst (λ (r : SendReason). RefusesAt (room_for_one key old) old r) full refuses, subst (λ (r : SendReason). RefusedFor r key old new) full left)

  pub receives_one : (is_stream : Bool) (answer : Option (Option T)) → DoesReceive None (received_at_once answer) old new → (c : ChannelCall T) × TriesToReceive is_stream answer c × Moves None c None × calls old c new
  receives_one is_stream answer does = (call.Receive (received_at_once answer), refl, (refl, refl), does)

  pub receives_none : (is_stream : Bool) (answer : Option (Option T)) (why said : TryRecvError) → why ≡ said → received_at_once answer ≡ Err said → IsEmptyFor old why → Forbears old new
      → (c : ChannelCall T) × TriesToReceive is_stream answer c × Moves None c None × calls old c new
  receives_none is_stream answer why said is says empty left =
      receives_one is_stream answer (subst (λ (reply : Result T TryRecvError). DoesReceive None reply old new) (sym says) (subst (λ (w : TryRecvError). IsEmptyFor old w) is empty, left))

module _ {W C : Type 0} (exchanged : C → Option W → W → C → Type 0) where
  any_waits : (key : Option Key) (old : Queue (Unit {0}) W) (on : C) (waits : Key) (new : Queue (Unit {0}) W) (on' : C) → WaitsBy exchanged key old on waits new on' → WaitsBy with_any_task key old tt waits new tt
  any_waits key old on waits new on' h = record { task = h.task; made = tt; same = h.same; told = h.told; waiting = h.waiting }

module _ {T W C : Type 0} (exchanged : C → Option W → W → C → Type 0) where
  any_sends : (message : Option T) (key : Option Key) (before : State T W) (losses : ℕ) (on : C) (answer : Sent) (after : State T W) (losses' : ℕ) (on' : C)
      → SendsInTurn exchanged message key before losses on answer after losses' on' → SendsInTurn with_any_task message key before losses tt answer after losses' tt
  any_sends message key before losses on (Done (Ok sent)) after losses' on' h = (h.0, h.1, h.2, h.3, refl)
  any_sends message key before losses on (Done (Err reason)) after losses' on' h = (h.0, h.1, h.2, h.3, refl)
  any_sends message key before losses on (Waits waits) after losses' on' h = (h.0, h.1, h.2, any_waits exchanged key before.senders on waits after.senders on' h.3, h.4, h.5)
  any_sends message key before losses on Absent after losses' on' h = (h.0, h.1, refl)
  any_sends message key before losses on (Refused error) after losses' on' h = (h.0, h.1, h.2, h.3, h.4, h.5, refl)

  any_receives : (key : Option Key) (before : State T W) (old : Queue (Unit {0}) W) (on : C) (answer : Received T) (rest : State T W) (new : Queue (Unit {0}) W) (on' : C)
      → Receives exchanged key before old on answer rest new on' → Receives with_any_task key before old tt answer rest new tt
  any_receives key before old on (Done (Some message)) rest new on' h = (h.0, h.1, h.2, refl)
  any_receives key before old on (Done None) rest new on' h = (h.0, h.1, h.2, h.3, refl)
  any_receives key before old on (Waits waits) rest new on' h = (h.0, h.1, h.2, any_waits exchanged key old on waits new on' h.3, h.4)
  any_receives key before old on Absent rest new on' h = (h.0, h.1, h.2, h.3, refl)
  any_receives key before old on (Refused error) rest new on' h = (h.0, h.1, h.2, h.3, refl)

  any_in_turn : (key : Option Key) (before : State T W) (losses : ℕ) (on : C) (answer : Received T) (after : State T W) (losses' : ℕ) (on' : C)
      → ReceivesInTurn exchanged key before losses on answer after losses' on' → ReceivesInTurn with_any_task key before losses tt answer after losses' tt
  any_in_turn key before losses on (Done (Some message)) after losses' on' h = (h.0, h.1, h.2, h.3, refl)
  any_in_turn key before losses on (Done None) after losses' on' h = (h.0, h.1, h.2, h.3, h.4, refl)
  any_in_turn key before losses on (Waits waits) after losses' on' h = (h.0, h.1, h.2, any_waits exchanged key before.receivers on waits after.receivers on' h.3, h.4, h.5)
  any_in_turn key before losses on Absent after losses' on' h = (h.0, h.1, h.2, h.3, h.4, h.5, refl)
  any_in_turn key before losses on (Refused error) after losses' on' h = (h.0, h.1, h.2, h.3, h.4, h.5, refl)

  -- one that sends or waits
  pub sends_or_waits : (before message : Option T) (key : Option Key) (old new : State T W) (losses losses' : ℕ) (on on' : C) (answer : Sent)
      → before ≡ message → SendsInTurn exchanged message key old losses on answer new losses' on' → (message ≡ None → answer ≡ Absent)
      → (c : ChannelCall T) × SendsOrWaits before answer c × Moves (sender_at key) c (sender_at (key_of answer)) × calls old c new
  sends_or_waits before (Some message) key old new losses losses' on on' answer is does absent =
      rw is (call.SendOrWait message key answer, (key, refl), (refl, refl), (losses, losses', any_sends (Some message) key old losses on answer new losses' on' does))
  sends_or_waits before None key old new losses losses' on on' answer is does absent =
      let left = subst (λ (a : Sent). SendsInTurn exchanged None key old losses on a new losses' on') (absent refl) does in
      rw is (call.LeaveSenders key, (absent refl, key, refl), (refl, ap (λ (a : Sent). sender_at (key_of a)) (sym (absent refl))), (ap (λ (s : State T W). record s { senders = new.senders; starving_senders = new.starving_senders }) left.0.0, left.0.1))

  -- one that receives or waits, in either queue
  pub receives_or_waits : (is_stream : Bool) (key : Option Key) (old new : State T W) (losses losses' : ℕ) (on on' : C) (answer : Received T) → is_stream ≡ false
      → ReceivesInTurn exchanged key old losses on answer new losses' on'
      → calls old (call.ReceiveOrWait is_stream key answer) new
  receives_or_waits is_stream key old new losses losses' on on' answer is does =
      rw is (losses, losses', any_in_turn key old losses on answer new losses' on' does)

  pub next_or_waits : (is_stream : Bool) (key : Option Key) (old new : State T W) (on on' : C) (answer : Received T) → is_stream ≡ true
      → Receives exchanged key old old.streams on answer (record new { streams = old.streams }) new.streams on'
      → calls old (call.ReceiveOrWait is_stream key answer) new
  next_or_waits is_stream key old new on on' answer is does =
      rw is (any_receives key old old.streams on answer (record new { streams = old.streams }) new.streams on' does)

module _ {T : Type 0} where
  moves_so : (key : Option Key) (c made : ChannelCall T) → c ≡ made → Moves (receiver_at false key) made None → Moves (receiver_at false key) c None
  moves_so key c made is moves = subst (λ (x : ChannelCall T). Moves (receiver_at false key) x None) (sym is) moves

  -- by its place, and it waits no more
  many_move : (key : Option Key) (answer : Option (Option ℕ)) (c : ChannelCall T) → ReceivesMany key answer c → Moves (receiver_at false key) c None
  many_move key None c (inl is) = moves_so key c (call.ReceiveOrLeave false key (Err Empty)) is (refl, refl)
  many_move key None c (inr is) = moves_so key c (call.LeaveReceivers false key) is (refl, refl)
  many_move key (Some None) c is = moves_so key c (call.ReceiveOrLeave false key (Err Closed)) is (refl, refl)
  many_move key (Some (Some count)) c (messages, many, is) = moves_so key c (call.ReceiveMany messages key) is (refl, refl)

module _ {T W : Type 0} where
  pub waits_as_asked : (asked is_stream : Bool) (key : Option Key) (old new : State T W) (answer : Received T) → asked ≡ is_stream
      → calls old (call.ReceiveOrWait is_stream key answer) new
      → (c : ChannelCall T) × ReceivesOrWaits asked answer c × Moves (receiver_at asked key) c (receiver_at asked (key_of answer)) × calls old c new
  waits_as_asked asked is_stream key old new answer same does = rw same (call.ReceiveOrWait is_stream key answer, (key, refl), (refl, refl), does)

  pub closes_once : (X : Type 0) (old new : State T W) (closed : Bool) → (IsTrue closed ↔ (old.is_closed ≡ false)) → (IsTrue closed → Closes old new) → (IsFalse closed → (new ≡ old) × X) → ClosesOnce closed old new
  closes_once X old new true once closed again = closed refl
  closes_once X old new false once closed again = (was_closed old.is_closed refl, (again refl).0)
    where
      was_closed : (b : Bool) → old.is_closed ≡ b → old.is_closed ≡ true
      was_closed true is = is
      was_closed false is = absurd (false≢true (once.1 is))

  -- one that was in no queue left none
  left_none : (is_stream : Bool) (old new : State T W) → LeavesReceivers is_stream None old new → new ≡ old
  left_none false old new left =
      left.0 ∙ ap (λ line. record old { receivers = line; starving_receivers = new.starving_receivers; streams = new.streams }) left.1.left
      ∙ ap (λ keys. record old { starving_receivers = keys; streams = new.streams }) left.1.struck ∙ ap (λ line. record old { streams = line }) left.1.streams
  left_none true old new left = left.0 ∙ ap (λ line. record old { streams = line }) left.1

  -- an attempt, and then leaving
  pub sends_or_leaves : (before slot : Option T) (answer : Option (Result (Unit {0}) SendReason)) (key : Option Key) (old between new : State T W) → before ≡ slot
      → ((message : T) → slot ≡ Some message → SendsOne key message (sent_at_once answer) old between) → (slot ≡ None → (answer ≡ None) × (between ≡ old)) → LeavesSenders key between new
      → (c : ChannelCall T) × SendsOrLeaves before answer c × Moves (sender_at key) c None × calls old c new
  sends_or_leaves before (Some message) answer key old between new is sends absent left =
      rw is (call.SendOrLeave message key (sent_at_once answer), (key, refl), (refl, refl), (between, sends message refl, left))
  sends_or_leaves before None answer key old between new is sends absent left =
      rw is (call.LeaveSenders key, ((absent refl).0, key, refl), (refl, refl), subst (λ (s : State T W). LeavesSenders key s new) (absent refl).1 left)

  pub receives_or_leaves : (before is_stream : Bool) (answer : Option (Option T)) (key : Option Key) (old between new : State T W) → before ≡ is_stream
      → DoesReceive (receiver_key is_stream key) (received_at_once answer) old between → LeavesReceivers is_stream key between new
      → (c : ChannelCall T) × ReceivesOrLeaves before answer c × Moves (receiver_at before key) c None × calls old c new
  receives_or_leaves before is_stream answer key old between new same does left =
      rw same (call.ReceiveOrLeave is_stream key (received_at_once answer), (key, refl), (refl, refl), (between, does, left))

  -- where it found the end nothing changed, whoever it is
  at_the_end : (key : Option Key) (old new : State T W) → old.messages ≡ [] → new ≡ old → ForbearsFor key old new
  at_the_end None old new none same = subst (λ (none : Bool). ForbearsUnless none old new) (sym (ap (λ (ms : List T). length ms == 0) none)) same
  at_the_end (Some key) old new none same = same

  made_many : (output : Option ℕ) (key : Option Key) (old between new : State T W) → TakesMany key output old between → LeavesReceivers false key between new
      → (c : ChannelCall T) × ReceivesMany key (Some output) c × calls old c new
  made_many None key old between new (none, closed, same) left =
      (call.ReceiveOrLeave false key (Err Closed), refl, (between, ((none, closed), at_the_end key old between none same), left))
  made_many (Some count) key old between new (messages, many, does) left = (call.ReceiveMany messages key, (messages, many, refl), (between, does, left))

  -- one that is in no queue leaves none
  in_none : (state : State T W) → LeavesReceivers false None state state
  in_none state = (refl, record { left = refl; struck = refl; streams = refl })

  pub gives_up_sending : (before : Option T) (key : Option Key) (old new : State T W) → LeavesSenders key old new → (c : ChannelCall T) × GivesUpSending before c × Moves (sender_at key) c None × calls old c new
  gives_up_sending before key old new left = (call.LeaveSenders key, (key, refl), (refl, refl), left)

  pub gives_up_receiving : (before is_stream : Bool) (key : Option Key) (old new : State T W) → before ≡ is_stream → LeavesReceivers is_stream key old new
      → (c : ChannelCall T) × GivesUpReceiving before c × Moves (receiver_at before key) c None × calls old c new
  gives_up_receiving before is_stream key old new same left = rw same (call.LeaveReceivers is_stream key, (key, refl), (refl, refl), left)

  -- one that is to receive many has no room for any
  pub many_without_room : (state : State T W) → (c : ChannelCall T) × ReceivesMany None None c × calls state c state
  many_without_room state = (call.LeaveReceivers false None, inr refl, in_none state)

  pub many_of_none : (old new : State T W) (why : TryRecvError) → why ≡ Empty → IsEmptyFor old why → Forbears old new → (c : ChannelCall T) × ReceivesMany None None c × calls old c new
  many_of_none old new why is empty left = (call.ReceiveOrLeave false None (Err Empty), inl refl, (new, (subst (λ (w : TryRecvError). IsEmptyFor old w) is empty, left), (refl, record { left = refl; struck = refl; streams = refl })))

  pub many_at_the_end : (old new : State T W) (why : TryRecvError) → why ≡ Closed → IsEmptyFor old why → Forbears old new → (c : ChannelCall T) × ReceivesMany None (Some None) c × calls old c new
  many_at_the_end old new why is empty left = (call.ReceiveOrLeave false None (Err Closed), refl, (new, (subst (λ (w : TryRecvError). IsEmptyFor old w) is empty, left), (refl, record { left = refl; struck = refl; streams = refl })))

  pub many_taken : (key : Option Key) (old between new : State T W) (message : T) (count limit room : ℕ) → Takes (message ∷ []) old between → 0 < for_one key old
      → count ≡ min limit (min room (due_to_no_other key between)) → Takes (take count between.messages) between new
      → TakesMany key (Some (1 + count)) old new
  many_taken key old between new message count limit room first may counted rest =
      let there = due_to_no_other key between in
      let few : there ≤ length between.messages = most_for_newcomers (between.is_closed || length between.starving_receivers == 0) (told_beside (is_told key between.receivers) (length between.receivers.told)) (length between.messages) in
      let some : count ≤ there = omega (arith, counted) in
      let taken : length (take count between.messages) ≡ count = length-take-le count between.messages (omega (arith, some, few)) in
      let size : length (message ∷ take count between.messages) ≡ 1 + count = ap suc taken ∙ one_more count in
      (message ∷ take count between.messages, size, (between, first, rest, may, subst (λ (n : ℕ). n ≤ there) (sym taken) some))

  pub none_will_come : (key : Option Key) (old new : State T W) (why : TryRecvError) → why ≡ Closed → FindsNone (for_one key old) old why → new ≡ old → TakesMany key None old new
  none_will_come key old new why is empty same = let h = subst (λ (w : TryRecvError). FindsNone (for_one key old) old w) is empty in (h.0, h.1, same)

  pub many_tried_and_taken : (count : ℕ) (old new : State T W) → TakesMany None (Some count) old new → (c : ChannelCall T) × ReceivesMany None (Some (Some count)) c × calls old c new
  many_tried_and_taken count old new taken = made_many (Some count) None old new new taken (in_none new)

  -- by no place, where it only tries
  pub many_tried : (old new : State T W) (answer : Option (Option ℕ)) → (c : ChannelCall T) × ReceivesMany None answer c × calls old c new
      → (c : ChannelCall T) × ReceivesMany None answer c × Moves None c None × calls old c new
  many_tried old new answer (c, is, does) = (c, is, many_move None answer c is, does)

  pub many_taken_then_leaves : (output : Option ℕ) (key : Option Key) (old between new : State T W)
      → TakesMany key output old between → LeavesReceivers false key between new
      → (c : ChannelCall T) × ((key : Option Key) × ReceivesMany key (Some output) c) × Moves (receiver_at false key) c None × calls old c new
  many_taken_then_leaves output key old between new taken left =
      let (c, is, does) = made_many output key old between new taken left in (c, (key, is), many_move key (Some output) c is, does)

  pub many_or_leaves : (answer : Option (Option ℕ)) (key : Option Key) (old between new : State T W)
      → IfSome answer (λ output. TakesMany key output old between) → (answer ≡ None → between ≡ old) → LeavesReceivers false key between new
      → (c : ChannelCall T) × ((key : Option Key) × ReceivesMany key answer c) × Moves (receiver_at false key) c None × calls old c new
  many_or_leaves (Some output) key old between new taken nothing left = many_taken_then_leaves output key old between new taken left
  many_or_leaves None key old between new taken nothing left =
      (call.LeaveReceivers false key, (key, inr refl), (refl, refl), subst (λ (s : State T W). LeavesReceivers false key s new) (nothing refl) left)

  waits_from : (old between new : State T W) (key : Option Key) (answer : Received T) → between ≡ old → calls between (call.ReceiveOrWait false key answer) new → calls old (call.ReceiveOrWait false key answer) new
  waits_from old between new key answer nothing does = subst (λ (s : State T W). calls s (call.ReceiveOrWait false key answer) new) nothing does

  -- one that found none does not have any where it is to wait
  pub none_there : (key : Option Key) (old between new : State T W) (output : Option T) → FindsNone (for_one key old) old Empty → between ≡ old
      → calls between (call.ReceiveOrWait false key (Done output)) new → ⊥
  none_there key old between new output none nothing does = by output (waits_from old between new key (Done output) nothing does)
    where
      by : (output : Option T) → calls old (call.ReceiveOrWait false key (Done output)) new → ⊥
      by (Some message) (losses, losses', h) = let some = h.0 in let no = none.0 in omega (arith, some, no)
      by None (losses, losses', h) = false≢true (sym none.1 ∙ h.1)

  pub many_leaves_late : (key : Option Key) (old new : State T W) → LeavesReceivers false key old new
      → (c : ChannelCall T) × ((key : Option Key) × ReceivesMany key None c) × Moves (receiver_at false key) c None × calls old c new
  many_leaves_late key old new left = (call.LeaveReceivers false key, (key, inr refl), (refl, refl), left)

  pub many_leaves : (key : Option Key) (old new : State T W) → LeavesReceivers false key old new
      → (c : ChannelCall T) × ((key : Option Key) × (((Memory ≡ Memory) × (c ≡ call.LeaveReceivers false key)) ⊎ (c ≡ call.ReceiveOrWait false key (Refused Memory)))) × Moves (receiver_at false key) c None × calls old c new
  many_leaves key old new left = (call.LeaveReceivers false key, (key, inl (refl, refl)), (refl, refl), left)

  pub many_waits : (old between new : State T W) (before : Option Key) (key : Key)
      → between ≡ old → calls between (call.ReceiveOrWait false before (Waits key)) new
      → (c : ChannelCall T) × ((before : Option Key) × (c ≡ call.ReceiveOrWait false before (Waits key))) × Moves (receiver_at false before) c (receiver_at false (Some key)) × calls old c new
  many_waits old between new before key nothing does = (call.ReceiveOrWait false before (Waits key), (before, refl), (refl, refl), waits_from old between new before (Waits key) nothing does)

  pub many_absent : (old between new : State T W) (key : Option Key)
      → between ≡ old → calls between (call.ReceiveOrWait false key Absent) new
      → (c : ChannelCall T) × ((key : Option Key) × (c ≡ call.ReceiveOrWait false key Absent)) × Moves (receiver_at false key) c None × calls old c new
  many_absent old between new key nothing does = (call.ReceiveOrWait false key Absent, (key, refl), (refl, refl), waits_from old between new key Absent nothing does)

  pub many_refused : (old between new : State T W) (key : Option Key) (error : ListenError)
      → between ≡ old → calls between (call.ReceiveOrWait false key (Refused error)) new
      → (c : ChannelCall T) × ((key : Option Key) × (((error ≡ Memory) × (c ≡ call.LeaveReceivers false key)) ⊎ (c ≡ call.ReceiveOrWait false key (Refused error)))) × Moves (receiver_at false key) c None × calls old c new
  many_refused old between new key error nothing does = (call.ReceiveOrWait false key (Refused error), (key, inr refl), (refl, refl), waits_from old between new key (Refused error) nothing does)
