-- What a hand knows to be sent.
use Rattle.std.proofs.Common.{◌⊎◌, inr, List, [], ◌∷◌, ◌++◌, ℕ, zero, suc, refl, sym, subst, inl, ⊎_elim, Option, Some, None, false, Result, Ok, Err, IfErr, IfOk}
use Rattle.event_wait.specs.Rounds.{Rounds}
use Rattle.event_wait.specs.declared.request.Attempted.TheVariants.{Done}
use Rattle.event_history.specs.History.{Extends, IsAmong, Looks, Makes, StartsWith, both_views, entry, met_of}
use Rattle.event_history.proofs.HandLemmas.{begins_last}
use Rattle.event_history.proofs.RestsOnLemmas.{among_back, among_either, among_front}
use Rattle.event_history.specs.declared.history.Entry.{Entry}
use Rattle.event_history.specs.declared.history.View.{View}
use Rattle.event_channel.specs.declared.call.ChannelCall.{ChannelCall}
use Rattle.event_channel.specs.declared.call.ChannelCall.TheVariants as call
use Rattle.event_channel.specs.declared.error.RecvError.{RecvError}
use Rattle.event_channel.specs.declared.error.RecvError.TheVariants as ended
use Rattle.event_channel.specs.declared.error.SendError.{SendError}
use Rattle.event_channel.specs.declared.error.SendReason.{SendReason}
use Rattle.event_channel.specs.declared.error.SendReason.TheVariants as unsent
use Rattle.event_channel.specs.declared.error.TryRecvError.{TryRecvError}
use Rattle.event_channel.specs.Calls.{answer_of, channel_machine}
use Rattle.event_channel.specs.Hands.{EndsUnsent, IsReceive, IsReceiveGivenUp, IsSend, IsSendGivenUp, IsVainReceive, IsVainSend, MakesAtLast, MakesSome, ReceivesBlocking, SendsBlocking}
use Rattle.event_channel.specs.Messages.{AreDue, State}
use Rattle.event_channel.specs.Sent.{ChannelLog, WasBefore, all_of, out_by, sent_by}
use Rattle.event_channel.proofs.HistoryLemmas.{none_waits, seen_to_be_sent}

-- what a hand knows
abbrev Seen : Type 0 → Type 0 → Type 0
Seen T W = View (State T W) (ChannelCall T)

module _ {T : Type 0} where
  -- what was sent stays so
  sent_earlier : (message : T) (earlier later : ChannelLog T) → IsAmong message (all_of sent_by earlier) → IsAmong message (all_of sent_by (earlier ++ later))
  sent_earlier message [] later h = absurd h
  sent_earlier message (e ∷ es) later h = ⊎_elim
      (λ here. among_front message (sent_by e.call) (all_of sent_by (es ++ later)) here)
      (λ there. among_back message (sent_by e.call) (all_of sent_by (es ++ later)) (sent_earlier message es later there))
      (among_either message (sent_by e.call) (all_of sent_by es) h)

  sent_last : (message : T) (log : ChannelLog T) (e : Entry (ChannelCall T)) → IsAmong message (sent_by e.call) → IsAmong message (all_of sent_by (log ++ e ∷ []))
  sent_last message [] e h = among_front message (sent_by e.call) [] h
  sent_last message (x ∷ xs) e h = among_back message (sent_by x.call) (all_of sent_by (xs ++ e ∷ [])) (sent_last message xs e h)

  sent_in_longer : (message : T) (log front : ChannelLog T) → StartsWith log front → IsAmong message (all_of sent_by front) → IsAmong message (all_of sent_by log)
  sent_in_longer message log front (later, begins) h =
      subst (λ (es : ChannelLog T). IsAmong message (all_of sent_by es)) (sym begins) (sent_earlier message front later h)

module _ {T W : Type 0} (capacity : Option ℕ) where
  pub by_a_call : (v w : Seen T W) (c : ChannelCall T) → Extends (channel_machine capacity) v c w → (message : T) → IsAmong message (sent_by c) → IsAmong message (all_of sent_by w.seen)
  by_a_call v w c (before, after, led) message h =
      subst (λ (es : ChannelLog T). IsAmong message (all_of sent_by es)) (sym led.seen) (sent_last message (v.seen ++ led.between) (entry led.number c) h)

  pub by_sending : (v w : Seen T W) (message : T) (reply : Result (Unit {0}) (SendError T)) → SendsBlocking capacity message v reply w → IfOk reply (λ sent. IsAmong message (all_of sent_by w.seen))
  by_sending v w message (Err error) ended = tt
  by_sending v w message (Ok sent) (u, some, (c, is, extends)) = by_a_call u w c extends message (⊎_elim
      (λ at_once. subst (λ (x : ChannelCall T). IsAmong message (sent_by x)) (sym at_once) (inl refl))
      (λ t. subst (λ (x : ChannelCall T). IsAmong message (sent_by x)) (sym t.1) (inl refl))
      is)

  pub before_a_call : (v w : Seen T W) (c : ChannelCall T) → Extends (channel_machine capacity) v c w → (message : T) → IsAmong message (all_of sent_by v.seen) → IsAmong message (all_of sent_by w.seen)
  before_a_call v w c (before, after, led) message h =
      subst (λ (es : ChannelLog T). IsAmong message (all_of sent_by es)) (sym led.seen)
      (sent_earlier message (v.seen ++ led.between) (entry led.number c ∷ []) (sent_earlier message v.seen led.between h))

  before_calls : (v w : Seen T W) (is : ChannelCall T → Type 0) → MakesSome (channel_machine capacity) v is w → (message : T) → IsAmong message (all_of sent_by v.seen) → IsAmong message (all_of sent_by w.seen)
  before_calls v w is (rounds, made) = after rounds w made where
    after : (n : ℕ) (u : Seen T W) → Rounds (λ (x y : Seen T W). Makes (channel_machine capacity) x is y) n v u → (message : T) → IsAmong message (all_of sent_by v.seen) → IsAmong message (all_of sent_by u.seen)
    after zero u same message h = subst (λ (x : Seen T W). IsAmong message (all_of sent_by x.seen)) (sym same) h
    after (suc n) u (between, some, made) message h = before_a_call between u made.0 made.2 message (after n between some message h)

  before_the_last : (v w : Seen T W) (vain last : ChannelCall T → Type 0) → MakesAtLast (channel_machine capacity) v vain last w → (message : T) → IsAmong message (all_of sent_by v.seen) → IsAmong message (all_of sent_by w.seen)
  before_the_last v w vain last (u, some, made) message h = before_a_call u w made.0 made.2 message (before_calls v u vain some message h)

  pub before_receiving : (v w : Seen T W) (reply : Result T RecvError) → ReceivesBlocking capacity v reply w → (message : T) → IsAmong message (all_of sent_by v.seen) → IsAmong message (all_of sent_by w.seen)
  before_receiving v w (Ok received) = before_the_last v w IsVainReceive (IsReceive (Some received))
  before_receiving v w (Err ended.Closed) = before_the_last v w IsVainReceive (IsReceive None)
  before_receiving v w (Err (ended.WaitFailed error)) = before_calls v w (λ c. IsVainReceive c ⊎ IsReceiveGivenUp c)

  before_no_sending : (v w : Seen T W) (other : T) (reason : SendReason) → EndsUnsent capacity other v reason w → (message : T) → IsAmong message (all_of sent_by v.seen) → IsAmong message (all_of sent_by w.seen)
  before_no_sending v w other unsent.Closed h = before_the_last v w (IsVainSend other) (IsSend other (Err unsent.Closed)) h
  before_no_sending v w other unsent.Full h = absurd h
  before_no_sending v w other unsent.TimedOut h = absurd h
  before_no_sending v w other unsent.Memory h = before_the_last v w (IsVainSend other) (IsSend other (Err unsent.Memory)) h
  before_no_sending v w other (unsent.WaitFailed error) h = before_calls v w (λ c. IsVainSend other c ⊎ IsSendGivenUp other c) h

  pub before_sending : (v w : Seen T W) (other : T) (reply : Result (Unit {0}) (SendError T)) → SendsBlocking capacity other v reply w → (message : T) → IsAmong message (all_of sent_by v.seen) → IsAmong message (all_of sent_by w.seen)
  before_sending v w other (Ok sent) = before_the_last v w (IsVainSend other) (IsSend other (Ok sent))
  before_sending v w other (Err error) = before_no_sending v w other error.reason

  pub absorbed : (v other w : Seen T W) → Looks (channel_machine capacity) (both_views v other) w → (message : T) → IsAmong message (all_of sent_by other.seen) → IsAmong message (all_of sent_by w.seen)
  absorbed v other w looks message h =
      sent_in_longer message w.seen other.seen (begins_last w.seen looks.others w.met (met_of other) v.met looks.idle.2 looks.met) h

  pub kept : (v other w : Seen T W) → Looks (channel_machine capacity) (both_views v other) w → (message : T) → IsAmong message (all_of sent_by v.seen) → IsAmong message (all_of sent_by w.seen)
  kept v other w looks message h = sent_in_longer message w.seen v.seen looks.seen h

  -- what a receive gives was sent
  pub received : (v w : Seen T W) (reply : Result T TryRecvError) → Extends (channel_machine capacity) v (call.Receive reply) w → IfOk reply (λ message. IsAmong message (all_of sent_by w.seen))
  received v w (Ok message) called = seen_to_be_sent capacity v w (call.Receive (Ok message)) called message (inl refl)
  received v w (Err error) called = tt

  -- and so what a receive that blocks gives
  pub received_blocking : (v w : Seen T W) (reply : Result T RecvError) → ReceivesBlocking capacity v reply w → IfOk reply (λ message. IsAmong message (all_of sent_by w.seen))
  received_blocking v w (Err error) ended = tt
  received_blocking v w (Ok message) (u, some, (c, is, extends)) = ⊎_elim
      (λ at_once. seen_to_be_sent capacity u w (call.Receive (Ok message)) (subst (λ (x : ChannelCall T). Extends (channel_machine capacity) u x w) at_once extends) message (inl refl))
      (λ t. seen_to_be_sent capacity u w (call.ReceiveOrWait false t.0 (Done (Some message))) (subst (λ (x : ChannelCall T). Extends (channel_machine capacity) u x w) t.1 extends) message (inl refl))
      is

  -- what a hand sent that another one absorbed, which then finds no message, went out, or each that waits is due
  pub sent : (u v w x y : Seen T W) (message : T) (answer : Result (Unit {0}) (SendError T)) (reply : Result T TryRecvError)
      → Extends (channel_machine capacity) u (call.Send message (answer_of answer)) v → Looks (channel_machine capacity) (both_views w v) x → Extends (channel_machine capacity) x (call.Receive reply) y
      → IfOk answer (λ done. IfErr reply (λ error. IsAmong message (all_of out_by y.seen) ⊎ WasBefore capacity (λ (q : State T W). AreDue q) y.seen))
  sent u v w x y message (Err error) reply sends absorbs receives = tt
  sent u v w x y message (Ok done) (Ok other) sends absorbs receives = tt
  sent u v w x y message (Ok done) (Err error) sends absorbs receives =
      let its = by_a_call u v (call.Send message (Ok done)) sends message (inl refl) in
      let known = before_a_call x y (call.Receive (Err error)) receives message (absorbed w v x absorbs message its) in
      ⊎_elim (λ out. inl (subst (λ (ms : List T). IsAmong message ms) out known)) (λ due. inr due) (none_waits capacity x y error receives)
