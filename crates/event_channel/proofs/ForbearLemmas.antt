-- What a refusal keeps that is made for the sake of those that starve.
use Rattle.std.proofs.Common.{◌≡◌, ◌==◌, Bool, true, false, length, refl, sym, subst, Option, Some, None}
use Rattle.event_queue.specs.declared.key.Key.{Key}
use Rattle.event_channel.specs.Forbearing.{Forbears, ForbearsFor, ForbearsSending, ForbearsSendingFor, ForbearsSendingUnless, ForbearsUnless, ForbearsWithReceiver, ForbearsWithSender, RefusedFor}
use Rattle.event_channel.specs.Messages.{State, room_in}
use Rattle.event_channel.specs.Steps.{KeepsAllButReceivers, KeepsAllButSenders}
use Rattle.event_channel.specs.Turns.{struck_off}
use Rattle.event_channel.specs.declared.error.SendReason.{SendReason}
use Rattle.event_channel.specs.declared.error.SendReason.TheVariants.{Closed, Full, TimedOut, Memory, WaitFailed}

module _ {T W : Type 0} where
  same_but_receivers : (before after : State T W) → after ≡ before → KeepsAllButReceivers before after
  same_but_receivers before after same = subst (λ (s : State T W). KeepsAllButReceivers before s) (sym same) refl

  same_but_senders : (before after : State T W) → after ≡ before → KeepsAllButSenders before after
  same_but_senders before after same = subst (λ (s : State T W). KeepsAllButSenders before s) (sym same) refl

  with_receiver : (key : Option Key) (before after : State T W) → ForbearsWithReceiver key before after → KeepsAllButReceivers before after
  with_receiver None before after h = subst (λ (s : State T W). KeepsAllButReceivers before s) (sym h) refl
  with_receiver (Some key) before after h = h.rest

  with_sender : (key : Option Key) (before after : State T W) → ForbearsWithSender key before after → KeepsAllButSenders before after
  with_sender None before after h = subst (λ (s : State T W). KeepsAllButSenders before s) (sym h) refl
  with_sender (Some key) before after h = h.rest

  unless : (none : Bool) (before after : State T W) → ForbearsUnless none before after → KeepsAllButReceivers before after
  unless true before after h = same_but_receivers before after h
  unless false before after h = with_receiver (struck_off before.starving_receivers) before after h

  sending_unless : (none : Bool) (before after : State T W) → ForbearsSendingUnless none before after → KeepsAllButSenders before after
  sending_unless true before after h = same_but_senders before after h
  sending_unless false before after h = with_sender (struck_off before.starving_senders) before after h

  -- nothing changes but the queue of the receivers, and with it the streams
  pub forborne : (before after : State T W) → Forbears before after → KeepsAllButReceivers before after
  forborne before after h = unless (length before.messages == 0) before after h

  pub forborne_for : (key : Option Key) (before after : State T W) → ForbearsFor key before after → KeepsAllButReceivers before after
  forborne_for None before after h = forborne before after h
  forborne_for (Some key) before after h = same_but_receivers before after h

  -- nothing changes but the queue of the senders
  pub forborne_sending : (before after : State T W) → ForbearsSending before after → KeepsAllButSenders before after
  forborne_sending before after h = sending_unless (room_in before == 0) before after h

  pub sending_for : (key : Option Key) (before after : State T W) → ForbearsSendingFor key before after → KeepsAllButSenders before after
  sending_for None before after h = forborne_sending before after h
  sending_for (Some key) before after h = same_but_senders before after h

  pub refused_for : (reason : SendReason) (key : Option Key) (before after : State T W) → RefusedFor reason key before after → KeepsAllButSenders before after
  refused_for Closed key before after h = same_but_senders before after h
  refused_for Full key before after h = sending_for key before after h
  refused_for TimedOut key before after h = same_but_senders before after h
  refused_for Memory key before after h = same_but_senders before after h
  refused_for (WaitFailed error) key before after h = same_but_senders before after h
