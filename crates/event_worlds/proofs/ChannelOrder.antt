-- What a schedule of the channel world receives and leaves is what was there and what it sends, in that order.
use Rattle.std.proofs.Common.{arith, ◌≡◌, ℕ, Bool, true, false, List, [], ◌∷◌, ◌++◌, drop, slice_get, Option, Some, None, refl, sym, ap, ◌∙◌, append_assoc}
use Rattle.std.proofs.lemmas.List.{append-nil}
use Rattle.std.specs.Prelude.{option_to_list, unwrap_or, option_map, option_and_then}
use Rattle.event_worlds.specs.declared.world.acts.ChannelAct.{ChannelAct}
use Rattle.event_worlds.specs.declared.world.acts.ChannelAct.TheVariants.{Go, Send, Poll, TimeOut, Cancel}
use Rattle.event_worlds.specs.declared.world.acts.ChannelActor.{ChannelActor}
use Rattle.event_worlds.specs.declared.world.acts.ChannelActor.TheVariants.{Sender, Receiver, Closer}
use Rattle.event_worlds.specs.declared.world.acts.ChannelStep.{ChannelStep}
use Rattle.event_worlds.specs.declared.world.channel.ChannelClient.{ChannelClient}
use Rattle.event_worlds.specs.declared.world.channel.CloserPlace.{CloserPlace}
use Rattle.event_worlds.specs.declared.world.channel.CloserPlace.TheVariants.{ToClose, ToNotifySenders, ToNotifyReceivers, Done}
use Rattle.event_worlds.specs.declared.world.channel.Found.{Found}
use Rattle.event_worlds.specs.declared.world.channel.Found.TheVariants.{One, Nothing, Over}
use Rattle.event_worlds.specs.declared.world.place.Place.{Place}
use Rattle.event_worlds.specs.declared.world.place.Place.TheVariants.{First, Second}
use Rattle.event_worlds.specs.Line.{Line}
use Rattle.event_worlds.specs.Channel.{ChannelState, room_found, first_found, message_found, from, passed, sender_goes, receiver_goes, step_of_sender, step_of_receiver, next_of_closer, after, after_all, sent_by, received_by, sent, received}
use Rattle.event_worlds.specs.ChannelSafety.{InOrder}

module _ (state : ChannelState) (client : ℕ) where
  abbrev Goes : Type 0
  Goes = Option (ChannelClient × Line × Line)

  -- what a sender's step leaves in the channel

  abbrev sent_to : Option ℕ → Goes → List ℕ
  sent_to message to = (unwrap_or (option_map (sender_goes client message state) to) state).messages

  none-sent : (to : Goes) → sent_to None to ≡ state.messages ++ []
  none-sent None = sym (append-nil state.messages)
  none-sent (Some to) = refl

  sender-leaves : (act : ChannelAct) (place : Place) (found : Found) (own : ChannelClient) (line other : Line) → sent_to (passed act place found) (from act place true client own found line other) ≡ state.messages ++ option_to_list (passed act place found)
  sender-leaves Go (First woken) (One message) own line other = refl
  sender-leaves Go Second (One message) own line other = refl
  sender-leaves act place found own line other = none-sent (from act place true client own found line other)

  sender-order : (act : ChannelAct) (o : Option ChannelClient) → (unwrap_or (option_and_then (step_of_sender client act state) o) state).messages ≡ state.messages ++ option_to_list (option_and_then (λ own. passed act own.place (room_found own.message state)) o)
  sender-order act None = sym (append-nil state.messages)
  sender-order act (Some own) = grind (arith, sender-leaves)

  -- what a receiver's step leaves in the channel

  abbrev received_to : Option ℕ → Goes → List ℕ
  received_to message to = (unwrap_or (option_map (receiver_goes client message state) to) state).messages

  none-received : (to : Goes) → received_to None to ≡ state.messages
  none-received None = refl
  none-received (Some to) = refl

  -- what a look finds is the first message
  abbrev IsFirst : List ℕ → Found → Type 0
  IsFirst messages (One message) = message ∷ drop 1 messages ≡ messages
  IsFirst messages Nothing = messages ≡ messages
  IsFirst messages Over = messages ≡ messages

  first-is : (messages : List ℕ) (closed : Bool) → IsFirst messages (first_found messages closed)
  first-is [] true = refl
  first-is [] false = refl
  first-is (message ∷ rest) closed = refl

  receiver-leaves : (act : ChannelAct) (place : Place) (found : Found) (own : ChannelClient) (line other : Line) → IsFirst state.messages found → option_to_list (passed act place found) ++ received_to (passed act place found) (from act place false client own found line other) ≡ state.messages
  receiver-leaves Go (First woken) (One message) own line other first = first
  receiver-leaves Go Second (One message) own line other first = first
  receiver-leaves act place found own line other first = grind (arith, none-received)

  receiver-order : (act : ChannelAct) (o : Option ChannelClient) → option_to_list (option_and_then (λ own. passed act own.place (message_found state)) o) ++ (unwrap_or (option_and_then (step_of_receiver client act state) o) state).messages ≡ state.messages
  receiver-order act None = refl
  receiver-order act (Some own) = grind (arith, first-is, receiver-leaves)

closer-leaves : (state : ChannelState) (closer : CloserPlace) → (unwrap_or (next_of_closer closer state) state).messages ≡ state.messages
closer-leaves state ToClose = refl
closer-leaves state ToNotifySenders = refl
closer-leaves state ToNotifyReceivers = refl
closer-leaves state Done = refl

-- one step

pub step-in_order : (actor : ChannelActor) (act : ChannelAct) (state : ChannelState) → InOrder (received_by actor act state) (sent_by actor act state) state (after actor act state)
step-in_order (Sender client) act state = sender-order state client act (slice_get state.senders.clients client)
step-in_order (Receiver client) act state = grind (arith, append-nil, receiver-order)
step-in_order Closer Go state = closer-leaves state state.closer ∙ sym (append-nil state.messages)
step-in_order Closer (Send message) state = sym (append-nil state.messages)
step-in_order Closer Poll state = sym (append-nil state.messages)
step-in_order Closer TimeOut state = sym (append-nil state.messages)
step-in_order Closer Cancel state = sym (append-nil state.messages)

-- a schedule

pub all-in_order : (steps : List ChannelStep) (state : ChannelState) → InOrder (received steps state) (sent steps state) state (after_all steps state)
all-in_order [] state = sym (append-nil state.messages)
all-in_order (step ∷ steps) state =
    let next : ChannelState = after step.actor step.act state in
    let came : List ℕ = received_by step.actor step.act state in
    let went : List ℕ = sent_by step.actor step.act state in
    append_assoc came (received steps next) (after_all steps next).messages
    ∙ (ap (λ (ms : List ℕ). came ++ ms) (all-in_order steps next)
    ∙ (sym (append_assoc came next.messages (sent steps next))
    ∙ (ap (λ (ms : List ℕ). ms ++ sent steps next) (step-in_order step.actor step.act state)
    ∙ append_assoc state.messages went (sent steps next))))
