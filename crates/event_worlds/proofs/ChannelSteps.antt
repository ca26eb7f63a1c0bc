-- Each step of the channel world's tables keeps the world's invariant.
use Rattle.std.proofs.Common.{◌≡◌, ℕ, ◌+◌, ◌-◌, ◌≤◌, true, false, nat_lt, List, [], ◌∷◌, ◌++◌, length, drop, slice_get, Option, Some, None, if◌then◌else◌, refl, sym, ◌∙◌, subst, arith, length-append, length-drop}
use Rattle.std.proofs.lemmas.Bool.{cond_both}
use Rattle.std.proofs.lemmas.List.{append-nil, length-replicate}
use Rattle.std.specs.Prelude.{option_to_list}
use borrow.Author.Tests.{ltb-true, ltb-false}
use Rattle.event_worlds.specs.declared.world.acts.ChannelAct.{ChannelAct}
use Rattle.event_worlds.specs.declared.world.acts.ChannelAct.TheVariants.{Go}
use Rattle.event_worlds.specs.declared.world.channel.ChannelClient.{ChannelClient}
use Rattle.event_worlds.specs.declared.world.channel.CloserPlace.{CloserPlace}
use Rattle.event_worlds.specs.declared.world.channel.CloserPlace.TheVariants.{ToClose, ToNotifySenders, ToNotifyReceivers, Done}
use Rattle.event_worlds.specs.declared.world.channel.Found.{Found}
use Rattle.event_worlds.specs.declared.world.channel.Found.TheVariants.{One, Nothing, Over}
use Rattle.event_worlds.specs.declared.world.place.Place.{Place}
use Rattle.event_worlds.specs.declared.world.place.Place.TheVariants.{Idle, First, Second}
use Rattle.event_worlds.specs.Line.{Line, everybody, notified}
use Rattle.event_worlds.specs.Served.{IsServed}
use Rattle.event_worlds.specs.Channel.{Side, ChannelState, start, idle, idle_side, is_closed, room_found, first_found, message_found, from, passed, sender_goes, receiver_goes}
use Rattle.event_worlds.specs.ChannelSafety.{place_of, places_of, all_owed, room}
use Rattle.event_worlds.specs.ChannelInvariant.{OwnFits, SendersMayTake, ReceiversMayTake, IsSideSound, IsSound}
use Rattle.event_worlds.proofs.PlacedClients.{places-same, all-same}
use Rattle.event_worlds.proofs.ChannelSafetyLemmas.{senders-none, receivers-none}
use Rattle.event_worlds.proofs.ChannelSides.{Says, sides-keep}
use Rattle.event_worlds.proofs.ServedSteps.{served-all, served-start}
use Rattle.event_worlds.proofs.StandingLemmas.{notified-flags, notified-kind}

-- what may be taken once a sender has sent that, if anything, and once a receiver has received that

abbrev room_left : ℕ → List ℕ → Option ℕ → ℕ
room_left capacity messages sent = capacity - length (messages ++ option_to_list sent)

abbrev sent_into : List ℕ → Option ℕ → ℕ
sent_into messages sent = length (messages ++ option_to_list sent)

abbrev room_made : ℕ → List ℕ → Option ℕ → ℕ
room_made capacity messages received = capacity - length (drop (length (option_to_list received)) messages)

abbrev left_in : List ℕ → Option ℕ → ℕ
left_in messages received = length (drop (length (option_to_list received)) messages)

-- what a look finds says how many may be taken

look-says : (closer : CloserPlace) (messages : List ℕ) (capacity message : ℕ) → Says (λ sent. SendersMayTake closer (room_left capacity messages sent)) (λ sent. ReceiversMayTake closer (sent_into messages sent)) (if is_closed closer then Over else (if nat_lt (length messages) capacity then One message else Nothing))
look-says ToClose messages capacity message =
    cond_both (nat_lt (length messages) capacity) (One message) Nothing (Says (λ sent. SendersMayTake ToClose (room_left capacity messages sent)) (λ sent. ReceiversMayTake ToClose (sent_into messages sent))) (λ some.
    let left = ltb-true (length messages) capacity some in (
      λ free may. (free + 1, omega (arith, length-append messages [], length-append messages (message ∷ [])), omega arith),
      λ free may. omega (arith, length-append messages [], length-append messages (message ∷ [])),
    )) (λ none.
    let full = ltb-false (length messages) capacity none in λ free may. omega (arith, length-append messages []))
look-says ToNotifySenders messages capacity message = λ free may. (0, omega arith, omega arith)
look-says ToNotifyReceivers messages capacity message = λ free may. (free + 1, omega arith, omega arith)
look-says Done messages capacity message = λ free may. (free + 1, omega arith, omega arith)

first-says : (messages : List ℕ) (closer : CloserPlace) (capacity : ℕ) → Says (λ received. ReceiversMayTake closer (left_in messages received)) (λ received. SendersMayTake closer (room_made capacity messages received)) (first_found messages (is_closed closer))
first-says [] ToClose capacity = λ free may. omega arith
first-says [] ToNotifySenders capacity = λ free may. (0, omega arith, omega arith)
first-says [] ToNotifyReceivers capacity = λ free may. (0, omega arith, omega arith)
first-says [] Done capacity = λ free may. (free + 1, omega arith, omega arith)
first-says (message ∷ rest) ToClose capacity = (λ free may. (free + 1, omega arith, omega arith), λ free may. omega arith)
first-says (message ∷ rest) ToNotifySenders capacity = (λ free may. (0, omega arith, omega arith), λ free may. omega arith)
first-says (message ∷ rest) ToNotifyReceivers capacity = grind (arith)
first-says (message ∷ rest) Done capacity = (λ free may. (free + 1, omega arith, omega arith), λ free may. omega arith)

-- messages that were sent fit, as a look has found room for them

abbrev FoundFits : List ℕ → ℕ → Found → Type 0
FoundFits messages capacity (One message) = length messages + 1 ≤ capacity
FoundFits messages capacity Nothing = length messages ≤ capacity
FoundFits messages capacity Over = length messages ≤ capacity

look-fits : (closer : CloserPlace) (messages : List ℕ) (capacity message : ℕ) → length messages ≤ capacity → FoundFits messages capacity (if is_closed closer then Over else (if nat_lt (length messages) capacity then One message else Nothing))
look-fits ToClose messages capacity message fits = grind (arith, ltb-true)
look-fits ToNotifySenders messages capacity message fits = fits
look-fits ToNotifyReceivers messages capacity message fits = fits
look-fits Done messages capacity message fits = fits

none-fits : (messages : List ℕ) (capacity : ℕ) (found : Found) → FoundFits messages capacity found → length (messages ++ []) ≤ capacity
none-fits messages capacity (One message) fits = omega (arith, fits, length-append messages [])
none-fits messages capacity Nothing fits = omega (arith, fits, length-append messages [])
none-fits messages capacity Over fits = omega (arith, fits, length-append messages [])

sent-fits : (act : ChannelAct) (place : Place) (found : Found) (messages : List ℕ) (capacity : ℕ) → FoundFits messages capacity found → length (messages ++ option_to_list (passed act place found)) ≤ capacity
sent-fits Go (First woken) (One message) messages capacity fits = omega (arith, fits, length-append messages (message ∷ []))
sent-fits Go Second (One message) messages capacity fits = omega (arith, fits, length-append messages (message ∷ []))
sent-fits _ _ found messages capacity fits = none-fits messages capacity found fits

-- a side of which fewer may be taken
side-fewer : (Had Has : ℕ → Type 0) (owed : ℕ) (side : Side) → ((free : ℕ) → Has free → Had free) → IsSideSound Had owed side → IsSideSound Has owed side
side-fewer Had Has owed side fewer sound = grind (arith)

-- a side all of which was notified
side-notified : (Had Has : ℕ → Type 0) (owed : ℕ) (side : Side) → Had 0 → (notified everybody side.line).waiting ≡ [] → IsSideSound Had owed side → IsSideSound Has owed (record { clients = side.clients; line = notified everybody side.line })
side-notified Had Has owed side may nobody sound = record {
  served =
      λ free _.
      served-all 0 owed free owed everybody (places_of side.clients) side.line nobody (sound.served 0 may);
  owns = sound.owns;
  flags = notified-flags everybody side.line ∙ sound.flags;
  kind = notified-kind everybody side.line ∙ sound.kind;
}

module _ (state : ChannelState) (sound : IsSound state) where
  -- the step of a sender
  pub sound-sender : (client : ℕ) (own : ChannelClient) → slice_get state.senders.clients client ≡ Some own → (act : ChannelAct) (to : ChannelClient × Line × Line) → from act own.place true client own (room_found own.message state) state.senders.line state.receivers.line ≡ Some to → IsSound (sender_goes client (passed act own.place (room_found own.message state)) state to)
  sound-sender client own at act to is =
      let all : state.messages ++ [] ≡ state.messages = append-nil state.messages in
      let senders : IsSideSound (SendersMayTake state.closer (room_left state.capacity state.messages None)) (all_owed state.receivers) state.senders =
      subst (λ (ms : List ℕ). IsSideSound (SendersMayTake state.closer (state.capacity - length ms)) (all_owed state.receivers) state.senders) (sym all) sound.senders in
      let receivers : IsSideSound (ReceiversMayTake state.closer (sent_into state.messages None)) (all_owed state.senders) state.receivers =
      subst (λ (ms : List ℕ). IsSideSound (ReceiversMayTake state.closer (length ms)) (all_owed state.senders) state.receivers) (sym all) sound.receivers in
      let found = room_found own.message state in
      let (own_side, far_side) =
      sides-keep (λ sent. SendersMayTake state.closer (room_left state.capacity state.messages sent)) (λ sent. ReceiversMayTake state.closer (sent_into state.messages sent)) (λ sent. senders-none state.closer (room_left state.capacity state.messages sent)) state.senders state.receivers client own at senders receivers act true found to (look-says state.closer state.messages state.capacity own.message) is in
      record {
        senders = own_side;
        receivers = far_side;
        fits = sent-fits act own.place found state.messages state.capacity (look-fits state.closer state.messages state.capacity own.message sound.fits);
      }

  -- the step of a receiver
  pub sound-receiver : (client : ℕ) (own : ChannelClient) → slice_get state.receivers.clients client ≡ Some own → (act : ChannelAct) (to : ChannelClient × Line × Line) → from act own.place false client own (message_found state) state.receivers.line state.senders.line ≡ Some to → IsSound (receiver_goes client (passed act own.place (message_found state)) state to)
  sound-receiver client own at act to is =
      let found = message_found state in
      let (own_side, far_side) =
      sides-keep (λ received. ReceiversMayTake state.closer (left_in state.messages received)) (λ received. SendersMayTake state.closer (room_made state.capacity state.messages received)) (λ received. receivers-none state.closer (left_in state.messages received)) state.receivers state.senders client own at sound.receivers sound.senders act false found to (first-says state.messages state.closer state.capacity) is in
      record {
        senders = far_side;
        receivers = own_side;
        fits = omega (arith, sound.fits, length-drop (length (option_to_list (passed act own.place found))) state.messages);
      }

  -- the steps of closing

  pub sound-closes : state.closer ≡ ToClose → IsSound (record state { closer = ToNotifySenders })
  sound-closes is = record {
    senders =
        side-fewer (SendersMayTake state.closer (room state)) (SendersMayTake ToNotifySenders (room state)) (all_owed state.receivers) state.senders (λ free may. subst (λ (c : CloserPlace). SendersMayTake c (room state) free) (sym is) (omega arith)) sound.senders;
    receivers =
        side-fewer (ReceiversMayTake state.closer (length state.messages)) (ReceiversMayTake ToNotifySenders (length state.messages)) (all_owed state.senders) state.receivers (λ free may. subst (λ (c : CloserPlace). ReceiversMayTake c (length state.messages) free) (sym is) (omega arith)) sound.receivers;
    fits = sound.fits;
  }

  pub sound-notifies_senders : state.closer ≡ ToNotifySenders → (notified everybody state.senders.line).waiting ≡ [] → IsSound (record state { closer = ToNotifyReceivers; senders = record { clients = state.senders.clients; line = notified everybody state.senders.line } })
  sound-notifies_senders is nobody = record {
    senders =
        side-notified (SendersMayTake state.closer (room state)) (SendersMayTake ToNotifyReceivers (room state)) (all_owed state.receivers) state.senders (subst (λ (c : CloserPlace). SendersMayTake c (room state) 0) (sym is) (omega arith)) nobody sound.senders;
    receivers =
        side-fewer (ReceiversMayTake state.closer (length state.messages)) (ReceiversMayTake ToNotifyReceivers (length state.messages)) (all_owed state.senders) state.receivers (λ free may. subst (λ (c : CloserPlace). ReceiversMayTake c (length state.messages) free) (sym is) (omega arith)) sound.receivers;
    fits = sound.fits;
  }

  pub sound-notifies_receivers : state.closer ≡ ToNotifyReceivers → (notified everybody state.receivers.line).waiting ≡ [] → IsSound (record state { closer = Done; receivers = record { clients = state.receivers.clients; line = notified everybody state.receivers.line } })
  sound-notifies_receivers is nobody = record {
    senders =
        side-fewer (SendersMayTake state.closer (room state)) (SendersMayTake Done (room state)) (all_owed state.receivers) state.senders (λ free may. subst (λ (c : CloserPlace). SendersMayTake c (room state) free) (sym is) (omega arith)) sound.senders;
    receivers =
        side-notified (ReceiversMayTake state.closer (length state.messages)) (ReceiversMayTake Done (length state.messages)) (all_owed state.senders) state.receivers (subst (λ (c : CloserPlace). ReceiversMayTake c (length state.messages) 0) (sym is) (omega arith)) nobody sound.receivers;
    fits = sound.fits;
  }

-- the start

side-start : (MayTake : ℕ → Type 0) (owed clients : ℕ) → IsSideSound MayTake owed (idle_side clients)
side-start MayTake owed clients = record {
  served =
      λ free _.
      subst (λ (ps : List Place). IsServed free owed ps (idle_side clients).line) (sym (places-same place_of idle clients)) (served-start Idle refl refl free owed true clients 0);
  owns = all-same OwnFits idle (record { owed = λ _. refl }) clients;
  flags = length-replicate clients false ∙ sym (length-replicate clients idle);
  kind = refl;
}

pub start-sound : (senders receivers capacity : ℕ) → IsSound (start senders receivers capacity)
start-sound senders receivers capacity = record {
  senders = side-start (SendersMayTake ToClose (room (start senders receivers capacity))) (all_owed (idle_side receivers)) senders;
  receivers = side-start (ReceiversMayTake ToClose 0) (all_owed (idle_side senders)) receivers;
  fits = omega arith;
}
