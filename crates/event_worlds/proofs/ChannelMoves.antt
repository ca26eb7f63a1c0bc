-- From a move of one client to the step of the channel world.
use Rattle.std.proofs.Common.{◌≡◌, ℕ, ◌++◌, true, false, List, length, drop, slice_get, slice_set, Option, Some, None, sym, ap, ◌∙◌, subst}
use Rattle.std.specs.Prelude.{option_to_list}
use Rattle.event_worlds.specs.declared.world.acts.ChannelAct.{ChannelAct}
use Rattle.event_worlds.specs.declared.world.channel.ChannelClient.{ChannelClient}
use Rattle.event_worlds.specs.declared.world.channel.CloserPlace.{CloserPlace}
use Rattle.event_worlds.specs.declared.world.channel.Found.{Found}
use Rattle.event_worlds.specs.Buffer.{Buffer}
use Rattle.event_worlds.specs.ClientTable.{is_listening}
use Rattle.event_worlds.specs.Line.{Line}
use Rattle.event_worlds.specs.Served.{is_parked, MayBeAt}
use Rattle.event_worlds.specs.Steps.{Takes}
use Rattle.event_worlds.specs.Channel.{Side, ChannelState, channel_of, room_found, message_found, from, passed, sender_goes, receiver_goes, next_of_sender, next_of_receiver}
use Rattle.event_worlds.specs.ChannelSafety.{place_of, places_of, all_owed, room}
use Rattle.event_worlds.specs.ChannelInvariant.{SendersMayTake, ReceiversMayTake, IsSideSound, IsSound}
use Rattle.event_worlds.proofs.MadeLemmas.{takes, stays}
use Rattle.event_worlds.proofs.PlacedClients.{place-at}
use Rattle.event_worlds.proofs.ChannelSafetyLemmas.{senders-none, receivers-none}
use Rattle.event_worlds.proofs.ChannelSteps.{sound-sender, sound-receiver}
use Rattle.event_worlds.proofs.InLineLemmas.{out_at}

-- from the code's move of one client to the step of the world that it is

module _ (buffer : Buffer) (closer : CloserPlace) (senders : List ChannelClient) (sender_line : Line) (receivers : List ChannelClient) (receiver_line : Line) (client : ℕ) (act : ChannelAct) (own : ChannelClient) (found : Found) (sound : IsSound (channel_of buffer closer senders sender_line receivers receiver_line)) where
  abbrev state : ChannelState
  state = channel_of buffer closer senders sender_line receivers receiver_line

  module _ (at : slice_get senders client ≡ Some own) (found_is : found ≡ room_found own.message state) where
    pub sender-steps : (made : ChannelClient) (line other : Line) (message : Option ℕ) (buffer' : Buffer) → from act own.place true client own found sender_line receiver_line ≡ Some (made, line, other) → message ≡ passed act own.place found → buffer' ≡ record { capacity = buffer.capacity; messages = buffer.messages ++ option_to_list message } → Takes (next_of_sender client act state) state true (channel_of buffer' closer (slice_set senders client made) line receivers other) × IsSound (channel_of buffer' closer (slice_set senders client made) line receivers other)
    sender-steps made line other message buffer' moves message_is pushed =
        let goes = subst (λ (f : Found). from act own.place true client own f sender_line receiver_line ≡ Some (made, line, other)) found_is moves in
        let sends : message ≡ passed act own.place (room_found own.message state) =
        message_is ∙ ap (λ (f : Found). passed act own.place f) found_is in
        let holds : buffer' ≡ record { capacity = buffer.capacity; messages = buffer.messages ++ option_to_list (passed act own.place (room_found own.message state)) } =
        pushed ∙ ap (λ (m : Option ℕ). record { capacity = buffer.capacity; messages = buffer.messages ++ option_to_list m }) sends in
        let is : sender_goes client (passed act own.place (room_found own.message state)) state (made, line, other) ≡ channel_of buffer' closer (slice_set senders client made) line receivers other =
        ap (λ (b : Buffer). channel_of b closer (slice_set senders client made) line receivers other) (sym holds) in (
          subst (λ (s : ChannelState). Takes (next_of_sender client act state) state true s) is (takes (λ c. sender_goes client (passed act c.place (room_found c.message state)) state) (λ c. from act c.place true client c (room_found c.message state) sender_line receiver_line) (slice_get senders client) own at state (made, line, other) goes),
          subst IsSound is (sound-sender state sound client own at act (made, line, other) goes),
        )

    pub sender-stays : (line other : Line) → (from act own.place true client own found sender_line receiver_line ≡ None) × (line ≡ sender_line) × (other ≡ receiver_line) → Takes (next_of_sender client act state) state false (channel_of buffer closer senders line receivers other)
    sender-stays line other moves =
        let goes = subst (λ (f : Found). from act own.place true client own f sender_line receiver_line ≡ None) found_is moves.0 in
        stays (λ c. sender_goes client (passed act c.place (room_found c.message state)) state) (λ c. from act c.place true client c (room_found c.message state) sender_line receiver_line) (slice_get senders client) own at state (channel_of buffer closer senders line receivers other) goes (λ i. channel_of buffer closer senders (moves.1 i) receivers (moves.2 i))

  module _ (at : slice_get receivers client ≡ Some own) (found_is : found ≡ message_found state) where
    pub receiver-steps : (made : ChannelClient) (line other : Line) (message : Option ℕ) (buffer' : Buffer) → from act own.place false client own found receiver_line sender_line ≡ Some (made, line, other) → message ≡ passed act own.place found → buffer' ≡ record { capacity = buffer.capacity; messages = drop (length (option_to_list message)) buffer.messages } → Takes (next_of_receiver client act state) state true (channel_of buffer' closer senders other (slice_set receivers client made) line) × IsSound (channel_of buffer' closer senders other (slice_set receivers client made) line)
    receiver-steps made line other message buffer' moves message_is popped =
        let goes = subst (λ (f : Found). from act own.place false client own f receiver_line sender_line ≡ Some (made, line, other)) found_is moves in
        let receives : message ≡ passed act own.place (message_found state) =
        message_is ∙ ap (λ (f : Found). passed act own.place f) found_is in
        let holds : buffer' ≡ record { capacity = buffer.capacity; messages = drop (length (option_to_list (passed act own.place (message_found state)))) buffer.messages } =
        popped ∙ ap (λ (m : Option ℕ). record { capacity = buffer.capacity; messages = drop (length (option_to_list m)) buffer.messages }) receives in
        let is : receiver_goes client (passed act own.place (message_found state)) state (made, line, other) ≡ channel_of buffer' closer senders other (slice_set receivers client made) line =
        ap (λ (b : Buffer). channel_of b closer senders other (slice_set receivers client made) line) (sym holds) in (
          subst (λ (s : ChannelState). Takes (next_of_receiver client act state) state true s) is (takes (λ c. receiver_goes client (passed act c.place (message_found state)) state) (λ c. from act c.place false client c (message_found state) receiver_line sender_line) (slice_get receivers client) own at state (made, line, other) goes),
          subst IsSound is (sound-receiver state sound client own at act (made, line, other) goes),
        )

    pub receiver-stays : (line other : Line) → (from act own.place false client own found receiver_line sender_line ≡ None) × (line ≡ receiver_line) × (other ≡ sender_line) → Takes (next_of_receiver client act state) state false (channel_of buffer closer senders other receivers line)
    receiver-stays line other moves =
        let goes = subst (λ (f : Found). from act own.place false client own f receiver_line sender_line ≡ None) found_is moves.0 in
        stays (λ c. receiver_goes client (passed act c.place (message_found state)) state) (λ c. from act c.place false client c (message_found state) receiver_line sender_line) (slice_get receivers client) own at state (channel_of buffer closer senders other receivers line) goes (λ i. channel_of buffer closer senders (moves.2 i) receivers (moves.1 i))

-- who is about to listen is not in line

side_may_be_at : (MayTake : ℕ → Type 0) (owed : ℕ) (side : Side) → IsSideSound MayTake owed side → MayTake 0 → (client : ℕ) (own : ChannelClient) → slice_get side.clients client ≡ Some own → MayBeAt own.place client side.line
side_may_be_at MayTake owed side sound may client own at listens =
    out_at is_listening is_parked (places_of side.clients) side.line (sound.served 0 may).fit client own.place (place-at place_of side.clients client own at) (ap is_listening listens)

module _ (state : ChannelState) (sound : IsSound state) where
  pub sender_may_be_at : (client : ℕ) (own : ChannelClient) → slice_get state.senders.clients client ≡ Some own → MayBeAt own.place client state.senders.line
  sender_may_be_at =
      side_may_be_at (SendersMayTake state.closer (room state)) (all_owed state.receivers) state.senders sound.senders (senders-none state.closer (room state))

  pub receiver_may_be_at : (client : ℕ) (own : ChannelClient) → slice_get state.receivers.clients client ≡ Some own → MayBeAt own.place client state.receivers.line
  receiver_may_be_at =
      side_may_be_at (ReceiversMayTake state.closer (length state.messages)) (all_owed state.senders) state.receivers sound.receivers (receivers-none state.closer (length state.messages))
