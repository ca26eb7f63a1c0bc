-- Whom a call wakes that takes a message or puts one, and then leaves its queue.
use Rattle.std.proofs.Common.{◌≡◌, ◌<◌, ◌==◌, ◌++◌, ℕ, zero, suc, arith, false, subst, if◌then◌else◌, List, refl, None, ap, sym, length, [], ◌∷◌, Option, Some, Ok}
use Rattle.std.specs.List.{FoldsTo}
use Rattle.event_queue.proofs.TellingLemmas.{FoldsTo-append}
use Rattle.event_queue.specs.declared.key.Key.{Key}
use Rattle.event_wait.specs.Line.{woken_at_once, woken_by_leaving}
use Rattle.event_wait.specs.declared.request.Attempted.TheVariants.{Done}
use Rattle.event_channel.specs.Forbearing.{woken_streams}
use Rattle.event_channel.specs.Messages.{State, for_newcomers, room_in}
use Rattle.event_channel.specs.Steps.{KeepsAllButReceivers, KeepsAllButSenders, KeepsAllButStreams, Pushes, Takes, woken_by_pushing, woken_by_taking}
use Rattle.event_channel.specs.Waits.{woken_by_receiver, woken_by_receiver_leaving, woken_by_receiving, woken_by_sending}

module _ {T W K : Type 0} (woke : K → W → K → Type 0) (key : Option Key) (message : T) (old mid new : State T W) (before between after : K) where
  same_streams : (gone : Option Key) → mid.streams ≡ old.streams → woken_streams gone mid new ≡ woken_streams gone old new
  same_streams None same = refl
  same_streams (Some key) same = rw same refl

  pub wakes_as_receiver : Takes (message ∷ []) old mid → FoldsTo woke before (woken_by_taking 1 old mid) between → KeepsAllButReceivers mid new
      → FoldsTo woke between (woken_by_receiver_leaving key mid new) after → FoldsTo woke before (woken_by_receiver key old (Done (Some message)) new) after
  wakes_as_receiver takes first keeps last =
      let room = ap (λ (s : State T W). room_in s) keeps in
      let line = ap (λ (s : State T W). s.receivers) takes.rest in
      let streams = same_streams key (ap (λ (s : State T W). s.streams) takes.rest) in
      let rest = subst (λ (ws : List W). FoldsTo woke between (woken_by_leaving key (length new.messages) mid.receivers ++ ws) after) streams last in
      rw room (FoldsTo-append _ _ _ _ _ _ first (rw line at rest))

  pub wakes_as_stream : Takes (message ∷ []) old mid → FoldsTo woke before (woken_by_taking 1 old mid) between → KeepsAllButStreams mid new
      → FoldsTo woke between (woken_by_leaving key (length new.messages) mid.streams) after → FoldsTo woke before (woken_by_receiving key old old.streams (Done (Some message)) new) after
  wakes_as_stream takes first keeps last =
      let room = ap (λ (s : State T W). room_in s) keeps in
      let line = ap (λ (s : State T W). s.streams) takes.rest in
      rw room (FoldsTo-append _ _ _ _ _ _ first (rw line at last))

  pub wakes_as_sender : Pushes message old mid → FoldsTo woke before (woken_by_pushing old mid) between → KeepsAllButSenders mid new
      → FoldsTo woke between (woken_by_leaving key (room_in new) mid.senders) after → (slot : Option T) → FoldsTo woke before (woken_by_sending slot key old (Done (Ok tt)) new) after
  wakes_as_sender pushes first keeps last slot =
      let count = sym (ap (λ (s : State T W). length s.messages) keeps) in
      let line = ap (λ (s : State T W). s.senders) pushes.rest in
      FoldsTo-append _ _ _ _ _ _ (rw count at first) (rw line at last)

some_is : (n : ℕ) → 0 < n → (n == 0) ≡ false
some_is zero some = absurd (omega (arith, some))
some_is (suc n) some = grind arith

streams_woken : {T W : Type 0} (gone : Key) (old new : State T W) → 0 < for_newcomers new → woken_streams (Some gone) old new ≡ woken_at_once old.streams
streams_woken {T} {W} gone old new some = ap (λ b. if b then [] else woken_at_once old.streams) (some_is (for_newcomers new) some)

module _ {T W K : Type 0} (woke : K → W → K → Type 0) where
  -- whom a receiver wakes that leaves messages for newcomers
  pub wakes_as_leaving : (key : Option Key) (gone : Key) (old new : State T W) (n : ℕ) (before between after : K) → key ≡ Some gone → length new.messages ≡ n → 0 < for_newcomers new
      → FoldsTo woke before (woken_by_leaving (Some gone) n old.receivers) between → FoldsTo woke between (woken_at_once old.streams) after → FoldsTo woke before (woken_by_receiver_leaving key old new) after
  wakes_as_leaving key gone old new n before between after is count some first last =
      let both = FoldsTo-append _ _ _ _ _ _ first last in
      let streams = subst (λ (ws : List W). FoldsTo woke before (woken_by_leaving (Some gone) n old.receivers ++ ws) after) (sym (streams_woken gone old new some)) both in
      let counted = subst (λ (m : ℕ). FoldsTo woke before (woken_by_leaving (Some gone) m old.receivers ++ woken_streams (Some gone) old new) after) (sym count) streams in
      subst (λ (k : Option Key). FoldsTo woke before (woken_by_receiver_leaving k old new) after) (sym is) counted
