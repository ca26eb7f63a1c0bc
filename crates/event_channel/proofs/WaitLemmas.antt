-- How a wait ends whose rounds change nothing, and that leaves by one more attempt.
use Rattle.std.proofs.Common.{◌≡◌, ◌∙◌, ℕ, sym, refl, ap, subst, inl, inr, Bool, false, Option, Some, None, Result, Ok, Err}
use Rattle.std.proofs.lemmas.Bool.{false≢true}
use Rattle.std.specs.Prelude.{IsSome}
use Rattle.event_wait.specs.declared.request.Attempted.{Attempted}
use Rattle.event_wait.specs.declared.request.Attempted.TheVariants.{Done}
use Rattle.event_wait.specs.declared.lock.wait.Refused.{Refused}
use Rattle.event_wait.specs.declared.lock.wait.Refused.TheVariants.{Memory, Request}
use Rattle.event_wait.specs.Attempted.{LeavesBy}
use Rattle.event_wait.specs.Rounds.{Rules, Trying, SomeRounds, Tries, Gets as GetsBy, Fails}
use Rattle.event_wait.proofs.RoundLemmas.{some_keep}
use Rattle.event_history.specs.declared.history.View.{View}
use Rattle.event_history.specs.History.{Machine}
use Rattle.event_history.specs.Waiting.{EndsObtaining, GivesUp, by_hand, tried_by_hand}
use Rattle.event_queue.specs.declared.key.Key.{Key}
use Rattle.event_queue.specs.declared.reply.ListenError.{ListenError}
use Rattle.event_channel.specs.declared.call.ChannelCall.{ChannelCall}
use Rattle.event_channel.specs.declared.error.SendReason.{SendReason}
use Rattle.event_channel.specs.Asking.{Asking, AsksOn, HasPlace}
use Rattle.event_channel.specs.Calls.{channel_machine}
use Rattle.event_channel.specs.Many.{Collects, Many}
use Rattle.event_channel.specs.Messages.{State}
use Rattle.event_channel.specs.Requests.{GivesUpReceiving, GivesUpReceivingMany, GivesUpSending, NotRefused, ReceivesMany, ReceivesManyOrLeaves, ReceivesManyOrWaits, ReceivesOrLeaves, ReceivesOrWaits, SendsOrLeaves, SendsOrWaits, TriesToReceive, TriesToReceiveMany, TriesToSend}
use Rattle.event_channel.specs.Places.{Place, WaitsAt, WaitsNowhere, left_at, receiver_at, sender_at}
use Rattle.event_channel.proofs.PlaceLemmas.{made_last, nowhere_to_receive, nowhere_to_send}
use Rattle.event_channel.specs.Waits.{Empties, Gets}

-- of one that asks for this, with any key
module _ {S C A G E : Type 0} (machine : Machine S C) (attempting : A → Attempted G E → C → Type 0) (leaving : A → Result (Option G) E → C → Type 0)
    (trying : A → Option G → C → Type 0) (giving_up : A → C → Type 0) (succeeds : A → G → A → Type 0) (leaves : A → Option G → A → Type 0) where
  -- what the lock says of it
  abbrev pub asks : Rules (Asking A × View S C) G E
  asks = by_hand machine (λ (q : Asking A). attempting q.asked) (λ (q : Asking A). leaving q.asked) AsksOn (λ (q : Asking A) (output : G) (r : Asking A). succeeds q.asked output r.asked)
      (λ (q : Asking A) (answer : Option G) (r : Asking A). leaves q.asked answer r.asked)

  abbrev pub tries : Trying (Asking A × View S C) G
  tries = tried_by_hand machine AsksOn (λ (q : Asking A) (output : G) (r : Asking A). succeeds q.asked output r.asked)
      (λ (q : Asking A). trying q.asked) HasPlace (λ (q : Asking A). giving_up q.asked)

  abbrev pub Ends : Type 0 → Asking A × View S C → Result (Option G) (Refused E) → Asking A × View S C → Type 0
  Ends may_end = EndsObtaining machine (λ (q : Asking A). attempting q.asked) (λ (q : Asking A). leaving q.asked) AsksOn (λ (q : Asking A) (output : G) (r : Asking A). succeeds q.asked output r.asked)
      (λ (q : Asking A) (answer : Option G) (r : Asking A). leaves q.asked answer r.asked) may_end (λ (q : Asking A). trying q.asked) HasPlace (λ (q : Asking A). giving_up q.asked)

module _ {S C A G E : Type 0} (machine : Machine S C) (attempting : A → Attempted G E → C → Type 0) (leaving : A → Result (Option G) E → C → Type 0)
    (trying : A → Option G → C → Type 0) (giving_up : A → C → Type 0) (succeeds : A → G → A → Type 0) (may_end : Type 0) where
  abbrev Goes : Type 0
  Goes = Asking A × View S C

  abbrev these : Rules Goes G E
  these = asks machine attempting leaving trying giving_up succeeds (LeavesBy succeeds)

  abbrev tried : Trying Goes G
  tried = tries machine attempting leaving trying giving_up succeeds (LeavesBy succeeds)

  abbrev Tried : Goes → Goes → Type 0
  Tried = Tries these tried

  kept_once : (before after : Goes) → Tried before after → after.0.asked ≡ before.0.asked
  kept_once before after (inl round) = round.0
  kept_once before after (inr (inl (place, same))) = ap (λ (g : Goes). g.0.asked) same
  kept_once before after (inr (inr missed)) = ap (λ (q : Asking A). q.asked) missed.0

  same : (before after : Goes) → SomeRounds Tried before after → after.0.asked ≡ before.0.asked
  same before after some = some_keep Tried A (λ g. g.0.asked) kept_once before after some

  obtained : (before : Goes) (output : G) (after : Goes) → GetsBy these tried before output after → succeeds before.0.asked output after.0.asked
  obtained before output after (inl got) = got.0
  obtained before output after (inr got) = got.0

  failed : (before : Goes) (error : Refused E) (after : Goes) → Fails these before error after → after.0.asked ≡ before.0.asked
  failed before Memory after same = ap (λ (g : Goes). g.0.asked) same
  failed before (Request error) after (inl refused) = refused.0
  failed before (Request error) after (inr stayed) = ap (λ (q : Asking A). q.asked) stayed.0

  gave_up : (before after : Goes) → GivesUp machine AsksOn HasPlace (λ (q : Asking A). giving_up q.asked) before after → after.0.asked ≡ before.0.asked
  gave_up before after left = by before.0.key refl
    where
      by : (key : Option Key) → before.0.key ≡ key → after.0.asked ≡ before.0.asked
      by None is = ap (λ (g : Goes). g.0.asked) (left.1 (λ place. false≢true (subst (λ (k : Option Key). IsSome k) is place)))
      by (Some key) is = (left.2 (subst (λ (k : Option Key). IsSome k) (sym is) refl)).0

  pub gets : (before : Goes) (result : Result (Option G) (Refused E)) (after : Goes)
      → Ends machine attempting leaving trying giving_up succeeds (LeavesBy succeeds) may_end before result after → Gets succeeds before.0.asked result after.0.asked
  gets before (Ok (Some output)) after (inl at_last) =
      subst (λ s. succeeds s output after.0.asked) (same before at_last.between at_last.waited) (obtained at_last.between output after at_last.succeeded)
  gets before (Ok (Some output)) after (inr late) =
      subst (λ s. succeeds s output after.0.asked) (same before late.between late.waited) late.left.0
  gets before (Ok None) after late = late.left.0 ∙ same before late.between late.waited
  gets before (Err error) after (refused, (between, some, fails), left) =
      gave_up refused after left ∙ failed between error refused fails ∙ same before between some

module _ {T W : Type 0} (capacity : Option ℕ) where
  pub sending_gets : (may_end : Type 0) (before : Asking (Option T) × View (State T W) (ChannelCall T)) (result : Result (Option (Result (Unit {0}) SendReason)) (Refused ListenError)) (after : Asking (Option T) × View (State T W) (ChannelCall T))
      → Ends (channel_machine capacity) SendsOrWaits (NotRefused SendsOrLeaves) TriesToSend GivesUpSending Empties (LeavesBy Empties) may_end before result after
      → Gets Empties before.0.asked result after.0.asked
  sending_gets may_end = gets (channel_machine capacity) SendsOrWaits (NotRefused SendsOrLeaves) TriesToSend GivesUpSending Empties may_end

  pub collecting_gets : (may_end : Type 0) (before : Asking (Many T) × View (State T W) (ChannelCall T)) (result : Result (Option (Option ℕ)) (Refused ListenError)) (after : Asking (Many T) × View (State T W) (ChannelCall T))
      → Ends (channel_machine capacity) ReceivesManyOrWaits (NotRefused ReceivesManyOrLeaves) TriesToReceiveMany GivesUpReceivingMany Collects (LeavesBy Collects) may_end before result after
      → Gets Collects before.0.asked result after.0.asked
  collecting_gets may_end = gets (channel_machine capacity) ReceivesManyOrWaits (NotRefused ReceivesManyOrLeaves) TriesToReceiveMany GivesUpReceivingMany Collects may_end

-- whoever waited waits nowhere then: its last call was one by which none waits, or it gave up its place
module _ {S T A G E : Type 0} (machine : Machine S (ChannelCall T)) (attempting : A → Attempted G E → ChannelCall T → Type 0) (leaving : A → Result (Option G) E → ChannelCall T → Type 0)
    (trying : A → Option G → ChannelCall T → Type 0) (giving_up : A → ChannelCall T → Type 0) (succeeds : A → G → A → Type 0) (leaves : A → Option G → A → Type 0) (may_end : Type 0)
    (place_of : Asking A → Option Place) (nowhere : (q : Asking A) → ¬ HasPlace q → place_of q ≡ None)
    (got_round : (a : A) (output : G) (c : ChannelCall T) → attempting a (Done output) c → left_at c ≡ None)
    (got_try : (a : A) (output : G) (c : ChannelCall T) → trying a (Some output) c → left_at c ≡ None)
    (late : (a : A) (answer : Option G) (c : ChannelCall T) → leaving a (Ok answer) c → left_at c ≡ None) where
  pub waits_nowhere : (before : Asking A × View S (ChannelCall T)) (result : Result (Option G) (Refused E)) (after : Asking A × View S (ChannelCall T))
      → Ends machine attempting leaving trying giving_up succeeds leaves may_end before result after → WaitsAt (place_of after.0) after.1.mine → WaitsNowhere after.1.mine
  waits_nowhere before (Ok (Some output)) after (inl at_last) waits = by at_last.succeeded
    where
      by : GetsBy (asks machine attempting leaving trying giving_up succeeds leaves) (tries machine attempting leaving trying giving_up succeeds leaves) at_last.between output after → WaitsNowhere after.1.mine
      by (inl round) = made_last machine at_last.between.1 after.1 (attempting at_last.between.0.asked (Done output)) (got_round at_last.between.0.asked output) round.1 (place_of after.0) waits
      by (inr gave) = made_last machine at_last.between.1 after.1 (trying at_last.between.0.asked (Some output)) (got_try at_last.between.0.asked output) gave.1 (place_of after.0) waits
  waits_nowhere before (Ok (Some output)) after (inr left) waits =
      made_last machine left.between.1 after.1 (leaving left.between.0.asked (Ok (Some output))) (late left.between.0.asked (Some output)) left.left.1 (place_of after.0) waits
  waits_nowhere before (Ok None) after left waits =
      made_last machine left.between.1 after.1 (leaving left.between.0.asked (Ok None)) (late left.between.0.asked None) left.left.1 (place_of after.0) waits
  waits_nowhere before (Err error) after (refused, fails, left) waits = subst (λ (p : Option Place). WaitsAt p after.1.mine) (nowhere after.0 left.0) waits

module _ {T : Type 0} where
  -- one that sent or was refused, or was too late, waits nowhere by that call
  sent_leaves : (a : Option T) (output : Result (Unit {0}) SendReason) (c : ChannelCall T) → SendsOrWaits a (Done output) c → left_at c ≡ None
  sent_leaves (Some message) output c (key, is) = ap left_at is
  sent_leaves None output c (absent, key, is) = ap left_at is

  tried_leaves : (a : Option T) (output : Result (Unit {0}) SendReason) (c : ChannelCall T) → TriesToSend a (Some output) c → left_at c ≡ None
  tried_leaves (Some message) output c is = ap left_at is
  tried_leaves None output c (none, is) = ap left_at is

  late_leaves : (a : Option T) (answer : Option (Result (Unit {0}) SendReason)) (c : ChannelCall T) → SendsOrLeaves a answer c → left_at c ≡ None
  late_leaves (Some message) answer c (key, is) = ap left_at is
  late_leaves None answer c (none, key, is) = ap left_at is

  -- and one that received
  many_leave : (key : Option Key) (answer : Option (Option ℕ)) (c : ChannelCall T) → ReceivesMany key answer c → left_at c ≡ None
  many_leave key None c (inl is) = ap left_at is
  many_leave key None c (inr is) = ap left_at is
  many_leave key (Some None) c is = ap left_at is
  many_leave key (Some (Some count)) c (messages, many, is) = ap left_at is

  many_received : (many : Many T) (output : Option ℕ) (c : ChannelCall T) → ReceivesManyOrWaits many (Done output) c → left_at c ≡ None
  many_received many output c (key, is) = many_leave key (Some output) c is

module _ {T W : Type 0} (capacity : Option ℕ) (may_end : Type 0) where
  pub sender_waits_nowhere : (before : Asking (Option T) × View (State T W) (ChannelCall T)) (result : Result (Option (Result (Unit {0}) SendReason)) (Refused ListenError)) (after : Asking (Option T) × View (State T W) (ChannelCall T))
      → Ends (channel_machine capacity) SendsOrWaits (NotRefused SendsOrLeaves) TriesToSend GivesUpSending Empties (LeavesBy Empties) may_end before result after
      → WaitsAt (sender_at after.0.key) after.1.mine → WaitsNowhere after.1.mine
  sender_waits_nowhere =
      waits_nowhere (channel_machine capacity) SendsOrWaits (NotRefused SendsOrLeaves) TriesToSend GivesUpSending Empties (LeavesBy Empties) may_end
      (λ q. sender_at q.key) (λ q out. nowhere_to_send q.key out) sent_leaves tried_leaves late_leaves

  pub receiver_waits_nowhere : (before : Asking Bool × View (State T W) (ChannelCall T)) (result : Result (Option (Option T)) (Refused ListenError)) (after : Asking Bool × View (State T W) (ChannelCall T))
      → Ends (channel_machine capacity) ReceivesOrWaits (NotRefused ReceivesOrLeaves) TriesToReceive GivesUpReceiving (λ before _ after. after ≡ before) (λ before _ after. after ≡ before) may_end before result after
      → WaitsAt (receiver_at after.0.asked after.0.key) after.1.mine → WaitsNowhere after.1.mine
  receiver_waits_nowhere =
      waits_nowhere (channel_machine capacity) ReceivesOrWaits (NotRefused ReceivesOrLeaves) TriesToReceive GivesUpReceiving (λ before _ after. after ≡ before) (λ before _ after. after ≡ before) may_end
      (λ q. receiver_at q.asked q.key) (λ q out. nowhere_to_receive q.asked q.key out) (λ a output c h. ap left_at h.1) (λ a output c h. ap left_at h) (λ a answer c h. ap left_at h.1)

  pub many_wait_nowhere : (before : Asking (Many T) × View (State T W) (ChannelCall T)) (result : Result (Option (Option ℕ)) (Refused ListenError)) (after : Asking (Many T) × View (State T W) (ChannelCall T))
      → Ends (channel_machine capacity) ReceivesManyOrWaits (NotRefused ReceivesManyOrLeaves) TriesToReceiveMany GivesUpReceivingMany Collects (LeavesBy Collects) may_end before result after
      → WaitsAt (receiver_at false after.0.key) after.1.mine → WaitsNowhere after.1.mine
  many_wait_nowhere =
      waits_nowhere (channel_machine capacity) ReceivesManyOrWaits (NotRefused ReceivesManyOrLeaves) TriesToReceiveMany GivesUpReceivingMany Collects (LeavesBy Collects) may_end
      (λ q. receiver_at false q.key) (λ q out. nowhere_to_receive false q.key out) many_received (λ a output c h. many_leave None (Some output) c h) (λ a answer c h. many_leave h.0 answer c h.1)
