-- What a hand's calls were that waited without a limit.
use Rattle.std.proofs.Common.{◌≡◌, ◌⊎◌, ◌∙◌, refl, sym, ap, subst, ℕ, zero, suc, inl, inr, Bool, false, Option, Some, None, Result, Ok, Err}
use Rattle.std.proofs.lemmas.Bool.{false≢true}
use Rattle.std.specs.Prelude.{IsSome}
use Rattle.event_queue.specs.declared.key.Key.{Key}
use Rattle.event_queue.specs.declared.reply.ListenError.{ListenError}
use Rattle.event_wait.specs.declared.request.Attempted.{Attempted}
use Rattle.event_wait.specs.declared.request.Attempted.TheVariants as attempted
use Rattle.event_wait.specs.declared.lock.wait.Refused.{Refused}
use Rattle.event_wait.specs.declared.lock.wait.Refused.TheVariants.{Memory, Request}
use Rattle.event_wait.specs.Attempted.{LeavesBy}
use Rattle.event_channel.specs.declared.error.WaitError.{WaitError}
use Rattle.event_wait.specs.Rounds.{Rounds, Rules, Trying, Tries, Fails, Gets as GetsBy}
use Rattle.event_history.specs.declared.history.View.{View}
use Rattle.event_history.specs.History.{Machine, Makes}
use Rattle.event_history.specs.Waiting.{GivesUp, IsUndone}
use Rattle.event_channel.specs.declared.call.ChannelCall.{ChannelCall}
use Rattle.event_channel.specs.declared.error.SendReason.{SendReason}
use Rattle.event_channel.specs.declared.error.SendReason.TheVariants as reason
use Rattle.event_channel.specs.Asking.{Asking, AsksOn, HasPlace}
use Rattle.event_channel.specs.Errors.{IsUnsent}
use Rattle.event_channel.specs.Calls.{channel_machine}
use Rattle.event_channel.specs.Hands.{EndsUnsent, IsVainSend, IsSend, IsSendGivenUp, IsVainReceive, IsReceive, IsReceiveGivenUp, MakesSome, MakesAtLast, WaitsFor, SendsWaiting, ReceivesWaiting}
use Rattle.event_channel.specs.Messages.{State}
use Rattle.event_channel.specs.Requests.{GivesUpReceiving, GivesUpSending, NotRefused, ReceivesOrLeaves, ReceivesOrWaits, SendsOrLeaves, SendsOrWaits, TriesToReceive, TriesToSend}
use Rattle.event_channel.specs.Waits.{Empties, Gets}
use Rattle.event_channel.proofs.WaitLemmas.{Ends, asks, tries}

module _ {S C : Type 0} (machine : Machine S C) where
  as_well : (P R : C → Type 0) → ((c : C) → P c → R c) → (v w : View S C) → Makes machine v P w → Makes machine v R w
  as_well P R also v w (c, is, extends) = (c, also c is, extends)

  -- one more call
  more : (P : C → Type 0) (v u w : View S C) → MakesSome machine v P u → Makes machine u P w → MakesSome machine v P w
  more P v u w some last = (suc some.0, (u, some.1, last))

  -- of each call more may be said
  each_as_well : (P R : C → Type 0) → ((c : C) → P c → R c) → (n : ℕ) (v w : View S C) → Rounds (λ (v w : View S C). Makes machine v P w) n v w → Rounds (λ (v w : View S C). Makes machine v R w) n v w
  each_as_well P R also zero v w same = same
  each_as_well P R also (suc n) v w (u, some, last) = (u, each_as_well P R also n v u some, as_well P R also u w last)

module _ {S C A G E : Type 0} (machine : Machine S C) (attempting : A → Attempted G E → C → Type 0) (leaving : A → Result (Option G) E → C → Type 0)
    (trying : A → Option G → C → Type 0) (giving_up : A → C → Type 0) (succeeds : A → G → A → Type 0) (leaves : A → Option G → A → Type 0) (may_end : Type 0)
    (a : A) (vain : C → Type 0) (gets : G → C → Type 0) (over : C → Type 0)
    (vain_round : (answer : Attempted G E) (c : C) → IsUndone answer → attempting a answer c → vain c)
    (vain_try : (c : C) → trying a None c → vain c)
    (got_round : (output : G) (c : C) → attempting a (attempted.Done output) c → gets output c)
    (got_try : (output : G) (c : C) → trying a (Some output) c → gets output c)
    (refused_round : (error : E) (c : C) → attempting a (attempted.Refused error) c → over c)
    (refused_leaving : (error : E) (c : C) → leaving a (Err error) c → over c)
    (gives_up : (c : C) → giving_up a c → over c) where
  abbrev Goes : Type 0
  Goes = Asking A × View S C

  abbrev these : Rules Goes G E
  these = asks machine attempting leaving trying giving_up succeeds leaves

  abbrev tried : Trying Goes G
  tried = tries machine attempting leaving trying giving_up succeeds leaves

  abbrev Tried : Goes → Goes → Type 0
  Tried = Tries these tried

  -- one round more, by a call or by none
  one : (first before after : Goes) → before.0.asked ≡ a → MakesSome machine first.1 vain before.1 → Tried before after → (after.0.asked ≡ a) × MakesSome machine first.1 vain after.1
  one first before after is some (inl round) =
      (round.0 ∙ is, more machine vain first.1 before.1 after.1 some (as_well machine (attempting before.0.asked round.1) vain (λ c h. vain_round round.1 c round.2 (subst (λ p. attempting p round.1 c) is h)) before.1 after.1 round.3))
  one first before after is some (inr (inl (place, same))) =
      (ap (λ (g : Goes). g.0.asked) same ∙ is, subst (λ (g : Goes). MakesSome machine first.1 vain g.1) (sym same) some)
  one first before after is some (inr (inr missed)) =
      (ap (λ (q : Asking A). q.asked) missed.0 ∙ is, more machine vain first.1 before.1 after.1 some (as_well machine (trying before.0.asked None) vain (λ c h. vain_try c (subst (λ p. trying p None c) is h)) before.1 after.1 missed.1))

  all : (n : ℕ) (before after : Goes) → before.0.asked ≡ a → Rounds Tried n before after → (after.0.asked ≡ a) × MakesSome machine before.1 vain after.1
  all zero before after is same = (ap (λ (g : Goes). g.0.asked) same ∙ is, (0, ap (λ (g : Goes). g.1) same))
  all (suc n) before after is (between, some, last) =
      let earlier = all n before between is some in
      one before between after earlier.0 earlier.1 last

  got : (before : Goes) (output : G) (after : Goes) → before.0.asked ≡ a → GetsBy these tried before output after → Makes machine before.1 (gets output) after.1
  got before output after is (inl round) =
      as_well machine (attempting before.0.asked (attempted.Done output)) (gets output) (λ c h. got_round output c (subst (λ p. attempting p (attempted.Done output) c) is h)) before.1 after.1 round.1
  got before output after is (inr gave) =
      as_well machine (trying before.0.asked (Some output)) (gets output) (λ c h. got_try output c (subst (λ p. trying p (Some output) c) is h)) before.1 after.1 gave.1

  abbrev Both : C → Type 0
  Both c = vain c ⊎ over c

  failed : (before between : Goes) (error : Refused E) (after : Goes) → between.0.asked ≡ a → MakesSome machine before.1 Both between.1 → Fails these between error after → (after.0.asked ≡ a) × MakesSome machine before.1 Both after.1
  failed before between Memory after is some same =
      (ap (λ (g : Goes). g.0.asked) same ∙ is, subst (λ (g : Goes). MakesSome machine before.1 Both g.1) (sym same) some)
  failed before between (Request error) after is some (inl (same, refused)) =
      (same ∙ is, more machine Both before.1 between.1 after.1 some (as_well machine (attempting between.0.asked (attempted.Refused error)) Both (λ c h. inr (refused_round error c (subst (λ p. attempting p (attempted.Refused error) c) is h))) between.1 after.1 refused))
  failed before between (Request error) after is some (inr (same, refused)) =
      (ap (λ (q : Asking A). q.asked) same ∙ is, more machine Both before.1 between.1 after.1 some (as_well machine (leaving between.0.asked (Err error)) Both (λ c h. inr (refused_leaving error c (subst (λ p. leaving p (Err error) c) is h))) between.1 after.1 refused))

  gave_up : (before between after : Goes) → between.0.asked ≡ a → MakesSome machine before.1 Both between.1 → GivesUp machine AsksOn HasPlace (λ (q : Asking A). giving_up q.asked) between after → MakesSome machine before.1 Both after.1
  gave_up before between after is some left = by between.0.key refl
    where
      by : (key : Option Key) → between.0.key ≡ key → MakesSome machine before.1 Both after.1
      by None none = subst (λ (g : Goes). MakesSome machine before.1 Both g.1) (sym (left.1 (λ place. false≢true (subst (λ (k : Option Key). IsSome k) none place)))) some
      by (Some key) has =
          let made = left.2 (subst (λ (k : Option Key). IsSome k) (sym has) refl) in
          more machine Both before.1 between.1 after.1 some (as_well machine (giving_up between.0.asked) Both (λ c h. inr (gives_up c (subst (λ p. giving_up p c) is h))) between.1 after.1 made.1)

  pub waits_for : (before : Goes) (result : Result (Option G) (Refused E)) (after : Goes) → before.0.asked ≡ a → (may_end → ⊥)
      → Ends machine attempting leaving trying giving_up succeeds leaves may_end before result after
      → WaitsFor machine vain gets over before.1 result after.1
  waits_for before (Ok (Some output)) after is never (inl at_last) =
      let some = all at_last.waited.0 before at_last.between is at_last.waited.1 in
      (at_last.between.1, some.1, got at_last.between output after some.0 at_last.succeeded)
  waits_for before (Ok (Some output)) after is never (inr late) = absurd (never late.has_limit)
  waits_for before (Ok None) after is never late = absurd (never late.has_limit)
  waits_for before (Err error) after is never (refused, (between, some, fails), left) =
      let rounds = all some.0 before between is some.1 in
      let over = failed before between error refused rounds.0 (rounds.1.0, each_as_well machine vain Both (λ c h. inl h) rounds.1.0 before.1 between.1 rounds.1.1) fails in
      gave_up before refused after over.0 over.1 left

module _ {T W : Type 0} (capacity : Option ℕ) where
  pub sends_waiting : (may_end : Type 0) (message : T) (before : Asking (Option T) × View (State T W) (ChannelCall T)) (result : Result (Option (Result (Unit {0}) SendReason)) (Refused ListenError)) (after : Asking (Option T) × View (State T W) (ChannelCall T))
      → before.0.asked ≡ Some message → (may_end → ⊥)
      → Ends (channel_machine capacity) SendsOrWaits (NotRefused SendsOrLeaves) TriesToSend GivesUpSending Empties (LeavesBy Empties) may_end before result after
      → SendsWaiting capacity message before.1 result after.1
  sends_waiting may_end message =
      waits_for (channel_machine capacity) SendsOrWaits (NotRefused SendsOrLeaves) TriesToSend GivesUpSending Empties (LeavesBy Empties) may_end (Some message) (IsVainSend message) (IsSend message) (IsSendGivenUp message)
      (λ answer c undone h. inr (h.0, answer, undone, h.1))
      (λ c h. inl h)
      (λ output c h. inr h)
      (λ output c h. inl h)
      (λ error c h. inl (h.0, error, h.1))
      (λ error c h. absurd h)
      (λ c h. inr h)

  pub receives_waiting : (may_end : Type 0) (before : Asking Bool × View (State T W) (ChannelCall T)) (result : Result (Option (Option T)) (Refused ListenError)) (after : Asking Bool × View (State T W) (ChannelCall T))
      → before.0.asked ≡ false → (may_end → ⊥)
      → Ends (channel_machine capacity) ReceivesOrWaits (NotRefused ReceivesOrLeaves) TriesToReceive GivesUpReceiving (λ before _ after. after ≡ before) (λ before _ after. after ≡ before) may_end before result after
      → ReceivesWaiting capacity before.1 result after.1
  receives_waiting may_end =
      waits_for (channel_machine capacity) ReceivesOrWaits (NotRefused ReceivesOrLeaves) TriesToReceive GivesUpReceiving (λ before _ after. after ≡ before) (λ before _ after. after ≡ before) may_end false IsVainReceive IsReceive IsReceiveGivenUp
      (λ answer c undone h. inr (h.0, answer, undone, h.1))
      (λ c h. inl h)
      (λ output c h. inr h)
      (λ output c h. inl h)
      (λ error c h. inl (h.0, error, h.1))
      (λ error c h. absurd h)
      (λ c h. inr h)

  ends_so : (message : T) (why : SendReason) (v w : View (State T W) (ChannelCall T)) → IsUnsent why → MakesAtLast (channel_machine capacity) v (IsVainSend message) (IsSend message (Err why)) w → EndsUnsent capacity message v why w
  ends_so message reason.Closed v w unsent made = made
  ends_so message reason.Full v w unsent made = absurd unsent
  ends_so message reason.TimedOut v w unsent made = absurd unsent
  ends_so message reason.Memory v w unsent made = made
  ends_so message (reason.WaitFailed error) v w unsent made = absurd unsent

  -- one whose attempt succeeded, at a lock that has this capacity
  pub ends_sent : (start : Option ℕ) → start ≡ capacity → (message : T) (waited : Option (Result (Unit {0}) SendReason)) (reply : Result (Unit {0}) SendReason) (v w : View (State T W) (ChannelCall T))
      → waited ≡ Some reply → reply ≡ Ok tt → SendsWaiting start {E = Refused ListenError} message v (Ok waited) w → MakesAtLast (channel_machine capacity) v (IsVainSend message) (IsSend message (Ok tt)) w
  ends_sent start same message waited reply v w is sent waits =
      subst (λ (o : Option (Result (Unit {0}) SendReason)). SendsWaiting capacity {E = Refused ListenError} message v (Ok o) w) (is ∙ ap Some sent) (subst (λ (n : Option ℕ). SendsWaiting n {E = Refused ListenError} message v (Ok waited) w) same waits)

  -- one whose attempt was refused says why
  pub ends_unsent : (start : Option ℕ) → start ≡ capacity → (message : T) (waited : Option (Result (Unit {0}) SendReason)) (reply : Result (Unit {0}) SendReason) (why said : SendReason) (before after : Option T) (v w : View (State T W) (ChannelCall T))
      → waited ≡ Some reply → reply ≡ Err why → said ≡ why → Gets {E = Refused ListenError} Empties before (Ok waited) after → SendsWaiting start {E = Refused ListenError} message v (Ok waited) w → EndsUnsent capacity message v said w
  ends_unsent start same message waited reply why said before after v w is refused says gets waits =
      let answer : waited ≡ Some (Err why) = is ∙ ap Some refused in
      let kept = subst (λ (o : Option (Result (Unit {0}) SendReason)). Gets {E = Refused ListenError} Empties before (Ok o) after) answer gets in
      rw says (ends_so message why v w kept.0 (subst (λ (o : Option (Result (Unit {0}) SendReason)). SendsWaiting capacity {E = Refused ListenError} message v (Ok o) w) answer (subst (λ (n : Option ℕ). SendsWaiting n {E = Refused ListenError} message v (Ok waited) w) same waits)))

  -- one that could not wait says why
  pub ends_refused : (start : Option ℕ) → start ≡ capacity → (message : T) (refused : Refused ListenError) (said : SendReason) (error : WaitError) (v w : View (State T W) (ChannelCall T))
      → said ≡ reason.WaitFailed error → SendsWaiting start {E = Refused ListenError} message v (Err refused) w → EndsUnsent capacity message v said w
  ends_refused start same message refused said error v w says waits = rw says (subst (λ (n : Option ℕ). SendsWaiting n {E = Refused ListenError} message v (Err refused) w) same waits)

module _ {T W : Type 0} where
  -- one that receives, at a lock that has this capacity
  pub receives_at : (start capacity : Option ℕ) → start ≡ capacity → (v w : View (State T W) (ChannelCall T)) (result : Result (Option (Option T)) (Refused ListenError))
      → ReceivesWaiting start v result w → ReceivesWaiting capacity v result w
  receives_at start capacity same v w result waits = subst (λ (n : Option ℕ). ReceivesWaiting n v result w) same waits
