-- The wait of a listener that is in the queue.
use Rattle.std.proofs.Common.{◌≡◌, ◌≢◌, ◌∙◌, refl, sym, ap, subst, ℕ, zero, suc, true≢false, false, Option, Some, None, IsSome, Result, Ok, Err, inl, inr}
use Rattle.std.specs.Prelude.{⊤}
use Rattle.event_queue.specs.declared.key.Key.{Key}
use Rattle.event_queue.specs.declared.reply.RegisterResult.TheVariants as register
use Rattle.event_queue.specs.declared.reply.State.{State}
use Rattle.event_queue.specs.declared.reply.State.TheVariants as state
use Rattle.event_wait.specs.Rounds.{Rounds, Rules, Fails}
use Rattle.event_wait.specs.declared.lock.task.Task.{Task}
use Rattle.event_wait.specs.declared.lock.wait.Refused.{Refused}
use Rattle.event_wait.specs.declared.lock.wait.Refused.TheVariants.{Memory, Request}
use Rattle.event_wait.specs.declared.request.Attempted.{Attempted}
use Rattle.event_wait.specs.declared.request.Attempted.TheVariants as attempted
use Rattle.event_history.specs.declared.queue_call.QueueCall.{QueueCall}
use Rattle.event_history.specs.declared.queue_call.QueueCall.TheVariants as call
use Rattle.event_history.specs.History.{Makes}
use Rattle.event_history.specs.Laws.{OwnsListener}
use Rattle.event_history.specs.Queue.{NoneLeft, OnlyLeft, queue_machine}
use Rattle.event_history.specs.Waiting as waiting
use Rattle.event_history.proofs.LawsLeft.{only_kept, left_registered, left_removed}
use Rattle.event_history.proofs.LawsOwn.{own_registered, own_removed, own_stored}
use Rattle.event_listener.specs.declared.listener.place.Place.{Place}
use Rattle.event_listener.specs.declared.listener.wait_error.WaitReason.{WaitReason}
use Rattle.event_listener.specs.declared.listener.wait_error.WaitReason.TheVariants as reason
use Rattle.event_listener.specs.Listening.{Known}
use Rattle.event_listener.specs.Waiting.{Attempting, Calls, Leaving, Round, WaitsBy, answer_of}

abbrev Goes : Type 0 → Type 0
Goes T = Place × Known T

abbrev Same : Place → Place → Type 0
Same before after = after ≡ before

module _ {T : Type 0} where
  abbrev Makes' : Known T → (QueueCall T Task → Type 0) → Known T → Type 0
  Makes' = Makes queue_machine

  call_is : (v w : Known T) (c d : QueueCall T Task) → c ≡ d → Calls v c w → Calls v d w
  call_is v w c d same called = subst (λ (x : QueueCall T Task). Calls v x w) same called

module _ (T E R : Type 0) where
  abbrev attempting : Place → Attempted (Result T E) R → QueueCall T Task → Type 0
  attempting place = Attempting place.key

  abbrev leaving : Place → Result (Option (Result T E)) R → QueueCall T Task → Type 0
  leaving place = Leaving place.key

  abbrev PlaceRound : Goes T → Goes T → Type 0
  PlaceRound = waiting.Round queue_machine attempting leaving Same

  -- an attempt that got nothing is a round
  one_round : (key : Key) (before after : Goes T) → before.0.key ≡ key → (answer : Attempted (Result T E) R) → waiting.IsUndone answer → Makes' before.1 (attempting before.0 answer) after.1 → Round key before.1 after.1
  one_round key before after its (attempted.Done grant) undone made = absurd undone
  one_round key before after its (attempted.Waits k) undone made = call_is before.1 after.1 made.0 (call.Register key register.Registered) (made.1 ∙ ap (λ (k : Key). call.Register k register.Registered) its) made.2
  one_round key before after its attempted.Absent undone made = absurd made.1
  one_round key before after its (attempted.Refused error) undone made = absurd undone

  -- the place stays, and so does the right to call
  rounds : (key : Key) (n : ℕ) (before after : Goes T) → before.0.key ≡ key → OwnsListener key before.1.mine → Rounds PlaceRound n before after
      → (after.0.key ≡ key) × Rounds (Round key) n before.1 after.1 × OwnsListener key after.1.mine
  rounds key zero before after its owns same = (ap (λ (g : Goes T). g.0.key) same ∙ its, ap (λ (g : Goes T). g.1) same, subst (λ (g : Goes T). OwnsListener key g.1.mine) (sym same) owns)
  rounds key (suc n) before after its owns waited =
      let most = rounds key n before waited.0 its owns waited.1 in
      let last = waited.2 in
      let round = one_round key waited.0 after most.0 last.1 last.2 last.3 in
      (ap (λ (p : Place). p.key) last.0 ∙ most.0, (waited.0.1, most.1, round), own_stored key waited.0.1 after.1 register.Registered round.0 round.1 round.2 refl most.2)

  -- what the lock says of its request
  abbrev asks : Rules (Goes T) (Result T E) R
  asks = waiting.by_hand queue_machine attempting leaving Same (λ before output after. after ≡ before) (λ before left after. after ≡ before)

  abbrev Ends : Type 0 → Goes T → Result (Option (Result T E)) (Refused R) → Goes T → Type 0
  Ends may_end = waiting.EndsWait queue_machine attempting leaving Same (λ before output after. after ≡ before) (λ before left after. after ≡ before) may_end

  -- it is never refused
  never : (before : Goes T) (error : R) (after : Goes T) → Fails asks before (Request error) after → ⊥
  never before error after (inl refused) = refused.1.1
  never before error after (inr stayed) = stayed.1.1

  -- how it ends
  pub waits_by : (may_end : Type 0) (key : Key) (before after : Goes T) → before.0.key ≡ key → OwnsListener key before.1.mine → (waited : Result (Option (Result T E)) (Refused R)) → Ends may_end before waited after
      → WaitsBy key may_end before.1 (answer_of waited) after.1
  waits_by may_end key before after its owns (Ok (Some (Ok tag))) (inl got) =
      let r = rounds key got.waited.0 before got.between its owns got.waited.1 in
      let made = got.succeeded.1 in
      inl (record { between = got.between.1; waited = (got.waited.0, r.1); found = call_is got.between.1 after.1 made.0 (call.Register key (register.Notified tag)) (made.1 ∙ ap (λ (k : Key). call.Register k (register.Notified tag)) r.0) made.2 })
  waits_by may_end key before after its owns (Ok (Some (Ok tag))) (inr late) =
      let r = rounds key (suc late.waited.0) before late.between its owns late.waited.1 in
      let made = late.left.1 in
      let left = made.1 in
      let former = left.1.1 in
      inr (left.1.0, record { has_limit = late.has_limit; between = late.between.1; waited = (late.waited.0, r.1); left = call_is late.between.1 after.1 made.0 (call.Remove key false (Some (state.Notified left.1.0 tag))) (left.2 ∙ (ap (λ (k : Key). call.Remove k false left.0) r.0 ∙ ap (λ (f : Option (State T Task)). call.Remove key false f) former)) made.2 })
  waits_by may_end key before after its owns (Ok (Some (Err gone))) (inl got) =
      let r = rounds key got.waited.0 before got.between its owns got.waited.1 in
      let made = got.succeeded.1 in
      let called = call_is got.between.1 after.1 made.0 (call.Register key register.NeverInserted) (made.1 ∙ ap (λ (k : Key). call.Register k register.NeverInserted) r.0) made.2 in
      absurd (own_registered key got.between.1 after.1 register.NeverInserted called.0 called.1 called.2 r.2 refl)
  waits_by may_end key before after its owns (Ok (Some (Err gone))) (inr late) =
      let r = rounds key (suc late.waited.0) before late.between its owns late.waited.1 in
      let made = late.left.1 in
      let left = made.1 in
      let called = call_is late.between.1 after.1 made.0 (call.Remove key false left.0) (left.2 ∙ ap (λ (k : Key). call.Remove k false left.0) r.0) made.2 in
      let found = own_removed key late.between.1 after.1 false left.0 called.0 called.1 called.2 r.2 in
      absurd (true≢false (sym (subst (λ (f : Option (State T Task)). IsSome f) left.1 found)))
  waits_by may_end key before after its owns (Ok None) late =
      let r = rounds key (suc late.waited.0) before late.between its owns late.waited.1 in
      let made = late.left.1 in
      let left = made.1 in
      (left.0, left.1, record { has_limit = late.has_limit; between = late.between.1; waited = (late.waited.0, r.1); left = call_is late.between.1 after.1 made.0 (call.Remove key false left.0) (left.2 ∙ ap (λ (k : Key). call.Remove k false left.0) r.0) made.2 })
  waits_by may_end key before after its owns (Err Memory) failed =
      let r = rounds key failed.1.0 before failed.0 its owns failed.1.1 in
      (failed.1.0, subst (λ (g : Goes T). Rounds (Round key) failed.1.0 before.1 g.1) (sym failed.2) r.1)
  waits_by may_end key before after its owns (Err (Request error)) failed = absurd (never failed.0 error after failed.2)

  -- where memory was refused, it is in the queue
  pub still_owns : (may_end : Type 0) (key : Key) (before after : Goes T) → before.0.key ≡ key → OwnsListener key before.1.mine → (waited : Result (Option (Result T E)) (Refused R)) → Ends may_end before waited after
      → answer_of waited ≡ Err reason.Memory → OwnsListener key after.1.mine
  still_owns may_end key before after its owns (Ok (Some (Ok tag))) ends is = absurd (let e = is in cc)
  still_owns may_end key before after its owns (Ok (Some (Err gone))) ends is = absurd (let e = is in cc)
  still_owns may_end key before after its owns (Ok None) ends is = absurd (let e = is in cc)
  still_owns may_end key before after its owns (Err Memory) failed is =
      let r = rounds key failed.1.0 before failed.0 its owns failed.1.1 in
      subst (λ (g : Goes T). OwnsListener key g.1.mine) (sym failed.2) r.2
  still_owns may_end key before after its owns (Err (Request error)) failed is = absurd (never failed.0 error after failed.2)

-- what is said of a wait by its limit holds of it by any
pub by_any_limit : {T : Type 0} (limited : Type 0) (key : Key) (before : Known T) (result : Result (Option T) WaitReason) (after : Known T) → WaitsBy key limited before result after → WaitsBy key ⊤ before result after
by_any_limit limited key before (Ok (Some tag)) after (inl found) = inl found
by_any_limit limited key before (Ok (Some tag)) after (inr late) = inr (late.0, record { has_limit = tt; between = late.1.between; waited = late.1.waited; left = late.1.left })
by_any_limit limited key before (Ok None) after late = (late.0, late.1, record { has_limit = tt; between = late.2.between; waited = late.2.waited; left = late.2.left })
by_any_limit limited key before (Err reason.Memory) after some = some
by_any_limit limited key before (Err reason.NeverInserted) after never = absurd never

-- what a wait leaves in the queue
module _ {T : Type 0} (key : Key) where
  -- rounds take no listener out
  rounds_keep : (n : ℕ) (before after : Known T) → Rounds (Round key) n before after → OwnsListener key before.mine → OnlyLeft key before.mine → OwnsListener key after.mine × OnlyLeft key after.mine
  rounds_keep zero before after same owns left = subst (λ (v : Known T). OwnsListener key v.mine × OnlyLeft key v.mine) (sym same) (owns, left)
  rounds_keep (suc n) before after waited owns left =
      let most = rounds_keep n before waited.0 waited.1 owns left in
      let round = waited.2 in (
        own_stored key waited.0 after register.Registered round.0 round.1 round.2 refl most.0,
        only_kept key waited.0 after (call.Register key register.Registered) round.0 round.1 round.2 tt most.1,
      )

  -- one that ended leaves none
  pub ended : (limited : Type 0) (before : Known T) (result : Result (Option T) WaitReason) (after : Known T) → WaitsBy key limited before result after → result ≢ Err reason.Memory
      → OwnsListener key before.mine → OnlyLeft key before.mine → NoneLeft after.mine
  ended limited before (Ok (Some tag)) after (inl finds) done owns left =
      let kept = rounds_keep finds.waited.0 before finds.between finds.waited.1 owns left in
      let found = finds.found in
      left_registered key finds.between after (register.Notified tag) found.0 found.1 found.2 (λ is. is_stored tag is) kept.0 kept.1
    where
      is_stored : (tag : T) → register.Notified tag ≡ register.Registered → ⊥
      is_stored tag is = cc
  ended limited before (Ok (Some tag)) after (inr late) done owns left =
      let leaves = late.1 in
      let kept = rounds_keep (suc leaves.waited.0) before leaves.between leaves.waited.1 owns left in
      left_removed key leaves.between after false (Some (state.Notified late.0 tag)) leaves.left.0 leaves.left.1 leaves.left.2 kept.0 kept.1
  ended limited before (Ok None) after late done owns left =
      let leaves = late.2 in
      let kept = rounds_keep (suc leaves.waited.0) before leaves.between leaves.waited.1 owns left in
      left_removed key leaves.between after false late.0 leaves.left.0 leaves.left.1 leaves.left.2 kept.0 kept.1
  ended limited before (Err reason.Memory) after some done owns left = absurd (done refl)
  ended limited before (Err reason.NeverInserted) after never done owns left = absurd never

  -- one that memory was refused to leaves its own alone
  pub still_only : (limited : Type 0) (before : Known T) (result : Result (Option T) WaitReason) (after : Known T) → WaitsBy key limited before result after → result ≡ Err reason.Memory
      → OwnsListener key before.mine → OnlyLeft key before.mine → OnlyLeft key after.mine
  still_only limited before (Ok (Some tag)) after ends is owns left = absurd (let e = is in cc)
  still_only limited before (Ok None) after ends is owns left = absurd (let e = is in cc)
  still_only limited before (Err reason.Memory) after some is owns left = (rounds_keep some.0 before after some.1 owns left).1
  still_only limited before (Err reason.NeverInserted) after never is owns left = absurd never
