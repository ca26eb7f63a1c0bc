-- How often one that competes has lost.
use Rattle.std.proofs.Common.{◌≡◌, ◌∙◌, ℕ, Bool, true, false, if◌then◌else◌, Option, ap, sym, arith}
use Rattle.std.proofs.lemmas.Option.{same_Some}
use Rattle.event_queue.specs.declared.key.Key.{Key}
use Rattle.event_wait.specs.Attempted.{OnUndone}
use Rattle.event_wait.specs.declared.request.Attempted.{Attempted}
use Rattle.event_wait.specs.declared.request.Attempted.TheVariants.{Done, Waits, Absent, Refused}
use Rattle.event_locks.specs.Losses.{LosesOnceAtMost}
use Rattle.event_word.specs.Contender.{coming_of, count_of, losses_after}
use Rattle.event_word.specs.declared.contender.Coming.{Coming}
use Rattle.event_word.specs.declared.contender.Coming.TheVariants.{New}
use Rattle.event_word.specs.Free.{NoneFor, ServesTheStarving}
use Rattle.event_word.specs.declared.competing.Competing.{Competing}
use Rattle.event_word.specs.Held.{HasState}
use Rattle.event_word.specs.declared.word.held.Held.{Held}

module _ {C V G E : Type 0} (place : Option Key) (before after : ℕ) (m : Held (Competing C) V) where
  -- one that came as its queue said came in some way
  pub loses-undone : (attempted : Attempted G E) → OnUndone attempted (HasState (λ _ q. after ≡ losses_after before (coming_of place q.line)) m) → OnUndone attempted (LosesOnceAtMost before after)
  loses-undone (Done grant) h = h
  loses-undone (Waits key) h = (coming_of place h.1.line, h.4)
  loses-undone Absent h = (coming_of place h.1.line, h.4)
  loses-undone (Refused error) h = h

-- one that was notified is one
abbrev told_of : Bool → ℕ
told_of b = if b then 1 else 0

unnotified : (b : Bool) (n : ℕ) → told_of b ≡ 0 → NoneFor b n → NoneFor false n
unnotified true n is none = absurd (omega (arith, is))
unnotified false n is none = none

-- a newcomer that waits found nothing that it might take
pub newcomer-found-none : {C V : Type 0} (m mid n : Held (Competing C) V) (place : Option Key) (arrival coming : Coming) (notified : Bool) → HasState (λ _ q. arrival ≡ coming_of place q.line) m → coming ≡ arrival → count_of coming ≡ told_of notified → HasState (λ b _. NoneFor notified b) mid
    → n.seat.view.number ≡ mid.seat.view.number → HasState (λ b q. ServesTheStarving b q.line) n → HasState (λ _ q. coming_of place q.line ≡ New) m → HasState (λ b _. NoneFor false b) n
newcomer-found-none {C} m mid n place arrival coming notified came same counts none number serves new =
    let q : came.1 ≡ new.1 = same_Some came.1 new.1 (sym came.3 ∙ new.3) in
    let is : coming ≡ New = same ∙ (came.4 ∙ (ap (λ (x : Competing C). coming_of place x.line) q ∙ new.4)) in
    let zero : told_of notified ≡ 0 = sym counts ∙ ap count_of is in
    (none.0, serves.1, number ∙ none.2, serves.3, unnotified notified none.0 zero none.4)
