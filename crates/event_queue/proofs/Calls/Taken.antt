-- A queue whose chain took an entry out, or changed what it carries.
use Rattle.std.proofs.Common.{◌≡◌, ℕ, Option, Some, None, refl, sym, ap, subst, ◌∙◌, rules}
use Rattle.event_queue.specs.declared.key.Key.{Key}
use Rattle.event_queue.specs.declared.notice.Notice.{Notice}
use Rattle.event_queue.specs.declared.node.Side.{Side}
use Rattle.event_queue.specs.declared.node.Side.TheVariants.{Before, After}
use Rattle.event_queue.specs.Nodes.{Sequence, Takes, TakesOrChanges}
use Rattle.event_queue.specs.Exchange.{RegistersWith}
use Rattle.event_queue.specs.Queue.{Queue, IsQueue, IsGone, order_of}
use Rattle.event_queue.specs.Register.{Registers, IsRegistration}
use Rattle.event_queue.specs.StoredTask.{answer_of, StoresWhat}
use Rattle.event_queue.proofs.QueueLemmas.{IsQueue-told_leaves, IsQueue-waiting_leaves}
use Rattle.event_queue.proofs.Calls.Exchanges.{IsQueue-after_setting, order_of-after_setting}
use Rattle.event_queue.proofs.LawLemmas.{took_tag-gone, took_tag-order}

module _ {T W : Type 0} where
  -- the queue of a chain
  abbrev pub queue_of : Sequence (Notice T) (Option W) → ℕ → Queue T W
  queue_of chain next_serial =
      record { told = chain.before; waiting = chain.after; next_serial = next_serial; spare = chain.spare }

  pub IsQueue-taken : (key : Key) (old : Sequence (Notice T) (Option W)) (found : Option (Side (Notice T) (Option W))) (new : Sequence (Notice T) (Option W)) (next_serial : ℕ)
      → IsQueue (queue_of old next_serial) → Takes old key found new → IsQueue (queue_of new next_serial)
  IsQueue-taken key old None new next_serial queue step = rw step.1 queue
  IsQueue-taken key old (Some (Before notice)) new next_serial queue step =
      rw step.1 (IsQueue-told_leaves key (queue_of old next_serial) notice queue step.0)
  IsQueue-taken key old (Some (After stored)) new next_serial queue step =
      rw step.1 (IsQueue-waiting_leaves key (queue_of old next_serial) stored queue step.0)

  module _ {C : Type 0} (changes : C → Option W → Option W → C → Type 0) where
    pub IsQueue-taken_or_changed : (key : Key) (old : Sequence (Notice T) (Option W)) (on : C) (found : Option (Side (Notice T) Unit)) (new : Sequence (Notice T) (Option W)) (on' : C) (next_serial : ℕ)
        → IsQueue (queue_of old next_serial) → TakesOrChanges changes old key on found new on' → IsQueue (queue_of new next_serial)
    IsQueue-taken_or_changed key old on None new on' next_serial queue step = rw step.1 queue
    IsQueue-taken_or_changed key old on (Some (Before notice)) new on' next_serial queue step =
        rw step.1 (IsQueue-told_leaves key (queue_of old next_serial) notice queue step.0)
    IsQueue-taken_or_changed key old on (Some (After _)) new on' next_serial queue step =
        rw step.stored (IsQueue-after_setting key step.value (queue_of old next_serial) queue)

    -- the laws of a registration follow from what was found of its key, and from its step
    pub IsRegistration-found : {Step : Type 0} (key : Key) (old : Sequence (Notice T) (Option W)) (on : C) (found : Option (Side (Notice T) Unit)) (new : Sequence (Notice T) (Option W)) (on' : C) (next_serial : ℕ)
        → IsQueue (queue_of old next_serial) → TakesOrChanges changes old key on found new on' → Step
        → IsRegistration Step (queue_of old next_serial) key (answer_of found) (queue_of new next_serial)
    IsRegistration-found key old on None new on' next_serial queue taken step = record {
      step = step;
      queue = IsQueue-taken_or_changed key old on None new on' next_serial queue taken;
      gone = tt;
      order_without = tt;
      order_kept = ap (λ chain. order_of (queue_of chain next_serial)) taken.1;
      serial = refl;
    }
    IsRegistration-found key old on (Some (Before notice)) new on' next_serial queue taken step =
        let left = ap (λ chain. queue_of chain next_serial) taken.1 in
        record {
          step = step;
          queue = IsQueue-taken_or_changed key old on (Some (Before notice)) new on' next_serial queue taken;
          gone = subst (IsGone key) (sym left) (took_tag-gone key (queue_of old next_serial) notice.tag queue (rw taken.0 refl));
          order_without = ap order_of left ∙ took_tag-order key (queue_of old next_serial) notice.tag queue (rw taken.0 refl);
          order_kept = tt;
          serial = refl;
        }
    IsRegistration-found key old on (Some (After _)) new on' next_serial queue taken step = record {
      step = step;
      queue = IsQueue-taken_or_changed key old on (Some (After _)) new on' next_serial queue taken;
      gone = tt;
      order_without = tt;
      order_kept = ap (λ chain. order_of (queue_of chain next_serial)) taken.stored ∙ order_of-after_setting key taken.value (queue_of old next_serial);
      serial = refl;
    }

  -- what a registration does that stores a task, and one that exchanges it
  pub Registers-found : {C : Type 0} (task : W) (key : Key) (old : Sequence (Notice T) (Option W)) (on : C) (found : Option (Side (Notice T) Unit)) (new : Sequence (Notice T) (Option W)) (on' : C) (next_serial : ℕ)
      → TakesOrChanges (λ _ _ stored _. stored ≡ Some task) old key on found new on' → Registers (queue_of old next_serial) key task (answer_of found) (queue_of new next_serial)
  Registers-found task key old on None new on' next_serial taken = search rules
  Registers-found task key old on (Some (Before notice)) new on' next_serial taken = search rules
  Registers-found task key old on (Some (After _)) new on' next_serial taken =
      (rw taken.found refl, ap (λ chain. queue_of chain next_serial) (rw taken.made at taken.stored))

  pub RegistersWith-found : {C : Type 0} (exchanged : C → Option W → W → C → Type 0) (key : Key) (old : Sequence (Notice T) (Option W)) (on : C) (found : Option (Side (Notice T) Unit)) (new : Sequence (Notice T) (Option W)) (on' : C) (next_serial : ℕ)
      → TakesOrChanges (λ before former stored after. StoresWhat (exchanged before former) stored after) old key on found new on'
      → RegistersWith exchanged (queue_of old next_serial) key on (answer_of found) (queue_of new next_serial) on'
  RegistersWith-found exchanged key old on None new on' next_serial taken = search rules
  RegistersWith-found exchanged key old on (Some (Before notice)) new on' next_serial taken = search rules
  RegistersWith-found exchanged key old on (Some (After _)) new on' next_serial taken = search rules
