-- What stays of a queue's order as listeners join and leave.
use Rattle.std.proofs.Common.{◌≡◌, ℕ, ◌+◌, ◌<◌, ◌^◌, List, [], ◌∷◌, ◌++◌, length, refl, sym, ap, ◌∙◌, subst, arith, Option, Some, None, append_assoc}
use Rattle.std.proofs.lemmas.List.{map-append}
use Rattle.std.proofs.lemmas.List.Elements.{filter-append}
use Rattle.std.proofs.lemmas.Map.{keys-set_value, length-set_value}
use Rattle.std.specs.Map.{keys_of, lookup}
use Rattle.event_queue.specs.declared.key.Key.{Key}
use Rattle.event_queue.specs.declared.notice.Notice.{Notice}
use Rattle.event_queue.specs.Key.{is_key, without}
use Rattle.event_queue.specs.Queue.{Queue, IsQueue, IsAbsent, IsGone, order_of, listeners_of, told_leaves, waiting_leaves}
use Rattle.event_queue.specs.Register.{after_storing}
use Rattle.event_queue.proofs.OrderLemmas.{Rises, NoneIs, All-append, All-front, All-back, Rises-from_increasing, increasing_from_Rises, Rises-front, Rises-back, Rises-filter}
use Rattle.event_queue.proofs.OrderLemmas.{Rises-push, without-none, none_is-without, none_is-from_lookup, lookup-none_is, below-found, none_after, none_before}
use Rattle.event_queue.proofs.OrderLemmas.{keys_of-remove_entry, length-remove_entry}

module _ {T W : Type 0} where
  pub rises_along : (q : Queue T W) → IsQueue q → Rises (order_of q) q.next_serial
  rises_along q queue = Rises-from_increasing (order_of q) q.next_serial queue.rising

  pub IsQueue-from_Rises : (q : Queue T W) → Rises (order_of q) q.next_serial → q.next_serial < 2 ^ 64 → listeners_of q + q.spare < 2 ^ 64 → IsQueue q
  IsQueue-from_Rises q rises serial_fits slots_fit = record {
    rising = increasing_from_Rises (order_of q) q.next_serial rises;
    serial_fits = serial_fits;
    slots_fit = slots_fit;
  }

  -- the order with one more waiting at the end
  pub order_of-push : (q : Queue T W) (key : Key) (task : Option W) → keys_of q.told ++ keys_of (q.waiting ++ (key, task) ∷ []) ≡ order_of q ++ key ∷ []
  order_of-push q key task =
      ap (λ keys. keys_of q.told ++ keys) (map-append (λ e. e.0) q.waiting ((key, task) ∷ [])) ∙ sym (append_assoc (keys_of q.told) (keys_of q.waiting) (key ∷ []))

  pub IsQueue-push_storing : (q : Queue T W) (key : Key) (stored : Option W) (spare : ℕ) → IsQueue q → key.serial ≡ q.next_serial → q.next_serial + 1 < 2 ^ 64
      → length q.told + length (q.waiting ++ (key, stored) ∷ []) + spare < 2 ^ 64
      → IsQueue {T = T} {W = W} (record { told = q.told; waiting = q.waiting ++ (key, stored) ∷ []; next_serial = q.next_serial + 1; spare = spare })
  IsQueue-push_storing q key stored spare queue same left fits =
      IsQueue-from_Rises _ (subst (λ keys. Rises keys (q.next_serial + 1)) (sym (order_of-push q key stored)) (Rises-push (order_of q) key q.next_serial same (rises_along q queue))) left fits

  pub IsQueue-push : (q : Queue T W) (key : Key) (spare : ℕ) → IsQueue q → key.serial ≡ q.next_serial → q.next_serial + 1 < 2 ^ 64
      → length q.told + length (q.waiting ++ (key, None) ∷ []) + spare < 2 ^ 64
      → IsQueue {T = T} {W = W} (record { told = q.told; waiting = q.waiting ++ (key, None) ∷ []; next_serial = q.next_serial + 1; spare = spare })
  IsQueue-push q key spare queue same left fits = IsQueue-push_storing q key None spare queue same left fits

  -- the others keep their order where a listener leaves
  pub order_of-told_leaves : (key : Key) (q : Queue T W) (notice : Notice T) → IsQueue q → lookup (is_key key) q.told ≡ Some notice → order_of (told_leaves key q) ≡ without key (order_of q)
  order_of-told_leaves key q notice queue found =
      let rises = rises_along q queue in
      let others = none_after key q.told notice (keys_of q.waiting) q.next_serial rises found in
      let kept = without-none key (keys_of q.waiting) others in
      let left = keys_of-remove_entry key q.told notice q.next_serial (Rises-front (keys_of q.told) (keys_of q.waiting) q.next_serial rises) found in
      simp (left, filter-append) (rw kept)

  pub order_of-waiting_leaves : (key : Key) (q : Queue T W) (task : Option W) → IsQueue q → lookup (is_key key) q.waiting ≡ Some task → order_of (waiting_leaves key q) ≡ without key (order_of q)
  order_of-waiting_leaves key q task queue found =
      let rises = rises_along q queue in
      let others = none_before key (keys_of q.told) q.waiting task q.next_serial rises found in
      let kept = without-none key (keys_of q.told) others in
      let left = keys_of-remove_entry key q.waiting task q.next_serial (Rises-back (keys_of q.told) (keys_of q.waiting) q.next_serial rises) found in
      simp (left, filter-append) (rw kept)

  -- a queue of the others, in their order, is a queue
  IsQueue-without : (key : Key) (old new : Queue T W) → IsQueue old → order_of new ≡ without key (order_of old) → new.next_serial ≡ old.next_serial
      → listeners_of new + new.spare < 2 ^ 64 → IsQueue new
  IsQueue-without key old new queue order same fits =
      IsQueue-from_Rises new (rw (order, same) (Rises-filter _ (order_of old) old.next_serial (rises_along old queue))) (omega (arith, queue.serial_fits)) fits

  pub IsQueue-told_leaves : (key : Key) (q : Queue T W) (notice : Notice T) → IsQueue q → lookup (is_key key) q.told ≡ Some notice → IsQueue (told_leaves key q)
  IsQueue-told_leaves key q notice queue found =
      IsQueue-without key q (told_leaves key q) queue (order_of-told_leaves key q notice queue found) refl (omega (arith, queue.slots_fit, length-remove_entry key q.told notice found))

  pub IsQueue-waiting_leaves : (key : Key) (q : Queue T W) (task : Option W) → IsQueue q → lookup (is_key key) q.waiting ≡ Some task → IsQueue (waiting_leaves key q)
  IsQueue-waiting_leaves key q task queue found =
      IsQueue-without key q (waiting_leaves key q) queue (order_of-waiting_leaves key q task queue found) refl (omega (arith, queue.slots_fit, length-remove_entry key q.waiting task found))

  -- storing a task changes no key
  pub order_of-after_storing : (key : Key) (task : W) (q : Queue T W) → order_of (after_storing key task q) ≡ order_of q
  order_of-after_storing key task q =
      ap (λ keys. keys_of q.told ++ keys) (keys-set_value (is_key key) q.waiting (Some task))

  pub IsQueue-after_storing : (key : Key) (task : W) (q : Queue T W) → IsQueue q → IsQueue (after_storing key task q)
  IsQueue-after_storing key task q queue =
      let order = order_of-after_storing key task q in
      IsQueue-from_Rises _ (rw order (rises_along q queue)) queue.serial_fits (omega (arith, queue.slots_fit, length-set_value (is_key key) q.waiting (Some task)))

  -- an absent key is none of those in the order, and the other way: so it is gone, if its serial was given
  pub IsAbsent-none : (key : Key) (q : Queue T W) → IsAbsent key q → NoneIs key (order_of q)
  IsAbsent-none key q absent =
      All-append _ (keys_of q.told) (keys_of q.waiting) (none_is-from_lookup key q.told absent.untold) (none_is-from_lookup key q.waiting absent.unwaiting)

  pub IsGone-none : (key : Key) (q : Queue T W) → NoneIs key (order_of q) → key.serial < q.next_serial → IsGone key q
  IsGone-none key q none spent = record {
    absent = record {
      untold = lookup-none_is key q.told (All-front _ (keys_of q.told) (keys_of q.waiting) none);
      unwaiting = lookup-none_is key q.waiting (All-back _ (keys_of q.told) (keys_of q.waiting) none);
    };
    spent = spent;
  }

  -- a listener whose key is in the order no longer, and was, is gone
  pub IsGone-without : (key : Key) (q : Queue T W) (keys : List Key) → order_of q ≡ without key keys → key.serial < q.next_serial → IsGone key q
  IsGone-without key q keys order spent = IsGone-none key q (subst (NoneIs key) (sym order) (none_is-without key keys)) spent

  pub told_serial : (key : Key) (q : Queue T W) (notice : Notice T) → IsQueue q → lookup (is_key key) q.told ≡ Some notice → key.serial < q.next_serial
  told_serial key q notice queue found =
      below-found key q.told notice q.next_serial (Rises-front (keys_of q.told) (keys_of q.waiting) q.next_serial (rises_along q queue)) found

  pub waiting_serial : (key : Key) (q : Queue T W) (task : Option W) → IsQueue q → lookup (is_key key) q.waiting ≡ Some task → key.serial < q.next_serial
  waiting_serial key q task queue found =
      below-found key q.waiting task q.next_serial (Rises-back (keys_of q.told) (keys_of q.waiting) q.next_serial (rises_along q queue)) found
