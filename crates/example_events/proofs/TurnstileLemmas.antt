-- What a visitor that joins and an admission make of the line.
use Rattle.std.proofs.Common.{◌≡◌, ℕ, zero, suc, ◌≤◌, min, true, false, List, [], ◌∷◌, ◌++◌, take, length, refl, sym, ap, ◌∙◌, subst, arith, Option, Some, None, IsSome, IsSomeAnd, Result, Ok, Err, IfOk}
use Rattle.std.specs.Cmp.{nat_eq_equiv}
use Rattle.std.specs.List.{filter_map}
use Rattle.std.specs.Map.{keys_of, lookup, set_value}
use Rattle.std.proofs.lemmas.List.{take_all, take_min}
use Rattle.std.proofs.lemmas.Map.{keys-set_value}
use Rattle.event_queue.specs.declared.key.Key.{Key}
use Rattle.event_queue.specs.declared.notice.Notice.{Notice}
use Rattle.event_queue.specs.declared.reply.RegisterResult.{RegisterResult}
use Rattle.event_queue.specs.declared.reply.RegisterResult.TheVariants.{Notified, Registered, NeverInserted}
use Rattle.event_queue.specs.Key.{is_key}
use Rattle.event_queue.specs.Queue.{Queue, IsQueue, order_of, tasks_of, told_leaves}
use Rattle.event_queue.specs.Insert.{Joins}
use Rattle.event_queue.specs.Register.{Registers}
use Rattle.event_queue.specs.Woken.{Kept, first_of}
use Rattle.event_queue.proofs.OrderLemmas.{Rises, NoneIs, All-front, All-back, none_after, none_before, lookup-none_is}
use Rattle.event_queue.proofs.QueueLemmas.{rises_along, order_of-push}

is_key-same : (key : Key) → is_key key key ≡ true
is_key-same key = rw (nat_eq_equiv.refl key.slot, nat_eq_equiv.refl key.serial) refl

module _ {W : Type 0} where
  -- a key that no other entry has finds the last entry
  lookup-last : (key : Key) (entries : List (Key × Option W)) (value : Option W) → NoneIs key (keys_of entries) → lookup (is_key key) (entries ++ (key, value) ∷ []) ≡ Some value
  lookup-last key [] value alone = rw (is_key-same key) refl
  lookup-last key (e ∷ es) value alone = rw alone.0 (lookup-last key es value alone.1)

  set_value-last : (key : Key) (entries : List (Key × Option W)) (value : Option W) (next : Option W) → NoneIs key (keys_of entries) → set_value (is_key key) (entries ++ (key, value) ∷ []) next ≡ entries ++ (key, next) ∷ []
  set_value-last key [] value next alone = rw (is_key-same key) refl
  set_value-last key (e ∷ es) value next alone =
      rw alone.0 (ap (λ rest. e ∷ rest) (set_value-last key es value next alone.1))

  -- each waiting listener has one task at most
  length-tasks : (n : ℕ) (waiting : List (Key × Option W)) → length (filter_map (λ entry. entry.1) (take n waiting)) ≤ n
  length-tasks zero waiting = omega arith
  length-tasks (suc n) [] = omega arith
  length-tasks (suc n) ((key, None) ∷ waiting) = omega (arith, length-tasks n waiting)
  length-tasks (suc n) ((key, Some task) ∷ waiting) = omega (arith, length-tasks n waiting)

module _ {T W : Type 0} where
  -- a newcomer that stores its task waits with it at the end
  pub joined : (old between new : Queue T W) (key : Key) (task : W) (reply : RegisterResult T) → Joins old key between → IsQueue between → Registers between key task reply new → (new.waiting ≡ old.waiting ++ (key, Some task) ∷ []) × (new.told ≡ old.told)
  joined old between new key task reply joins queue registers = by_reply reply registers
    where
      told_is : between.told ≡ old.told
      told_is = ap (λ (q : Queue T W). q.told) joins.queue

      waiting_is : between.waiting ≡ old.waiting ++ (key, None) ∷ []
      waiting_is = ap (λ (q : Queue T W). q.waiting) joins.queue

      order_is : order_of between ≡ order_of old ++ key ∷ []
      order_is = ap order_of joins.queue ∙ order_of-push old key None

      alone : NoneIs key (order_of old)
      alone =
          let last_entry : List (Key × Option W) = (key, None) ∷ [] in
          let found : lookup (is_key key) last_entry ≡ Some None = rw (is_key-same key) refl in
          none_before key (order_of old) last_entry None between.next_serial (subst (λ keys. Rises keys between.next_serial) order_is (rises_along between queue)) found

      untold : lookup (is_key key) between.told ≡ None
      untold = rw told_is (lookup-none_is key old.told (All-front _ (keys_of old.told) (keys_of old.waiting) alone))

      last : NoneIs key (keys_of old.waiting)
      last = All-back _ (keys_of old.told) (keys_of old.waiting) alone

      waits : lookup (is_key key) between.waiting ≡ Some None
      waits = rw waiting_is (lookup-last key old.waiting None last)

      by_reply : (reply : RegisterResult T) → Registers between key task reply new → (new.waiting ≡ old.waiting ++ (key, Some task) ∷ []) × (new.told ≡ old.told)
      by_reply (Notified tag) h = absurd (rw untold at h.0)
      by_reply Registered h = (
        ap (λ (q : Queue T W). q.waiting) h.1
            ∙ ap (λ entries. set_value (is_key key) entries (Some task)) waiting_is
            ∙ set_value-last key old.waiting None (Some task) last,
        ap (λ (q : Queue T W). q.told) h.1 ∙ told_is,
      )
      by_reply NeverInserted h = absurd (let gone : Some None ≡ None = sym waits ∙ h.0.unwaiting in cc)

  -- a told listener that is registered has left, and any other leaves the order as it was
  pub registered : (old new : Queue T W) (key : Key) (task : W) (reply : RegisterResult T) → IsQueue old → Registers old key task reply new → (IsSome (lookup (is_key key) old.told) → new ≡ told_leaves key old) × ((IsSome (lookup (is_key key) old.told) → ⊥) → order_of new ≡ order_of old)
  registered old new key task (Notified tag) queue h = (λ _. h.1, λ untold. absurd (untold (IsSome-and (lookup (is_key key) old.told) h.0)))
    where
      IsSome-and : (found : Option (Notice T)) → IsSomeAnd found (λ notice. notice.tag ≡ tag) → IsSome found
      IsSome-and None h = absurd h
      IsSome-and (Some notice) h = refl
  registered old new key task Registered queue h = (
    λ told. absurd (by_notice (lookup (is_key key) old.told) refl told),
    λ _. ap order_of h.1 ∙ ap (λ keys. keys_of old.told ++ keys) (keys-set_value (is_key key) old.waiting (Some task)),
  )
    where
      by_notice : (found : Option (Notice T)) → lookup (is_key key) old.told ≡ found → IsSome found → ⊥
      by_notice None is told = let no : false ≡ true = told in cc
      by_notice (Some notice) is told =
          let alone = none_after key old.told notice (keys_of old.waiting) old.next_serial (rises_along old queue) is in
          let unwaiting : lookup (is_key key) old.waiting ≡ None = lookup-none_is key old.waiting alone in
          let no : false ≡ true = rw unwaiting at h.0 in
          cc
  registered old new key task NeverInserted queue h =
      (λ told. absurd (let no : false ≡ true = rw h.0.untold at told in cc), λ _. ap order_of h.1)

  pub length-tasks_of : (n : ℕ) (q : Queue T W) → length (tasks_of n q) ≤ n
  length-tasks_of n q = length-tasks n q.waiting

  -- room for as many as are told keeps all their tasks
  pub admitted : (n room told : ℕ) (q : Queue T W) → told ≡ min n (length q.waiting) → told ≤ room → (first_of room (tasks_of told q)).tasks ≡ tasks_of n q
  admitted n room told q as_many within =
      take_all room (tasks_of told q) (omega (arith, length-tasks_of told q))
      ∙ ap (λ k. tasks_of k q) as_many
      ∙ ap (filter_map (λ entry. entry.1)) (take_min n q.waiting)

  -- an answer with the tasks of the first n has n at most
  pub at_most : {E : Type 0} (answer : Result (Kept W) E) (n : ℕ) (q : Queue T W) → IfOk answer (λ kept. kept.tasks ≡ tasks_of n q) → IfOk answer (λ kept. length kept.tasks ≤ n)
  at_most (Ok kept) n q numbers = rw numbers (length-tasks_of n q)
  at_most (Err error) n q numbers = tt
