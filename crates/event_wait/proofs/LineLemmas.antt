-- What becomes of a queue once one has left it, was told, or waits in it.
use Rattle.std.proofs.Common.{◌≡◌, ℕ, Bool, true, false, List, [], ◌∷◌, ◌++◌, map, refl, sym, ap, ◌∙◌, subst, Option, Some, None, OnSome, Result, Ok, Err, IfOk, IfErr, OnErr}
use Rattle.std.specs.List.{FoldsTo, list_any}
use Rattle.std.specs.Map.{keys_of, lookup, remove_entry}
use Rattle.event_queue.specs.declared.key.Key.{Key}
use Rattle.event_queue.specs.declared.reply.ListenError.{ListenError}
use Rattle.event_queue.specs.declared.reply.State.{State}
use Rattle.event_queue.specs.declared.reply.State.TheVariants.{Created, Notified, Task, Passed, Lost}
use Rattle.event_queue.specs.declared.reply.RegisterResult.{RegisterResult}
use Rattle.event_queue.specs.declared.reply.RegisterResult.TheVariants as register
use Rattle.event_queue.specs.Exchange.{Exchanges, RegistersWith}
use Rattle.event_queue.specs.Register.{OnNotified}
use Rattle.event_queue.specs.Insert.{Inserts}
use Rattle.event_queue.specs.Key.{is_key, without}
use Rattle.event_queue.specs.Queue.{Queue, IsQueue, IsAbsent, IsGone, order_of, told_leaves, waiting_leaves}
use Rattle.event_queue.specs.Remove.{Removes}
use Rattle.event_queue.proofs.OrderLemmas.{NoneIs, none_is-without, Rises, lookup-none_is, none_before, without-none}
use Rattle.event_queue.proofs.QueueLemmas.{rises_along, IsAbsent-none}
use Rattle.event_wait.specs.Line.{HasLeft, IsNotInUnlessWaits, WaitsBy, CannotWait}

-- a sink within another one that keeps its place is handed, in order, what that hands on
pub woken_within : {P S A B : Type 0} (name : P → ℕ) (sink : P → S) (task : A → B) (woke : S → B → S → Type 0) (before : P) (waiters : List A) (after : P)
    → FoldsTo (λ p waiter q. (name q ≡ name p) × woke (sink p) (task waiter) (sink q)) before waiters after
    → (name after ≡ name before) × FoldsTo woke (sink before) (map task waiters) (sink after)
woken_within name sink task woke before [] after same = (ap name (sym same), ap sink same)
woken_within name sink task woke before (waiter ∷ waiters) after (between, first, rest) =
    let later = woken_within name sink task woke between waiters after rest in
    (later.0 ∙ first.0, (sink between, first.1, later.1))

module _ {X : Type 0} where
  -- an absent key is not there to be removed
  remove_entry-absent : (key : Key) (entries : List (Key × X)) → lookup (is_key key) entries ≡ None → remove_entry (is_key key) entries ≡ entries
  remove_entry-absent key [] absent = refl
  remove_entry-absent key (e ∷ es) absent = by_test (is_key key e.0) refl (remove_entry-absent key es)
    where
      by_test : (b : Bool) → is_key key e.0 ≡ b → (lookup (is_key key) es ≡ None → remove_entry (is_key key) es ≡ es) → remove_entry (is_key key) (e ∷ es) ≡ e ∷ es
      by_test true here rest = absurd (let gone : Some e.1 ≡ None = rw here at absent in cc)
      by_test false apart rest = rw apart (ap (λ l. e ∷ l) (rest (rw apart at absent)))

module _ {T W : Type 0} where
  -- one leaves

  told_left : (old new : Queue T W) (key : Key) → new ≡ told_leaves key old → IsGone key new → order_of new ≡ without key (order_of old) → HasLeft key old new
  told_left old new key is gone order = record {
    told = ap (λ (q : Queue T W). q.told) is;
    waiting = ap (λ (q : Queue T W). q.waiting) is ∙ sym (remove_entry-absent key old.waiting (ap (λ (q : Queue T W). lookup (is_key key) q.waiting) (sym is) ∙ gone.absent.unwaiting));
    order = order;
    serial = ap (λ (q : Queue T W). q.next_serial) is;
  }

  waiting_left : (old new : Queue T W) (key : Key) → new ≡ waiting_leaves key old → IsGone key new → order_of new ≡ without key (order_of old) → HasLeft key old new
  waiting_left old new key is gone order = record {
    told = ap (λ (q : Queue T W). q.told) is ∙ sym (remove_entry-absent key old.told (ap (λ (q : Queue T W). lookup (is_key key) q.told) (sym is) ∙ gone.absent.untold));
    waiting = ap (λ (q : Queue T W). q.waiting) is;
    order = order;
    serial = ap (λ (q : Queue T W). q.next_serial) is;
  }

  pub absent_left : (old new : Queue T W) (key : Key) → new ≡ old → IsAbsent key old → HasLeft key old new
  absent_left old new key is absent = record {
    told = ap (λ (q : Queue T W). q.told) is ∙ sym (remove_entry-absent key old.told absent.untold);
    waiting = ap (λ (q : Queue T W). q.waiting) is ∙ sym (remove_entry-absent key old.waiting absent.unwaiting);
    order = ap order_of is ∙ sym (without-none key (order_of old) (IsAbsent-none key old absent));
    serial = ap (λ (q : Queue T W). q.next_serial) is;
  }

  pub has_left : (old new : Queue T W) (key : Key) (reply : Option (State T W)) → Removes old key false reply new → OnSome reply (IsGone key new) → order_of new ≡ without key (order_of old)
      → HasLeft key old new
  has_left old new key None h gone order = absent_left old new key h.1 h.0
  has_left old new key (Some Created) h gone order = waiting_left old new key h.1 gone order
  has_left old new key (Some (Task task)) h gone order = waiting_left old new key h.1 gone order
  has_left old new key (Some (Notified additional tag)) h gone order = told_left old new key h.2 gone order
  has_left old new key (Some (Passed to)) h gone order = absurd (let no : false ≡ true = h.0 in cc)
  has_left old new key (Some (Lost additional tag)) h gone order = absurd (let no : false ≡ true = h.0 in cc)

  module _ {C : Type 0} (exchanged : C → Option W → W → C → Type 0) where
    -- one that has a key

    pub stays : (old new : Queue T W) (key : Key) (before after : C) → IsQueue new → order_of new ≡ order_of old → Exchanges exchanged old key before new after → WaitsBy exchanged (Some key) old before key new after
    stays old new key before after queue order h =
        let rises : Rises (order_of old) new.next_serial = subst (λ keys. Rises keys new.next_serial) order (rises_along new queue) in
        let untold = lookup-none_is key old.told (none_before key (keys_of old.told) old.waiting h.handed_out new.next_serial rises h.found) in
        record {
          task = h.task;
          made = rw h.found h.made;
          same = λ _. refl;
          told = ap (λ (q : Queue T W). q.told) h.stored ∙ sym (remove_entry-absent key old.told untold);
          waiting = ap (λ (q : Queue T W). q.waiting) h.stored ∙ (rw h.found refl);
        }

    pub goes_last : (old mid new : Queue T W) (key : Key) (result : Result Key ListenError) (before after : C) → HasLeft key old mid → lookup (is_key key) old.waiting ≡ None
        → IfOk result (λ waits. WaitsBy exchanged None mid before waits new after) → IfOk result (λ waits. WaitsBy exchanged (Some key) old before waits new after)
    goes_last old mid new key (Err error) before after left untold h = tt
    goes_last old mid new key (Ok waits) before after left untold h =
        let same = remove_entry-absent key old.waiting untold in
        record {
          task = h.task;
          made = rw untold h.made;
          same = λ is. absurd (let no : false ≡ true = rw untold at is in cc);
          told = h.told ∙ left.told;
          waiting = h.waiting ∙ ap (λ es. es ++ (waits, Some h.task) ∷ []) (left.waiting ∙ same) ∙ (rw untold refl);
        }

  pub told_has_left : (old mid : Queue T W) (key : Key) → mid ≡ told_leaves key old → IsGone key mid → order_of mid ≡ without key (order_of old) → HasLeft key old mid × (lookup (is_key key) old.waiting ≡ None)
  told_has_left old mid key is gone order =
      (told_left old mid key is gone order, ap (λ (q : Queue T W). lookup (is_key key) q.waiting) (sym is) ∙ gone.absent.unwaiting)

  pub cannot_wait : (old mid new : Queue T W) (key : Key) (result : Result Key ListenError) → HasLeft key old mid → lookup (is_key key) old.waiting ≡ None → OnErr result (new ≡ mid)
      → IfErr result (λ error. Inserts mid (Err error) new) → IfErr result (λ error. CannotWait (Some key) error old new)
  cannot_wait old mid new key (Ok waits) left untold is h = tt
  cannot_wait old mid new key (Err error) left untold is h = record {
    untold = rw untold refl;
    leaves = subst (λ (q : Queue T W). HasLeft key old q) (sym is) left;
    reason = subst (λ (q : Queue T W). Inserts q (Err error) new) (sym is) h;
  }

not_among : (key : Key) (keys : List Key) → NoneIs key keys → list_any (is_key key) keys ≡ false
not_among key [] h = refl
not_among key (k ∷ keys) h = rw h.0 (not_among key keys h.1)

-- one that left is not among those that stay
pub left-not_among : (key : Key) (old new : List Key) → new ≡ without key old → list_any (is_key key) new ≡ false
left-not_among key old new is = rw is (not_among key (without key old) (none_is-without key old))

pub not_in-looked : {T W C : Type 0} (exchanged : C → Option W → W → C → Type 0) (old new : Queue T W) (key : Key) (before after : C) (result : RegisterResult T)
    → RegistersWith exchanged old key before result new after → OnNotified result (order_of new ≡ without key (order_of old)) → IsNotInUnlessWaits result key new
not_in-looked exchanged old new key before after (register.Notified tag) step order = left-not_among key (order_of old) (order_of new) order
not_in-looked exchanged old new key before after register.Registered step order = tt
not_in-looked exchanged old new key before after register.NeverInserted step order =
    rw step.1 (not_among key (order_of old) (IsAbsent-none key old step.0))
