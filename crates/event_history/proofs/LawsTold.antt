-- Whoever is in the queue listened, and whoever is notified was notified by a call while it waited.
use Rattle.std.proofs.Common.{◌≡◌, ◌⊎◌, ℕ, zero, suc, Bool, true, false, cond, ◌+◌, List, [], ◌∷◌, ◌++◌, length, drop, take, refl, sym, ap, ◌∙◌, subst, inl, inr, ⊎_elim, true≢false, append-nil, append_assoc, Option, Some, None, IsSome, is_some, IsSomeAnd, Ok, Err}
use Rattle.std.proofs.lemmas.Map.{keys-set_value}
use Rattle.std.proofs.lemmas.Map.Made.{IsSome-lookup_same_keys}
use Rattle.std.specs.Map.{keys_of, lookup, remove_entry, set_value}
use Rattle.event_queue.specs.declared.key.Key.{Key}
use Rattle.event_queue.specs.declared.notice.Notice.{Notice}
use Rattle.event_queue.specs.declared.reply.ListenError.TheVariants.{Memory, SerialsUsedUp}
use Rattle.event_queue.specs.declared.reply.State.{State}
use Rattle.event_queue.specs.declared.reply.State.TheVariants as was
use Rattle.event_queue.specs.declared.reply.RegisterResult.TheVariants as register
use Rattle.event_queue.specs.Key.{is_key}
use Rattle.event_queue.specs.Queue.{Queue, IsAbsent, IsGone, told_with, after_telling, told_leaves, waiting_leaves, how_many}
use Rattle.event_queue.specs.Remove.{Removes, PassesTo}
use Rattle.event_queue.proofs.ChainLookups.{same_key}
use Rattle.event_queue.proofs.LawLemmas.{took_tag-gone, Removes-gone}
use Rattle.event_history.specs.declared.history.Entry.{Entry}
use Rattle.event_history.specs.declared.queue_call.QueueCall.{QueueCall}
use Rattle.event_history.specs.declared.queue_call.QueueCall.TheVariants as call
use Rattle.event_history.specs.History.{entry, Runs, LeadsTo}
use Rattle.event_history.specs.Queue.{calls, queue_machine, Does, is_empty}
use Rattle.event_history.specs.Laws.{QueueLog, Waits, IsIn, Stays, EachStays, Listens, MayTell, WasTold}
use Rattle.event_history.proofs.LawsStays.{Has, found_value, to, not_absent}
use Rattle.event_history.proofs.LawsOrder.{IsSound, run_split, nobody_told, nobody_waits}

module _ {X : Type 0} where
  -- whoever is found in a part of a list is found in the list
  has_cons : (b : Bool) (x : X) (o : Option X) → IsSome o → IsSome (cond b (Some x) o)
  has_cons true x o h = refl
  has_cons false x o h = h

  has_either : (b : Bool) (x : X) (o : Option X) (P : Type 0) → (IsSome o → P) → IsSome (cond b (Some x) o) → (b ≡ true) ⊎ P
  has_either true x o P f h = inl refl
  has_either false x o P f h = inr (f h)

  has_drop : (key : Key) (n : ℕ) (es : List (Key × X)) → Has key (drop n es) → Has key es
  has_drop key zero es h = h
  has_drop key (suc n) [] h = h
  has_drop key (suc n) (e ∷ es) h = has_cons (is_key key e.0) e.1 (lookup (is_key key) es) (has_drop key n es h)

  has_removed : (key other : Key) (es : List (Key × X)) → Has key (remove_entry (is_key other) es) → Has key es
  has_removed key other [] h = h
  has_removed key other (e ∷ es) h = by_test (is_key other e.0) h (has_removed key other es) where
    by_first : (b : Bool) → IsSome (cond b (Some e.1) (lookup (is_key key) (remove_entry (is_key other) es))) → (Has key (remove_entry (is_key other) es) → Has key es) → IsSome (cond b (Some e.1) (lookup (is_key key) es))
    by_first true k rest = refl
    by_first false k rest = rest k

    by_test : (b : Bool) → Has key (cond b es (e ∷ remove_entry (is_key other) es)) → (Has key (remove_entry (is_key other) es) → Has key es) → Has key (e ∷ es)
    by_test true k rest = has_cons (is_key key e.0) e.1 (lookup (is_key key) es) k
    by_test false k rest = by_first (is_key key e.0) k rest

  has_append : (key : Key) (es fs : List (Key × X)) → Has key (es ++ fs) → Has key es ⊎ Has key fs
  has_append key [] fs h = inr h
  has_append key (e ∷ es) fs h = by_test (is_key key e.0) h (has_append key es fs) where
    by_test : (b : Bool) → IsSome (cond b (Some e.1) (lookup (is_key key) (es ++ fs))) → (Has key (es ++ fs) → Has key es ⊎ Has key fs) → IsSome (cond b (Some e.1) (lookup (is_key key) es)) ⊎ Has key fs
    by_test true k rest = inl refl
    by_test false k rest = rest k

  found_in : (key : Key) (es fs : List (Key × X)) (x : X) → lookup (is_key key) (es ++ fs) ≡ Some x → (lookup (is_key key) es ≡ Some x) ⊎ Has key fs
  found_in key [] fs x found = inr (ap is_some found)
  found_in key (e ∷ es) fs x found = by_test (is_key key e.0) found (found_in key es fs x) where
    by_test : (b : Bool) → cond b (Some e.1) (lookup (is_key key) (es ++ fs)) ≡ Some x → (lookup (is_key key) (es ++ fs) ≡ Some x → (lookup (is_key key) es ≡ Some x) ⊎ Has key fs)
        → (cond b (Some e.1) (lookup (is_key key) es) ≡ Some x) ⊎ Has key fs
    by_test true k rest = inl k
    by_test false k rest = rest k

  -- another one is taken out
  found_else : (key other : Key) (es : List (Key × X)) → is_key key other ≡ false → lookup (is_key key) (remove_entry (is_key other) es) ≡ lookup (is_key key) es
  found_else key other [] apart = refl
  found_else key other (e ∷ es) apart = by_test (is_key other e.0) refl (found_else key other es apart) where
    by_test : (b : Bool) → is_key other e.0 ≡ b → lookup (is_key key) (remove_entry (is_key other) es) ≡ lookup (is_key key) es
        → lookup (is_key key) (cond b es (e ∷ remove_entry (is_key other) es)) ≡ lookup (is_key key) (e ∷ es)
    by_test true here rest =
        let differs : is_key key e.0 ≡ false = ap (is_key key) (same_key other e.0 here) ∙ apart in
        sym (ap (λ (b : Bool). cond b (Some e.1) (lookup (is_key key) es)) differs)
    by_test false else rest = ap (λ (o : Option X). cond (is_key key e.0) (Some e.1) o) rest

  -- a newcomer at the end
  has_last : (key k : Key) (x : X) → Has key ((k, x) ∷ []) → k ≡ key
  has_last key k x h = by_test (is_key key k) refl h where
    by_test : (b : Bool) → is_key key k ≡ b → IsSome (cond b (Some x) None) → k ≡ key
    by_test true here g = same_key key k here
    by_test false apart g = absurd (true≢false (sym g))

module _ {T W : Type 0} where
  -- whoever is told with these tags waited
  has_told : (key : Key) (additional : Bool) (tags : List T) (waiting : List (Key × Option W)) → Has key (told_with additional tags waiting) → Has key waiting
  has_told key additional [] waiting h = absurd (true≢false (sym h))
  has_told key additional (tag ∷ tags) [] h = h
  has_told key additional (tag ∷ tags) (first ∷ rest) h = by_test (is_key key first.0) h (has_told key additional tags rest) where
    by_test : (b : Bool) → IsSome (cond b (Some (record { additional = additional; tag = tag })) (lookup (is_key key) (told_with additional tags rest))) → (Has key (told_with additional tags rest) → Has key rest)
        → IsSome (cond b (Some first.1) (lookup (is_key key) rest))
    by_test true k on = refl
    by_test false k on = on k

  from_telling : (key : Key) (additional : Bool) (tags : List T) (q : Queue T W) → IsIn key (after_telling additional tags q) → IsIn key q
  from_telling key additional tags q (inl w) = inl (has_drop key (length tags) q.waiting w)
  from_telling key additional tags q (inr t) = ⊎_elim (λ h. inr h) (λ h. inl (has_told key additional tags q.waiting h)) (has_append key q.told _ t)

  from_told_leaves : (key other : Key) (q : Queue T W) → IsIn key (told_leaves other q) → IsIn key q
  from_told_leaves key other q (inl w) = inl w
  from_told_leaves key other q (inr t) = inr (has_removed key other q.told t)

  from_waiting_leaves : (key other : Key) (q : Queue T W) → IsIn key (waiting_leaves other q) → IsIn key q
  from_waiting_leaves key other q (inl w) = inl (has_removed key other q.waiting w)
  from_waiting_leaves key other q (inr t) = inr t

  -- whoever is in the queue is another one than the one that is gone
  another : (key other : Key) (q : Queue T W) → IsIn key q → IsGone other q → is_key key other ≡ false
  another key other q h gone = by_test (is_key key other) refl where
    by_test : (b : Bool) → is_key key other ≡ b → b ≡ false
    by_test true here = absurd (not_absent key q h (subst (λ (k : Key). IsAbsent k q) (same_key key other here) gone.absent))
    by_test false apart = refl

  -- whoever takes its tag or is removed was there, so it was no state in which nobody is
  was_in : (old : Queue T W) (key : Key) (propagate : Bool) (state : State T W) (new : Queue T W) → Removes old key propagate (Some state) new → IsIn key old
  was_in old key propagate was.Created new s = inl (ap is_some s.0)
  was_in old key propagate (was.Task task) new s = inl (ap is_some s.0)
  was_in old key propagate (was.Notified additional tag) new s = inr (ap is_some s.1)
  was_in old key propagate (was.Passed other) new s = let f = found_value (lookup (is_key key) old.told) (λ n. PassesTo (other ∷ []) n (told_leaves key old) new) s.1 in inr (ap is_some f.1)
  was_in old key propagate (was.Lost additional tag) new s = inr (ap is_some s.1)

  pub removed_gone : (old : Queue T W) (key : Key) (propagate : Bool) (state : State T W) (new : Queue T W) → IsSound old → Removes old key propagate (Some state) new → IsGone key new
  removed_gone old key propagate state new (inl queue) s = Removes-gone old key propagate (Some state) new queue s
  removed_gone old key propagate state new (inr empty) s = absurd (⊎_elim (λ w. nobody_waits key old empty w) (λ t. nobody_told key old empty t) (was_in old key propagate state new s))

  taken_gone : (key : Key) (old : Queue T W) (tag : T) → IsSound old → IsSomeAnd (lookup (is_key key) old.told) (λ notice. notice.tag ≡ tag) → IsGone key (told_leaves key old)
  taken_gone key old tag (inl queue) told = took_tag-gone key old tag queue told
  taken_gone key old tag (inr empty) told = let f = found_value (lookup (is_key key) old.told) (λ notice. notice.tag ≡ tag) told in absurd (nobody_told key old empty (ap is_some f.1))

  -- the newcomer, or one that was there and stays
  abbrev CameFrom : Key → Queue T W → QueueCall T W → Type 0
  CameFrom key old c = (IsIn key old × Stays key c) ⊎ (c ≡ call.Insert (Ok key))

  came_from : (key : Key) (old new : Queue T W) (c : QueueCall T W) → IsSound old → Does old c new → IsIn key new → CameFrom key old c
  came_from key old new (call.Insert (Ok k)) queue s h = by_place (to key new _ (sym s.queue) h) where
    by_place : IsIn key (record old { waiting = old.waiting ++ (k, None) ∷ []; next_serial = old.next_serial + 1; spare = new.spare }) → CameFrom key old (call.Insert (Ok k))
    by_place (inl w) = ⊎_elim (λ h. inl (inl h, tt)) (λ h. inr (ap (λ (x : Key). call.Insert (Ok x)) (has_last key k None h))) (has_append key old.waiting _ w)
    by_place (inr t) = inl (inr t, tt)
  came_from key old new (call.Insert (Err Memory)) queue s h = inl (to key new old (sym s.2) h, tt)
  came_from key old new (call.Insert (Err SerialsUsedUp)) queue s h = inl (to key new old (sym s.1) h, tt)
  came_from key old new (call.Register k (register.Notified tag)) queue s h =
      let is : new ≡ told_leaves k old = s.1 in
      let here = to key new (told_leaves k old) (sym is) h in
      inl (from_told_leaves key k old here, another key k (told_leaves k old) here (taken_gone k old tag queue s.0))
  came_from key old new (call.Register k register.Registered) queue s h =
      inl (⊎_elim (λ w. inl ((IsSome-lookup_same_keys (is_key key) (set_value (is_key k) old.waiting (Some s.0)) old.waiting (keys-set_value (is_key k) old.waiting (Some s.0))).0 w)) (λ t. inr t) (to key new _ (sym s.1.1) h), tt)
  came_from key old new (call.Register k register.NeverInserted) queue s h = inl (to key new old (sym s.1) h, tt)
  came_from key old new (call.Remove k propagate None) queue s h = inl (to key new old (sym s.1) h, tt)
  came_from key old new (call.Remove k propagate (Some was.Created)) queue s h =
      inl (from_waiting_leaves key k old (to key new _ (sym s.1) h), another key k new h (removed_gone old k propagate was.Created new queue s))
  came_from key old new (call.Remove k propagate (Some (was.Task task))) queue s h =
      inl (from_waiting_leaves key k old (to key new _ (sym s.1) h), another key k new h (removed_gone old k propagate (was.Task task) new queue s))
  came_from key old new (call.Remove k propagate (Some (was.Notified additional tag))) queue s h =
      inl (from_told_leaves key k old (to key new _ (sym s.2) h), another key k new h (removed_gone old k propagate (was.Notified additional tag) new queue s))
  came_from key old new (call.Remove k propagate (Some (was.Passed other))) queue s h =
      let f = found_value (lookup (is_key k) old.told) (λ notice. PassesTo (other ∷ []) notice (told_leaves k old) new) s.1 in
      let passes : PassesTo (other ∷ []) f.0 (told_leaves k old) new = f.2 in
      inl (from_told_leaves key k old (from_telling key _ _ (told_leaves k old) (to key new _ (sym passes.queue) h)), another key k new h (removed_gone old k propagate (was.Passed other) new queue s))
  came_from key old new (call.Remove k propagate (Some (was.Lost additional tag))) queue s h =
      let passes : PassesTo [] (record { additional = additional; tag = tag }) (told_leaves k old) new = s.2 in
      inl (from_told_leaves key k old (from_telling key _ _ (told_leaves k old) (to key new _ (sym passes.queue) h)), another key k new h (removed_gone old k propagate (was.Lost additional tag) new queue s))
  came_from key old new (call.Notify count additional (Ok told)) queue s h = let some = s.1 in inl (from_telling key additional some.0 old (to key new _ (sym some.2) h), tt)
  came_from key old new (call.Notify count additional (Err error)) queue s h = let some = s.1 in inl (from_telling key additional some.0 old (to key new _ (sym some.2) h), tt)
  came_from key old new (call.Counts told total) queue s h = inl (to key new old (sym s.2) h, tt)

  -- the notice was there, or the call gave it to one that waited
  abbrev GotFrom : Key → Notice T → Queue T W → QueueCall T W → Type 0
  GotFrom key notice old c = (lookup (is_key key) old.told ≡ Some notice) ⊎ (Waits key old × MayTell key c)

  told_in : (key : Key) (notice : Notice T) (q r : Queue T W) → r ≡ q → lookup (is_key key) r.told ≡ Some notice → lookup (is_key key) q.told ≡ Some notice
  told_in key notice q r is told = subst (λ (x : Queue T W). lookup (is_key key) x.told ≡ Some notice) is told

  is_told : (key : Key) (notice : Notice T) (q : Queue T W) → lookup (is_key key) q.told ≡ Some notice → IsIn key q
  is_told key notice q told = inr (ap is_some told)

  by_telling : (key : Key) (notice : Notice T) (additional : Bool) (tags : List T) (q : Queue T W) → lookup (is_key key) (after_telling additional tags q).told ≡ Some notice
      → (lookup (is_key key) q.told ≡ Some notice) ⊎ Has key (told_with additional tags q.waiting)
  by_telling key notice additional tags q told = found_in key q.told (told_with additional tags q.waiting) notice told

  -- one was told, and this is it
  the_one : (key to : Key) (additional : Bool) (tag : T) (n : ℕ) (waiting : List (Key × Option W)) → keys_of (take n waiting) ≡ to ∷ [] → Has key (told_with additional (take n (tag ∷ [])) waiting) → to ≡ key
  the_one key to additional tag zero waiting taken h = absurd (true≢false (sym h))
  the_one key to additional tag (suc n) [] taken h = absurd (true≢false (sym h))
  the_one key to additional tag (suc n) (first ∷ rest) taken h = let is : first.0 ≡ to = cc in sym is ∙ only n h where
    only : (m : ℕ) → Has key (told_with additional (tag ∷ take m []) (first ∷ rest)) → first.0 ≡ key
    only zero g = has_last key first.0 (record { additional = additional; tag = tag }) g
    only (suc m) g = has_last key first.0 (record { additional = additional; tag = tag }) g

  nobody : (key : Key) (additional : Bool) (tag : T) (n : ℕ) (waiting : List (Key × Option W)) → keys_of (take n waiting) ≡ [] → Has key (told_with additional (take n (tag ∷ [])) waiting) → ⊥
  nobody key additional tag zero waiting taken h = true≢false (sym h)
  nobody key additional tag (suc n) [] taken h = true≢false (sym h)
  nobody key additional tag (suc n) (first ∷ rest) taken h = absurd (cc)

  got_from : (key : Key) (notice : Notice T) (old new : Queue T W) (c : QueueCall T W) → IsSound old → Does old c new → lookup (is_key key) new.told ≡ Some notice → GotFrom key notice old c
  got_from key notice old new (call.Insert (Ok k)) queue s told = inl (told_in key notice _ new s.queue told)
  got_from key notice old new (call.Insert (Err Memory)) queue s told = inl (told_in key notice old new s.2 told)
  got_from key notice old new (call.Insert (Err SerialsUsedUp)) queue s told = inl (told_in key notice old new s.1 told)
  got_from key notice old new (call.Register k (register.Notified tag)) queue s told =
      let is : new ≡ told_leaves k old = s.1 in
      let here = told_in key notice (told_leaves k old) new is told in
      let apart = another key k (told_leaves k old) (is_told key notice (told_leaves k old) here) (taken_gone k old tag queue s.0) in
      inl (sym (found_else key k old.told apart) ∙ here)
  got_from key notice old new (call.Register k register.Registered) queue s told = inl (told_in key notice _ new s.1.1 told)
  got_from key notice old new (call.Register k register.NeverInserted) queue s told = inl (told_in key notice old new s.1 told)
  got_from key notice old new (call.Remove k propagate None) queue s told = inl (told_in key notice old new s.1 told)
  got_from key notice old new (call.Remove k propagate (Some was.Created)) queue s told = inl (told_in key notice _ new s.1 told)
  got_from key notice old new (call.Remove k propagate (Some (was.Task task))) queue s told = inl (told_in key notice _ new s.1 told)
  got_from key notice old new (call.Remove k propagate (Some (was.Notified additional tag))) queue s told =
      let apart = another key k new (is_told key notice new told) (removed_gone old k propagate (was.Notified additional tag) new queue s) in
      inl (sym (found_else key k old.told apart) ∙ told_in key notice (told_leaves k old) new s.2 told)
  got_from key notice old new (call.Remove k propagate (Some (was.Passed other))) queue s told =
      let f = found_value (lookup (is_key k) old.told) (λ n. PassesTo (other ∷ []) n (told_leaves k old) new) s.1 in
      let passes : PassesTo (other ∷ []) f.0 (told_leaves k old) new = f.2 in
      let left = told_leaves k old in
      let apart = another key k new (is_told key notice new told) (removed_gone old k propagate (was.Passed other) new queue s) in
      let n : ℕ = how_many 1 f.0.additional left in
      ⊎_elim (λ e. inl (sym (found_else key k old.told apart) ∙ e)) (λ h. inr (has_told key f.0.additional (take n (f.0.tag ∷ [])) old.waiting h, (s.0, the_one key other f.0.additional f.0.tag n old.waiting passes.told h)))
      (by_telling key notice f.0.additional (take n (f.0.tag ∷ [])) left (told_in key notice _ new passes.queue told))
  got_from key notice old new (call.Remove k propagate (Some (was.Lost additional tag))) queue s told =
      let passes : PassesTo [] (record { additional = additional; tag = tag }) (told_leaves k old) new = s.2 in
      let left = told_leaves k old in
      let apart = another key k new (is_told key notice new told) (removed_gone old k propagate (was.Lost additional tag) new queue s) in
      let n : ℕ = how_many 1 additional left in
      ⊎_elim (λ e. inl (sym (found_else key k old.told apart) ∙ e)) (λ h. absurd (nobody key additional tag n old.waiting passes.told h))
      (by_telling key notice additional (take n (tag ∷ [])) left (told_in key notice _ new passes.queue told))
  got_from key notice old new (call.Notify count additional (Ok told)) queue s is =
      let some = s.1 in ⊎_elim (λ e. inl e) (λ h. inr (has_told key additional some.0 old.waiting h, tt)) (by_telling key notice additional some.0 old (told_in key notice _ new some.2 is))
  got_from key notice old new (call.Notify count additional (Err error)) queue s is =
      let some = s.1 in ⊎_elim (λ e. inl e) (λ h. inr (has_told key additional some.0 old.waiting h, tt)) (by_telling key notice additional some.0 old (told_in key notice _ new some.2 is))
  got_from key notice old new (call.Counts told total) queue s is = inl (told_in key notice old new s.2 is)

  each_more : (key : Key) (log : QueueLog T W) (e : Entry (QueueCall T W)) → EachStays key log → Stays key e.call → EachStays key (log ++ e ∷ [])
  each_more key [] e each stays = (stays, tt)
  each_more key (x ∷ xs) e each stays = (each.0, each_more key xs e each.1 stays)

  pub run_more : (log : QueueLog T W) (e : Entry (QueueCall T W)) (s m t : Queue T W) → Runs calls s log m → calls m e.call t → Runs calls s (log ++ e ∷ []) t
  run_more [] e s m t run step = (t, subst (λ (x : Queue T W). calls x e.call t) (sym run) step, refl)
  run_more (x ∷ xs) e s m t run step = (run.0, run.1, run_more xs e run.0 m t run.2 step)

  -- all that are in the queue listened
  abbrev AllListened : QueueLog T W → Queue T W → Type 0
  AllListened log q = (key : Key) → IsIn key q → Listens key log

  listened_more : (log : QueueLog T W) (e : Entry (QueueCall T W)) (q r : Queue T W) → IsSound q → calls q e.call r → AllListened log q → AllListened (log ++ e ∷ []) r
  listened_more log e q r queue step all key h = by_case (came_from key q r e.call queue step.0 h) where
    stayed : Listens key log → Stays key e.call → Listens key (log ++ e ∷ [])
    stayed l stays = record {
      earlier = l.earlier;
      by = l.by;
      later = l.later ++ e ∷ [];
      inserted = ap (λ (es : QueueLog T W). es ++ e ∷ []) l.inserted ∙ append_assoc l.earlier (entry l.by (call.Insert (Ok key)) ∷ l.later) (e ∷ []);
      stays = each_more key l.later e l.stays stays;
    }

    by_case : CameFrom key q e.call → Listens key (log ++ e ∷ [])
    by_case (inl c) = stayed (all key c.0) c.1
    by_case (inr c) = record { earlier = log; by = e.by; later = []; inserted = ap (λ (x : QueueCall T W). log ++ entry e.by x ∷ []) c; stays = tt }

  -- the same of a whole history, one call after another
  listened_along : (log rest : QueueLog T W) (q r : Queue T W) → IsSound q → AllListened log q → Runs calls q rest r → AllListened (log ++ rest) r
  listened_along log [] q r queue all run key h = subst (λ (es : QueueLog T W). Listens key es) (sym (append-nil log)) (all key (to key r q run h))
  listened_along log (e ∷ es) q r queue all run key h =
      subst (λ (l : QueueLog T W). Listens key l) (append_assoc log (e ∷ []) es) (listened_along (log ++ e ∷ []) es run.0 r (inl run.1.1) (listened_more log e q run.0 queue run.1 all) run.2 key h)

  nobody_in : (q : Queue T W) → is_empty q → AllListened [] q
  nobody_in q empty key (inl w) = absurd (nobody_waits key q empty w)
  nobody_in q empty key (inr t) = absurd (nobody_told key q empty t)

  pub all_listened : (key : Key) (log : QueueLog T W) (q : Queue T W) → LeadsTo queue_machine log q → IsIn key q → Listens key log
  all_listened key log q leads h = listened_along [] log leads.0 q (inr leads.1) (nobody_in leads.0 leads.1) leads.2 key h

  -- whoever is told at the end was told at the start of the rest, or a call of the rest told it
  told_along : (key : Key) (notice : Notice T) (log rest : QueueLog T W) (q r : Queue T W) → IsSound q → AllListened log q → LeadsTo queue_machine log q → Runs calls q rest r → lookup (is_key key) r.told ≡ Some notice
      → (lookup (is_key key) q.told ≡ Some notice) ⊎ WasTold key notice (log ++ rest) r
  told_along key notice log [] q r queue all leads run told = inl (told_in key notice q r (sym run) told)
  told_along key notice log (e ∷ es) q r queue all leads run told =
      ⊎_elim here (λ w. inr (subst (λ (l : QueueLog T W). WasTold key notice l r) (append_assoc log (e ∷ []) es) w))
      (told_along key notice (log ++ e ∷ []) es run.0 r (inl run.1.1) (listened_more log e q run.0 queue run.1 all) (leads.0, leads.1, run_more log e leads.0 q run.0 leads.2 run.1) run.2 told)
    where
      now : lookup (is_key key) run.0.told ≡ Some notice → Waits key q × MayTell key e.call → WasTold key notice (log ++ e ∷ es) r
      now there g = record {
        earlier = log;
        by = e.by;
        call = e.call;
        later = es;
        made = refl;
        tells = g.1;
        before = q;
        after = run.0;
        led = leads;
        step = run.1;
        leads_on = run.2;
        listened = all key (inl g.0);
        waited = g.0;
        told = there;
      }

      here : lookup (is_key key) run.0.told ≡ Some notice → (lookup (is_key key) q.told ≡ Some notice) ⊎ WasTold key notice (log ++ e ∷ es) r
      here there = ⊎_elim (λ e. inl e) (λ g. inr (now there g)) (got_from key notice q run.0 e.call queue run.1.0 there)

  pub was_told : (key : Key) (log : QueueLog T W) (q : Queue T W) (notice : Notice T) → LeadsTo queue_machine log q → lookup (is_key key) q.told ≡ Some notice → WasTold key notice log q
  was_told key log q notice leads told =
      ⊎_elim (λ e. absurd (nobody_told key leads.0 leads.1 (ap is_some e))) (λ w. w)
      (told_along key notice [] log leads.0 q (inr leads.1) (nobody_in leads.0 leads.1) (leads.0, leads.1, refl) leads.2 told)

  pub tag_taken : (key : Key) (log : QueueLog T W) (q next : Queue T W) (tag : T) → LeadsTo queue_machine log q → calls q (call.Register key (register.Notified tag)) next
      → (notice : Notice T) × (notice.tag ≡ tag) × WasTold key notice log q
  tag_taken key log q next tag leads step =
      let f = found_value (lookup (is_key key) q.told) (λ notice. notice.tag ≡ tag) step.0.0 in
      (f.0, f.2, was_told key log q f.0 leads f.1)

  pub tag_stood : (key : Key) (by : ℕ) (earlier later : QueueLog T W) (end : Queue T W) (tag : T) → LeadsTo queue_machine (earlier ++ entry by (call.Register key (register.Notified tag)) ∷ later) end
      → (q : Queue T W) × (notice : Notice T) × (notice.tag ≡ tag) × WasTold key notice earlier q
  tag_stood key by earlier later end tag leads =
      let split = run_split earlier (entry by (call.Register key (register.Notified tag)) ∷ later) leads.0 end leads.2 in
      let on : Runs calls split.0 (entry by (call.Register key (register.Notified tag)) ∷ later) end = split.2 in
      let t = tag_taken key earlier split.0 on.0 tag (leads.0, leads.1, split.1) on.1 in
      (split.0, t.0, t.1, t.2)
