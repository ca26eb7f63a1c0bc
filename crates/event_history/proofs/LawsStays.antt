-- A listener whose listening stands in a history is in the queue until it leaves, and a notification tells it, or so many
-- before it.
use Rattle.std.proofs.Common.{◌≡◌, ◌≢◌, ◌⊎◌, ◌≤◌, ◌<◌, ℕ, zero, suc, ◌+◌, ◌-◌, min, Bool, true, false, cond, List, [], ◌∷◌, ◌++◌, length, drop, take, refl, sym, ap, ◌∙◌, subst, inl, inr, ⊎_elim, arith, true≢false, eq-eqb, ◌&&◌, Option, Some, None, IsSome, is_some, IsSomeAnd, Ok, Err}
use Rattle.std.proofs.lemmas.List.{length-drop, map-append}
use Rattle.std.proofs.Common.{length-take}
use Rattle.std.proofs.lemmas.Map.{keys-set_value}
use Rattle.std.proofs.lemmas.Map.Made.{IsSome-lookup_same_keys}
use Rattle.std.specs.Map.{keys_of, lookup, remove_entry}
use Rattle.event_queue.specs.declared.key.Key.{Key}
use Rattle.event_queue.specs.declared.reply.ListenError.TheVariants.{Memory, SerialsUsedUp}
use Rattle.event_queue.specs.declared.reply.State.{State}
use Rattle.event_queue.specs.declared.reply.RegisterResult.{RegisterResult}
use Rattle.event_queue.specs.declared.reply.State.TheVariants as was
use Rattle.event_queue.specs.declared.reply.RegisterResult.TheVariants as register
use Rattle.event_queue.specs.Key.{is_key}
use Rattle.event_queue.specs.Queue.{Queue, IsAbsent, told_with, after_telling, told_leaves, waiting_leaves}
use Rattle.event_queue.specs.Remove.{PassesTo}
use Rattle.event_queue.proofs.ChainLookups.{same_key}
use Rattle.event_queue.proofs.TellingLemmas.{length-after_telling}
use Rattle.event_history.specs.declared.history.Entry.{Entry}
use Rattle.event_history.specs.declared.queue_call.QueueCall.{QueueCall}
use Rattle.event_history.specs.declared.queue_call.QueueCall.TheVariants as call
use Rattle.event_history.specs.History.{entry, Runs, LeadsTo}
use Rattle.event_history.specs.Queue.{calls, queue_machine, Does}
use Rattle.event_history.specs.Laws.{QueueLog, IsTold, Waits, IsIn, Stays, EachStays, Listens, TellsFirst}

module _ {X : Type 0} where
  abbrev pub Has : Key → List (Key × X) → Type 0
  Has key es = IsSome (lookup (is_key key) es)

  has_cons : (b : Bool) (x : X) (o : Option X) → IsSome o → IsSome (cond b (Some x) o)
  has_cons true x o h = refl
  has_cons false x o h = h

  has_either : (b : Bool) (x : X) (o p : Option X) → (IsSome o → IsSome p) → IsSome (cond b (Some x) o) → IsSome (cond b (Some x) p)
  has_either true x o p f h = refl
  has_either false x o p f h = f h

  pub has_left : (key : Key) (es fs : List (Key × X)) → Has key es → Has key (es ++ fs)
  has_left key [] fs h = absurd (true≢false (sym h))
  has_left key (e ∷ es) fs h = has_either (is_key key e.0) e.1 _ _ (has_left key es fs) h

  has_right : (key : Key) (es fs : List (Key × X)) → Has key fs → Has key (es ++ fs)
  has_right key [] fs h = h
  has_right key (e ∷ es) fs h = has_cons (is_key key e.0) e.1 (lookup (is_key key) (es ++ fs)) (has_right key es fs h)

  -- another one is taken out
  pub has_other : (key other : Key) (es : List (Key × X)) → is_key key other ≡ false → Has key es → Has key (remove_entry (is_key other) es)
  has_other key other [] ne h = h
  has_other key other (e ∷ es) ne h = by_key (has_other key other es ne) (is_key other e.0) refl where
    skip : (b : Bool) → b ≡ false → IsSome (cond b (Some e.1) (lookup (is_key key) es)) → Has key es
    skip true f g = absurd (true≢false f)
    skip false f g = g

    by_key : (Has key es → Has key (remove_entry (is_key other) es)) → (b : Bool) → is_key other e.0 ≡ b → Has key (cond b es (e ∷ remove_entry (is_key other) es))
    by_key ih true is = skip (is_key key e.0) (ap (is_key key) (same_key other e.0 is) ∙ ne) h
    by_key ih false is = has_either (is_key key e.0) e.1 _ _ ih h

  pub has_length : (key : Key) (es : List (Key × X)) → Has key es → 0 < length es
  has_length key [] h = absurd (true≢false (sym h))
  has_length key (e ∷ es) h = omega arith

pub self_key : (key : Key) → is_key key key ≡ true
self_key key = λ i. eq-eqb key.slot key.slot refl i && eq-eqb key.serial key.serial refl i

pub found_value : {X : Type 0} (o : Option X) (P : X → Type 0) → IsSomeAnd o P → (x : X) × (o ≡ Some x) × P x
found_value None P h = absurd h
found_value (Some x) P h = (x, refl, h)

none_is_some : {X : Type 0} (o : Option X) → o ≡ None → IsSome o → ⊥
none_is_some o is h = true≢false (sym h ∙ ap is_some is)

take_drop : {X : Type 0} (n : ℕ) (xs : List X) → xs ≡ take n xs ++ drop n xs
take_drop zero xs = refl
take_drop (suc n) [] = refl
take_drop {X} (suc n) (x ∷ xs) = ap (λ (ys : List X). x ∷ ys) (take_drop n xs)

module _ {T W : Type 0} where
  -- those that are told are told, and the others wait
  has_split : (key : Key) (additional : Bool) (tags : List T) (waiting : List (Key × Option W)) → Has key waiting → Has key (drop (length tags) waiting) ⊎ Has key (told_with additional tags waiting)
  has_split key additional [] waiting h = inl h
  has_split key additional (tag ∷ tags) [] h = inl h
  has_split key additional (tag ∷ tags) (first ∷ rest) h = by_key (has_split key additional tags rest) (is_key key first.0) h where
    by_key : (Has key rest → Has key (drop (length tags) rest) ⊎ Has key (told_with additional tags rest)) → (b : Bool) → IsSome (cond b (Some first.1) (lookup (is_key key) rest))
        → Has key (drop (length tags) rest) ⊎ IsSome (cond b (Some (record { additional = additional; tag = tag })) (lookup (is_key key) (told_with additional tags rest)))
    by_key ih true g = inr refl
    by_key ih false g = ih g

  in_telling : (key : Key) (additional : Bool) (tags : List T) (q : Queue T W) → IsIn key q → IsIn key (after_telling additional tags q)
  in_telling key additional tags q (inl w) = ⊎_elim (λ h. inl h) (λ h. inr (has_right key q.told _ h)) (has_split key additional tags q.waiting w)
  in_telling key additional tags q (inr t) = inr (has_left key q.told _ t)

  in_told_leaves : (key other : Key) (q : Queue T W) → is_key key other ≡ false → IsIn key q → IsIn key (told_leaves other q)
  in_told_leaves key other q ne (inl w) = inl w
  in_told_leaves key other q ne (inr t) = inr (has_other key other q.told ne t)

  in_waiting_leaves : (key other : Key) (q : Queue T W) → is_key key other ≡ false → IsIn key q → IsIn key (waiting_leaves other q)
  in_waiting_leaves key other q ne (inl w) = inl (has_other key other q.waiting ne w)
  in_waiting_leaves key other q ne (inr t) = inr t

  pub to : (key : Key) (q r : Queue T W) → r ≡ q → IsIn key q → IsIn key r
  to key q r is h = subst (IsIn key) (sym is) h

  -- a listener stays where no call takes it out
  in_step : (key : Key) (old new : Queue T W) (c : QueueCall T W) → Does old c new → Stays key c → IsIn key old → IsIn key new
  in_step key old new (call.Insert (Ok k)) s stays h = to key _ new s.queue (⊎_elim (λ w. inl (has_left key old.waiting _ w)) (λ t. inr t) h)
  in_step key old new (call.Insert (Err Memory)) s stays h = to key old new s.2 h
  in_step key old new (call.Insert (Err SerialsUsedUp)) s stays h = to key old new s.1 h
  in_step key old new (call.Register k (register.Notified tag)) s stays h = to key _ new s.1 (in_told_leaves key k old stays h)
  in_step key old new (call.Register k register.Registered) s stays h =
      to key _ new s.1.1 (⊎_elim (λ w. inl ((IsSome-lookup_same_keys (is_key key) old.waiting _ (sym (keys-set_value (is_key k) old.waiting _))).0 w)) (λ t. inr t) h)
  in_step key old new (call.Register k register.NeverInserted) s stays h = to key old new s.1 h
  in_step key old new (call.Remove k propagate None) s stays h = to key old new s.1 h
  in_step key old new (call.Remove k propagate (Some was.Created)) s stays h = to key _ new s.1 (in_waiting_leaves key k old stays h)
  in_step key old new (call.Remove k propagate (Some (was.Task task))) s stays h = to key _ new s.1 (in_waiting_leaves key k old stays h)
  in_step key old new (call.Remove k propagate (Some (was.Notified additional tag))) s stays h = to key _ new s.2 (in_told_leaves key k old stays h)
  in_step key old new (call.Remove k propagate (Some (was.Passed other))) s stays h =
      let f = found_value (lookup (is_key k) old.told) (λ notice. PassesTo (other ∷ []) notice (told_leaves k old) new) s.1 in
      let passes : PassesTo (other ∷ []) f.0 (told_leaves k old) new = f.2 in
      to key _ new passes.queue (in_telling key _ _ (told_leaves k old) (in_told_leaves key k old stays h))
  in_step key old new (call.Remove k propagate (Some (was.Lost additional tag))) s stays h =
      let passes : PassesTo [] (record { additional = additional; tag = tag }) (told_leaves k old) new = s.2 in
      to key _ new passes.queue (in_telling key _ _ (told_leaves k old) (in_told_leaves key k old stays h))
  in_step key old new (call.Notify count additional (Ok told)) s stays h = let told_some = s.1 in to key _ new told_some.2 (in_telling key additional told_some.0 old h)
  in_step key old new (call.Notify count additional (Err error)) s stays h = let told_some = s.1 in to key _ new told_some.2 (in_telling key additional told_some.0 old h)
  in_step key old new (call.Counts told total) s stays h = to key old new s.2 h

  in_run : (key : Key) (log : QueueLog T W) (q r : Queue T W) → Runs calls q log r → EachStays key log → IsIn key q → IsIn key r
  in_run key [] q r run stays h = to key q r (sym run) h
  in_run key (e ∷ es) q r run stays h = in_run key es run.0 r run.2 stays.1 (in_step key q run.0 e.call run.1.0 stays.0 h)

  run_from : (log later : QueueLog T W) (q r : Queue T W) → Runs calls q (log ++ later) r → (m : Queue T W) × Runs calls m later r
  run_from [] later q r run = (q, run)
  run_from (e ∷ es) later q r run = run_from es later run.0 r run.2

  -- the listener whose listening stands in the history is in the queue, if it did not leave
  pub listened : (key : Key) (log : QueueLog T W) (r : Queue T W) → LeadsTo queue_machine log r → Listens key log → IsIn key r
  listened key log r leads l =
      let e : Entry (QueueCall T W) = entry l.by (call.Insert (Ok key)) in
      let whole : Runs calls leads.0 (l.earlier ++ e ∷ l.later) r = subst (λ (es : QueueLog T W). Runs calls leads.0 es r) l.inserted leads.2 in
      let f = run_from l.earlier (e ∷ l.later) leads.0 r whole in
      let from : Runs calls f.0 (e ∷ l.later) r = f.1 in
      let joins = from.1.0 in
      let no_task : Option W = None in
      let first : IsIn key from.0 = to key _ from.0 joins.queue (inl (has_right key f.0.waiting ((key, None) ∷ []) (ap (λ (b : Bool). is_some (cond b (Some no_task) None)) (self_key key)))) in
      in_run key l.later from.0 r from.2 l.stays first

  pub not_absent : (key : Key) (q : Queue T W) → IsIn key q → IsAbsent key q → ⊥
  not_absent key q (inl w) absent = none_is_some _ absent.unwaiting w
  not_absent key q (inr t) absent = none_is_some _ absent.untold t

  pub not_never : (key : Key) (old new : Queue T W) (reply : RegisterResult T) → calls old (call.Register key reply) new → IsIn key old → reply ≢ register.NeverInserted
  not_never key old new (register.Notified tag) s h e = absurd (cc)
  not_never key old new register.Registered s h e = absurd (cc)
  not_never key old new register.NeverInserted s h e = not_absent key old h s.0.0

  pub finds_it : (key : Key) (old new : Queue T W) (propagate : Bool) (reply : Option (State T W)) → calls old (call.Remove key propagate reply) new → IsIn key old → IsSome reply
  finds_it key old new propagate None s h = absurd (not_absent key old h s.0.0)
  finds_it key old new propagate (Some was) s h = refl

  -- a notification that is made then tells it, or at least so many are told that listen before it
  pub tells_me : (key : Key) (old new : Queue T W) (count told : ℕ) → calls old (call.Notify count false (Ok told)) new → IsIn key old → IsTold key new ⊎ (Waits key new × (count ≤ length new.told))
  tells_me key old new count told s h = ⊎_elim (λ w. inr (w, enough w)) (λ t. inl t) (in_step key old new (call.Notify count false (Ok told)) s.0 tt h) where
    enough : IsSome (lookup (is_key key) new.waiting) → count ≤ length new.told
    enough w =
        let some = s.0.1 in
        let tags = some.0 in
        let rest : 0 < length (drop (length tags) old.waiting) = has_length key _ (subst (λ (q : Queue T W). IsSome (lookup (is_key key) q.waiting)) some.2 w) in
        let less : length tags < length old.waiting = omega (arith, rest, length-drop (length tags) old.waiting) in
        let all : length new.told ≡ length old.told + length tags = ap (λ (q : Queue T W). length q.told) some.2 ∙ length-after_telling false tags old (omega (arith, less)) in
        let as_many : length tags ≡ min (count - length old.told) (length old.waiting) = some.1 ∙ s.0.0 in
        omega (arith, less, all, as_many)

  keys_of-told : (additional : Bool) (tags : List T) (waiting : List (Key × Option W)) → keys_of (told_with additional tags waiting) ≡ keys_of (take (length tags) waiting)
  keys_of-told additional [] waiting = refl
  keys_of-told additional (tag ∷ tags) [] = refl
  keys_of-told additional (tag ∷ tags) (first ∷ rest) = ap (λ (ks : List Key). first.0 ∷ ks) (keys_of-told additional tags rest)

  -- or so many are told that waited before it
  pub tells_first : (key : Key) (old new : Queue T W) (count told : ℕ) → calls old (call.Notify count true (Ok told)) new → IsIn key old → IsTold key new ⊎ (Waits key new × TellsFirst count old new)
  tells_first key old new count told s h = ⊎_elim (λ w. inr (w, enough w)) (λ t. inl t) (in_step key old new (call.Notify count true (Ok told)) s.0 tt h) where
    enough : Waits key new → TellsFirst count old new
    enough w =
        let some = s.0.1 in
        let tags = some.0 in
        let n : ℕ = length tags in
        let rest : 0 < length (drop n old.waiting) = has_length key _ (subst (λ (q : Queue T W). Waits key q) some.2 w) in
        let less : n < length old.waiting = omega (arith, rest, length-drop n old.waiting) in
        let as_many : n ≡ min count (length old.waiting) = some.1 ∙ s.0.0 in
        record {
          first = take n old.waiting;
          as_many = omega (arith, length-take n old.waiting, less, as_many);
          waited = take_drop n old.waiting ∙ ap (λ (q : Queue T W). take n old.waiting ++ q.waiting) (sym some.2);
          told = ap (λ (q : Queue T W). keys_of q.told) some.2 ∙ map-append (λ e. e.0) old.told (told_with true tags old.waiting) ∙ ap (λ (ks : List Key). keys_of old.told ++ ks) (keys_of-told true tags old.waiting);
        }
