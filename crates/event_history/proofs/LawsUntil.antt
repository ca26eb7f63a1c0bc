-- A notified listener stays notified until it is taken out, and a notification of as many as there may be notifies all.
use Rattle.std.proofs.Common.{◌≡◌, ◌⊎◌, ◌≤◌, ◌^◌, ◌-◌, ℕ, ◌+◌, Bool, true, false, List, [], ◌∷◌, ◌++◌, length, sym, ap, ◌∙◌, subst, inl, inr, ⊎_elim, arith, true≢false, append_assoc, length-append, Option, Some, None, is_some, Ok, Err, refl}
use Rattle.std.proofs.lemmas.List.{length-map}
use Rattle.std.specs.Map.{keys_of, lookup}
use Rattle.event_queue.specs.declared.key.Key.{Key}
use Rattle.event_queue.specs.declared.reply.ListenError.TheVariants.{Memory, SerialsUsedUp}
use Rattle.event_queue.specs.declared.reply.State.{State}
use Rattle.event_queue.specs.declared.reply.State.TheVariants as was
use Rattle.event_queue.specs.declared.reply.RegisterResult.{RegisterResult}
use Rattle.event_queue.specs.declared.reply.RegisterResult.TheVariants as register
use Rattle.event_queue.specs.Key.{is_key}
use Rattle.event_queue.specs.Queue.{Queue, IsQueue, order_of, listeners_of, told_leaves}
use Rattle.event_queue.specs.Remove.{PassesTo}
use Rattle.event_queue.proofs.LawLemmas.{untold-waiting}
use Rattle.event_queue.proofs.TellingLemmas.{order_of-after_telling}
use Rattle.event_history.specs.declared.history.Entry.{Entry}
use Rattle.event_history.specs.declared.history.View.{View}
use Rattle.event_history.specs.declared.queue_call.QueueCall.{QueueCall}
use Rattle.event_history.specs.declared.queue_call.QueueCall.TheVariants as call
use Rattle.event_history.specs.History.{entry, calls_by, IsAmong, EachRests, Runs, LeadsTo, Leads, Looks}
use Rattle.event_history.specs.Queue.{calls, queue_machine, Does, rests_on}
use Rattle.event_history.specs.Laws.{QueueLog, IsTold, Waits, IsIn, Stays, EachStays, OwnsListener, FindsTold, TellsFirst}
use Rattle.event_history.proofs.LawsStays.{found_value, has_left, has_other, has_length, not_absent, listened, tells_me, tells_first}
use Rattle.event_history.proofs.LawsOrder.{IsSound, sound, some_value, nobody_told, run_split}
use Rattle.event_history.proofs.LawsTold.{all_listened}
use Rattle.event_history.proofs.LawsOwn.{joins, not_twice, stands, own_listens, own_before}
use Rattle.event_history.proofs.LawsOneOrder.{told_too}

-- one list cut at two places
cut : {X : Type 0} (xs ys xs' ys' : List X) (a b : X) → xs ++ a ∷ ys ≡ xs' ++ b ∷ ys' → (ys ≡ ys') ⊎ (((m : List X) × (ys ≡ m ++ b ∷ ys')) ⊎ ((m : List X) × (ys' ≡ m ++ a ∷ ys)))
cut [] ys [] ys' a b is = inl (cc)
cut [] ys (x ∷ xs') ys' a b is = let rest : ys ≡ xs' ++ b ∷ ys' = cc in inr (inl (xs', rest))
cut (x ∷ xs) ys [] ys' a b is = let rest : xs ++ a ∷ ys ≡ ys' = cc in inr (inr (xs, sym rest))
cut (x ∷ xs) ys (x' ∷ xs') ys' a b is = let rest : xs ++ a ∷ ys ≡ xs' ++ b ∷ ys' = cc in cut xs ys xs' ys' a b rest

module _ {T W : Type 0} where
  told_to : (key : Key) (q r : Queue T W) → r ≡ q → IsTold key q → IsTold key r
  told_to key q r is h = subst (IsTold key) (sym is) h

  told_step : (key : Key) (old new : Queue T W) (c : QueueCall T W) → Does old c new → Stays key c → IsTold key old → IsTold key new
  told_step key old new (call.Insert (Ok k)) s stays h = told_to key _ new s.queue h
  told_step key old new (call.Insert (Err Memory)) s stays h = told_to key old new s.2 h
  told_step key old new (call.Insert (Err SerialsUsedUp)) s stays h = told_to key old new s.1 h
  told_step key old new (call.Register k (register.Notified tag)) s stays h = told_to key _ new s.1 (has_other key k old.told stays h)
  told_step key old new (call.Register k register.Registered) s stays h = told_to key _ new s.1.1 h
  told_step key old new (call.Register k register.NeverInserted) s stays h = told_to key old new s.1 h
  told_step key old new (call.Remove k propagate None) s stays h = told_to key old new s.1 h
  told_step key old new (call.Remove k propagate (Some was.Created)) s stays h = told_to key _ new s.1 h
  told_step key old new (call.Remove k propagate (Some (was.Task task))) s stays h = told_to key _ new s.1 h
  told_step key old new (call.Remove k propagate (Some (was.Notified additional tag))) s stays h = told_to key _ new s.2 (has_other key k old.told stays h)
  told_step key old new (call.Remove k propagate (Some (was.Passed other))) s stays h =
      let f = found_value (lookup (is_key k) old.told) (λ notice. PassesTo (other ∷ []) notice (told_leaves k old) new) s.1 in
      let passes : PassesTo (other ∷ []) f.0 (told_leaves k old) new = f.2 in
      told_to key _ new passes.queue (has_left key (told_leaves k old).told _ (has_other key k old.told stays h))
  told_step key old new (call.Remove k propagate (Some (was.Lost additional tag))) s stays h =
      let passes : PassesTo [] (record { additional = additional; tag = tag }) (told_leaves k old) new = s.2 in
      told_to key _ new passes.queue (has_left key (told_leaves k old).told _ (has_other key k old.told stays h))
  told_step key old new (call.Notify count additional (Ok told)) s stays h = let some = s.1 in told_to key _ new some.2 (has_left key old.told _ h)
  told_step key old new (call.Notify count additional (Err error)) s stays h = let some = s.1 in told_to key _ new some.2 (has_left key old.told _ h)
  told_step key old new (call.Counts told total) s stays h = told_to key old new s.2 h

  -- whoever is notified stays so while it stays
  pub told_run : (key : Key) (later : QueueLog T W) (q r : Queue T W) → IsTold key q → Runs calls q later r → EachStays key later → IsTold key r
  told_run key [] q r told run stays = told_to key q r (sym run) told
  told_run key (e ∷ es) q r told run stays = told_run key es run.0 r (told_step key q run.0 e.call run.1.0 stays.0 told) run.2 stays.1

  pub stays_parts : (key : Key) (front back : QueueLog T W) → EachStays key (front ++ back) → EachStays key front × EachStays key back
  stays_parts key [] back stays = (tt, stays)
  stays_parts key (e ∷ es) back stays = let rest = stays_parts key es back stays.1 in ((stays.0, rest.0), rest.1)

  -- a listener that a hand owns stays from where it joined
  stays_from : (key : Key) (number n : ℕ) (log earlier later : QueueLog T W) (q : Queue T W) → LeadsTo queue_machine log q → EachRests rests_on log → OwnsListener key (calls_by number log)
      → log ≡ earlier ++ entry n (joins key) ∷ later → EachStays key later
  stays_from key number n log earlier later q leads each own is =
      let l = own_listens key number log q leads each own in
      let whole : l.earlier ++ entry l.by (joins key) ∷ l.later ≡ earlier ++ entry n (joins key) ∷ later = sym l.inserted ∙ is in
      ⊎_elim (λ same. subst (EachStays key) same l.stays)
      (λ apart. absurd (⊎_elim
      (λ m. not_twice key l.by n l.earlier m.0 later q (subst (λ (es : QueueLog T W). LeadsTo queue_machine es q) (l.inserted ∙ ap (λ (es : QueueLog T W). l.earlier ++ entry l.by (joins key) ∷ es) m.1) leads))
      (λ m. not_twice key n l.by earlier m.0 l.later q (subst (λ (es : QueueLog T W). LeadsTo queue_machine es q) (is ∙ ap (λ (es : QueueLog T W). earlier ++ entry n (joins key) ∷ es) m.1) leads))
      apart))
      (cut l.earlier l.later earlier later (entry l.by (joins key)) (entry n (joins key)) whole)

  -- the run of a history, cut in two
  abbrev pub Parts : QueueLog T W → QueueLog T W → Queue T W → Type 0
  Parts earlier later q = (m : Queue T W) × LeadsTo queue_machine earlier m × Runs calls m later q

  pub parts : (log earlier later : QueueLog T W) (q : Queue T W) → LeadsTo queue_machine log q → log ≡ earlier ++ later → Parts earlier later q
  parts log earlier later q leads is =
      let whole : Runs calls leads.0 (earlier ++ later) q = subst (λ (es : QueueLog T W). Runs calls leads.0 es q) is leads.2 in
      let split = run_split earlier later leads.0 q whole in
      (split.0, (leads.0, leads.1, split.1), split.2)

  -- whoever was notified at a point of the history is so at its end, if a hand owns it there
  pub told_stands : (key : Key) (number : ℕ) (log earlier later : QueueLog T W) (q r : Queue T W) → LeadsTo queue_machine log r → EachRests rests_on log → OwnsListener key (calls_by number log)
      → log ≡ earlier ++ later → LeadsTo queue_machine earlier q → IsTold key q → IsTold key r
  told_stands key number log earlier later q r leads each own is led told =
      let l = all_listened key earlier q led (inr told) in
      let place : log ≡ l.earlier ++ entry l.by (joins key) ∷ (l.later ++ later) = is ∙ (ap (λ (es : QueueLog T W). es ++ later) l.inserted ∙ append_assoc l.earlier (entry l.by (joins key) ∷ l.later) later) in
      let stays = stays_from key number l.by log l.earlier (l.later ++ later) r leads each own place in
      let p = parts log earlier later r leads is in
      told_run key later p.0 r (told_too key earlier q p.0 led p.1 told) p.2 (stays_parts key l.later later stays).1

  pub told_at_call : (key : Key) (v w : View (Queue T W) (QueueCall T W)) (c : QueueCall T W) (earlier later : QueueLog T W) (q before after : Queue T W) → Leads queue_machine v c before after w → OwnsListener key v.mine
      → v.seen ≡ earlier ++ later → LeadsTo queue_machine earlier q → IsTold key q → IsTold key before
  told_at_call key v w c earlier later q before after l own is led told =
      let b = own_before key v w c before after l own in
      let whole : v.seen ++ l.between ≡ earlier ++ (later ++ l.between) = ap (λ (es : QueueLog T W). es ++ l.between) is ∙ append_assoc earlier later l.between in
      told_stands key l.number (v.seen ++ l.between) earlier (later ++ l.between) q before l.runs b.0 b.1 whole led told

  pub told_at_look : (key : Key) (v w : View (Queue T W) (QueueCall T W)) (earlier later : QueueLog T W) (q : Queue T W) (l : Looks queue_machine v w) → OwnsListener key w.mine
      → w.seen ≡ earlier ++ later → LeadsTo queue_machine earlier q → IsTold key q → IsTold key l.led
  told_at_look key v w earlier later q l own is led told =
      told_stands key l.number w.seen earlier later q l.led l.runs l.rested (subst (λ (calls : List (QueueCall T W)). OwnsListener key calls) (sym l.each_once) own) is led told

  -- nobody is notified and waits
  not_both : (key : Key) (q : Queue T W) → IsSound q → Waits key q → IsTold key q → ⊥
  not_both key q (inl queue) waits told = let w = some_value (lookup (is_key key) q.waiting) waits in true≢false (sym told ∙ ap is_some (untold-waiting key q w.0 queue w.1))
  not_both key q (inr empty) waits told = nobody_told key q empty told

  -- what whoever is notified is answered
  pub told_registered : (key : Key) (log : QueueLog T W) (q next : Queue T W) (reply : RegisterResult T) → LeadsTo queue_machine log q → IsTold key q → calls q (call.Register key reply) next → (tag : T) × (reply ≡ register.Notified tag)
  told_registered key log q next (register.Notified tag) leads told s = (tag, refl)
  told_registered key log q next register.Registered leads told s = absurd (let stored = s.0.1 in not_both key q (sound log q leads) stored.0 told)
  told_registered key log q next register.NeverInserted leads told s = absurd (not_absent key q (inr told) s.0.0)

  pub told_removed : (key : Key) (log : QueueLog T W) (q next : Queue T W) (propagate : Bool) (reply : Option (State T W)) → LeadsTo queue_machine log q → IsTold key q → calls q (call.Remove key propagate reply) next → FindsTold propagate reply
  told_removed key log q next propagate None leads told s = absurd (not_absent key q (inr told) s.0.0)
  told_removed key log q next propagate (Some was.Created) leads told s = absurd (not_both key q (sound log q leads) (ap is_some s.0.0) told)
  told_removed key log q next propagate (Some (was.Task task)) leads told s = absurd (not_both key q (sound log q leads) (ap is_some s.0.0) told)
  told_removed key log q next propagate (Some (was.Notified additional tag)) leads told s = s.0.0
  told_removed key log q next propagate (Some (was.Passed to)) leads told s = s.0.0
  told_removed key log q next propagate (Some (was.Lost additional tag)) leads told s = s.0.0

  pub length-order : (q : Queue T W) → length (order_of q) ≡ listeners_of q
  length-order q = omega (arith, length-append (keys_of q.told) (keys_of q.waiting), length-map q.told (λ e. e.0), length-map q.waiting (λ e. e.0))

  -- a notification leaves as many listeners as there were
  as_many : (old new : Queue T W) (count told : ℕ) (additional : Bool) → calls old (call.Notify count additional (Ok told)) new → listeners_of new ≡ listeners_of old
  as_many old new count told additional s =
      let some = s.0.1 in
      let order : order_of new ≡ order_of old = ap (λ (q : Queue T W). order_of q) some.2 ∙ order_of-after_telling additional some.0 old in
      sym (length-order new) ∙ (ap (λ (ks : List Key). length ks) order ∙ length-order old)

  -- one that counts as many as there are notifies all
  pub tells_enough : (key : Key) (old new : Queue T W) (count told : ℕ) (additional : Bool) → calls old (call.Notify count additional (Ok told)) new → listeners_of old ≤ count → IsIn key old → IsTold key new
  tells_enough key old new count told true s all h = ⊎_elim (λ t. t) (λ w. absurd (still w.0 w.1)) (tells_first key old new count told s h) where
    still : Waits key new → TellsFirst count old new → ⊥
    still waits tells =
        let parts : length old.waiting ≡ length tells.first + length new.waiting = ap (λ (es : List (Key × Option W)). length es) tells.waited ∙ length-append tells.first new.waiting in
        omega (arith, all, tells.as_many, parts, has_length key new.waiting waits)
  tells_enough key old new count told false s all h = ⊎_elim (λ t. t) (λ w. absurd (still w.0 w.1)) (tells_me key old new count told s h) where
    still : Waits key new → count ≤ length new.told → ⊥
    still waits enough = omega (arith, all, as_many old new count told false s, enough, has_length key new.waiting waits)

  pub tells_greatest : (key : Key) (old new : Queue T W) (told : ℕ) (additional : Bool) → calls old (call.Notify (2 ^ 64 - 1) additional (Ok told)) new → IsIn key old → IsTold key new
  tells_greatest key old new told additional s h =
      let queue : IsQueue new = s.1 in
      tells_enough key old new (2 ^ 64 - 1) told additional s (omega (arith, queue.slots_fit, as_many old new (2 ^ 64 - 1) told additional s)) h

  -- one that stands in the history after the listener joined left it notified
  other_stands : (key : Key) (number joiner by : ℕ) (additional : Bool) (told : ℕ) (log earlier later : QueueLog T W) (r : Queue T W) → LeadsTo queue_machine log r → EachRests rests_on log → OwnsListener key (calls_by number log)
      → log ≡ earlier ++ entry by (call.Notify (2 ^ 64 - 1) additional (Ok told)) ∷ later → IsAmong (joins key) (calls_by joiner earlier) → IsTold key r
  other_stands key number joiner by additional told log earlier later r leads each own is among =
      let e : Entry (QueueCall T W) = entry by (call.Notify (2 ^ 64 - 1) additional (Ok told)) in
      let at = stands joiner (joins key) earlier among in
      let place : log ≡ at.0 ++ entry joiner (joins key) ∷ (at.1 ++ e ∷ later) = is ∙ (ap (λ (es : QueueLog T W). es ++ e ∷ later) at.2 ∙ append_assoc at.0 (entry joiner (joins key) ∷ at.1) (e ∷ later)) in
      let stays = stays_parts key at.1 (e ∷ later) (stays_from key number joiner log at.0 (at.1 ++ e ∷ later) r leads each own place) in
      let p = parts log earlier (e ∷ later) r leads is in
      let on : Runs calls p.0 (e ∷ later) r = p.2 in
      let here : IsIn key p.0 = listened key earlier p.0 p.1 (record { earlier = at.0; by = joiner; later = at.1; inserted = at.2; stays = stays.0 }) in
      told_run key later on.0 r (tells_greatest key p.0 on.0 told additional on.1 here) on.2 stays.1.1

  pub other_at_call : (key : Key) (joiner by : ℕ) (additional : Bool) (told : ℕ) (v w : View (Queue T W) (QueueCall T W)) (c : QueueCall T W) (earlier later : QueueLog T W) (before after : Queue T W)
      → Leads queue_machine v c before after w → OwnsListener key v.mine → v.seen ≡ earlier ++ entry by (call.Notify (2 ^ 64 - 1) additional (Ok told)) ∷ later → IsAmong (joins key) (calls_by joiner earlier) → IsTold key before
  other_at_call key joiner by additional told v w c earlier later before after l own is among =
      let e : Entry (QueueCall T W) = entry by (call.Notify (2 ^ 64 - 1) additional (Ok told)) in
      let b = own_before key v w c before after l own in
      let whole : v.seen ++ l.between ≡ earlier ++ e ∷ (later ++ l.between) = ap (λ (es : QueueLog T W). es ++ l.between) is ∙ append_assoc earlier (e ∷ later) l.between in
      other_stands key l.number joiner by additional told (v.seen ++ l.between) earlier (later ++ l.between) before l.runs b.0 b.1 whole among

  pub other_at_look : (key : Key) (joiner by : ℕ) (additional : Bool) (told : ℕ) (v w : View (Queue T W) (QueueCall T W)) (earlier later : QueueLog T W) (l : Looks queue_machine v w) → OwnsListener key w.mine
      → w.seen ≡ earlier ++ entry by (call.Notify (2 ^ 64 - 1) additional (Ok told)) ∷ later → IsAmong (joins key) (calls_by joiner earlier) → IsTold key l.led
  other_at_look key joiner by additional told v w earlier later l own is among =
      other_stands key l.number joiner by additional told w.seen earlier later l.led l.runs l.rested (subst (λ (calls : List (QueueCall T W)). OwnsListener key calls) (sym l.each_once) own) is among

  pub other_registered : (key : Key) (joiner by : ℕ) (additional : Bool) (told : ℕ) (v w : View (Queue T W) (QueueCall T W)) (reply : RegisterResult T) (earlier later : QueueLog T W) (before after : Queue T W)
      → Leads queue_machine v (call.Register key reply) before after w → OwnsListener key v.mine → v.seen ≡ earlier ++ entry by (call.Notify (2 ^ 64 - 1) additional (Ok told)) ∷ later → IsAmong (joins key) (calls_by joiner earlier)
      → (tag : T) × (reply ≡ register.Notified tag)
  other_registered key joiner by additional told v w reply earlier later before after l own is among =
      told_registered key (v.seen ++ l.between) before after reply l.runs (other_at_call key joiner by additional told v w (call.Register key reply) earlier later before after l own is among) l.step

  pub other_removed : (key : Key) (joiner by : ℕ) (additional : Bool) (told : ℕ) (v w : View (Queue T W) (QueueCall T W)) (propagate : Bool) (reply : Option (State T W)) (earlier later : QueueLog T W) (before after : Queue T W)
      → Leads queue_machine v (call.Remove key propagate reply) before after w → OwnsListener key v.mine → v.seen ≡ earlier ++ entry by (call.Notify (2 ^ 64 - 1) additional (Ok told)) ∷ later → IsAmong (joins key) (calls_by joiner earlier)
      → FindsTold propagate reply
  other_removed key joiner by additional told v w propagate reply earlier later before after l own is among =
      told_removed key (v.seen ++ l.between) before after propagate reply l.runs (other_at_call key joiner by additional told v w (call.Remove key propagate reply) earlier later before after l own is among) l.step
