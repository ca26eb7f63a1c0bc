-- Serials rise in order of listening, so who listened first is notified first.
use Rattle.std.proofs.Common.{◌≡◌, ◌⊎◌, ◌≤◌, ◌<◌, ℕ, List, [], ◌∷◌, ◌++◌, refl, sym, ap, subst, inl, inr, arith, true≢false, Option, Some, None, IsSome, Ok, Err}
use Rattle.std.specs.List.{AllByRecursion}
use Rattle.std.specs.Map.{keys_of, lookup}
use Rattle.event_queue.specs.declared.key.Key.{Key}
use Rattle.event_queue.specs.declared.notice.Notice.{Notice}
use Rattle.event_queue.specs.declared.reply.ListenError.TheVariants.{Memory, SerialsUsedUp}
use Rattle.event_queue.specs.declared.reply.State.TheVariants as was
use Rattle.event_queue.specs.declared.reply.RegisterResult.TheVariants as register
use Rattle.event_queue.specs.Key.{is_key}
use Rattle.event_queue.specs.Queue.{Queue, IsQueue, told_leaves}
use Rattle.event_queue.specs.Remove.{PassesTo}
use Rattle.event_queue.proofs.OrderLemmas.{Rises, All-back, at_found}
use Rattle.event_queue.proofs.QueueLemmas.{rises_along}
use Rattle.event_history.specs.declared.history.Entry.{Entry}
use Rattle.event_history.specs.declared.queue_call.QueueCall.{QueueCall}
use Rattle.event_history.specs.declared.queue_call.QueueCall.TheVariants as call
use Rattle.event_history.specs.History.{entry, Runs, LeadsTo}
use Rattle.event_history.specs.Queue.{calls, queue_machine, Does, is_empty}
use Rattle.event_history.specs.Laws.{QueueLog, IsTold, Waits, IsIn}
use Rattle.event_history.proofs.LawsStays.{found_value}

pub some_value : {X : Type 0} (o : Option X) → IsSome o → (x : X) × (o ≡ Some x)
some_value None h = absurd (true≢false (sym h))
some_value (Some x) h = (x, refl)

-- whoever is told before all these that has a lower serial than the one that is found
all_below : {X : Type 0} (key : Key) (keys : List Key) (entries : List (Key × X)) (value : X) (n : ℕ) → Rises (keys ++ keys_of entries) n → lookup (is_key key) entries ≡ Some value
    → AllByRecursion (λ (other : Key). other.serial < key.serial) keys
all_below key [] es value n rises found = tt
all_below key (k ∷ keys) es value n rises found = (at_found (λ s. k.serial < s) key es value (All-back _ keys (keys_of es) rises.0) found, all_below key keys es value n rises.2 found)

module _ {T W : Type 0} where
  -- a state that a history leads to is a queue, or nothing happened yet
  abbrev pub IsSound : Queue T W → Type 0
  IsSound q = IsQueue q ⊎ is_empty q

  sound_run : (log : QueueLog T W) (q r : Queue T W) → Runs calls q log r → IsSound q → IsSound r
  sound_run [] q r run h = subst IsSound run h
  sound_run (e ∷ es) q r run h = sound_run es run.0 r run.2 (inl run.1.1)

  pub sound : (log : QueueLog T W) (r : Queue T W) → LeadsTo queue_machine log r → IsSound r
  sound log r leads = sound_run log leads.0 r leads.2 (inr leads.1)

  pub nobody_told : (key : Key) (q : Queue T W) → is_empty q → IsTold key q → ⊥
  nobody_told key q empty h = true≢false (sym (subst (λ (es : List (Key × Notice T)). IsSome (lookup (is_key key) es)) empty.0 h))

  pub nobody_waits : (key : Key) (q : Queue T W) → is_empty q → Waits key q → ⊥
  nobody_waits key q empty h = true≢false (sym (subst (λ (es : List (Key × Option W)). IsSome (lookup (is_key key) es)) empty.1 h))

  told_below : (a b : Key) (q : Queue T W) → IsQueue q → Waits a q → IsTold b q → b.serial < a.serial
  told_below a b q queue waits told =
      let w = some_value (lookup (is_key a) q.waiting) waits in
      let t = some_value (lookup (is_key b) q.told) told in
      at_found (λ s. s < a.serial) b q.told t.0 (all_below a (keys_of q.told) q.waiting w.0 q.next_serial (rises_along q queue) w.1) t.1

  first_told : (a b : Key) (q : Queue T W) → IsSound q → a.serial < b.serial → IsTold b q → IsIn a q → IsTold a q
  first_told a b q h less told (inr t) = t
  first_told a b q (inl queue) less told (inl w) = absurd (omega (arith, less, told_below a b q queue w told))
  first_told a b q (inr empty) less told (inl w) = absurd (nobody_told b q empty told)

  pub told_first : (a b : Key) (log : QueueLog T W) (q : Queue T W) → LeadsTo queue_machine log q → a.serial < b.serial → IsTold b q → IsIn a q → IsTold a q
  told_first a b log q leads = first_told a b q (sound log q leads)

  same_serial : (old new q : Queue T W) → new ≡ q → q.next_serial ≡ old.next_serial → old.next_serial ≤ new.next_serial
  same_serial old new q is same = omega (arith, same, ap (λ (r : Queue T W). r.next_serial) is)

  -- no call lowers the next serial
  serial_step : (old new : Queue T W) (c : QueueCall T W) → Does old c new → old.next_serial ≤ new.next_serial
  serial_step old new (call.Insert (Ok k)) s = omega (arith, ap (λ (r : Queue T W). r.next_serial) s.queue)
  serial_step old new (call.Insert (Err Memory)) s = same_serial old new old s.2 refl
  serial_step old new (call.Insert (Err SerialsUsedUp)) s = same_serial old new old s.1 refl
  serial_step old new (call.Register k (register.Notified tag)) s = same_serial old new _ s.1 refl
  serial_step old new (call.Register k register.Registered) s = same_serial old new _ s.1.1 refl
  serial_step old new (call.Register k register.NeverInserted) s = same_serial old new old s.1 refl
  serial_step old new (call.Remove k propagate None) s = same_serial old new old s.1 refl
  serial_step old new (call.Remove k propagate (Some was.Created)) s = same_serial old new _ s.1 refl
  serial_step old new (call.Remove k propagate (Some (was.Task task))) s = same_serial old new _ s.1 refl
  serial_step old new (call.Remove k propagate (Some (was.Notified additional tag))) s = same_serial old new _ s.2 refl
  serial_step old new (call.Remove k propagate (Some (was.Passed to))) s =
      let f = found_value (lookup (is_key k) old.told) (λ notice. PassesTo (to ∷ []) notice (told_leaves k old) new) s.1 in
      let passes : PassesTo (to ∷ []) f.0 (told_leaves k old) new = f.2 in
      same_serial old new _ passes.queue refl
  serial_step old new (call.Remove k propagate (Some (was.Lost additional tag))) s =
      let passes : PassesTo [] (record { additional = additional; tag = tag }) (told_leaves k old) new = s.2 in
      same_serial old new _ passes.queue refl
  serial_step old new (call.Notify count additional (Ok told)) s = let some = s.1 in same_serial old new _ some.2 refl
  serial_step old new (call.Notify count additional (Err error)) s = let some = s.1 in same_serial old new _ some.2 refl
  serial_step old new (call.Counts told total) s = same_serial old new old s.2 refl

  serial_run : (log : QueueLog T W) (q r : Queue T W) → Runs calls q log r → q.next_serial ≤ r.next_serial
  serial_run [] q r run = omega (arith, ap (λ (x : Queue T W). x.next_serial) run)
  serial_run (e ∷ es) q r run = omega (arith, serial_step q run.0 e.call run.1.0, serial_run es run.0 r run.2)

  pub run_split : (log later : QueueLog T W) (q r : Queue T W) → Runs calls q (log ++ later) r → (m : Queue T W) × Runs calls q log m × Runs calls m later r
  run_split [] later q r run = (q, refl, run)
  run_split (e ∷ es) later q r run = let rest = run_split es later run.0 r run.2 in (rest.0, (run.0, run.1, rest.1), rest.2)

  pub serials_rise : (a b : Key) (x y : ℕ) (earlier between later : QueueLog T W) (q : Queue T W)
      → LeadsTo queue_machine (earlier ++ entry x (call.Insert (Ok a)) ∷ (between ++ entry y (call.Insert (Ok b)) ∷ later)) q → a.serial < b.serial
  serials_rise a b x y earlier between later q leads =
      let i : Entry (QueueCall T W) = entry x (call.Insert (Ok a)) in
      let j : Entry (QueueCall T W) = entry y (call.Insert (Ok b)) in
      let front = run_split earlier (i ∷ (between ++ j ∷ later)) leads.0 q leads.2 in
      let one : Runs calls front.0 (i ∷ (between ++ j ∷ later)) q = front.2 in
      let first = one.1.0 in
      let back = run_split between (j ∷ later) one.0 q one.2 in
      let two : Runs calls back.0 (j ∷ later) q = back.2 in
      let second = two.1.0 in
      omega (arith, first.serial, ap (λ (r : Queue T W). r.next_serial) first.queue, serial_run between one.0 back.0 back.1, second.serial)
