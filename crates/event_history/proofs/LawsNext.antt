-- Of two listeners that are all there are, the one is notified once the other one was, and is dropped.
use Rattle.std.proofs.Common.{◌≡◌, ◌≢◌, ◌⊎◌, ◌≤◌, ◌<◌, ◌-◌, ℕ, zero, suc, min, Bool, true, false, cond, List, [], ◌∷◌, ◌++◌, length, refl, sym, ap, ◌∙◌, subst, inl, inr, ⊎_elim, arith, append_assoc, true≢false, Option, Some, None, IsSome, is_some}
use mathlib.Core.Logic.{dite}
use native.Mathlib.Decide.{dec_lt}
use Rattle.std.specs.Map.{keys_of, lookup}
use Rattle.event_queue.specs.declared.key.Key.{Key}
use Rattle.event_queue.specs.declared.notice.Notice.{Notice}
use Rattle.event_queue.specs.declared.reply.State.{State}
use Rattle.event_queue.specs.declared.reply.State.TheVariants as was
use Rattle.event_queue.specs.Key.{is_key}
use Rattle.event_queue.specs.Queue.{Queue, order_of, listeners_of, how_many, told_leaves}
use Rattle.event_queue.specs.Remove.{Removes, PassesTo}
use Rattle.event_queue.proofs.ChainLookups.{same_key}
use Rattle.event_history.specs.declared.history.Entry.{Entry}
use Rattle.event_history.specs.declared.history.View.{View}
use Rattle.event_history.specs.declared.queue_call.QueueCall.{QueueCall}
use Rattle.event_history.specs.declared.queue_call.QueueCall.TheVariants as call
use Rattle.event_history.specs.History.{entry, calls_by, IsAmong, Runs, LeadsTo, Leads}
use Rattle.event_history.specs.Queue.{calls, queue_machine}
use Rattle.event_history.specs.Laws.{QueueLog, IsTold, Waits, IsIn, EachStays, Listens, OwnsListener, FindsTold}
use Rattle.event_history.proofs.HandLemmas.{among_more}
use Rattle.event_history.proofs.RestsOnLemmas.{among_front, among_back}
use Rattle.event_history.proofs.LawsStays.{Has, self_key, found_value, has_length, listened, not_absent}
use Rattle.event_history.proofs.LawsOrder.{sound, told_first, serials_rise}
use Rattle.event_history.proofs.LawsTold.{all_listened, removed_gone, run_more}
use Rattle.event_history.proofs.LawsOwn.{joins, stands, own_at_call}
use Rattle.event_history.proofs.LawsPassing.{passes_on_wanted, passes_on_unwanted}
use Rattle.event_history.proofs.LawsUntil.{Parts, length-order, parts, stays_parts, told_at_call, told_removed}

-- an element of two lists stands in the first, or after it
within : {X : Type 0} (xs ys es ls : List X) (e : X) → xs ++ ys ≡ es ++ e ∷ ls → ((back : List X) × (xs ≡ es ++ e ∷ back) × (ls ≡ back ++ ys)) ⊎ ((m : List X) × (es ≡ xs ++ m))
within [] ys es ls e is = inr (es, refl)
within (x ∷ xs) ys [] ls e is =
    let first : x ≡ e = cc in
    let rest : xs ++ ys ≡ ls = cc in
    inl (xs, (λ i. first i ∷ xs), sym rest)
within (x ∷ xs) ys (z ∷ es) ls e is =
    let first : x ≡ z = cc in
    let rest : xs ++ ys ≡ es ++ e ∷ ls = cc in
    ⊎_elim (λ b. inl (b.0, (λ i. first i ∷ b.1 i), b.2)) (λ m. inr (m.0, (λ i. sym first i ∷ m.1 i))) (within xs ys es ls e rest)

-- who is found in a list of entries is one of its keys
has_among : {X : Type 0} (key : Key) (es : List (Key × X)) → Has key es → IsAmong key (keys_of es)
has_among key [] h = absurd (true≢false (sym h))
has_among {X} key (e ∷ es) h = by_test (is_key key e.0) refl h (has_among key es) where
  by_test : (b : Bool) → is_key key e.0 ≡ b → IsSome (cond b (Some e.1) (lookup (is_key key) es)) → (Has key es → IsAmong key (keys_of es)) → IsAmong key (keys_of (e ∷ es))
  by_test true here f rest = inl (sym (same_key key e.0 here))
  by_test false apart f rest = inr (rest f)

-- of two keys each is the one or the other
two_keys : (a b c : Key) (ks : List Key) → length ks ≡ 2 → IsAmong a ks → IsAmong b ks → IsAmong c ks → a ≢ b → (c ≡ a) ⊎ (c ≡ b)
two_keys a b c [] two ha hb hc apart = absurd ha
two_keys a b c (x ∷ []) two ha hb hc apart = absurd (omega (arith, two))
two_keys a b c (x ∷ y ∷ z ∷ ks) two ha hb hc apart = absurd (omega (arith, two))
two_keys a b c (x ∷ y ∷ []) two (inl ha) (inl hb) hc apart = absurd (apart (ha ∙ sym hb))
two_keys a b c (x ∷ y ∷ []) two (inl ha) (inr (inl hb)) (inl hc) apart = inl (hc ∙ sym ha)
two_keys a b c (x ∷ y ∷ []) two (inl ha) (inr (inl hb)) (inr (inl hc)) apart = inr (hc ∙ sym hb)
two_keys a b c (x ∷ y ∷ []) two (inr (inl ha)) (inl hb) (inl hc) apart = inr (hc ∙ sym hb)
two_keys a b c (x ∷ y ∷ []) two (inr (inl ha)) (inl hb) (inr (inl hc)) apart = inl (hc ∙ sym ha)
two_keys a b c (x ∷ y ∷ []) two (inr (inl ha)) (inr (inl hb)) hc apart = absurd (apart (ha ∙ sym hb))
two_keys a b c (x ∷ y ∷ []) two (inl ha) (inr (inl hb)) (inr (inr none)) apart = absurd none
two_keys a b c (x ∷ y ∷ []) two (inl ha) (inr (inr none)) hc apart = absurd none
two_keys a b c (x ∷ y ∷ []) two (inr (inl ha)) (inl hb) (inr (inr none)) apart = absurd none
two_keys a b c (x ∷ y ∷ []) two (inr (inl ha)) (inr (inr none)) hc apart = absurd none
two_keys a b c (x ∷ y ∷ []) two (inr (inr none)) hb hc apart = absurd none

-- the first of some entries is found
first_has : {X : Type 0} (es : List (Key × X)) → 0 < length es → (key : Key) × Has key es
first_has [] some = absurd (omega (arith, some))
first_has {X} (e ∷ es) some = (e.0, ap (λ (b : Bool). is_some (cond b (Some e.1) (lookup (is_key e.0) es))) (self_key e.0))

module _ {T W : Type 0} where
  in_order : (key : Key) (q : Queue T W) → IsIn key q → IsAmong key (order_of q)
  in_order key q (inl w) = among_back key (keys_of q.told) (keys_of q.waiting) (has_among key q.waiting w)
  in_order key q (inr t) = among_front key (keys_of q.told) (keys_of q.waiting) (has_among key q.told t)

  only_two : (a b c : Key) (q : Queue T W) → listeners_of q ≡ 2 → IsIn a q → IsIn b q → IsIn c q → a ≢ b → (c ≡ a) ⊎ (c ≡ b)
  only_two a b c q two ha hb hc apart = two_keys a b c (order_of q) (length-order q ∙ two) (in_order a q ha) (in_order b q hb) (in_order c q hc) apart

  -- whoever is in the queue was in it when one had listened that has no lower serial
  was_there : (key other : Key) (n : ℕ) (log later : QueueLog T W) (q r : Queue T W) → LeadsTo queue_machine log q → LeadsTo queue_machine (log ++ later) r → IsAmong (joins other) (calls_by n log)
      → key.serial ≤ other.serial → IsIn key r → IsIn key q
  was_there key other n log later q r led leads among below here =
      ⊎_elim
      (λ b. listened key log q led (record { earlier = l.earlier; by = l.by; later = b.0; inserted = b.1; stays = (stays_parts key b.0 later (subst (EachStays key) b.2 l.stays)).0 }))
      (λ m. absurd (newer m))
      (within log later l.earlier l.later e l.inserted)
    where
      l : Listens key (log ++ later)
      l = all_listened key (log ++ later) r leads here

      e : Entry (QueueCall T W)
      e = entry l.by (joins key)

      newer : (m : QueueLog T W) × (l.earlier ≡ log ++ m) → ⊥
      newer m =
          let at = stands n (joins other) log among in
          let o : Entry (QueueCall T W) = entry n (joins other) in
          let whole : log ++ later ≡ at.0 ++ o ∷ ((at.1 ++ m.0) ++ e ∷ l.later) =
          l.inserted ∙ (ap (λ (es : QueueLog T W). es ++ e ∷ l.later) (m.1 ∙ (ap (λ (es : QueueLog T W). es ++ m.0) at.2 ∙ append_assoc at.0 (o ∷ at.1) m.0)) ∙ append_assoc at.0 (o ∷ (at.1 ++ m.0)) (e ∷ l.later)) in
          omega (arith, below, serials_rise other key n l.by at.0 (at.1 ++ m.0) l.later r (subst (λ (es : QueueLog T W). LeadsTo queue_machine es r) whole leads))

  -- a removal found the listener notified
  found_told : (key : Key) (old new : Queue T W) (reply : Option (State T W)) → Removes old key true reply new → FindsTold true reply → (notice : Notice T) × (lookup (is_key key) old.told ≡ Some notice)
  found_told key old new None s f = absurd f
  found_told key old new (Some was.Created) s f = absurd f
  found_told key old new (Some (was.Task task)) s f = absurd f
  found_told key old new (Some (was.Notified additional tag)) s f = absurd (true≢false f)
  found_told key old new (Some (was.Lost additional tag)) s f = (record { additional = additional; tag = tag }, s.1)
  found_told key old new (Some (was.Passed to)) s f = let v = found_value (lookup (is_key key) old.told) (λ n. PassesTo (to ∷ []) n (told_leaves key old) new) s.1 in (v.0, v.1)

  left_gone : (key : Key) (log : QueueLog T W) (old new : Queue T W) (reply : Option (State T W)) → LeadsTo queue_machine log old → Removes old key true reply new → FindsTold true reply → IsIn key new → ⊥
  left_gone key log old new None leads s f here = f
  left_gone key log old new (Some state) leads s f here = let gone = removed_gone old key true state new (sound log old leads) s in not_absent key new here gone.absent

  -- one is notified after the drop, so the first one is
  one_told : (a b : Key) (log : QueueLog T W) (old new : Queue T W) (reply : Option (State T W)) (notice : Notice T) → LeadsTo queue_machine log old → calls old (call.Remove a true reply) new
      → lookup (is_key a) old.told ≡ Some notice → IsIn b new → IsTold b new ⊎ ((c : Key) × IsTold c new)
  one_told a b log old new reply notice leads step told (inr t) = inl t
  one_told a b log old new reply notice leads step told (inl w) = by_many (how_many 1 notice.additional (told_leaves a old)) refl where
    by_many : (n : ℕ) → how_many 1 notice.additional (told_leaves a old) ≡ n → IsTold b new ⊎ ((c : Key) × IsTold c new)
    by_many zero none =
        let lost = passes_on_unwanted a log old new notice reply leads told step none in
        let same : new ≡ told_leaves a old = lost.1 in
        let waits : 0 < length old.waiting = has_length b old.waiting (subst (λ (q : Queue T W). Waits b q) same w) in
        let others : 0 < length (told_leaves a old).told = busy notice.additional (length (told_leaves a old).told) (length old.waiting) waits none in
        let first = first_has (told_leaves a old).told others in
        inr (first.0, subst (λ (q : Queue T W). IsTold first.0 q) (sym same) first.1)
      where
        busy : (additional : Bool) (told waiting : ℕ) → 0 < waiting → min (cond additional 1 (1 - told)) waiting ≡ 0 → 0 < told
        busy true told waiting some none' = omega (arith, some, none')
        busy false told waiting some none' = omega (arith, some, none')
    by_many (suc zero) one = let p = passes_on_wanted a log old new notice reply leads told step one in let goes = p.2 in inr (p.0, ap is_some goes.told)
    by_many (suc (suc n)) many = absurd (omega (arith, many, at_most notice.additional (length (told_leaves a old).told) (length old.waiting))) where
      at_most : (additional : Bool) (told waiting : ℕ) → min (cond additional 1 (1 - told)) waiting ≤ 1
      at_most true told waiting = omega arith
      at_most false told waiting = omega arith

  -- so whoever has nobody before it is notified
  next_told : (a b : Key) (log whole : QueueLog T W) (old new : Queue T W) (reply : Option (State T W)) → LeadsTo queue_machine log old → LeadsTo queue_machine whole new → calls old (call.Remove a true reply) new → FindsTold true reply
      → IsIn b new → ((c : Key) → IsIn c new → c.serial ≤ b.serial → c ≡ b) → IsTold b new
  next_told a b log whole old new reply leads led step finds here first =
      let t = found_told a old new reply step.0 finds in
      ⊎_elim (λ told. told) later (one_told a b log old new reply t.0 leads step t.1 here)
    where
      later : (c : Key) × IsTold c new → IsTold b new
      later c =
          dite (dec_lt b.serial c.0.serial) (λ less. told_first b c.0 whole new led less c.1 here)
          (λ no. let most : c.0.serial ≤ b.serial = omega (arith, no) in subst (λ (k : Key). IsTold k new) (first c.0 (inr c.1) most) c.1)

  pub next_removed : (a b : Key) (x y m n told : ℕ) (former reply : Option (State T W)) (propagate : Bool) (v w : View (Queue T W) (QueueCall T W)) (earlier between later : QueueLog T W) (before after : Queue T W)
      → Leads queue_machine v (call.Remove b propagate reply) before after w → OwnsListener b v.mine
      → v.seen ≡ earlier ++ entry m (call.Counts told 2) ∷ (between ++ entry n (call.Remove a true former) ∷ later)
      → IsAmong (joins a) (calls_by x earlier) → IsAmong (joins b) (calls_by y earlier) → FindsTold true former → FindsTold propagate reply
  next_removed a b x y m n told former reply propagate v w earlier between later before after l own is in_a in_b finds =
      told_removed b (v.seen ++ l.between) before after propagate reply l.runs (told_at_call b v w (call.Remove b propagate reply) log later next before after l own seen led now) l.step
    where
      counts : Entry (QueueCall T W)
      counts = entry m (call.Counts told 2)

      drops : Entry (QueueCall T W)
      drops = entry n (call.Remove a true former)

      front : QueueLog T W
      front = earlier ++ counts ∷ between

      log : QueueLog T W
      log = front ++ drops ∷ []

      whole : v.seen ++ l.between ≡ front ++ drops ∷ (later ++ l.between)
      whole = ap (λ (es : QueueLog T W). es ++ l.between) is ∙ (append_assoc earlier (counts ∷ (between ++ drops ∷ later)) l.between ∙ (ap (λ (es : QueueLog T W). earlier ++ counts ∷ es) (append_assoc between (drops ∷ later) l.between) ∙ sym (append_assoc earlier (counts ∷ between) (drops ∷ (later ++ l.between)))))

      seen : v.seen ≡ log ++ later
      seen = is ∙ (sym (append_assoc earlier (counts ∷ between) (drops ∷ later)) ∙ sym (append_assoc front (drops ∷ []) later))

      dropped : Parts front (drops ∷ (later ++ l.between)) before
      dropped = parts (v.seen ++ l.between) front (drops ∷ (later ++ l.between)) before l.runs whole

      old : Queue T W
      old = dropped.0

      leads : LeadsTo queue_machine front old
      leads = dropped.1

      run : Runs calls old (drops ∷ (later ++ l.between)) before
      run = dropped.2

      next : Queue T W
      next = run.0

      led : LeadsTo queue_machine log next
      led = (leads.0, leads.1, run_more front drops leads.0 old next leads.2 run.1)

      counted : Parts earlier (counts ∷ between) old
      counted = parts front earlier (counts ∷ between) old leads refl

      at_count : Queue T W
      at_count = counted.0

      step : Runs calls at_count (counts ∷ between) old
      step = counted.2

      in_log : IsAmong (joins b) (calls_by y log)
      in_log = among_more y (joins b) front (drops ∷ []) (among_more y (joins b) earlier (counts ∷ between) in_b)

      b_next : IsIn b next
      b_next = was_there b b y log (later ++ l.between) next before led (subst (λ (es : QueueLog T W). LeadsTo queue_machine es before) (whole ∙ sym (append_assoc front (drops ∷ []) (later ++ l.between))) l.runs) in_log (omega arith) (own_at_call b v w (call.Remove b propagate reply) before after l own)

      in_then : (c : Key) → IsIn c next → c.serial ≤ b.serial → IsIn c at_count
      in_then c here below = was_there c b y earlier (counts ∷ (between ++ drops ∷ [])) at_count next counted.1 (subst (λ (es : QueueLog T W). LeadsTo queue_machine es next) (append_assoc earlier (counts ∷ between) (drops ∷ [])) led) in_b below here

      a_old : IsIn a old
      a_old = let t = found_told a old next former run.1.0 finds in inr (ap is_some t.1)

      a_then : IsIn a at_count
      a_then = was_there a a x earlier (counts ∷ between) at_count old counted.1 leads in_a (omega arith) a_old

      gone : IsIn a next → ⊥
      gone = left_gone a front old next former leads run.1.0 finds

      alone : (c : Key) → IsIn c next → c.serial ≤ b.serial → c ≡ b
      alone c here below =
          ⊎_elim (λ is_a. absurd (gone (subst (λ (k : Key). IsIn k next) is_a here))) (λ is_b. is_b)
          (only_two a b c at_count (sym step.1.0.1) a_then (in_then b b_next (omega arith)) (in_then c here below) (λ same. gone (subst (λ (k : Key). IsIn k next) (sym same) b_next)))

      now : IsTold b next
      now = next_told a b front log old next former leads led run.1 finds b_next alone
