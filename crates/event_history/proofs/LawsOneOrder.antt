-- One history leads to the same notified listeners and to the same that wait, whichever states it went through.
use Rattle.std.proofs.Common.{◌≡◌, ℕ, zero, suc, Bool, true, false, cond, List, [], ◌∷◌, ◌++◌, length, map, take, drop, refl, sym, ap, ◌∙◌, append-nil, Option, Some, None, Ok, Err}
use Rattle.std.proofs.lemmas.List.{map-append, drop-map}
use Rattle.std.proofs.lemmas.Map.{keys-set_value}
use Rattle.std.proofs.lemmas.Map.Made.{IsSome-lookup_same_keys}
use Rattle.std.specs.Map.{keys_of, lookup, remove_entry}
use Rattle.event_queue.specs.declared.key.Key.{Key}
use Rattle.event_queue.specs.declared.notice.Notice.{Notice}
use Rattle.event_queue.specs.declared.reply.ListenError.TheVariants.{Memory, SerialsUsedUp}
use Rattle.event_queue.specs.declared.reply.State.TheVariants as was
use Rattle.event_queue.specs.declared.reply.RegisterResult.TheVariants as register
use Rattle.event_queue.specs.Key.{is_key}
use Rattle.event_queue.specs.Queue.{Queue, how_many, told_with, after_telling, told_leaves}
use Rattle.event_queue.specs.Remove.{PassesTo}
use Rattle.event_history.specs.declared.queue_call.QueueCall.{QueueCall}
use Rattle.event_history.specs.declared.queue_call.QueueCall.TheVariants as call
use Rattle.event_history.specs.History.{Runs, LeadsTo}
use Rattle.event_history.specs.Queue.{calls, queue_machine, Does, is_empty}
use Rattle.event_history.specs.Laws.{QueueLog, IsTold}
use Rattle.event_history.proofs.LawsStays.{found_value}

-- the keys but the first that is this one
abbrev keys_without : Key → List Key → List Key
keys_without k [] = []
keys_without k (x ∷ xs) = cond (is_key k x) xs (x ∷ keys_without k xs)

keys-without : {X : Type 0} (k : Key) (es : List (Key × X)) → keys_of (remove_entry (is_key k) es) ≡ keys_without k (keys_of es)
keys-without k [] = refl
keys-without {X} k (e ∷ es) = by_test (is_key k e.0) (keys-without k es) where
  by_test : (b : Bool) → keys_of (remove_entry (is_key k) es) ≡ keys_without k (keys_of es) → keys_of (cond b es (e ∷ remove_entry (is_key k) es)) ≡ cond b (keys_of es) (e.0 ∷ keys_without k (keys_of es))
  by_test true rest = refl
  by_test false rest = ap (λ (ks : List Key). e.0 ∷ ks) rest

-- who is notified, each with the kind, and who waits
abbrev Order : Type 0
Order = List (Key × Bool) × List Key

abbrev kind_or : Option Bool → Bool
kind_or None = false
kind_or (Some kind) = kind

abbrev leaves : Key → Order → Order
leaves k s = (remove_entry (is_key k) s.0, s.1)

abbrev telling : Bool → ℕ → Order → Order
telling additional n s = (s.0 ++ map (λ k. (k, additional)) (take n s.1), drop n s.1)

module _ {T : Type 0} where
  abbrev kinds : List (Key × Notice T) → List (Key × Bool)
  kinds es = map (λ e. (e.0, e.1.additional)) es

  kinds-keys : (es : List (Key × Notice T)) → keys_of (kinds es) ≡ keys_of es
  kinds-keys [] = refl
  kinds-keys (e ∷ es) = ap (λ (ks : List Key). e.0 ∷ ks) (kinds-keys es)

  kinds-without : (k : Key) (es : List (Key × Notice T)) → kinds (remove_entry (is_key k) es) ≡ remove_entry (is_key k) (kinds es)
  kinds-without k [] = refl
  kinds-without k (e ∷ es) = by_test (is_key k e.0) (kinds-without k es) where
    by_test : (b : Bool) → kinds (remove_entry (is_key k) es) ≡ remove_entry (is_key k) (kinds es) → kinds (cond b es (e ∷ remove_entry (is_key k) es)) ≡ cond b (kinds es) ((e.0, e.1.additional) ∷ remove_entry (is_key k) (kinds es))
    by_test true rest = refl
    by_test false rest = ap (λ (l : List (Key × Bool)). (e.0, e.1.additional) ∷ l) rest

  kind_found : (k : Key) (es : List (Key × Notice T)) (notice : Notice T) → lookup (is_key k) es ≡ Some notice → lookup (is_key k) (kinds es) ≡ Some notice.additional
  kind_found k [] notice found = absurd (cc)
  kind_found k (e ∷ es) notice found = by_test (is_key k e.0) found (kind_found k es notice) where
    by_test : (b : Bool) → cond b (Some e.1) (lookup (is_key k) es) ≡ Some notice → (lookup (is_key k) es ≡ Some notice → lookup (is_key k) (kinds es) ≡ Some notice.additional)
        → cond b (Some e.1.additional) (lookup (is_key k) (kinds es)) ≡ Some notice.additional
    by_test true here rest = let same : e.1 ≡ notice = cc in ap (λ (n : Notice T). Some n.additional) same
    by_test false there rest = rest there

module _ {T W : Type 0} where
  abbrev shown : Queue T W → Order
  shown q = (kinds q.told, keys_of q.waiting)

  kinds-told_with : (additional : Bool) (tags : List T) (waiting : List (Key × Option W)) → kinds (told_with additional tags waiting) ≡ map (λ k. (k, additional)) (take (length tags) (keys_of waiting))
  kinds-told_with additional [] waiting = refl
  kinds-told_with additional (tag ∷ tags) [] = refl
  kinds-told_with additional (tag ∷ tags) (first ∷ rest) = ap (λ (l : List (Key × Bool)). (first.0, additional) ∷ l) (kinds-told_with additional tags rest)

  shown-telling : (additional : Bool) (tags : List T) (q : Queue T W) → shown (after_telling additional tags q) ≡ telling additional (length tags) (shown q)
  shown-telling additional tags q =
      let told : kinds (q.told ++ told_with additional tags q.waiting) ≡ kinds q.told ++ map (λ k. (k, additional)) (take (length tags) (keys_of q.waiting)) =
      map-append (λ e. (e.0, e.1.additional)) q.told (told_with additional tags q.waiting) ∙ ap (λ (l : List (Key × Bool)). kinds q.told ++ l) (kinds-told_with additional tags q.waiting) in
      let waiting : keys_of (drop (length tags) q.waiting) ≡ drop (length tags) (keys_of q.waiting) = sym (drop-map (λ e. e.0) (length tags) q.waiting) in
      λ i. (told i, waiting i)

  shown-leaves : (k : Key) (q : Queue T W) → shown (told_leaves k q) ≡ leaves k (shown q)
  shown-leaves k q = let left = kinds-without k q.told in λ i. (left i, keys_of q.waiting)

  one_tag : (n : ℕ) (tag : T) (waiting : List (Key × Option W)) (to : Key) → keys_of (take n waiting) ≡ to ∷ [] → length (take n (tag ∷ [])) ≡ 1
  one_tag zero tag waiting to taken = absurd (cc)
  one_tag (suc zero) tag waiting to taken = refl
  one_tag (suc (suc n)) tag waiting to taken = refl

  none_told : (additional : Bool) (tag : T) (n : ℕ) (told : List (Key × Bool)) (waiting : List (Key × Option W)) → keys_of (take n waiting) ≡ [] → telling additional (length (take n (tag ∷ []))) (told, keys_of waiting) ≡ (told, keys_of waiting)
  none_told additional tag zero told waiting taken = let all = append-nil told in λ i. (all i, keys_of waiting)
  none_told additional tag (suc n) told [] taken = let all = append-nil told in λ i. (all i, [])
  none_told additional tag (suc n) told (w ∷ ws) taken = absurd (cc)

  -- what a call makes of it, which its reply says
  abbrev act : QueueCall T W → Order → Order
  act (call.Insert (Ok k)) s = (s.0, s.1 ++ k ∷ [])
  act (call.Insert (Err error)) s = s
  act (call.Register k (register.Notified tag)) s = leaves k s
  act (call.Register k register.Registered) s = s
  act (call.Register k register.NeverInserted) s = s
  act (call.Remove k propagate None) s = s
  act (call.Remove k propagate (Some was.Created)) s = (s.0, keys_without k s.1)
  act (call.Remove k propagate (Some (was.Task task))) s = (s.0, keys_without k s.1)
  act (call.Remove k propagate (Some (was.Notified additional tag))) s = leaves k s
  act (call.Remove k propagate (Some (was.Passed to))) s = telling (kind_or (lookup (is_key k) s.0)) 1 (leaves k s)
  act (call.Remove k propagate (Some (was.Lost additional tag))) s = leaves k s
  act (call.Notify count additional (Ok told)) s = telling additional told s
  act (call.Notify count additional (Err error)) s = telling additional error.told s
  act (call.Counts told total) s = s

  acts : (old new : Queue T W) (c : QueueCall T W) → Does old c new → shown new ≡ act c (shown old)
  acts old new (call.Insert (Ok k)) s =
      let no_task : Option W = None in
      let last : keys_of (old.waiting ++ (k, no_task) ∷ []) ≡ keys_of old.waiting ++ k ∷ [] = map-append (λ e. e.0) old.waiting ((k, no_task) ∷ []) in
      ap shown s.queue ∙ (λ i. (kinds old.told, last i))
  acts old new (call.Insert (Err Memory)) s = ap shown s.2
  acts old new (call.Insert (Err SerialsUsedUp)) s = ap shown s.1
  acts old new (call.Register k (register.Notified tag)) s = ap shown s.1 ∙ shown-leaves k old
  acts old new (call.Register k register.Registered) s = let same = keys-set_value (is_key k) old.waiting (Some s.0) in ap shown s.1.1 ∙ (λ i. (kinds old.told, same i))
  acts old new (call.Register k register.NeverInserted) s = ap shown s.1
  acts old new (call.Remove k propagate None) s = ap shown s.1
  acts old new (call.Remove k propagate (Some was.Created)) s = let left = keys-without k old.waiting in ap shown s.1 ∙ (λ i. (kinds old.told, left i))
  acts old new (call.Remove k propagate (Some (was.Task task))) s = let left = keys-without k old.waiting in ap shown s.1 ∙ (λ i. (kinds old.told, left i))
  acts old new (call.Remove k propagate (Some (was.Notified additional tag))) s = ap shown s.2 ∙ shown-leaves k old
  acts old new (call.Remove k propagate (Some (was.Passed to))) s =
      let f = found_value (lookup (is_key k) old.told) (λ notice. PassesTo (to ∷ []) notice (told_leaves k old) new) s.1 in
      let passes : PassesTo (to ∷ []) f.0 (told_leaves k old) new = f.2 in
      let n : ℕ = how_many 1 f.0.additional (told_leaves k old) in
      let one : length (take n (f.0.tag ∷ [])) ≡ 1 = one_tag n f.0.tag old.waiting to passes.told in
      let kind : f.0.additional ≡ kind_or (lookup (is_key k) (kinds old.told)) = sym (ap kind_or (kind_found k old.told f.0 f.1)) in
      let left = shown-leaves k old in
      ap shown passes.queue ∙ (shown-telling f.0.additional (take n (f.0.tag ∷ [])) (told_leaves k old) ∙ (λ i. telling (kind i) (one i) (left i)))
  acts old new (call.Remove k propagate (Some (was.Lost additional tag))) s =
      let passes : PassesTo [] (record { additional = additional; tag = tag }) (told_leaves k old) new = s.2 in
      let n : ℕ = how_many 1 additional (told_leaves k old) in
      ap shown passes.queue ∙ (shown-telling additional (take n (tag ∷ [])) (told_leaves k old) ∙ (none_told additional tag n (kinds (told_leaves k old).told) old.waiting passes.told ∙ shown-leaves k old))
  acts old new (call.Notify count additional (Ok told)) s = let some = s.1 in ap shown some.2 ∙ (shown-telling additional some.0 old ∙ ap (λ (n : ℕ). telling additional n (shown old)) some.1)
  acts old new (call.Notify count additional (Err error)) s = let some = s.1 in ap shown some.2 ∙ (shown-telling additional some.0 old ∙ ap (λ (n : ℕ). telling additional n (shown old)) some.1)
  acts old new (call.Counts told total) s = ap shown s.2

  abbrev act_each : QueueLog T W → Order → Order
  act_each [] s = s
  act_each (e ∷ es) s = act_each es (act e.call s)

  acts_along : (log : QueueLog T W) (q r : Queue T W) → Runs calls q log r → shown r ≡ act_each log (shown q)
  acts_along [] q r run = sym (ap shown run)
  acts_along (e ∷ es) q r run = acts_along es run.0 r run.2 ∙ ap (act_each es) (acts q run.0 e.call run.1.0)

  shown-empty : (q : Queue T W) → is_empty q → shown q ≡ ([], [])
  shown-empty q empty = let told = empty.0 in let waiting = empty.1 in λ i. (kinds (told i), keys_of (waiting i))

  shown-led : (log : QueueLog T W) (q : Queue T W) → LeadsTo queue_machine log q → shown q ≡ act_each log ([], [])
  shown-led log q leads = acts_along log leads.0 q leads.2 ∙ ap (act_each log) (shown-empty leads.0 leads.1)

  pub one_order : (log : QueueLog T W) (q r : Queue T W) → LeadsTo queue_machine log q → LeadsTo queue_machine log r → (keys_of q.told ≡ keys_of r.told) × (keys_of q.waiting ≡ keys_of r.waiting)
  one_order log q r one other =
      let same : shown q ≡ shown r = shown-led log q one ∙ sym (shown-led log r other) in
      (sym (kinds-keys q.told) ∙ (ap (λ (s : Order). keys_of s.0) same ∙ kinds-keys r.told), ap (λ (s : Order). s.1) same)

  pub told_too : (key : Key) (log : QueueLog T W) (q r : Queue T W) → LeadsTo queue_machine log q → LeadsTo queue_machine log r → IsTold key q → IsTold key r
  told_too key log q r one other told = (IsSome-lookup_same_keys (is_key key) q.told r.told (one_order log q r one other).0).0 told
