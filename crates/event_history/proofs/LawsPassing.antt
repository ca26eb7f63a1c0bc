-- A notified listener that is dropped passes its notification on to the first that waits.
use Rattle.std.proofs.Common.{◌≡◌, ℕ, zero, suc, min, Bool, true, false, cond, List, [], ◌∷◌, ◌++◌, length, take, refl, sym, ap, ◌∙◌, subst, inl, inr, arith, true≢false, append-nil, Option, Some, None}
use Rattle.std.specs.Map.{keys_of, lookup}
use Rattle.event_queue.specs.declared.key.Key.{Key}
use Rattle.event_queue.specs.declared.notice.Notice.{Notice}
use Rattle.event_queue.specs.declared.reply.State.{State}
use Rattle.event_queue.specs.declared.reply.State.TheVariants as was
use Rattle.event_queue.specs.Key.{is_key}
use Rattle.event_queue.specs.Queue.{Queue, IsQueue, how_many, after_telling, told_leaves}
use Rattle.event_queue.specs.Remove.{Removes, PassesTo, after_passing}
use Rattle.event_queue.proofs.LawLemmas.{untold-waiting}
use Rattle.event_queue.proofs.QueueLemmas.{IsQueue-told_leaves}
use Rattle.event_history.specs.declared.queue_call.QueueCall.TheVariants as call
use Rattle.event_history.specs.History.{LeadsTo}
use Rattle.event_history.specs.Queue.{calls, queue_machine}
use Rattle.event_history.specs.Laws.{QueueLog, GoesToFirst}
use Rattle.event_history.proofs.LawsStays.{found_value, self_key}
use Rattle.event_history.proofs.LawsOrder.{IsSound, sound, nobody_told}

module _ {X : Type 0} where
  two_answers : (o : Option X) (x : X) → o ≡ None → o ≡ Some x → ⊥
  two_answers o x none some = absurd (let e : None ≡ Some x = sym none ∙ some in cc)

  same_found : (o : Option X) (x y : X) → o ≡ Some x → o ≡ Some y → x ≡ y
  same_found o x y one two = let e : Some x ≡ Some y = sym one ∙ two in cc

  -- a newcomer at the end is found, if nobody before it has its key
  lookup_last : (key : Key) (es : List (Key × X)) (x : X) → lookup (is_key key) es ≡ None → lookup (is_key key) (es ++ (key, x) ∷ []) ≡ Some x
  lookup_last key [] x none = ap (λ (b : Bool). cond b (Some x) None) (self_key key)
  lookup_last key (e ∷ es) x none = by_test (is_key key e.0) refl (lookup_last key es x) where
    by_test : (b : Bool) → is_key key e.0 ≡ b → (lookup (is_key key) es ≡ None → lookup (is_key key) (es ++ (key, x) ∷ []) ≡ Some x) → lookup (is_key key) ((e ∷ es) ++ (key, x) ∷ []) ≡ Some x
    by_test true here rest = absurd (let gone : Some e.1 ≡ None = rw here at none in cc)
    by_test false apart rest = rw apart (rest (rw apart at none))

  -- one was taken of a list, and it is the first
  the_first : (n : ℕ) (es : List (Key × X)) (to : Key) → n ≡ 1 → keys_of (take n es) ≡ to ∷ [] → (x : X) × (rest : List (Key × X)) × (es ≡ (to, x) ∷ rest)
  the_first zero es to one taken = absurd (omega (arith, one))
  the_first (suc n) [] to one taken = absurd (cc)
  the_first (suc n) (e ∷ es) to one taken = (e.1, es, (let is : e.0 ≡ to = cc in ap (λ (k : Key). (k, e.1) ∷ es) is))

  none_taken : (n : ℕ) (es : List (Key × X)) (to : Key) → n ≡ 0 → keys_of (take n es) ≡ to ∷ [] → ⊥
  none_taken zero es to none taken = absurd (cc)
  none_taken (suc n) es to none taken = absurd (omega (arith, none))

  one_taken : (wanted : ℕ) (es : List (Key × X)) → min wanted (length es) ≡ 1 → keys_of (take (min wanted (length es)) es) ≡ [] → ⊥
  one_taken wanted [] one taken = absurd (omega (arith, one))
  one_taken wanted (e ∷ es) one taken = let first : keys_of (take 1 (e ∷ es)) ≡ [] = subst (λ (n : ℕ). keys_of (take n (e ∷ es)) ≡ []) one taken in absurd (cc)

module _ {T W : Type 0} where
  told_now : (to : Key) (notice : Notice T) (q new : Queue T W) (task : Option W) (rest : List (Key × Option W)) → IsQueue q → q.waiting ≡ (to, task) ∷ rest → how_many 1 notice.additional q ≡ 1
      → new ≡ after_passing notice q → lookup (is_key to) new.told ≡ Some notice
  told_now to notice q new task rest queue waits one is =
      let found : lookup (is_key to) q.waiting ≡ Some task = ap (lookup (is_key to)) waits ∙ ap (λ (b : Bool). cond b (Some task) (lookup (is_key to) rest)) (self_key to) in
      let tags : take (how_many 1 notice.additional q) (notice.tag ∷ []) ≡ notice.tag ∷ [] = ap (λ (n : ℕ). take n (notice.tag ∷ [])) one in
      let now : new ≡ after_telling notice.additional (notice.tag ∷ []) q = is ∙ ap (λ (ts : List T). after_telling notice.additional ts q) tags in
      let told : new.told ≡ q.told ++ (to, notice) ∷ [] = ap (λ (r : Queue T W). r.told) now ∙ ap (λ (ws : List (Key × Option W)). (after_telling notice.additional (notice.tag ∷ []) (record q { waiting = ws })).told) waits in
      ap (lookup (is_key to)) told ∙ lookup_last to q.told notice (untold-waiting to q task queue found)

  -- where its kind wants one
  passes : (key : Key) (old new : Queue T W) (notice : Notice T) (reply : Option (State T W)) → IsQueue old → lookup (is_key key) old.told ≡ Some notice → Removes old key true reply new
      → how_many 1 notice.additional (told_leaves key old) ≡ 1 → (to : Key) × (reply ≡ Some (was.Passed to)) × GoesToFirst to notice old new
  passes key old new notice None queue told s one = absurd (two_answers _ notice s.0.untold told)
  passes key old new notice (Some was.Created) queue told s one = absurd (two_answers _ notice (untold-waiting key old None queue s.0) told)
  passes key old new notice (Some (was.Task task)) queue told s one = absurd (two_answers _ notice (untold-waiting key old (Some task) queue s.0) told)
  passes key old new notice (Some (was.Notified additional tag)) queue told s one = absurd (true≢false s.0)
  passes key old new notice (Some (was.Lost additional tag)) queue told s one =
      let p : PassesTo [] notice (told_leaves key old) new = subst (λ (n : Notice T). PassesTo [] n (told_leaves key old) new) (same_found _ _ notice s.1 told) s.2 in
      absurd (one_taken _ old.waiting one p.told)
  passes key old new notice (Some (was.Passed to)) queue told s one =
      let f = found_value (lookup (is_key key) old.told) (λ n. PassesTo (to ∷ []) n (told_leaves key old) new) s.1 in
      let p : PassesTo (to ∷ []) notice (told_leaves key old) new = subst (λ (n : Notice T). PassesTo (to ∷ []) n (told_leaves key old) new) (same_found _ f.0 notice f.1 told) f.2 in
      let first = the_first (how_many 1 notice.additional (told_leaves key old)) old.waiting to one p.told in
      let left = IsQueue-told_leaves key old notice queue told in
      (to, refl, record { task = first.0; rest = first.1; waited = first.2; told = told_now to notice (told_leaves key old) new first.0 first.1 left first.2 one p.queue })

  -- where it wants none
  loses : (key : Key) (old new : Queue T W) (notice : Notice T) (reply : Option (State T W)) → IsQueue old → lookup (is_key key) old.told ≡ Some notice → Removes old key true reply new
      → how_many 1 notice.additional (told_leaves key old) ≡ 0 → (reply ≡ Some (was.Lost notice.additional notice.tag)) × (new ≡ told_leaves key old)
  loses key old new notice None queue told s none = absurd (two_answers _ notice s.0.untold told)
  loses key old new notice (Some was.Created) queue told s none = absurd (two_answers _ notice (untold-waiting key old None queue s.0) told)
  loses key old new notice (Some (was.Task task)) queue told s none = absurd (two_answers _ notice (untold-waiting key old (Some task) queue s.0) told)
  loses key old new notice (Some (was.Notified additional tag)) queue told s none = absurd (true≢false s.0)
  loses key old new notice (Some (was.Passed to)) queue told s none =
      let f = found_value (lookup (is_key key) old.told) (λ n. PassesTo (to ∷ []) n (told_leaves key old) new) s.1 in
      let p : PassesTo (to ∷ []) notice (told_leaves key old) new = subst (λ (n : Notice T). PassesTo (to ∷ []) n (told_leaves key old) new) (same_found _ f.0 notice f.1 told) f.2 in
      absurd (none_taken (how_many 1 notice.additional (told_leaves key old)) old.waiting to none p.told)
  loses key old new notice (Some (was.Lost additional tag)) queue told s none =
      let same : record { additional = additional; tag = tag } ≡ notice = same_found _ _ notice s.1 told in
      let p : PassesTo [] notice (told_leaves key old) new = subst (λ (n : Notice T). PassesTo [] n (told_leaves key old) new) same s.2 in
      let q = told_leaves key old in
      let tags : take (how_many 1 notice.additional q) (notice.tag ∷ []) ≡ [] = ap (λ (n : ℕ). take n (notice.tag ∷ [])) none in
      let still : after_telling notice.additional [] q ≡ q = λ i. record q { told = append-nil q.told i } in
      (ap (λ (n : Notice T). Some (was.Lost n.additional n.tag)) same, p.queue ∙ ap (λ (ts : List T). after_telling notice.additional ts q) tags ∙ still)

  told_queue : (key : Key) (notice : Notice T) (q : Queue T W) → IsSound q → lookup (is_key key) q.told ≡ Some notice → IsQueue q
  told_queue key notice q (inl queue) told = queue
  told_queue key notice q (inr empty) told = absurd (nobody_told key q empty (rw told refl))

  pub passes_on_wanted : (key : Key) (log : QueueLog T W) (old new : Queue T W) (notice : Notice T) (reply : Option (State T W)) → LeadsTo queue_machine log old
      → lookup (is_key key) old.told ≡ Some notice → calls old (call.Remove key true reply) new → how_many 1 notice.additional (told_leaves key old) ≡ 1
      → (to : Key) × (reply ≡ Some (was.Passed to)) × GoesToFirst to notice old new
  passes_on_wanted key log old new notice reply leads told s = passes key old new notice reply (told_queue key notice old (sound log old leads) told) told s.0

  pub passes_on_unwanted : (key : Key) (log : QueueLog T W) (old new : Queue T W) (notice : Notice T) (reply : Option (State T W)) → LeadsTo queue_machine log old
      → lookup (is_key key) old.told ≡ Some notice → calls old (call.Remove key true reply) new → how_many 1 notice.additional (told_leaves key old) ≡ 0
      → (reply ≡ Some (was.Lost notice.additional notice.tag)) × (new ≡ told_leaves key old)
  passes_on_unwanted key log old new notice reply leads told s = loses key old new notice reply (told_queue key notice old (sound log old leads) told) told s.0
