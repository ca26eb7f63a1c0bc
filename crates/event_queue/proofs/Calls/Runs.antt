-- Runs of calls: one more step, a list of tags as a source, and who is gone stays gone.
use Rattle.std.proofs.Common.{◌≡◌, ℕ, ◌≤◌, Bool, List, [], ◌∷◌, ◌++◌, take, length, refl, sym, ap, ◌∙◌, subst, arith, Option, Some, None, Result, Ok, Err, append_assoc, append-nil, length-append}
use Rattle.std.proofs.Math.Seq.{take-append_seam}
use Rattle.std.specs.List.{FoldsTo, AllByRecursion}
use Rattle.std.specs.Map.{keys_of, remove_entry}
use Rattle.std.proofs.lemmas.Bool.{cond_both}
use Rattle.event_queue.specs.declared.key.Key.{Key}
use Rattle.event_queue.specs.declared.call.Call.{Call}
use Rattle.event_queue.specs.declared.call.Reply.{Reply}
use Rattle.event_queue.specs.declared.reply.ListenError.{ListenError}
use Rattle.event_queue.specs.declared.reply.ListenError.TheVariants.{Memory, SerialsUsedUp}
use Rattle.event_queue.specs.declared.reply.NotifyError.{NotifyError}
use Rattle.event_queue.specs.declared.reply.RegisterResult.{RegisterResult}
use Rattle.event_queue.specs.declared.reply.RegisterResult.TheVariants.{Notified, Registered, NeverInserted}
use Rattle.event_queue.specs.declared.reply.State.{State}
use Rattle.event_queue.specs.declared.reply.State.TheVariants.{Created, Notified as WasNotified, Task, Passed, Lost}
use Rattle.event_queue.specs.Key.{is_key}
use Rattle.event_queue.specs.Queue.{Queue, IsQueue, IsGone, order_of, after_telling, told_leaves, waiting_leaves}
use Rattle.event_queue.specs.Insert.{Inserts}
use Rattle.event_queue.specs.Register.{Registers, after_storing}
use Rattle.event_queue.specs.Remove.{Removes}
use Rattle.event_queue.specs.Notify.{Notifies, GivesTags}
use Rattle.event_queue.specs.Run.{NotifiesWith, Step, Runs, RunsAll, woken_by}
use Rattle.event_queue.specs.Run.{TakesFirst}
use Rattle.event_queue.proofs.LawLemmas.{Propagates, propagates-passed, propagates-lost}
use Rattle.event_queue.proofs.OrderLemmas.{All-append, All-front, All-back, other_serial}
use Rattle.event_queue.proofs.QueueLemmas.{order_of-push, order_of-after_storing, IsAbsent-none, IsGone-none}
use Rattle.event_queue.proofs.TellingLemmas.{FoldsTo-append, order_of-after_telling}

-- a list of tags as a source

module _ {T N : Type 0} (tags_of : N → List T) where
  gives_front : (source : N) (tags : List T) (source' : N) → GivesTags (λ before answer after. TakesFirst (tags_of before) answer (tags_of after)) source tags source'
      → tags_of source ≡ tags ++ tags_of source'
  gives_front source [] source' given = ap tags_of given
  gives_front source (tag ∷ tags) source' given =
      given.1 ∙ ap (λ rest. tag ∷ rest) (gives_front given.0 tags source' given.2)

  pub NotifiesWith-from : {W : Type 0} (count : ℕ) (additional : Bool) (old : Queue T W) (source : N) (answer : Result ℕ NotifyError) (new : Queue T W) (source' : N)
      → Notifies (λ before answer after. TakesFirst (tags_of before) answer (tags_of after)) count additional old source answer new source'
      → NotifiesWith count additional (tags_of source) old answer new
  NotifiesWith-from count additional old source (Ok told) new source' step =
      let tells = step.1 in
      let split = gives_front source tells.tags source' tells.given in
      let front : take told (tags_of source) ≡ tells.tags = rw (← tells.as_many, split) (take-append_seam tells.tags (tags_of source')) in
      let within : told ≤ length (tags_of source) = rw split (omega (arith, tells.as_many, length-append tells.tags (tags_of source'))) in
      (step.0, within, tells.queue ∙ ap (λ tags. after_telling additional tags old) (sym front))
  NotifiesWith-from count additional old source (Err error) new source' step =
      let tells = step.1.tells in
      let none = step.1.refuses.0 in
      let all : tags_of source ≡ tells.tags = gives_front source tells.tags step.1.between tells.given ∙ ap (λ rest. tells.tags ++ rest) none ∙ append-nil tells.tags in
      (sym tells.as_many ∙ ap length (sym all), step.0, tells.queue ∙ ap (λ tags. after_telling additional tags old) (sym all))

-- who is gone stays gone

All-remove_entry : {X : Type 0} (P : Key → Type 0) (test : Key → Bool) (entries : List (Key × X)) → AllByRecursion P (keys_of entries) → AllByRecursion P (keys_of (remove_entry test entries))
All-remove_entry P test [] h = tt
All-remove_entry {X} P test (e ∷ es) h =
    let rest = All-remove_entry P test es h.1 in
    cond_both (test e.0) es (e ∷ remove_entry test es) (λ (xs : List (Key × X)). AllByRecursion P (keys_of xs)) (λ _. h.1) (λ _. (h.0, rest))

module _ {T W : Type 0} where
  -- in the same order, with the same next serial
  pub same_order : (key : Key) (old new : Queue T W) → order_of new ≡ order_of old → new.next_serial ≡ old.next_serial → IsGone key old → IsGone key new
  same_order key old new order serial gone =
      IsGone-none key new (rw order (IsAbsent-none key old gone.absent)) (rw serial gone.spent)

  gone-told_leaves : (key other : Key) (q : Queue T W) → IsGone key q → IsGone key (told_leaves other q)
  gone-told_leaves key other q gone =
      let none = IsAbsent-none key q gone.absent in
      let told = All-remove_entry _ (is_key other) q.told (All-front _ (keys_of q.told) (keys_of q.waiting) none) in
      IsGone-none key (told_leaves other q) (All-append _ (keys_of (remove_entry (is_key other) q.told)) (keys_of q.waiting) told (All-back _ (keys_of q.told) (keys_of q.waiting) none)) gone.spent

  gone-waiting_leaves : (key other : Key) (q : Queue T W) → IsGone key q → IsGone key (waiting_leaves other q)
  gone-waiting_leaves key other q gone =
      let none = IsAbsent-none key q gone.absent in
      let waiting = All-remove_entry _ (is_key other) q.waiting (All-back _ (keys_of q.told) (keys_of q.waiting) none) in
      IsGone-none key (waiting_leaves other q)
      (All-append _ (keys_of q.told) (keys_of (remove_entry (is_key other) q.waiting)) (All-front _ (keys_of q.told) (keys_of q.waiting) none) waiting) gone.spent

  gone-after_telling : (key : Key) (additional : Bool) (tags : List T) (q : Queue T W) → IsGone key q → IsGone key (after_telling additional tags q)
  gone-after_telling key additional tags q gone =
      same_order key q (after_telling additional tags q) (order_of-after_telling additional tags q) refl gone

  pub gone-Inserts : (key : Key) (old : Queue T W) (reply : Result Key ListenError) (new : Queue T W) → Inserts old reply new → IsGone key old → IsGone key new
  gone-Inserts key old (Ok joined) new step gone =
      let apart = other_serial key joined (λ same. omega (arith, gone.spent, step.serial)) in
      let none = All-append _ (order_of old) (joined ∷ []) (IsAbsent-none key old gone.absent) (apart, tt) in
      let order = order_of-push old joined None in
      rw step.queue (IsGone-none key _ (rw order none) (omega (arith, gone.spent)))
  gone-Inserts key old (Err Memory) new step gone = rw step.2 gone
  gone-Inserts key old (Err SerialsUsedUp) new step gone = rw step.1 gone

  pub gone-Registers : (key : Key) (old : Queue T W) (other : Key) (task : W) (reply : RegisterResult T) (new : Queue T W) → Registers old other task reply new → IsGone key old → IsGone key new
  gone-Registers key old other task (Notified tag) new step gone = rw step.1 (gone-told_leaves key other old gone)
  gone-Registers key old other task Registered new step gone =
      rw step.1 (same_order key old (after_storing other task old) (order_of-after_storing other task old) refl gone)
  gone-Registers key old other task NeverInserted new step gone = rw step.1 gone

  gone-propagated : (key : Key) (old : Queue T W) (other : Key) (propagate : Bool) (new : Queue T W) → Propagates old other propagate new → IsGone key old → IsGone key new
  gone-propagated key old other propagate new step gone =
      rw step.queue (gone-after_telling key step.notice.additional _ (told_leaves other old) (gone-told_leaves key other old gone))

  pub gone-Removes : (key : Key) (old : Queue T W) (other : Key) (propagate : Bool) (reply : Option (State T W)) (new : Queue T W) → Removes old other propagate reply new
      → IsGone key old → IsGone key new
  gone-Removes key old other propagate None new step gone = rw step.1 gone
  gone-Removes key old other propagate (Some Created) new step gone = rw step.1 (gone-waiting_leaves key other old gone)
  gone-Removes key old other propagate (Some (Task task)) new step gone = rw step.1 (gone-waiting_leaves key other old gone)
  gone-Removes key old other propagate (Some (WasNotified additional tag)) new step gone =
      rw step.2 (gone-told_leaves key other old gone)
  gone-Removes key old other propagate (Some (Passed to)) new step gone =
      gone-propagated key old other propagate new (propagates-passed old other propagate to new step) gone
  gone-Removes key old other propagate (Some (Lost additional tag)) new step gone =
      gone-propagated key old other propagate new (propagates-lost old other propagate additional tag new step) gone

  -- a run with one more step

  pub Runs-push : (old : Queue T W) (calls : List (Call T W)) (replies : List (Reply T W)) (woken : List W) (mid : Queue T W) (call : Call T W) (reply : Reply T W)
      (new : Queue T W) → Runs old calls replies woken mid → Step mid call reply new → IsQueue new
      → Runs old (calls ++ call ∷ []) (replies ++ reply ∷ []) (woken ++ woken_by call reply mid) new
  Runs-push old [] [] woken mid call reply new runs step queue =
      let mid_is = runs.1 in
      (new, [], subst (λ q. Step q call reply new) mid_is step, queue, rw (runs.0, mid_is) (sym (append-nil (woken_by call reply old))), (refl, refl))
  Runs-push old [] (r ∷ replies) woken mid call reply new runs step queue = absurd runs
  Runs-push old (c ∷ calls) [] woken mid call reply new runs step queue = absurd runs
  Runs-push old (c ∷ calls) (r ∷ replies) woken mid call reply new runs step queue = (
    runs.0,
    runs.1 ++ woken_by call reply mid,
    runs.2,
    runs.3,
    ap (λ ws. ws ++ woken_by call reply mid) runs.4
        ∙ append_assoc _ runs.1 _,
    Runs-push runs.0 calls replies runs.1 mid call reply new runs.5 step queue,
  )

  module _ {S : Type 0} (woke : S → W → S → Type 0) where
    -- so many of the calls were made
    pub record RunsSoFar (calls : List (Call T W)) (old : Queue T W) (replies : List (Reply T W)) (sink : S) (yielded rest : List (Call T W)) (new : Queue T W)
        (replies' : List (Reply T W)) (sink' : S) : Type 0 where
      pub runs : RunsAll woke yielded old replies sink new replies' sink'
      pub whole : calls ≡ yielded ++ rest
      pub queue : IsQueue new
      pub gone : (key : Key) → IsGone key old → IsGone key new
      pub serial : old.next_serial ≤ new.next_serial

    pub none_made : (calls : List (Call T W)) (old : Queue T W) (replies : List (Reply T W)) (sink : S) → IsQueue old → RunsSoFar calls old replies sink [] calls old replies sink
    none_made calls old replies sink queue = record {
      runs = record { made = []; woken = []; appended = sym (append-nil replies); runs = (refl, refl); wakes = refl };
      whole = refl;
      queue = queue;
      gone = λ key gone. gone;
      serial = omega arith;
    }

    pub one_more_made : (calls : List (Call T W)) (old : Queue T W) (replies : List (Reply T W)) (sink : S) (yielded rest : List (Call T W)) (mid : Queue T W)
        (replies' : List (Reply T W)) (sink' : S) (call : Call T W) (rest' : List (Call T W)) (reply : Reply T W) (new : Queue T W) (replies'' : List (Reply T W)) (sink'' : S)
        → RunsSoFar calls old replies sink yielded rest mid replies' sink' → rest ≡ call ∷ rest' → Step mid call reply new → IsQueue new
        → FoldsTo woke sink' (woken_by call reply mid) sink'' → ((key : Key) → IsGone key mid → IsGone key new) → mid.next_serial ≤ new.next_serial
        → replies'' ≡ replies' ++ reply ∷ [] → RunsSoFar calls old replies sink (yielded ++ call ∷ []) rest' new replies'' sink''
    one_more_made calls old replies sink yielded rest mid replies' sink' call rest' reply new replies'' sink'' so_far split step queue wakes gone serial pushed =
        let runs = so_far.runs in
        record {
          runs = record {
            made = runs.made ++ reply ∷ [];
            woken = runs.woken ++ woken_by call reply mid;
            appended = pushed ∙ ap (λ rs. rs ++ reply ∷ []) runs.appended ∙ append_assoc replies runs.made (reply ∷ []);
            runs = Runs-push old yielded runs.made runs.woken mid call reply new runs.runs step queue;
            wakes = FoldsTo-append woke sink runs.woken sink' (woken_by call reply mid) sink'' runs.wakes wakes;
          };
          whole = so_far.whole ∙ ap (λ cs. yielded ++ cs) split ∙ sym (append_assoc yielded (call ∷ []) rest');
          queue = queue;
          gone = λ key was. gone key (so_far.gone key was);
          serial = omega (arith, so_far.serial);
        }
