-- What the loop of a notification keeps, and the laws of its step.
use Rattle.std.proofs.Common.{◌≡◌, ℕ, ◌+◌, ◌<◌, ◌≤◌, min, max, Bool, true, false, [], ◌∷◌, ◌++◌, length, refl, sym, ap, ◌∙◌, arith, rules, Result, Ok, Err, IsOk, IsTrue, IsFalse}
use Rattle.std.proofs.Common.{length-append, length-drop, append-nil}
use Rattle.std.specs.List.{FoldsTo}
use Rattle.std.specs.declared.alloc.AllocError.{AllocError}
use Rattle.event_queue.specs.declared.reply.NotifyError.{NotifyError}
use Rattle.event_queue.specs.Queue.{Queue, IsQueue, order_of, listeners_of, how_many, after_telling, tasks_of}
use Rattle.event_queue.specs.Notify.{Tells, Notifies, told_by, IsNotification}
use Rattle.event_queue.proofs.TellingLemmas.{FoldsTo-append, after_telling-push, tasks_of-push, order_of-after_telling, length-after_telling}

module _ {T W N S : Type 0} (gives : N → Result T AllocError → N → Type 0) (can_tag : N → Type 0) (woke : S → W → S → Type 0) where
  -- so many were told, each with the next tag, and their tasks woken
  pub record ToldSoFar (additional : Bool) (old : Queue T W) (source : N) (sink : S) (told : ℕ) (new : Queue T W) (source' : N) (sink' : S) : Type 0 where
    pub tells : Tells gives additional old source told new source'
    pub wakes : FoldsTo woke sink (tasks_of told old) sink'
    pub taggable : can_tag source'
    pub queue : IsQueue new

  pub none_told : (additional : Bool) (old : Queue T W) (source : N) (sink : S) → can_tag source → IsQueue old → ToldSoFar additional old source sink 0 old source sink
  none_told additional old source sink taggable queue = record {
    tells = record { tags = []; given = refl; as_many = refl; queue = λ i. record old { told = sym (append-nil old.told) i } };
    wakes = refl;
    taggable = taggable;
    queue = queue;
  }

  pub one_more_told : (additional : Bool) (old : Queue T W) (source : N) (sink : S) (told : ℕ) (mid : Queue T W) (source' : N) (sink' : S) (tag : T) (new : Queue T W)
      (source'' : N) (sink'' : S) → ToldSoFar additional old source sink told mid source' sink' → gives source' (Ok tag) source'' → can_tag source''
      → new ≡ after_telling additional (tag ∷ []) mid → FoldsTo woke sink' (tasks_of 1 mid) sink'' → IsQueue new → ToldSoFar additional old source sink (told + 1) new source'' sink''
  one_more_told additional old source sink told mid source' sink' tag new source'' sink'' so_far given taggable now wakes queue =
      let tags = so_far.tells.tags in
      let tasks : tasks_of (told + 1) old ≡ tasks_of told old ++ tasks_of 1 mid =
      rw (← so_far.tells.as_many, so_far.tells.queue) (tasks_of-push additional tags old) in
      record {
        tells = record {
          tags = tags ++ tag ∷ [];
          given = FoldsTo-append _ source tags source' (tag ∷ []) source'' so_far.tells.given (source'', given, refl);
          as_many = omega (arith, length-append tags (tag ∷ []), so_far.tells.as_many);
          queue = now ∙ ap (after_telling additional (tag ∷ [])) so_far.tells.queue ∙ after_telling-push additional tags tag old;
        };
        wakes = rw tasks (FoldsTo-append woke sink (tasks_of told old) sink' (tasks_of 1 mid) sink'' so_far.wakes wakes);
        taggable = taggable;
        queue = queue;
      }

module _ {T W N : Type 0} (gives : N → Result T AllocError → N → Type 0) where
  -- somebody waits still, where fewer were told than there were to tell
  pub next_waits : (count : ℕ) (additional : Bool) (old : Queue T W) (source : N) (told : ℕ) (new : Queue T W) (source' : N) → Tells gives additional old source told new source'
      → told < how_many count additional old → 0 < length new.waiting
  next_waits count additional old source told new source' tells more =
      rw tells.queue (omega (arith, length-drop (length tells.tags) old.waiting, tells.as_many))

  -- the laws of the step

  Notifies-order : (count : ℕ) (additional : Bool) (old : Queue T W) (source : N) (reply : Result ℕ NotifyError) (new : Queue T W) (source' : N)
      → Notifies gives count additional old source reply new source' → order_of new ≡ order_of old
  Notifies-order count additional old source (Ok told) new source' step =
      ap order_of step.1.queue ∙ order_of-after_telling additional step.1.tags old
  Notifies-order count additional old source (Err error) new source' step =
      ap order_of step.1.tells.queue ∙ order_of-after_telling additional step.1.tells.tags old

  Notifies-told : (count : ℕ) (additional : Bool) (old : Queue T W) (source : N) (reply : Result ℕ NotifyError) (new : Queue T W) (source' : N)
      → Notifies gives count additional old source reply new source' → IsOk reply → length new.told ≡ length old.told + how_many count additional old
  Notifies-told count additional old source (Ok told) new source' step ok =
      let tells = step.1 in
      let within : length tells.tags ≤ length old.waiting = omega (arith, tells.as_many, step.0) in
      let count = length-after_telling additional tells.tags old within in
      rw tells.queue (omega (arith, count, tells.as_many, step.0))
  Notifies-told count additional old source (Err error) new source' step ok = absurd (cc)

  -- how many are told where no tag is refused
  Notifies-default : (count : ℕ) (additional : Bool) (old : Queue T W) (source : N) (reply : Result ℕ NotifyError) (new : Queue T W) (source' : N)
      → Notifies gives count additional old source reply new source' → IsOk reply → IsFalse additional
      → length new.told ≡ max (length old.told) (min count (listeners_of old))
  Notifies-default count false old source reply new source' step ok kind =
      omega (arith, Notifies-told count false old source reply new source' step ok)
  Notifies-default count true old source reply new source' step ok kind = absurd (cc)

  Notifies-additional : (count : ℕ) (additional : Bool) (old : Queue T W) (source : N) (reply : Result ℕ NotifyError) (new : Queue T W) (source' : N)
      → Notifies gives count additional old source reply new source' → IsOk reply → IsTrue additional
      → length new.told ≡ length old.told + min count (length old.waiting)
  Notifies-additional count true old source reply new source' step ok kind =
      omega (arith, Notifies-told count true old source reply new source' step ok)
  Notifies-additional count false old source reply new source' step ok kind = absurd (cc)

  -- the laws of a notification follow from its step and its wakes
  pub IsNotification-step : {S : Type 0} (woke : S → W → S → Type 0) (count : ℕ) (additional : Bool) (old : Queue T W) (source : N) (sink : S) (reply : Result ℕ NotifyError) (new : Queue T W)
      (source' : N) (sink' : S) → IsQueue new → Notifies gives count additional old source reply new source' → FoldsTo woke sink (tasks_of (told_by reply) old) sink'
      → IsNotification gives woke count additional old source sink reply new source' sink'
  IsNotification-step woke count additional old source sink reply new source' sink' queue step wakes = record {
    step = step;
    wakes = wakes;
    queue = queue;
    order = Notifies-order count additional old source reply new source' step;
    serial = search rules;
    default_leaves = Notifies-default count additional old source reply new source' step;
    additional_tells = Notifies-additional count additional old source reply new source' step;
    unrefused = search rules;
  }
