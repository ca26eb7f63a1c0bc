-- How long the two lists of a queue are after each step.
use Rattle.std.proofs.Common.{◌≡◌, ◌+◌, true, false, length, refl, ap, ◌∙◌, arith, Option, Some, None, IsSomeAnd}
use Rattle.std.specs.Map.{lookup}
use Rattle.std.proofs.lemmas.Map.{length-set_value}
use Rattle.event_queue.specs.declared.key.Key.{Key}
use Rattle.event_queue.specs.declared.notice.Notice.{Notice}
use Rattle.event_queue.specs.declared.reply.RegisterResult.{RegisterResult}
use Rattle.event_queue.specs.declared.reply.RegisterResult.TheVariants.{Notified, Registered, NeverInserted}
use Rattle.event_queue.specs.declared.reply.State.{State}
use Rattle.event_queue.specs.declared.reply.State.TheVariants.{Created, Notified as WasNotified, Task, Passed, Lost}
use Rattle.event_queue.specs.Key.{is_key}
use Rattle.event_queue.specs.Queue.{Queue, told_leaves}
use Rattle.event_queue.specs.Remove.{Removes}
use Rattle.event_wait.specs.Line.{left_by, Looked}
use Rattle.event_wait.specs.Left.{left_as, told_of, waited_of}
use Rattle.event_queue.specs.Exchange.{RegistersWith}
use Rattle.event_queue.proofs.OrderLemmas.{length-remove_entry}

module _ {T W : Type 0} where
  told_shorter : (key : Key) (old : Queue T W) (found : Option (Notice T)) (P : Notice T → Type 0) → lookup (is_key key) old.told ≡ found → IsSomeAnd found P → length (told_leaves key old).told + 1 ≡ length old.told
  told_shorter key old None P is h = absurd h
  told_shorter key old (Some notice) P is h = length-remove_entry key old.told notice is

  pub looked : {C : Type 0} (exchanged : C → Option W → W → C → Type 0) (old new : Queue T W) (key : Key) (before after : C) (reply : RegisterResult T) → RegistersWith exchanged old key before reply new after
      → Looked exchanged before reply after × ((length new.told + left_by reply ≡ length old.told) × (length new.waiting ≡ length old.waiting))
  looked exchanged old new key before after (Notified tag) h = (
    h.2,
    (
      ap (λ (q : Queue T W). length q.told + 1) h.1 ∙ told_shorter key old (lookup (is_key key) old.told) (λ notice. notice.tag ≡ tag) refl h.0,
      ap (λ (q : Queue T W). length q.waiting) h.1,
    ),
  )
  looked exchanged old new key before after Registered h = (
    record { handed_out = h.handed_out; task = h.task; made = h.made },
    (
      omega (arith, ap (λ (q : Queue T W). length q.told) h.stored),
      ap (λ (q : Queue T W). length q.waiting) h.stored ∙ length-set_value (is_key key) old.waiting (Some h.task),
    ),
  )
  looked exchanged old new key before after NeverInserted h = (
    h.2,
    (
      omega (arith, ap (λ (q : Queue T W). length q.told) h.1),
      ap (λ (q : Queue T W). length q.waiting) h.1,
    ),
  )

  pub removed : (old new : Queue T W) (key : Key) (reply : Option (State T W)) → Removes old key false reply new
      → (length new.told + told_of (left_as reply) ≡ length old.told) × (length new.waiting + waited_of (left_as reply) ≡ length old.waiting)
  removed old new key None h = (
    omega (arith, ap (λ (q : Queue T W). length q.told) h.1),
    omega (arith, ap (λ (q : Queue T W). length q.waiting) h.1),
  )
  removed old new key (Some Created) h = (
    omega (arith, ap (λ (q : Queue T W). length q.told) h.1),
    omega (arith, ap (λ (q : Queue T W). length q.waiting) h.1, length-remove_entry key old.waiting None h.0),
  )
  removed old new key (Some (Task task)) h = (
    omega (arith, ap (λ (q : Queue T W). length q.told) h.1),
    omega (arith, ap (λ (q : Queue T W). length q.waiting) h.1, length-remove_entry key old.waiting (Some task) h.0),
  )
  removed old new key (Some (WasNotified additional tag)) h = (
    omega (arith, ap (λ (q : Queue T W). length q.told) h.2, length-remove_entry key old.told _ h.1),
    omega (arith, ap (λ (q : Queue T W). length q.waiting) h.2),
  )
  removed old new key (Some (Passed to)) h = absurd (let no : false ≡ true = h.0 in cc)
  removed old new key (Some (Lost additional tag)) h = absurd (let no : false ≡ true = h.0 in cc)
