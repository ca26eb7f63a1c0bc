-- What a waiting listener stores next.
use Rattle.std.proofs.Common.{◌≡◌, ◌++◌, ap, Option, arith}
use Rattle.std.specs.Map.{keys_of, set_value}
use Rattle.std.proofs.lemmas.Map.{keys-set_value, length-set_value}
use Rattle.event_queue.specs.declared.key.Key.{Key}
use Rattle.event_queue.specs.Key.{is_key}
use Rattle.event_queue.specs.Queue.{Queue, IsQueue, order_of}
use Rattle.event_queue.proofs.QueueLemmas.{rises_along, IsQueue-from_Rises}

module _ {T W : Type 0} where
  -- the queue once the waiting listener of that key stores this, be it no task
  abbrev pub after_setting : Key → Option W → Queue T W → Queue T W
  after_setting key stored q = record q { waiting = set_value (is_key key) q.waiting stored }

  pub order_of-after_setting : (key : Key) (stored : Option W) (q : Queue T W) → order_of (after_setting key stored q) ≡ order_of q
  order_of-after_setting key stored q =
      ap (λ keys. keys_of q.told ++ keys) (keys-set_value (is_key key) q.waiting stored)

  pub IsQueue-after_setting : (key : Key) (stored : Option W) (q : Queue T W) → IsQueue q → IsQueue (after_setting key stored q)
  IsQueue-after_setting key stored q queue =
      IsQueue-from_Rises _ (rw (order_of-after_setting key stored q) (rises_along q queue)) queue.serial_fits (omega (arith, queue.slots_fit, length-set_value (is_key key) q.waiting stored))
