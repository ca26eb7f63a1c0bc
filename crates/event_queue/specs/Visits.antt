-- How many nodes of other listeners a call visits, by its answer.
use Rattle.std.specs.Prelude.{ℕ, ◌+◌, Result, Ok, Err, Option, Some, None}
use Rattle.std.specs.Map.{lookup}
use Rattle.event_queue.specs.declared.key.Key.{Key}
use Rattle.event_queue.specs.declared.notice.Notice.{Notice}
use Rattle.event_queue.specs.declared.reply.ListenError.{ListenError}
use Rattle.event_queue.specs.declared.reply.RegisterResult.{RegisterResult}
use Rattle.event_queue.specs.declared.reply.RegisterResult.TheVariants as registration
use Rattle.event_queue.specs.declared.reply.State.{State}
use Rattle.event_queue.specs.declared.reply.State.TheVariants as state
use Rattle.event_queue.specs.Key.{is_key}
use Rattle.event_queue.specs.Queue.{Queue, how_many, told_leaves}

-- the last listener
abbrev pub visits_of_insertion : Result Key ListenError → ℕ
visits_of_insertion (Ok key) = 1
visits_of_insertion (Err error) = 0

-- the two neighbors of a notified listener, which leaves
abbrev pub visits_of_registration : {T : Type 0} → RegisterResult T → ℕ
visits_of_registration (registration.Notified tag) = 2
visits_of_registration registration.Registered = 0
visits_of_registration registration.NeverInserted = 0

module _ {T W : Type 0} where
  -- the listener that a notification is propagated to, if there is one
  abbrev pub visits_of_passing : Option (Notice T) → Key → Queue T W → ℕ
  visits_of_passing None key q = 0
  visits_of_passing (Some notice) key q = how_many 1 notice.additional (told_leaves key q)

  -- the two neighbors; the first that waits too, if the listener waited; and the one that a notification is propagated to
  abbrev pub visits_of_removal : Option (State T W) → Key → Queue T W → ℕ
  visits_of_removal None key q = 0
  visits_of_removal (Some state.Created) key q = 3
  visits_of_removal (Some (state.Task task)) key q = 3
  visits_of_removal (Some (state.Notified additional tag)) key q = 2
  visits_of_removal (Some (state.Passed to)) key q = 2 + visits_of_passing (lookup (is_key key) q.told) key q
  visits_of_removal (Some (state.Lost additional tag)) key q = 2 + visits_of_passing (lookup (is_key key) q.told) key q
