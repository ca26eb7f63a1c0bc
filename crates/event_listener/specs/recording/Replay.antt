-- When a record replays: its calls and replies are those of a queue that was empty, with next serial 0.
use Rattle.std.specs.Prelude.{◌≡◌, ◌==◌, ◌&&◌, ◌+◌, ◌-◌, ◌^◌, ℕ, min, Bool, true, false, nat_lt, if◌then◌else◌, List}
use Rattle.std.specs.Prelude.{[], ◌∷◌, ◌++◌, map, length, take, drop, Option, Some, None, is_some, option_and_then, Result, Ok, Err}
use Rattle.std.specs.Bool.{beq}
use Rattle.std.specs.Map.{keys_of, lookup, remove_entry, set_value}
use Rattle.event_queue.specs.declared.key.Key.{Key}
use Rattle.event_queue.specs.declared.notice.Notice.{Notice}
use Rattle.event_queue.specs.declared.reply.ListenError.{ListenError}
use Rattle.event_queue.specs.declared.reply.ListenError.TheVariants.{Memory, SerialsUsedUp}
use Rattle.event_queue.specs.declared.reply.RegisterResult.{RegisterResult}
use Rattle.event_queue.specs.declared.reply.RegisterResult.TheVariants as register
use Rattle.event_queue.specs.Key.{is_key}
use Rattle.event_queue.specs.Queue.{Queue}
use Rattle.event_listener.specs.declared.recorded.call.RecordedCall.{RecordedCall}
use Rattle.event_listener.specs.declared.recorded.call.RecordedCall.TheVariants as call
use Rattle.event_listener.specs.declared.recorded.reply.RecordedReply.{RecordedReply}
use Rattle.event_listener.specs.declared.recorded.reply.RecordedReply.TheVariants as reply
use Rattle.event_listener.specs.declared.recorded.reply.Former.{Former}
use Rattle.event_listener.specs.declared.recorded.reply.Former.TheVariants as former
use Rattle.event_listener.specs.declared.recorded.entry.Entry.{Entry}

-- a queue as a record knows it: the listeners notified, the listeners waiting, each with whether it has a task, and the next
-- serial
pub record Shape (T : Type 0) : Type 0 where
  pub told : List (Key × Notice T)
  pub waiting : List (Key × Bool)
  pub next_serial : ℕ

module _ {T : Type 0} where
  abbrev pub shape_of : {W : Type 0} → Queue T W → Shape T
  shape_of q = record {
    told = q.told;
    waiting = map (λ entry. (entry.0, is_some entry.1)) q.waiting;
    next_serial = q.next_serial;
  }

  abbrev pub empty_shape : Shape T
  empty_shape = record { told = []; waiting = []; next_serial = 0 }

  abbrev pub serials_used_up : Shape T → Bool
  serials_used_up shape = shape.next_serial + 1 == 2 ^ 64

  -- the key of a newcomer that gets this slot
  abbrev pub newcomer : Shape T → ℕ → Key
  newcomer shape slot = record { slot = slot; serial = shape.next_serial }

  -- how many listeners a notification notifies
  abbrev pub tells : ℕ → Bool → Shape T → ℕ
  tells count additional shape =
      min (if additional then count else count - length shape.told) (length shape.waiting)

  -- what is found of a key, among the notified and among the waiting
  abbrev pub told_at : Key → Shape T → Option (Notice T)
  told_at key shape = lookup (is_key key) shape.told

  abbrev pub waiting_at : Key → Shape T → Option Bool
  waiting_at key shape = lookup (is_key key) shape.waiting

  -- what a registration answers by what is found
  abbrev pub registered : Option (Notice T) → Option Bool → RegisterResult T
  registered (Some notice) waiting = register.Notified notice.tag
  registered None (Some has_task) = register.Registered
  registered None None = register.NeverInserted

  -- once the notified listener of that key has left
  abbrev pub without_told : Key → Shape T → Shape T
  without_told key shape = record shape { told = remove_entry (is_key key) shape.told }

  -- the listeners that a notice notifies once it is propagated: one, or none
  abbrev pub told_by_passing_at : Notice T → Shape T → List Key
  told_by_passing_at notice shape = keys_of (take (tells 1 notice.additional shape) shape.waiting)

  -- what a removal answers of a notice that was propagated, by whom that notified
  abbrev pub passed : Notice T → List Key → Former T
  passed notice [] = former.Lost notice.additional notice.tag
  passed notice (to ∷ _) = former.Passed to

  -- what a removal answers by what is found
  abbrev pub removed : Key → Bool → Option (Notice T) → Option Bool → Shape T → Option (Former T)
  removed key true (Some notice) waiting shape = Some (passed notice (told_by_passing_at notice (without_told key shape)))
  removed key false (Some notice) waiting shape = Some (former.Notified notice.additional notice.tag)
  removed key propagate None (Some true) shape = Some former.Task
  removed key propagate None (Some false) shape = Some former.Created
  removed key propagate None None shape = None

  -- what a call answers at a shape, where a newcomer gets this slot
  abbrev pub answer_at : Shape T → ℕ → RecordedCall T → RecordedReply T
  answer_at shape slot call.Listen =
      reply.Listened (if serials_used_up shape then Err SerialsUsedUp else Ok (newcomer shape slot))
  answer_at shape slot (call.Register key) = reply.Registered (registered (told_at key shape) (waiting_at key shape))
  answer_at shape slot (call.Remove key propagate) =
      reply.Removed (removed key propagate (told_at key shape) (waiting_at key shape) shape)
  answer_at shape slot (call.Notify count additional tag) = reply.Notified (tells count additional shape)
  answer_at shape slot call.TotalListeners = reply.TotalListeners (length shape.told + length shape.waiting)
  answer_at shape slot call.IsNotified = reply.IsNotified (nat_lt 0 (length shape.told))

  -- once the first of the waiting, this many, were notified with that notice
  abbrev pub after_notice : ℕ → Notice T → Shape T → Shape T
  after_notice count notice shape = record shape {
    told = shape.told ++ map (λ entry. (entry.0, notice)) (take count shape.waiting);
    waiting = drop count shape.waiting;
  }

  -- once the task of that key was registered, by what is found among the notified
  abbrev pub after_register : Key → Option (Notice T) → Shape T → Shape T
  after_register key (Some notice) shape = without_told key shape
  after_register key None shape = record shape { waiting = set_value (is_key key) shape.waiting true }

  -- once the listener of that key was removed, by what is found among the notified
  abbrev pub after_removal : Key → Bool → Option (Notice T) → Shape T → Shape T
  after_removal key true (Some notice) shape =
      let left = without_told key shape in after_notice (tells 1 notice.additional left) notice left
  after_removal key false (Some notice) shape = without_told key shape
  after_removal key propagate None shape = record shape { waiting = remove_entry (is_key key) shape.waiting }

  -- the shape after a call, where a newcomer gets this slot
  abbrev pub after_call : Shape T → ℕ → RecordedCall T → Shape T
  after_call shape slot call.Listen =
      if serials_used_up shape then shape else record shape {
        waiting = shape.waiting ++ (newcomer shape slot, false) ∷ [];
        next_serial = shape.next_serial + 1;
      }
  after_call shape slot (call.Register key) = after_register key (told_at key shape) shape
  after_call shape slot (call.Remove key propagate) = after_removal key propagate (told_at key shape) shape
  after_call shape slot (call.Notify count additional tag) =
      after_notice (tells count additional shape) (record { additional = additional; tag = tag }) shape
  after_call shape slot call.TotalListeners = shape
  after_call shape slot call.IsNotified = shape

  -- the slot that a reply says a newcomer got
  abbrev pub slot_in : RecordedReply T → ℕ
  slot_in (reply.Listened (Ok key)) = key.slot
  slot_in _ = 0

  module _ (eq : T → T → Bool) where
    -- the two replies are equal, their tags by `eq`
    abbrev pub same_registration : RegisterResult T → RegisterResult T → Bool
    same_registration (register.Notified tag) (register.Notified other) = eq tag other
    same_registration register.Registered register.Registered = true
    same_registration register.NeverInserted register.NeverInserted = true
    same_registration _ _ = false

    abbrev pub same_former : Former T → Former T → Bool
    same_former former.Created former.Created = true
    same_former (former.Notified additional tag) (former.Notified additional' tag') =
        beq additional additional' && eq tag tag'
    same_former former.Task former.Task = true
    same_former (former.Passed to) (former.Passed to') = is_key to to'
    same_former (former.Lost additional tag) (former.Lost additional' tag') =
        beq additional additional' && eq tag tag'
    same_former _ _ = false

    abbrev pub same_removal : Option (Former T) → Option (Former T) → Bool
    same_removal None None = true
    same_removal (Some was) (Some was') = same_former was was'
    same_removal _ _ = false

    abbrev pub same_listening : Result Key ListenError → Result Key ListenError → Bool
    same_listening (Ok key) (Ok other) = is_key key other
    same_listening (Err Memory) (Err Memory) = true
    same_listening (Err SerialsUsedUp) (Err SerialsUsedUp) = true
    same_listening _ _ = false

    abbrev pub same_reply : RecordedReply T → RecordedReply T → Bool
    same_reply (reply.Listened answer) (reply.Listened answer') = same_listening answer answer'
    same_reply (reply.Registered answer) (reply.Registered answer') = same_registration answer answer'
    same_reply (reply.Removed answer) (reply.Removed answer') = same_removal answer answer'
    same_reply (reply.Notified told) (reply.Notified told') = told == told'
    same_reply (reply.TotalListeners total) (reply.TotalListeners total') = total == total'
    same_reply (reply.IsNotified told) (reply.IsNotified told') = beq told told'
    same_reply _ _ = false

    -- the shape after an entry, if its call answers its reply there; whose call it was isn't looked at
    abbrev pub replay_entry : Shape T → Entry T → Option (Shape T)
    replay_entry shape entry =
        let slot = slot_in entry.reply in
        if same_reply (answer_at shape slot entry.call) entry.reply then Some (after_call shape slot entry.call) else None

    -- the shape after these entries, if each replays in turn
    abbrev pub replay_from : Shape T → List (Entry T) → Option (Shape T)
    replay_from shape [] = Some shape
    replay_from shape (entry ∷ rest) = option_and_then (λ next. replay_from next rest) (replay_entry shape entry)

    -- the record replays to a queue: to its listeners, notified and waiting, with whether they have tasks, and to its next
    -- serial
    abbrev pub ReplaysTo : {W : Type 0} → List (Entry T) → Queue T W → Type 0
    ReplaysTo entries q = replay_from empty_shape entries ≡ Some (shape_of q)

    -- the record replays
    abbrev pub replays : List (Entry T) → Bool
    replays entries = is_some (replay_from empty_shape entries)
