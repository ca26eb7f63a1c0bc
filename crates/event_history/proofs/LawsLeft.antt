-- Which listeners the calls of a hand leave in the queue.
use Rattle.std.proofs.Common.{◌≢◌, Bool, List, [], ◌∷◌, ◌++◌, true≢false, refl, sym, subst, inl, inr, ⊎_elim, Option, Some, None, Ok, Err}
use Rattle.event_queue.specs.declared.key.Key.{Key}
use Rattle.event_queue.specs.declared.reply.State.{State}
use Rattle.event_queue.specs.declared.reply.RegisterResult.{RegisterResult}
use Rattle.event_queue.specs.declared.reply.RegisterResult.TheVariants as register
use Rattle.event_queue.specs.Queue.{Queue}
use Rattle.event_history.specs.declared.history.View.{View}
use Rattle.event_history.specs.declared.queue_call.QueueCall.{QueueCall}
use Rattle.event_history.specs.declared.queue_call.QueueCall.TheVariants as call
use Rattle.event_history.specs.History.{Leads}
use Rattle.event_history.specs.Queue.{queue_machine, TakesOut, IsTakenOut, LeavesNone, NoneLeft, LeavesOnly, OnlyLeft}
use Rattle.event_history.specs.Laws.{OwnsListener}
use Rattle.event_history.proofs.LawsOwn.{joins, own_registered, own_removed}

module _ {T W : Type 0} where
  taken_more : (key : Key) (cs more : List (QueueCall T W)) → IsTakenOut key cs → IsTakenOut key (cs ++ more)
  taken_more key [] more h = absurd h
  taken_more key (x ∷ xs) more (inl here) = inl here
  taken_more key (x ∷ xs) more (inr h) = inr (taken_more key xs more h)

  taken_last : (key : Key) (cs : List (QueueCall T W)) (c : QueueCall T W) → TakesOut key c → IsTakenOut key (cs ++ c ∷ [])
  taken_last key [] c takes = inl takes
  taken_last key (x ∷ xs) c takes = inr (taken_last key xs c takes)

  leaves_more : (c : QueueCall T W) (cs more : List (QueueCall T W)) → LeavesNone c cs → LeavesNone c (cs ++ more)
  leaves_more (call.Insert (Ok key)) cs more h = taken_more key cs more h
  leaves_more (call.Insert (Err error)) cs more h = tt
  leaves_more (call.Register key reply) cs more h = tt
  leaves_more (call.Remove key propagate reply) cs more h = tt
  leaves_more (call.Notify count additional reply) cs more h = tt
  leaves_more (call.Counts told total) cs more h = tt

  -- one call more, which inserts none
  none_more : (cs : List (QueueCall T W)) (c : QueueCall T W) → LeavesNone c [] → NoneLeft cs → NoneLeft (cs ++ c ∷ [])
  none_more [] c none left = (none, tt)
  none_more (x ∷ xs) c none left = (leaves_more x xs (c ∷ []) left.0, none_more xs c none left.1)

  only_more' : (key : Key) (x : QueueCall T W) (xs more : List (QueueCall T W)) → LeavesOnly key x xs → LeavesOnly key x (xs ++ more)
  only_more' key (call.Insert (Ok other)) xs more h = ⊎_elim (λ same. inl same) (λ taken. inr (taken_more other xs more taken)) h
  only_more' key (call.Insert (Err error)) xs more h = tt
  only_more' key (call.Register other reply) xs more h = tt
  only_more' key (call.Remove other propagate reply) xs more h = tt
  only_more' key (call.Notify count additional reply) xs more h = tt
  only_more' key (call.Counts told total) xs more h = tt

  only_of_none : (key : Key) (x : QueueCall T W) (xs : List (QueueCall T W)) → LeavesNone x xs → LeavesOnly key x xs
  only_of_none key (call.Insert (Ok other)) xs h = inr h
  only_of_none key (call.Insert (Err error)) xs h = tt
  only_of_none key (call.Register other reply) xs h = tt
  only_of_none key (call.Remove other propagate reply) xs h = tt
  only_of_none key (call.Notify count additional reply) xs h = tt
  only_of_none key (call.Counts told total) xs h = tt

  only_more : (key : Key) (cs : List (QueueCall T W)) (c : QueueCall T W) → LeavesOnly key c [] → OnlyLeft key cs → OnlyLeft key (cs ++ c ∷ [])
  only_more key [] c only left = (only, tt)
  only_more key (x ∷ xs) c only left = (only_more' key x xs (c ∷ []) left.0, only_more key xs c only left.1)

  all_only : (key : Key) (cs : List (QueueCall T W)) → NoneLeft cs → OnlyLeft key cs
  all_only key [] left = tt
  all_only key (x ∷ xs) left = (only_of_none key x xs left.0, all_only key xs left.1)

  -- that listener is taken out too
  last_taken : (key : Key) (c x : QueueCall T W) (xs : List (QueueCall T W)) → TakesOut key c → LeavesOnly key x xs → LeavesNone x (xs ++ c ∷ [])
  last_taken key c (call.Insert (Ok other)) xs takes h = ⊎_elim (λ same. subst (λ (k : Key). IsTakenOut k (xs ++ c ∷ [])) (sym same) (taken_last key xs c takes)) (λ taken. taken_more other xs (c ∷ []) taken) h
  last_taken key c (call.Insert (Err error)) xs takes h = tt
  last_taken key c (call.Register other reply) xs takes h = tt
  last_taken key c (call.Remove other propagate reply) xs takes h = tt
  last_taken key c (call.Notify count additional reply) xs takes h = tt
  last_taken key c (call.Counts told total) xs takes h = tt

  last_left : (key : Key) (cs : List (QueueCall T W)) (c : QueueCall T W) → LeavesNone c [] → TakesOut key c → OnlyLeft key cs → NoneLeft (cs ++ c ∷ [])
  last_left key [] c none takes left = (none, tt)
  last_left key (x ∷ xs) c none takes left = (last_taken key c x xs takes left.0, last_left key xs c none takes left.1)

  -- a hand's next call, which inserts none
  pub none_kept : (v w : View (Queue T W) (QueueCall T W)) (c : QueueCall T W) (before after : Queue T W) → Leads queue_machine v c before after w → LeavesNone c [] → NoneLeft v.mine → NoneLeft w.mine
  none_kept v w c before after l none left = subst NoneLeft (sym l.mine) (none_more v.mine c none left)

  pub only_kept : (key : Key) (v w : View (Queue T W) (QueueCall T W)) (c : QueueCall T W) (before after : Queue T W) → Leads queue_machine v c before after w → LeavesNone c [] → OnlyLeft key v.mine → OnlyLeft key w.mine
  only_kept key v w c before after l none left = subst (OnlyLeft key) (sym l.mine) (only_more key v.mine c (only_of_none key c [] none) left)

  -- its next call inserts this one
  pub only_joined : (key : Key) (v w : View (Queue T W) (QueueCall T W)) (before after : Queue T W) → Leads queue_machine v (joins key) before after w → NoneLeft v.mine → OnlyLeft key w.mine
  only_joined key v w before after l left = subst (OnlyLeft key) (sym l.mine) (only_more key v.mine (joins key) (inl refl) (all_only key v.mine left))

  -- its next call is a registration that stores no task, or a removal, of its own listener: none is left
  pub left_registered : (key : Key) (v w : View (Queue T W) (QueueCall T W)) (reply : RegisterResult T) (before after : Queue T W) → Leads queue_machine v (call.Register key reply) before after w → reply ≢ register.Registered
      → OwnsListener key v.mine → OnlyLeft key v.mine → NoneLeft w.mine
  left_registered key v w register.Registered before after l took owns left = absurd (took refl)
  left_registered key v w register.NeverInserted before after l took owns left = absurd (own_registered key v w register.NeverInserted before after l owns refl)
  left_registered key v w (register.Notified tag) before after l took owns left = subst NoneLeft (sym l.mine) (last_left key v.mine (call.Register key (register.Notified tag)) tt refl left)

  pub left_removed : (key : Key) (v w : View (Queue T W) (QueueCall T W)) (propagate : Bool) (reply : Option (State T W)) (before after : Queue T W) → Leads queue_machine v (call.Remove key propagate reply) before after w
      → OwnsListener key v.mine → OnlyLeft key v.mine → NoneLeft w.mine
  left_removed key v w propagate None before after l owns left = absurd (true≢false (sym (own_removed key v w propagate None before after l owns)))
  left_removed key v w propagate (Some was) before after l owns left = subst NoneLeft (sym l.mine) (last_left key v.mine (call.Remove key propagate (Some was)) tt refl left)
