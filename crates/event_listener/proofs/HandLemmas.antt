-- What the hand of a listener knows and may do.
use Rattle.std.proofs.Common.{◌≡◌, ◌≢◌, ◌∙◌, sym, ap, subst, refl, Bool, true, false, Option, Some, None, List, [], ◌∷◌, Ok, inl, true≢false}
use Rattle.event_queue.specs.declared.key.Key.{Key}
use Rattle.event_queue.specs.declared.reply.RegisterResult.{RegisterResult}
use Rattle.event_queue.specs.declared.reply.RegisterResult.TheVariants as register
use Rattle.event_queue.specs.declared.reply.State.{State}
use Rattle.event_queue.specs.declared.reply.State.TheVariants as was
use Rattle.event_queue.specs.Queue.{Queue}
use Rattle.event_wait.specs.declared.lock.task.Task.{Task}
use Rattle.event_history.specs.declared.queue_call.QueueCall.{QueueCall}
use Rattle.event_history.specs.declared.queue_call.QueueCall.TheVariants as call
use Rattle.event_history.specs.History.{Leads}
use Rattle.event_history.specs.Laws.{FindsTold, OwnsListener}
use Rattle.event_history.specs.Queue.{NoneLeft, OnlyLeft, queue_machine}
use Rattle.event_history.proofs.LawsLeft.{only_kept, left_registered}
use Rattle.event_history.proofs.LawsOwn.{own_registered, own_stored}
use Rattle.event_listener.specs.Listening.{Known, LeavesNone, Member, Standing, known_of}
use Rattle.event_listener.specs.Polling.{IsPolled, poll_of}
use Rattle.event_listener.specs.Waiting.{was_notified}

module _ {T : Type 0} where
  -- the hand that was kept is the one that was taken out
  pub owns_taken : (key : Key) (knows taken : Known T) → knows ∷ [] ≡ taken ∷ [] → OwnsListener key knows.mine → OwnsListener key taken.mine
  owns_taken key knows taken same owns = subst (λ (v : Known T). OwnsListener key v.mine) (ap known_of same) owns

  abbrev stored : RegisterResult T → Bool
  stored register.Registered = true
  stored _ = false

  -- a hand whose first call inserted a listener owns that, and leaves no other
  pub owns_first : (key its : Key) (mine : List (QueueCall T Task)) → its ≡ key → mine ≡ call.Insert (Ok key) ∷ [] → OwnsListener its mine
  owns_first key its mine same is = record { earlier = []; later = []; joined = is ∙ ap (λ (k : Key). call.Insert (Ok k) ∷ []) (sym same); stays = tt }

  pub leaves_first : (key : Key) (member : Member) (mine : List (QueueCall T Task)) → member.key ≡ key → member.is_finished ≡ false → mine ≡ call.Insert (Ok key) ∷ [] → LeavesNone member mine
  leaves_first key member mine same unfinished is =
      ((λ _. subst (OnlyLeft member.key) (sym is) (inl (sym same), tt)), λ finished. absurd (true≢false (sym finished ∙ unfinished)))

  -- after a poll it owns its listener if that is in the queue still
  pub after_poll : {key : Key} {found : RegisterResult T} {v w : Known T} {old new : Queue T Task} → Leads queue_machine v (call.Register key found) old new w
      → OwnsListener key v.mine → (member after : Member) → member.key ≡ key
      → (found ≡ register.Registered → after ≡ member) → (found ≢ register.Registered → after.is_finished ≡ true)
      → after.is_finished ≡ false → OwnsListener after.key w.mine
  after_poll {key = key} {found = register.Registered} {v = v} {w = w} {old = old} {new = new} leads owns member after its stays leaves is =
      subst (λ (k : Key). OwnsListener k w.mine) (sym (ap (λ (m : Member). m.key) (stays refl) ∙ its)) (own_stored key v w register.Registered old new leads refl owns)
  after_poll {found = register.Notified tag} leads owns member after its stays leaves is = absurd (true≢false (sym (leaves (λ h. true≢false (sym (ap stored h)))) ∙ is))
  after_poll {found = register.NeverInserted} leads owns member after its stays leaves is = absurd (true≢false (sym (leaves (λ h. true≢false (sym (ap stored h)))) ∙ is))

  pub leaves_taken : (member : Member) (knows taken : Known T) → knows ∷ [] ≡ taken ∷ [] → LeavesNone member knows.mine → LeavesNone member taken.mine
  leaves_taken member knows taken same leaves = subst (λ (v : Known T). LeavesNone member v.mine) (ap known_of same) leaves

  -- and leaves none but that
  pub leaves_poll : {key : Key} {found : RegisterResult T} {v w : Known T} {old new : Queue T Task} → Leads queue_machine v (call.Register key found) old new w
      → OwnsListener key v.mine → OnlyLeft key v.mine → (member after : Member) → member.key ≡ key → member.is_finished ≡ false
      → (found ≡ register.Registered → after ≡ member) → (found ≢ register.Registered → after.is_finished ≡ true)
      → LeavesNone after w.mine
  leaves_poll {key = key} {found = register.Registered} {v = v} {w = w} {old = old} {new = new} leads owns left member after its unfinished stays leaves =
      let kept = only_kept key v w (call.Register key register.Registered) old new leads tt left in
      let same = stays refl in (
        (λ _. subst (λ (k : Key). OnlyLeft k w.mine) (sym (ap (λ (m : Member). m.key) same ∙ its)) kept),
        (λ is. absurd (true≢false (sym is ∙ (ap (λ (m : Member). m.is_finished) same ∙ unfinished)))),
      )
  leaves_poll {key = key} {found = register.Notified tag} {v = v} {w = w} {old = old} {new = new} leads owns left member after its unfinished stays leaves =
      let apart : register.Notified tag ≢ register.Registered = λ h. true≢false (sym (ap stored h)) in (
        (λ is. absurd (true≢false (sym (leaves apart) ∙ is))),
        (λ _. left_registered key v w (register.Notified tag) old new leads apart owns left),
      )
  leaves_poll {key = key} {found = register.NeverInserted} {v = v} {w = w} {old = old} {new = new} leads owns left member after its unfinished stays leaves =
      absurd (own_registered key v w register.NeverInserted old new leads owns refl)

  -- what a poll leaves of a listener that is in the queue
  pub polled_as : {E : Type 0} {key : Key} {found : RegisterResult T} {v w : Known T} {old new : Queue T Task} → Leads queue_machine v (call.Register key found) old new w
      → OwnsListener key v.mine → (gone : E) (before after : Standing) → before.is_finished ≡ false → after.event_number ≡ before.event_number
      → (found ≡ register.Registered → after ≡ before) → (found ≢ register.Registered → after.is_finished ≡ true)
      → IsPolled before (poll_of found gone) after
  polled_as {found = register.Registered} leads owns gone before after unfinished event stays leaves =
      record { event = event; finished = λ is. absurd (true≢false (sym is ∙ unfinished)); ready = tt; pending = ap (λ (s : Standing). s.is_finished) (stays refl) ∙ unfinished; same = stays refl; gone = tt }
  polled_as {found = register.Notified tag} leads owns gone before after unfinished event stays leaves =
      record { event = event; finished = λ is. absurd (true≢false (sym is ∙ unfinished)); ready = leaves (λ h. true≢false (sym (ap stored h))); pending = tt; same = tt; gone = tt }
  polled_as {key = key} {found = register.NeverInserted} {v = v} {w = w} {old = old} {new = new} leads owns gone before after unfinished event stays leaves =
      absurd (own_registered key v w register.NeverInserted old new leads owns refl)

  -- a removal that found the listener notified says so
  pub found_notified : (former : Option (State T Task)) → FindsTold false former → was_notified former ≡ true
  found_notified None h = absurd h
  found_notified (Some (was.Notified additional tag)) h = refl
  found_notified (Some (was.Passed to)) h = refl
  found_notified (Some (was.Lost additional tag)) h = refl
  found_notified (Some was.Created) h = absurd h
  found_notified (Some (was.Task task)) h = absurd h
