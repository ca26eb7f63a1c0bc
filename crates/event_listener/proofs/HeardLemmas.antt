-- What hands hear of a listener, and of a notification of all.
use Rattle.std.proofs.Common.{◌≡◌, ◌^◌, ◌-◌, ◌∙◌, ℕ, zero, suc, Bool, true, List, [], ◌∷◌, ◌++◌, sym, ap, subst, refl, inl, inr, append-nil, append_assoc, Option, Some, None, IsSome, Result, Ok, Err, IfOk}
use Rattle.futures.specs.declared.task.Poll.{Poll}
use Rattle.futures.specs.declared.task.Poll.TheVariants.{Ready, Pending}
use Rattle.event_queue.specs.declared.key.Key.{Key}
use Rattle.event_queue.specs.declared.reply.RegisterResult.{RegisterResult}
use Rattle.event_queue.specs.declared.reply.RegisterResult.TheVariants as register
use Rattle.event_queue.specs.declared.reply.State.{State}
use Rattle.event_queue.specs.declared.reply.State.TheVariants as was
use Rattle.event_queue.specs.Queue.{Queue}
use Rattle.event_wait.specs.Rounds.{Rounds}
use Rattle.event_wait.specs.declared.lock.task.Task.{Task}
use Rattle.event_history.specs.declared.history.Entry.{Entry}
use Rattle.event_history.specs.declared.history.Met.{Met}
use Rattle.event_history.specs.declared.queue_call.QueueCall.{QueueCall}
use Rattle.event_history.specs.declared.queue_call.QueueCall.TheVariants.{Insert, Register, Remove, Notify}
use Rattle.event_history.specs.History.{entry, calls_by, newcomer, StartsWith, IsAmong, Leads, Looks}
use Rattle.event_history.specs.Queue.{queue_machine}
use Rattle.event_history.specs.Laws.{QueueLog, OwnsListener, FindsTold}
use Rattle.event_history.proofs.HandLemmas.{among_more, begins_last}
use Rattle.event_listener.specs.Heard.{AllNotified, HasListened, NotifiesAll, taking_in}
use Rattle.event_listener.specs.Listening.{Known, Listening}
use Rattle.event_listener.specs.Polling.{found_by}
use Rattle.event_listener.specs.Waiting.{Calls, PollsBy, RemovesBy, RemovesHeard, Round, WaitsBy, was_notified}
use Rattle.event_listener.specs.declared.listener.wait_error.WaitReason.{WaitReason}

-- what the law `told_by_another` says of a registration and of a removal
abbrev pub TellsRegistered : Type 0 → Type 0
TellsRegistered T =
    (key : Key) (number by : ℕ) (additional : Bool) (told : ℕ) (v w : Known T) (reply : RegisterResult T) (earlier later : QueueLog T Task) (before after : Queue T Task)
    → Leads queue_machine v (Register key reply) before after w → OwnsListener key v.mine → v.seen ≡ earlier ++ entry by (Notify (2 ^ 64 - 1) additional (Ok told)) ∷ later
    → IsAmong (Insert (Ok key)) (calls_by number earlier) → (tag : T) × (reply ≡ register.Notified tag)

abbrev pub TellsRemoved : Type 0 → Type 0
TellsRemoved T =
    (key : Key) (number by : ℕ) (additional : Bool) (told : ℕ) (v w : Known T) (propagate : Bool) (reply : Option (State T Task)) (earlier later : QueueLog T Task) (before after : Queue T Task)
    → Leads queue_machine v (Remove key propagate reply) before after w → OwnsListener key v.mine → v.seen ≡ earlier ++ entry by (Notify (2 ^ 64 - 1) additional (Ok told)) ∷ later
    → IsAmong (Insert (Ok key)) (calls_by number earlier) → FindsTold propagate reply

module _ {T : Type 0} where
  among_last : (c : QueueCall T Task) (cs : List (QueueCall T Task)) → IsAmong c (cs ++ c ∷ [])
  among_last c [] = inl refl
  among_last c (other ∷ cs) = inr (among_last c cs)

  -- what was known of a history is known of a longer one
  pub listened_on : (key : Key) (log front : QueueLog T Task) → StartsWith log front → HasListened key front → HasListened key log
  listened_on key log front starts h =
      record { by = h.by; among = subst (λ (es : QueueLog T Task). IsAmong (Insert (Ok key)) (calls_by h.by es)) (sym starts.1) (among_more h.by (Insert (Ok key)) front starts.0 h.among) }

  pub notified_on : (key : Key) (log front : QueueLog T Task) → StartsWith log front → AllNotified key front → AllNotified key log
  notified_on key log front starts h =
      let e : Entry (QueueCall T Task) = entry h.by (Notify (2 ^ 64 - 1) h.additional (Ok h.told)) in
      let place : log ≡ h.earlier ++ e ∷ (h.later ++ starts.0) = starts.1 ∙ (ap (λ (es : QueueLog T Task). es ++ starts.0) h.notified ∙ append_assoc h.earlier (e ∷ h.later) starts.0) in
      record { earlier = h.earlier; by = h.by; additional = h.additional; told = h.told; later = h.later ++ starts.0; listened = h.listened; notified = place }

  calls_on : (v w : Known T) (c : QueueCall T Task) → Calls v c w → StartsWith w.seen v.seen
  calls_on v w c made = let l = made.2 in (l.between ++ entry l.number c ∷ [], l.seen ∙ append_assoc v.seen l.between (entry l.number c ∷ []))

  -- a hand that takes in another one has seen what that one had
  took_in : (met : Met (QueueCall T Task)) (v w : Known T) → Looks queue_machine (taking_in met v) w → StartsWith w.seen met.seen
  took_in met v w looks = begins_last w.seen looks.others w.met met v.met looks.idle.2 looks.met

  as_newcomer : (seen : QueueLog T Task) (w : Known T) → w ≡ newcomer seen → StartsWith w.seen seen
  as_newcomer seen w is = ([], ap (λ (v : Known T). v.seen) is ∙ sym (append-nil seen))

  pub listened : (key : Key) (v w : Known T) → Calls v (Insert (Ok key)) w → HasListened key w.seen
  listened key v w listens =
      let l = listens.2 in
      let its : QueueCall T Task = Insert (Ok key) in
      record { by = l.number; among = subst (λ (cs : List (QueueCall T Task)). IsAmong its cs) (sym (l.each_once ∙ l.mine)) (among_last its v.mine) }

  pub notified : (key : Key) (v w : Known T) → NotifiesAll v w → HasListened key v.seen → AllNotified key w.seen
  notified key v w (additional, told, says) h =
      let l = says.2 in
      let front : QueueLog T Task = v.seen ++ l.between in
      record { earlier = front; by = l.number; additional = additional; told = told; later = []; listened = listened_on key front v.seen (l.between, refl) h; notified = l.seen }

  -- of what more of the history keeps: a hand knows it that takes in or is forked from one that does, that looks, or makes a call
  module _ (Knows : Key → QueueLog T Task → Type 0) (on : (key : Key) (log front : QueueLog T Task) → StartsWith log front → Knows key front → Knows key log) where
    pub knows_joined : (key : Key) (met : Met (QueueCall T Task)) (v w : Known T) → Looks queue_machine (taking_in met v) w → Knows key met.seen → Knows key w.seen
    knows_joined key met v w looks = on key w.seen met.seen (took_in met v w looks)

    pub knows_forked : (key : Key) (seen : QueueLog T Task) (w : Known T) → w ≡ newcomer seen → Knows key seen → Knows key w.seen
    knows_forked key seen w is = on key w.seen seen (as_newcomer seen w is)

    pub knows_kept : (key : Key) (v w : Known T) → Looks queue_machine v w → Knows key v.seen → Knows key w.seen
    knows_kept key v w looks = on key w.seen v.seen looks.seen

    pub knows_before : (key : Key) (v w : Known T) (c : QueueCall T Task) → Calls v c w → Knows key v.seen → Knows key w.seen
    knows_before key v w c made = on key w.seen v.seen (calls_on v w c made)

  notified_as : (key its : Key) (log : QueueLog T Task) → its ≡ key → AllNotified key log → AllNotified its log
  notified_as key its log same n = subst (λ (k : Key). AllNotified k log) (sym same) n

  finds_notified : (propagate : Bool) (former : Option (State T Task)) → FindsTold propagate former → was_notified former ≡ true
  finds_notified propagate None h = absurd h
  finds_notified propagate (Some (was.Notified additional tag)) h = refl
  finds_notified propagate (Some (was.Passed to)) h = refl
  finds_notified propagate (Some (was.Lost additional tag)) h = refl
  finds_notified propagate (Some was.Created) h = absurd h
  finds_notified propagate (Some (was.Task task)) h = absurd h

  found : TellsRemoved T → (key : Key) (v w : Known T) (propagate : Bool) (former : Option (State T Task)) → OwnsListener key v.mine → AllNotified key v.seen → Calls v (Remove key propagate former) w → was_notified former ≡ true
  found law key v w propagate former owns n leaves =
      finds_notified propagate former (law key n.listened.by n.by n.additional n.told v w propagate former n.earlier n.later leaves.0 leaves.1 leaves.2 owns n.notified n.listened.among)

  pub removed : TellsRemoved T → (key : Key) (propagate told : Bool) (listener : Listening T) → listener.standing.key ≡ key → OwnsListener listener.standing.key listener.knows.mine → AllNotified key listener.knows.seen
      → RemovesBy propagate listener told → told ≡ true
  removed law key propagate told listener same owns n removes =
      removes.2 ∙ found law listener.standing.key listener.knows removes.1 propagate removes.0 owns (notified_as key listener.standing.key listener.knows.seen same n) removes.3

  pub removed_by : TellsRemoved T → (key : Key) (propagate told : Bool) (listener : Listening T) (knows heard : Known T) → listener.standing.key ≡ key → OwnsListener listener.standing.key listener.knows.mine
      → AllNotified key listener.knows.seen → RemovesHeard propagate listener told knows heard → told ≡ true
  removed_by law key propagate told listener knows heard same owns n removes =
      removes.2 ∙ found law listener.standing.key listener.knows removes.1 propagate removes.0 owns (notified_as key listener.standing.key listener.knows.seen same n) removes.3

  registered : TellsRegistered T → (key : Key) (v w : Known T) (reply : RegisterResult T) → OwnsListener key v.mine → AllNotified key v.seen → Calls v (Register key reply) w → (tag : T) × (reply ≡ register.Notified tag)
  registered law key v w reply owns n made = law key n.listened.by n.by n.additional n.told v w reply n.earlier n.later made.0 made.1 made.2 owns n.notified n.listened.among

  pub polled : TellsRegistered T → {E : Type 0} (key : Key) (before after : Listening T) (answer : Result (Poll T) E) → before.standing.key ≡ key → OwnsListener before.standing.key before.knows.mine
      → AllNotified key before.knows.seen → PollsBy before answer after → (tag : T) × (answer ≡ Ok (Ready tag))
  polled law {E = E} key before after answer same owns n polls =
      let r = registered law before.standing.key before.knows after.knows (found_by answer) owns (notified_as key before.standing.key before.knows.seen same n) polls in ready answer r.0 r.1 where
        ready : (a : Result (Poll T) E) (tag : T) → found_by a ≡ register.Notified tag → (t : T) × (a ≡ Ok (Ready t))
        ready (Ok (Ready t)) tag is = (t, refl)
        ready (Ok Pending) tag is = absurd (cc)
        ready (Err gone) tag is = absurd (cc)

  first_round : (key : Key) (rounds : ℕ) (v w : Known T) → Rounds (Round key) (suc rounds) v w → (m : Known T) × Calls v (Register key register.Registered) m
  first_round key zero v w (between, same, round) = (w, subst (λ (u : Known T). Calls u (Register key register.Registered) w) same round)
  first_round key (suc rounds) v w (between, front, round) = first_round key rounds v between front

  pub waited : TellsRegistered T → (key its : Key) (limited : Type 0) (v w : Known T) (answer : Result (Option T) WaitReason) → its ≡ key → OwnsListener its v.mine → AllNotified key v.seen
      → WaitsBy its limited v answer w → IfOk answer IsSome
  waited law key its limited v w (Err reason) same owns n waits = tt
  waited law key its limited v w (Ok (Some tag)) same owns n waits = refl
  waited law key its limited v w (Ok None) same owns n waits =
      let rounds = waits.2.waited in
      let first = first_round its rounds.0 v _ rounds.1 in
      let r = registered law its v first.0 register.Registered owns (notified_as key its v.seen same n) first.1 in
      let is : register.Registered ≡ register.Notified r.0 = r.1 in
      absurd (cc)
