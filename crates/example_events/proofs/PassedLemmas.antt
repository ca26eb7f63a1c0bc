-- Of two listeners that a hand counted as all that there are, the second one was notified once the first one was, and was
-- dropped.
use Rattle.std.proofs.Common.{◌≡◌, ◌∙◌, ℕ, Bool, true, false, List, [], ◌∷◌, ◌++◌, sym, ap, subst, refl, inl, append_assoc, true≢false, Option, Some, None, Ok}
use Rattle.event_queue.specs.declared.key.Key.{Key}
use Rattle.event_queue.specs.declared.reply.State.{State}
use Rattle.event_queue.specs.declared.reply.State.TheVariants as was
use Rattle.event_queue.specs.Queue.{Queue}
use Rattle.event_queue.specs.Remove.{Removes}
use Rattle.event_wait.specs.declared.lock.task.Task.{Task}
use Rattle.event_history.specs.declared.history.Entry.{Entry}
use Rattle.event_history.specs.declared.queue_call.QueueCall.{QueueCall}
use Rattle.event_history.specs.declared.queue_call.QueueCall.TheVariants.{Insert, Remove, Counts}
use Rattle.event_history.specs.History.{entry, calls_by, newcomer, met_of, both_views, StartsWith, IsAmong, Leads, Looks}
use Rattle.event_history.specs.Queue.{queue_machine}
use Rattle.event_history.specs.Laws.{QueueLog, OwnsListener, FindsTold}
use Rattle.event_history.proofs.HandLemmas.{among_more, begins_last}
use Rattle.event_listener.specs.Event.{Listens}
use Rattle.event_listener.specs.Listening.{Caller, Known, Listening, Standing}
use Rattle.event_listener.specs.Waiting.{Calls, RemovesHeard, was_notified}
use Rattle.event_listener.proofs.HandLemmas.{found_notified}

-- what the law says of the next one
abbrev pub TellsNext : Type 0 → Type 0
TellsNext T =
    (a b : Key) (x y m n told : ℕ) (former reply : Option (State T Task)) (propagate : Bool) (v w : Known T) (earlier between later : QueueLog T Task) (before after : Queue T Task)
    → Leads queue_machine v (Remove b propagate reply) before after w → OwnsListener b v.mine → v.seen ≡ earlier ++ entry m (Counts told 2) ∷ (between ++ entry n (Remove a true former) ∷ later)
    → IsAmong (Insert (Ok a)) (calls_by x earlier) → IsAmong (Insert (Ok b)) (calls_by y earlier) → FindsTold true former → FindsTold propagate reply

module _ {C : Type 0} where
  starts_on : (xs ys zs : List (Entry C)) → StartsWith xs ys → StartsWith ys zs → StartsWith xs zs
  starts_on xs ys zs one other = (other.0 ++ one.0, one.1 ∙ (ap (λ (es : List (Entry C)). es ++ one.0) other.1 ∙ append_assoc zs other.0 one.0))

  -- a call that one has seen is seen by whoever has seen as much
  still_among : (n : ℕ) (c : C) (xs ys : List (Entry C)) → StartsWith xs ys → IsAmong c (calls_by n ys) → IsAmong c (calls_by n xs)
  still_among n c xs ys starts among = subst (λ (es : List (Entry C)). IsAmong c (calls_by n es)) (sym starts.1) (among_more n c ys starts.0 among)

  placed : (earlier rest between later : List (Entry C)) (c d : Entry C) → ((((earlier ++ c ∷ []) ++ rest) ++ between) ++ d ∷ []) ++ later ≡ earlier ++ c ∷ ((rest ++ between) ++ d ∷ later)
  placed [] rest between later c d = ap (λ (es : List (Entry C)). c ∷ es) (append_assoc (rest ++ between) (d ∷ []) later)
  placed (x ∷ xs) rest between later c d = ap (λ (es : List (Entry C)). x ∷ es) (placed xs rest between later c d)

module _ {T : Type 0} where
  pub calls_on : (v w : Known T) (c : QueueCall T Task) → Calls v c w → StartsWith w.seen v.seen
  calls_on v w c made = let l = made.2 in (l.between ++ entry l.number c ∷ [], l.seen ∙ append_assoc v.seen l.between (entry l.number c ∷ []))

  -- a hand that takes in what another one has seen has seen as much
  took_in : (v o w : Known T) → Looks queue_machine (both_views v o) w → StartsWith w.seen o.seen
  took_in v o w looks = begins_last w.seen looks.others w.met (met_of o) v.met looks.idle.2 looks.met

  in_own : (key : Key) (seen : QueueLog T Task) (v : Known T) (joins : Calls (newcomer seen) (Insert (Ok key)) v) → IsAmong (Insert (Ok key)) (calls_by (joins.2).number v.seen)
  in_own key seen v joins = let l = joins.2 in subst (λ (cs : List (QueueCall T Task)). IsAmong (Insert (Ok key)) cs) (sym (l.each_once ∙ l.mine)) (inl refl)

  -- a removal that passes on found the listener notified
  finds : (key : Key) (former : Option (State T Task)) (old new : Queue T Task) → was_notified former ≡ true → Removes old key true former new → FindsTold true former
  finds key None old new is s = absurd (true≢false (sym is))
  finds key (Some was.Created) old new is s = absurd (true≢false (sym is))
  finds key (Some (was.Task task)) old new is s = absurd (true≢false (sym is))
  finds key (Some (was.Notified additional tag)) old new is s = s.0
  finds key (Some (was.Passed to)) old new is s = refl
  finds key (Some (was.Lost additional tag)) old new is s = refl

  -- both joined and were counted, the first was dropped after that, and the second removed after that
  next_hears : TellsNext T → (a b : Key) (seen : QueueLog T Task) (told : ℕ) (joined heard second both counted first dropped last left : Known T) (former reply : Option (State T Task))
      → Calls (newcomer seen) (Insert (Ok a)) joined → StartsWith heard.seen joined.seen → Calls (newcomer heard.seen) (Insert (Ok b)) second → StartsWith both.seen second.seen
      → Calls both (Counts told 2) counted → StartsWith first.seen counted.seen → Calls first (Remove a true former) dropped → StartsWith last.seen dropped.seen → last.mine ≡ second.mine
      → Calls last (Remove b false reply) left → was_notified former ≡ true → was_notified reply ≡ true
  next_hears law a b seen told joined heard second both counted first dropped last left former reply joins hears follows knows counts on drops learns own leaves was_told =
      let join = joins.2 in
      let follow = follows.2 in
      let count = counts.2 in
      let drop = drops.2 in
      let c : Entry (QueueCall T Task) = entry count.number (Counts told 2) in
      let d : Entry (QueueCall T Task) = entry drop.number (Remove a true former) in
      let earlier : QueueLog T Task = both.seen ++ count.between in
      let of_second : StartsWith earlier second.seen = starts_on earlier both.seen second.seen (count.between, refl) knows in
      let of_heard : StartsWith earlier heard.seen = starts_on earlier second.seen heard.seen of_second (calls_on (newcomer heard.seen) second (Insert (Ok b)) follows) in
      let of_joined : StartsWith earlier joined.seen = starts_on earlier heard.seen joined.seen of_heard hears in
      let before : first.seen ≡ (earlier ++ c ∷ []) ++ on.0 = on.1 ∙ ap (λ (es : QueueLog T Task). es ++ on.0) count.seen in
      let until : dropped.seen ≡ (((earlier ++ c ∷ []) ++ on.0) ++ drop.between) ++ d ∷ [] = drop.seen ∙ ap (λ (es : QueueLog T Task). (es ++ drop.between) ++ d ∷ []) before in
      let place : last.seen ≡ earlier ++ c ∷ ((on.0 ++ drop.between) ++ d ∷ learns.0) = learns.1 ∙ (ap (λ (es : QueueLog T Task). es ++ learns.0) until ∙ placed earlier on.0 drop.between learns.0 c d) in
      let owns : OwnsListener b last.mine = record { earlier = []; later = []; joined = own ∙ follow.mine; stays = tt } in
      let has_first = still_among join.number (Insert (Ok a)) earlier joined.seen of_joined (in_own a seen joined joins) in
      let has_second = still_among follow.number (Insert (Ok b)) earlier second.seen of_second (in_own b heard.seen second follows) in
      let found = finds a former drops.0 drops.1 was_told drop.step.0 in
      found_notified reply (law a b join.number follow.number count.number drop.number told former reply false last left earlier (on.0 ++ drop.between) learns.0 leaves.0 leaves.1 leaves.2 owns place has_first has_second found)

  -- the same, as calls of a hand and of the two listeners say it
  pub is_passed : TellsNext T → (seen : QueueLog T Task) (told total : ℕ) (asked heard again both counted notified told_first still gone told_second : Caller T) (joined lent first second kept last : Listening T) (dropped heard_last : Bool) (asks ends : Known T)
      → Listens seen joined → lent ≡ joined → Looks queue_machine (both_views asked.knows (newcomer joined.knows.seen)) heard.knows
      → Listens heard.knows.seen second → kept ≡ second → Looks queue_machine (both_views again.knows (newcomer second.knows.seen)) both.knows
      → Calls both.knows (Counts told total) counted.knows → total ≡ 2 → StartsWith notified.knows.seen counted.knows.seen
      → told_first.knows ≡ newcomer notified.knows.seen → Looks queue_machine (both_views lent.knows told_first.knows) first.knows → first.standing ≡ lent.standing
      → RemovesHeard true first dropped still.knows gone.knows → dropped ≡ true
      → told_second.knows ≡ newcomer gone.knows.seen → Looks queue_machine (both_views kept.knows told_second.knows) last.knows → last.standing ≡ kept.standing
      → RemovesHeard false last heard_last asks ends → heard_last ≡ true
  is_passed law seen told total asked heard again both counted notified told_first still gone told_second joined lent first second kept last dropped heard_last asks ends joins same hears follows same' knows counts two notifies tells takes stands drops was tells' takes' stands' leaves =
      let a : Key = joined.standing.key in
      let b : Key = second.standing.key in
      let is_a : first.standing.key ≡ a = ap (λ (s : Standing). s.key) (stands ∙ ap (λ (l : Listening T). l.standing) same) in
      let is_b : last.standing.key ≡ b = ap (λ (s : Standing). s.key) (stands' ∙ ap (λ (l : Listening T). l.standing) same') in
      let counts' = subst (λ (n : ℕ). Calls both.knows (Counts told n) counted.knows) two counts in
      let drops' = subst (λ (k : Key). Calls first.knows (Remove k true drops.0) drops.1) is_a drops.3 in
      let leaves' = subst (λ (k : Key). Calls last.knows (Remove k false leaves.0) leaves.1) is_b leaves.3 in
      let of_first : StartsWith first.knows.seen notified.knows.seen = subst (λ (v : Known T). StartsWith first.knows.seen v.seen) tells (took_in lent.knows told_first.knows first.knows takes) in
      let of_gone : StartsWith last.knows.seen gone.knows.seen = subst (λ (v : Known T). StartsWith last.knows.seen v.seen) tells' (took_in kept.knows told_second.knows last.knows takes') in
      let on = starts_on first.knows.seen notified.knows.seen counted.knows.seen of_first notifies in
      let learns = starts_on last.knows.seen gone.knows.seen drops.1.seen of_gone (took_in still.knows drops.1 gone.knows drops.4) in
      let own : last.knows.mine ≡ second.knows.mine = takes'.mine ∙ ap (λ (l : Listening T). l.knows.mine) same' in
      leaves.2 ∙ next_hears law a b seen told joined.knows heard.knows second.knows both.knows counted.knows first.knows drops.1 last.knows leaves.1 drops.0 leaves.0 joins (took_in asked.knows (newcomer joined.knows.seen) heard.knows hears)
      follows (took_in again.knows (newcomer second.knows.seen) both.knows knows) counts' on drops' learns own leaves' (sym drops.2 ∙ was)
