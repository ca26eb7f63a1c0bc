-- What each move of a number, and each step of the queue, keeps of what holds of both.
use Rattle.std.proofs.Common.{◌≡◌, ℕ, ◌+◌, ◌-◌, ◌^◌, ◌<◌, ◌≤◌, Bool, true, false, not, List, [], ◌∷◌, ◌++◌, length, refl, sym, ap, ◌∙◌, subst, arith, zero, suc, Option, Some, None, IsSome, length-drop, ◌⊎◌, ⊎_elim, inl, inr}
use Rattle.std.specs.List.{list_any, filter}
use Rattle.std.specs.Map.{keys_of, lookup, remove_entry}
use Rattle.std.proofs.lemmas.List.{append_cancel_right}
use Rattle.std.proofs.lemmas.Map.Entries.{length-keys_of}
use Rattle.event_queue.specs.declared.key.Key.{Key}
use Rattle.event_queue.specs.declared.notice.Notice.{Notice}
use Rattle.event_queue.specs.Key.{is_key, without}
use Rattle.event_queue.proofs.OrderLemmas.{length-remove_entry}
use Rattle.event_queue.specs.Queue.{Queue}
use Rattle.event_wait.specs.Line.{HasLeft, TellsUpTo, told_anew}
use Rattle.event_wait.specs.FairQueue.{State, Comes, Forbears, ForbearsBy, IsStruck, Joins, WaitsOn, is_among}
use Rattle.event_word.specs.Free.{free_of, Closes, IsClosed, IsOpen, IsShut, one_starving_is_told, ServesWith, ServesTheStarving, NobodyIsOwed, NobodyIsThere, ShutsForTheStarving, StandsIf}
use Rattle.event_wait.specs.Starving.{Starving, but, struck_off}
use Rattle.event_wait.proofs.StarvingLemmas.{joined_keys, keys-but, keys-counted_in, keys-less_forborne}
use Rattle.event_wait.specs.declared.fair_queue.Queued.{Queued}

le_or_more : (m n : ℕ) → (m ≤ n) ⊎ (n < m)
le_or_more zero n = inl (omega arith)
le_or_more (suc m) zero = inr (omega arith)
le_or_more (suc m) (suc n) = ⊎_elim (λ (le : m ≤ n). inl (omega (arith, le))) (λ (more : n < m). inr (omega (arith, more))) (le_or_more m n)

-- some of a list

none_of_none : false ≡ true → ⊥
none_of_none h = cc

module _ {X : Type 0} where
  any-implied : (p q : X → Bool) → ((x : X) → p x ≡ true → q x ≡ true) → (xs : List X) → list_any p xs ≡ true → list_any q xs ≡ true
  any-implied p q is [] h = absurd (none_of_none h)
  any-implied p q is (x ∷ xs) h = by_test (p x) refl (q x) refl (any-implied p q is xs)
    where
      by_test : (a : Bool) → p x ≡ a → (b : Bool) → q x ≡ b → (list_any p xs ≡ true → list_any q xs ≡ true) → list_any q (x ∷ xs) ≡ true
      by_test a here true there rest = rw there refl
      by_test true here false there rest = absurd (none_of_none (sym there ∙ is x here))
      by_test false here false there rest = rw there (rest (rw here at h))

  any-filter : (p test : X → Bool) (xs : List X) → list_any p (filter test xs) ≡ true → list_any p xs ≡ true
  any-filter p test [] h = h
  any-filter p test (x ∷ xs) h = by_test (test x) refl (p x) refl (any-filter p test xs)
    where
      by_test : (a : Bool) → test x ≡ a → (b : Bool) → p x ≡ b → (list_any p (filter test xs) ≡ true → list_any p xs ≡ true) → list_any p (x ∷ xs) ≡ true
      by_test a stays true here rest = rw here refl
      by_test true stays false apart rest = rw apart (rest (rw (stays, apart) at h))
      by_test false stays false apart rest = rw apart (rest (rw stays at h))

  any-last : (p : X → Bool) (xs : List X) (x : X) → p x ≡ false → list_any p (xs ++ x ∷ []) ≡ true → list_any p xs ≡ true
  any-last p [] x none h = absurd (none_of_none (rw none at h))
  any-last p (y ∷ ys) x none h = by_test (p y) refl (any-last p ys x none)
    where
      by_test : (a : Bool) → p y ≡ a → (list_any p (ys ++ x ∷ []) ≡ true → list_any p ys ≡ true) → list_any p (y ∷ ys) ≡ true
      by_test true here rest = rw here refl
      by_test false apart rest = rw apart (rest (rw apart at h))

  -- of none nothing holds
  any-some : (p : X → Bool) (xs : List X) → list_any p xs ≡ true → 0 < length xs
  any-some p [] h = absurd (none_of_none h)
  any-some p (x ∷ xs) h = omega arith

  any-front : (p : X → Bool) (xs ys : List X) → list_any p (xs ++ ys) ≡ false → list_any p xs ≡ false
  any-front p [] ys h = refl
  any-front p (x ∷ xs) ys h = by_test (p x) refl (any-front p xs ys)
    where
      by_test : (a : Bool) → p x ≡ a → (list_any p (xs ++ ys) ≡ false → list_any p xs ≡ false) → list_any p (x ∷ xs) ≡ false
      by_test true here rest = absurd (none_of_none (sym (rw here at h)))
      by_test false apart rest = rw apart (rest (rw apart at h))

  any-removed : (p test : Key → Bool) (entries : List (Key × X)) → list_any p (keys_of (remove_entry test entries)) ≡ true → list_any p (keys_of entries) ≡ true
  any-removed p test [] h = h
  any-removed p test (e ∷ es) h = by_test (test e.0) refl (p e.0) refl (any-removed p test es)
    where
      by_test : (a : Bool) → test e.0 ≡ a → (b : Bool) → p e.0 ≡ b → (list_any p (keys_of (remove_entry test es)) ≡ true → list_any p (keys_of es) ≡ true) → list_any p (keys_of (e ∷ es)) ≡ true
      by_test a goes true here rest = rw here refl
      by_test true goes false apart rest = rw apart (rw goes at h)
      by_test false goes false apart rest = rw apart (rest (rw (goes, apart) at h))

  length-removed : (test : Key → Bool) (entries : List (Key × X)) → length (remove_entry test entries) ≤ length entries
  length-removed test [] = omega arith
  length-removed test (e ∷ es) = by_test (test e.0) refl (length-removed test es)
    where
      by_test : (a : Bool) → test e.0 ≡ a → length (remove_entry test es) ≤ length es → length (remove_entry test (e ∷ es)) ≤ length (e ∷ es)
      by_test true goes rest = rw goes (omega arith)
      by_test false stays rest = rw stays (omega (arith, rest))

told-some : {X : Type 0} (entries : List (Key × X)) (keys : List Key) → list_any (is_among (keys_of entries)) keys ≡ true → 0 < length entries
told-some [] [] h = absurd (none_of_none h)
told-some {X} [] (key ∷ keys) h = told-some {X = X} [] keys h
told-some (e ∷ es) keys h = omega arith

came_shorter : (key : Key) (entries : List (Key × Notice (Unit {0}))) (found : Option (Notice (Unit {0}))) → lookup (is_key key) entries ≡ found → IsSome found
    → length (remove_entry (is_key key) entries) + 1 ≡ length entries
came_shorter key entries None is h = cc
came_shorter key entries (Some notice) is h = length-remove_entry key entries notice is

module _ {W : Type 0} where
  starving-some : (s : State W) → one_starving_is_told s ≡ true → 0 < length s.starving
  starving-some s told = omega (arith, any-some (is_among (keys_of s.queue.told)) (keys_of s.starving) told, length-keys_of s.starving)

  -- nobody starves
  pub serves-nobody : (n : ℕ) (s : State W) → s.starving ≡ [] → ServesTheStarving n s
  serves-nobody n s none told = absurd (omega (arith, starving-some s told, ap (λ (those : List Starving). length those) none))

  -- nobody is in the queue
  pub stands-new : (closes : Bool) (n : ℕ) (s : State W) → s.queue.waiting ≡ [] → s.starving ≡ [] → IsOpen n → StandsIf closes n s
  stands-new closes n s nobody none may = record {
    nobody = λ _. rw nobody refl;
    shuts = record {
      only_then = λ shut. absurd (omega (arith, shut, may));
      shut = λ some. absurd (omega (arith, some, ap (λ (those : List Starving). length those) none));
    };
    serves = serves-nobody n s none;
    closed = λ closed. absurd (omega (arith, closed.1.0, may));
  }

  -- it is closed, and nobody is in the queue
  pub stands-closed : (closes : Bool) (n : ℕ) (s : State W) → IsClosed n → NobodyIsThere s → StandsIf closes n s
  stands-closed closes n s closed there = record {
    nobody = λ _. rw there.1 refl;
    shuts = record {
      only_then = λ shut. absurd (omega (arith, shut, closed.1));
      shut = λ some. absurd (omega (arith, some, ap (λ (those : List Starving). length those) there.2));
    };
    serves = serves-nobody n s there.2;
    closed = λ _. there;
  }

  -- the moves of a number

  -- newcomers take some, where they may
  pub stands-fewer : (closes : Bool) (n old new : ℕ) (s : State W) → new + n ≡ old → n ≤ free_of old → IsOpen old → StandsIf closes old s → StandsIf closes new s
  stands-fewer closes n old new s is has may h = record {
    nobody = λ less. h.nobody (omega (arith, less, is, may));
    shuts = record {
      only_then = λ shut. absurd (omega (arith, shut, is, may));
      shut = λ some. absurd (omega (arith, h.shuts.shut some, may));
    };
    serves = λ told. absurd (omega (arith, (h.serves told).0, may));
    closed = λ closed. absurd (omega (arith, closed.1.0, is, may));
  }

  pub serves-fewer : (more old new : ℕ) (s : State W) → IsOpen old → ServesWith more old s → ServesWith more new s
  serves-fewer more old new s may h told = absurd (omega (arith, (h told).0, may))

  -- some are given back, whoever has the queue
  pub serves-given : (more n old new : ℕ) (s : State W) → new ≡ old + n → free_of old + n < 2 ^ 60 → ServesWith more old s → ServesWith more new s
  serves-given more n old new s is room h told = (omega (arith, (h told).0, is), omega (arith, (h told).1, is, room))

  -- some are given back, where nobody has to be notified
  pub stands-given : (closes many : Bool) (n old new : ℕ) (s : State W) → new ≡ old + n → free_of old + n < 2 ^ 60 → (many ≡ false → free_of old + n ≤ 1) → StandsIf closes old s → NobodyIsOwed many s → StandsIf closes new s
  stands-given closes many n old new s is room one h owed = record {
    nobody = λ less. ⊎_elim
        (λ (none : length s.queue.waiting ≡ 0). none)
        (λ (some : (many ≡ false) × (0 < length s.queue.told)). absurd (omega (arith, less, is, room, one some.0, some.1)))
        owed;
    shuts = record {
      only_then = λ shut. h.shuts.only_then (omega (arith, shut, is, room));
      shut = λ some. omega (arith, h.shuts.shut some, is);
    };
    serves = serves-given 0 n old new s is room h.serves;
    closed = λ closed. h.closed (closed.0, (omega (arith, closed.1.0, is, room), omega (arith, closed.1.1, is)));
  }

  pub serves-beside : (more old new : ℕ) (s : State W) → free_of new ≡ free_of old → (IsShut old → IsShut new) → ServesWith more old s → ServesWith more new s
  serves-beside more old new s is shut h told = (shut (h told).0, omega (arith, (h told).1, is))

  -- whoever has the queue takes one for a notified one that has come
  pub serves-taken_told : (more old new : ℕ) (s : State W) → new + 1 ≡ old → 0 < free_of old → ServesWith (more + 1) old s → ServesWith more new s
  serves-taken_told more old new s is some h told = (omega (arith, (h told).0, is, some), omega (arith, (h told).1, is, some))

  -- the number says of as many that they are free, and of newcomers the same
  pub stands-beside : (closes : Bool) (old new : ℕ) (s : State W) → free_of new ≡ free_of old → (IsShut new → IsShut old) → (IsShut old → IsShut new) → (Closes closes new → ⊥) → StandsIf closes old s → StandsIf closes new s
  stands-beside closes old new s is only shut stays h = record {
    nobody = λ less. h.nobody (omega (arith, less, is));
    shuts = record { only_then = λ now. h.shuts.only_then (only now); shut = λ some. shut (h.shuts.shut some) };
    serves = serves-beside 0 old new s is shut h.serves;
    closed = λ closed. absurd (stays closed);
  }

  -- it needs no more than it has
  pub serves-less : (more n : ℕ) (s : State W) → ServesWith (more + 1) n s → ServesWith more n s
  serves-less more n s h told = ((h told).0, omega (arith, (h told).1))

  -- one that starves and is notified finds one
  pub finds_one : {closes : Bool} (n : ℕ) (s : State W) → StandsIf closes n s → one_starving_is_told s ≡ true → 0 < free_of n
  finds_one n s h told =
      let some : 0 < length s.queue.told = told-some s.queue.told (keys_of s.starving) told in
      omega (arith, (h.serves told).1, some)

  -- the steps of the queue

  -- a notified one has come: there is one for it
  pub serves-come : (more n : ℕ) (key : Key) (old new : State W) → Comes key old new → length new.queue.told + 1 ≡ length old.queue.told → ServesWith more n old → ServesWith (more + 1) n new
  serves-come more n key old new step fewer h told =
      let entries : List (Key × Notice (Unit {0})) = remove_entry (is_key key) old.queue.told in
      let by_queue : list_any (is_among (keys_of entries)) (without key (keys_of old.starving)) ≡ true = rw (step.queue, step.starving, keys-but key old.starving) at told in
      let among : list_any (is_among (keys_of entries)) (keys_of old.starving) ≡ true = any-filter (is_among (keys_of entries)) (λ other. not (is_key key other)) (keys_of old.starving) by_queue in
      let was : one_starving_is_told old ≡ true = any-implied (is_among (keys_of entries)) (is_among (keys_of old.queue.told)) (λ other. any-removed (is_key other) (is_key key) old.queue.told) (keys_of old.starving) among in
      ((h was).0, omega (arith, (h was).1, fewer))

  -- a notified one has come
  pub serves-came : (more n : ℕ) (key : Key) (old new : State W) → Comes key old new → ServesWith more n old → ServesWith (more + 1) n new
  serves-came more n key old new step h =
      serves-come more n key old new step (ap (λ (q : Queue (Unit {0}) (Queued W)). length q.told + 1) step.queue ∙ came_shorter key old.queue.told (lookup (is_key key) old.queue.told) refl step.told) h

  pub serves-left : (more n : ℕ) (key : Key) (old new : State W) → HasLeft key old.queue new.queue → new.starving ≡ but (Some key) old.starving → ServesWith more n old → ServesWith more n new
  serves-left more n key old new step starving h told =
      let entries : List (Key × Notice (Unit {0})) = remove_entry (is_key key) old.queue.told in
      let by_queue : list_any (is_among (keys_of entries)) (without key (keys_of old.starving)) ≡ true = rw (step.told, starving, keys-but key old.starving) at told in
      let among : list_any (is_among (keys_of entries)) (keys_of old.starving) ≡ true = any-filter (is_among (keys_of entries)) (λ other. not (is_key key other)) (keys_of old.starving) by_queue in
      let was : one_starving_is_told old ≡ true = any-implied (is_among (keys_of entries)) (is_among (keys_of old.queue.told)) (λ other. any-removed (is_key other) (is_key key) old.queue.told) (keys_of old.starving) among in
      let fewer : length new.queue.told ≤ length old.queue.told = rw step.told (length-removed (is_key key) old.queue.told) in
      ((h was).0, omega (arith, (h was).1, fewer))

  -- one that was notified has left: there is one for another one
  pub serves-left_told : (more n : ℕ) (key : Key) (old new : State W) → HasLeft key old.queue new.queue → new.starving ≡ but (Some key) old.starving → length new.queue.told + 1 ≡ length old.queue.told
      → ServesWith more n old → ServesWith (more + 1) n new
  serves-left_told more n key old new step starving fewer h told =
      let entries : List (Key × Notice (Unit {0})) = remove_entry (is_key key) old.queue.told in
      let by_queue : list_any (is_among (keys_of entries)) (without key (keys_of old.starving)) ≡ true = rw (step.told, starving, keys-but key old.starving) at told in
      let among : list_any (is_among (keys_of entries)) (keys_of old.starving) ≡ true = any-filter (is_among (keys_of entries)) (λ other. not (is_key key other)) (keys_of old.starving) by_queue in
      let was : one_starving_is_told old ≡ true = any-implied (is_among (keys_of entries)) (is_among (keys_of old.queue.told)) (λ other. any-removed (is_key other) (is_key key) old.queue.told) (keys_of old.starving) among in
      ((h was).0, omega (arith, (h was).1, fewer))

  -- one was struck off
  serves-struck : (more n : ℕ) (key : Key) (old new : State W) → IsStruck key old new → ServesWith more n old → ServesWith more n new
  serves-struck more n key old new step h = by_told (lookup (is_key key) old.queue.told) refl
    where
      by_told : (found : Option (Notice (Unit {0}))) → lookup (is_key key) old.queue.told ≡ found → ServesWith more n new
      by_told (Some notice) is = serves-left more n key old new (step.told (subst IsSome (sym is) refl)) step.starving h
      by_told None is = λ told.
          let same : new.queue ≡ old.queue = step.untold (λ some. none_of_none (subst IsSome is some)) in
          let by_queue : list_any (is_among (keys_of old.queue.told)) (without key (keys_of old.starving)) ≡ true = rw (same, step.starving, keys-but key old.starving) at told in
          let was : one_starving_is_told old ≡ true = any-filter (is_among (keys_of old.queue.told)) (λ other. not (is_key key other)) (keys_of old.starving) by_queue in
          ((h was).0, rw same (h was).1)

  -- a newcomer was refused for the sake of one that starves
  pub serves-forborne : (more n : ℕ) (old new : State W) → Forbears old new → ServesWith more n old → ServesWith more n new
  serves-forborne more n old new step h = by_strike (struck_off old.starving) step
    where
      by_strike : (key : Option Key) → ForbearsBy key old new → ServesWith more n new
      by_strike None is = subst (λ (s : State W). ServesWith more n s) (sym is) (λ told. h (rw (keys-less_forborne old.starving) at told))
      by_strike (Some key) struck = serves-struck more n key old new struck h

  module _ {C : Type 0} (exchanged : C → Option W → W → C → Type 0) where
    pub serves-on : (more n : ℕ) (key : Key) (old : State W) (before : C) (new : State W) (after : C) → WaitsOn exchanged key old before new after → ServesWith more n old → ServesWith more n new
    serves-on more n key old before new after step h =
        subst (λ (s : State W). ServesWith more n s) (sym step.stored) h

    pub serves-joined : (more n : ℕ) (starves : Option ℕ) (key : Key) (old : State W) (before : C) (new : State W) (after : C) → Joins exchanged starves key old before new after
        → ServesWith more n old → ServesWith more n new
    serves-joined more n starves key old before new after step h told =
        let same : new.queue.told ≡ old.queue.told = ap (λ (q : Queue (Unit {0}) (Queued W)). q.told) step.queue.queue in
        let by_queue : list_any (is_among (keys_of old.queue.told)) (joined_keys key starves (keys_of old.starving)) ≡ true = rw (same, step.starving, keys-counted_in key starves old.starving) at told in
        let was : one_starving_is_told old ≡ true = by_start starves by_queue in
        ((h was).0, rw same (h was).1)
      where
        by_start : (b : Option ℕ) → list_any (is_among (keys_of old.queue.told)) (joined_keys key b (keys_of old.starving)) ≡ true → one_starving_is_told old ≡ true
        by_start (Some forborne) t = any-last (is_among (keys_of old.queue.told)) (keys_of old.starving) key (any-front (is_key key) (keys_of old.queue.told) (keys_of old.queue.waiting) step.its_own) t
        by_start None t = t

  -- who settles

  pub serves-numbered : (more old new : ℕ) (s : State W) → free_of new ≡ free_of old → (0 < length s.starving → IsShut new) → ServesWith more old s → ServesWith more new s
  serves-numbered more old new s is shut h told =
      (shut (starving-some s told), omega (arith, (h told).1, is))

  pub stands-settled : (closes : Bool) (n : ℕ) (old new : State W) → TellsUpTo (free_of n) old.queue new.queue → new ≡ record old { queue = new.queue } → ShutsForTheStarving n old → ServesTheStarving n old → (Closes closes n → ⊥) → StandsIf closes n new
  stands-settled closes n old new step kept shuts serves stays = record {
    nobody = λ less. omega (arith, less, step.told, left);
    shuts = record {
      only_then = λ shut. rw starving (shuts.only_then shut);
      shut = λ some. shuts.shut (rw starving at some);
    };
    serves = λ told. (shuts.shut (rw starving at (starving-some new told)), by_case told);
    closed = λ closed. absurd (stays closed);
  }
    where
      starving : new.starving ≡ old.starving
      starving = ap (λ (s : State W). s.starving) kept

      left : length new.queue.waiting ≡ length old.queue.waiting - told_anew (free_of n) old.queue
      left = ap (λ (es : List (Key × Option (Queued W))). length es) step.waiting ∙ length-drop (told_anew (free_of n) old.queue) old.queue.waiting

      -- where nobody was notified anew the same ones are
      same : told_anew (free_of n) old.queue ≡ 0 → keys_of new.queue.told ≡ keys_of old.queue.told
      same none =
          let waiting : new.queue.waiting ≡ old.queue.waiting = rw none at step.waiting in
          append_cancel_right (keys_of new.queue.told) (keys_of old.queue.told) (keys_of old.queue.waiting)
          (rw waiting at step.order)

      by_case : one_starving_is_told new ≡ true → length new.queue.told + 0 ≤ free_of n
      by_case told = ⊎_elim
          (λ (few : length old.queue.told ≤ free_of n). omega (arith, few, step.told))
          (λ (many : free_of n < length old.queue.told).
          let none : told_anew (free_of n) old.queue ≡ 0 = omega (arith, many) in
          let was : one_starving_is_told old ≡ true = rw (same none, starving) at told in
          absurd (omega (arith, (serves was).1, many)))
          (le_or_more (length old.queue.told) (free_of n))
