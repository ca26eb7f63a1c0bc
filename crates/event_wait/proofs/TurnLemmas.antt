-- Each that waits keeps its turn, and those that starve are in the queue.
use Rattle.std.proofs.Common.{◌≡◌, ℕ, ◌+◌, ◌-◌, ◌<◌, ◌≤◌, Bool, true, false, ◌||◌, not, List, [], ◌∷◌, ◌++◌, length, drop, refl, sym, ap, ◌∙◌, subst, arith, zero, suc, Option, Some, None, unwrap_or, if◌then◌else◌, length-append, length-drop}
use Rattle.std.specs.List.{AllByRecursion}
use Rattle.std.specs.Map.{keys_of, lookup, remove_entry, set_value}
use Rattle.std.proofs.lemmas.Bool.{eqb-true, and_parts, cond_both}
use Rattle.std.proofs.lemmas.Map.{length-set_value}
use Rattle.event_queue.specs.declared.key.Key.{Key}
use Rattle.event_queue.specs.declared.reply.RegisterResult.{RegisterResult}
use Rattle.event_queue.specs.declared.reply.RegisterResult.TheVariants.{Notified, Registered, NeverInserted}
use Rattle.event_queue.specs.Exchange.{Exchanges, JoinsWithTask, RegistersWith}
use Rattle.event_queue.specs.Insert.{JoinsStoring}
use Rattle.event_queue.specs.Key.{is_key, without}
use Rattle.event_queue.specs.Queue.{Queue, IsAbsent, IsQueue, order_of}
use Rattle.event_queue.proofs.OrderLemmas.{NoneIs, Rises, All-append, All-filter, All-implied, none_is-without, other_serial}
use Rattle.event_queue.specs.Register.{OnNotified, after_storing}
use Rattle.event_queue.proofs.QueueLemmas.{IsAbsent-none, rises_along, order_of-push, order_of-after_storing}
use Rattle.event_wait.specs.Line.{HasLeft, IsNotInUnlessWaits, TellsUpTo, told_anew}
use Rattle.event_wait.specs.FairQueue.{State, is_among, AllDiffer, HasTurnFrom, HaveTurnsFrom, IsFairQueue, Joins, StoresInTurn, WaitsOn, next_turn}
use Rattle.event_wait.specs.Starving.{Starving, but, counted_in, less_forborne}
use Rattle.event_wait.proofs.StarvingLemmas.{keys-but, keys-counted_in, keys-less_forborne, joined_keys}
use Rattle.event_wait.specs.declared.fair_queue.Queued.{Queued}

pub some_is : {X : Type 0} (x y : X) → Some x ≡ Some y → x ≡ y
some_is x y h = ap (λ o. unwrap_or o x) h

-- turns

module _ {W : Type 0} where
  sooner : (m n : ℕ) (stored : Option (Queued W)) → m ≤ n → HasTurnFrom n stored → HasTurnFrom m stored
  sooner m n None le h = h
  sooner m n (Some waiter) le h = omega (arith, h, le)

  turns-sooner : (m n : ℕ) (entries : List (Key × Option (Queued W))) → m ≤ n → HaveTurnsFrom n entries → HaveTurnsFrom m entries
  turns-sooner m n [] le h = tt
  turns-sooner m n (e ∷ es) le h = (sooner m n e.1 le h.0, turns-sooner (m + 1) (n + 1) es (omega (arith, le)) h.1)

  turns-drop : (k n : ℕ) (entries : List (Key × Option (Queued W))) → HaveTurnsFrom n entries → HaveTurnsFrom (n + k) (drop k entries)
  turns-drop zero n es h = turns-sooner (n + 0) n es (omega arith) h
  turns-drop (suc k) n [] h = tt
  turns-drop (suc k) n (e ∷ es) h = turns-sooner (n + suc k) (n + 1 + k) (drop k es) (omega arith) (turns-drop k (n + 1) es h.1)

  turns-without : (test : Key → Bool) (n : ℕ) (entries : List (Key × Option (Queued W))) → HaveTurnsFrom n entries → HaveTurnsFrom n (remove_entry test entries)
  turns-without test n [] h = tt
  turns-without test n (e ∷ es) h = by_test (test e.0) refl (turns-without test (n + 1) es h.1)
    where
      by_test : (b : Bool) → test e.0 ≡ b → HaveTurnsFrom (n + 1) (remove_entry test es) → HaveTurnsFrom n (remove_entry test (e ∷ es))
      by_test true here rest = rw here (turns-sooner n (n + 1) es (omega arith) h.1)
      by_test false apart rest = rw apart (h.0, rest)

  turns-last : (n : ℕ) (entries : List (Key × Option (Queued W))) (key : Key) (waiter : Queued W) → n + length entries ≤ waiter.turn → HaveTurnsFrom n entries
      → HaveTurnsFrom n (entries ++ (key, Some waiter) ∷ [])
  turns-last n [] key waiter le h = (omega (arith, le), tt)
  turns-last n (e ∷ es) key waiter le h = (h.0, turns-last (n + 1) es key waiter (omega (arith, le)) h.1)

  -- the turn of one that is found
  pub turn_at : (test : Key → Bool) (n : ℕ) (entries : List (Key × Option (Queued W))) (stored : Option (Queued W)) → lookup test entries ≡ Some stored → HaveTurnsFrom n entries → HasTurnFrom n stored
  turn_at test n [] stored found h = absurd (cc)
  turn_at test n (e ∷ es) stored found h = by_test (test e.0) refl (turn_at test (n + 1) es stored)
    where
      by_test : (b : Bool) → test e.0 ≡ b → (lookup test es ≡ Some stored → HaveTurnsFrom (n + 1) es → HasTurnFrom (n + 1) stored) → HasTurnFrom n stored
      by_test true here rest =
          let is : e.1 ≡ stored = some_is _ _ (rw here at found) in
          subst (λ (s : Option (Queued W)). HasTurnFrom n s) is h.0
      by_test false apart rest = sooner n (n + 1) stored (omega arith) (rest (rw apart at found) h.1)

  turns-set : (test : Key → Bool) (n : ℕ) (entries : List (Key × Option (Queued W))) (old new : Queued W) → lookup test entries ≡ Some (Some old) → new.turn ≡ old.turn → HaveTurnsFrom n entries
      → HaveTurnsFrom n (set_value test entries (Some new))
  turns-set test n [] old new found same h = tt
  turns-set test n (e ∷ es) old new found same h = by_test (test e.0) refl (turns-set test (n + 1) es old new)
    where
      by_test : (b : Bool) → test e.0 ≡ b
          → (lookup test es ≡ Some (Some old) → new.turn ≡ old.turn → HaveTurnsFrom (n + 1) es → HaveTurnsFrom (n + 1) (set_value test es (Some new)))
          → HaveTurnsFrom n (set_value test (e ∷ es) (Some new))
      by_test true here rest =
          let is : e.1 ≡ Some old = some_is _ _ (rw here at found) in
          let turn : n ≤ old.turn = subst (λ (s : Option (Queued W)). HasTurnFrom n s) is h.0 in
          rw here (omega (arith, turn, same), h.1)
      by_test false apart rest = rw apart (h.0, rest (rw apart at found) same h.1)

-- those that starve

pub same_key : (key other : Key) → is_key key other ≡ true → key ≡ other
same_key key other h =
    let parts = and_parts _ _ h in
    let slot : key.slot ≡ other.slot = eqb-true key.slot other.slot parts.0 in
    let serial : key.serial ≡ other.serial = eqb-true key.serial other.serial parts.1 in
    ap (λ (p : ℕ × ℕ). let k : Key = record { slot = p.0; serial = p.1 } in k) (λ i. (slot i, serial i))

or_true : (a b : Bool) → a ≡ true → (a || b) ≡ true
or_true a b h = rw h refl

or_right : (a b : Bool) → b ≡ true → (a || b) ≡ true
or_right true b h = refl
or_right false b h = h

among-more : (keys more : List Key) (key : Key) → is_among keys key ≡ true → is_among (keys ++ more) key ≡ true
among-more [] more key h = absurd (let no : false ≡ true = h in cc)
among-more (k ∷ keys) more key h = by_test (is_key key k) refl (among-more keys more key)
  where
    by_test : (b : Bool) → is_key key k ≡ b → (is_among keys key ≡ true → is_among (keys ++ more) key ≡ true) → is_among (k ∷ keys ++ more) key ≡ true
    by_test true here rest = rw here refl
    by_test false apart rest = rw apart (rest (rw apart at h))

pub is_key-itself : (key : Key) → is_key key key ≡ true
is_key-itself key = grind arith

among-last : (keys : List Key) (key : Key) → is_among (keys ++ key ∷ []) key ≡ true
among-last [] key = or_true (is_key key key) false (is_key-itself key)
among-last (k ∷ keys) key = or_right (is_key key k) (is_among (keys ++ key ∷ []) key) (among-last keys key)

among-without : (gone : Key) (keys : List Key) (key : Key) → is_key gone key ≡ false → is_among keys key ≡ true → is_among (without gone keys) key ≡ true
among-without gone [] key stays h = absurd (let no : false ≡ true = h in cc)
among-without gone (k ∷ keys) key stays h = by_test (is_key key k) refl (is_key gone k) refl (among-without gone keys key stays)
  where
    by_test : (a : Bool) → is_key key k ≡ a → (b : Bool) → is_key gone k ≡ b → (is_among keys key ≡ true → is_among (without gone keys) key ≡ true)
        → is_among (without gone (k ∷ keys)) key ≡ true
    by_test true here true there rest = absurd (let no : false ≡ true = sym stays ∙ (ap (λ x. is_key gone x) (same_key key k here) ∙ there) in cc)
    by_test true here false there rest = rw (there, here) refl
    by_test false apart true there rest = rw there (rest (rw apart at h))
    by_test false apart false there rest = rw (there, apart) (rest (rw apart at h))

among-none : (keys : List Key) (key : Key) → NoneIs key keys → is_among keys key ≡ false
among-none [] key h = refl
among-none (k ∷ keys) key h = rw h.0 (among-none keys key h.1)

-- one that left is not among those that stay
pub among-left : (key : Key) (old new : List Key) → new ≡ without key old → is_among new key ≡ false
among-left key old new is = rw is (among-none (without key old) key (none_is-without key old))

pub among-absent : {T W : Type 0} (key : Key) (q : Queue T W) → IsAbsent key q → is_among (order_of q) key ≡ false
among-absent key q absent = among-none (order_of q) key (IsAbsent-none key q absent)

all_among-more : (keys more : List Key) (some : List Key) → AllByRecursion (λ key. is_among keys key ≡ true) some → AllByRecursion (λ key. is_among (keys ++ more) key ≡ true) some
all_among-more keys more some all = All-implied (λ key. is_among keys key ≡ true) (λ key. is_among (keys ++ more) key ≡ true) some (λ key h. among-more keys more key h) all

all_among-without : (gone : Key) (keys : List Key) (some : List Key) → AllByRecursion (λ key. is_among keys key ≡ true) some
    → AllByRecursion (λ key. is_among (without gone keys) key ≡ true) (without gone some)
all_among-without gone keys [] all = tt
all_among-without gone keys (k ∷ some) all = by_test (is_key gone k) refl (all_among-without gone keys some all.1)
  where
    by_test : (b : Bool) → is_key gone k ≡ b → AllByRecursion (λ key. is_among (without gone keys) key ≡ true) (without gone some)
        → AllByRecursion (λ key. is_among (without gone keys) key ≡ true) (without gone (k ∷ some))
    by_test true here rest = rw here rest
    by_test false apart rest = rw apart (among-without gone keys k apart all.0, rest)

differ-without : (gone : Key) (keys : List Key) → AllDiffer keys → AllDiffer (without gone keys)
differ-without gone [] h = tt
differ-without gone (k ∷ keys) h =
    let rest = differ-without gone keys h.1 in
    let later = All-filter (λ other. is_key k other ≡ false) (λ other. not (is_key gone other)) keys h.0 in
    cond_both (not (is_key gone k)) (k ∷ without gone keys) (without gone keys) (λ (ks : List Key). AllDiffer ks) (λ _. (later, rest)) (λ _. rest)

differ-last : (keys : List Key) (key : Key) → AllByRecursion (λ other. is_key other key ≡ false) keys → AllDiffer keys → AllDiffer (keys ++ key ∷ [])
differ-last [] key apart h = (tt, tt)
differ-last (k ∷ keys) key apart h = (All-append (λ other. is_key k other ≡ false) keys (key ∷ []) h.0 (apart.0, tt), differ-last keys key apart.1 h.1)

-- one whose serial is none of theirs yet is none of them
among-below : (keys : List Key) (n : ℕ) (key : Key) → Rises keys n → is_among keys key ≡ true → key.serial < n
among-below [] n key rises h = absurd (let no : false ≡ true = h in cc)
among-below (k ∷ keys) n key rises h = by_test (is_key key k) refl (among-below keys n key rises.2)
  where
    by_test : (b : Bool) → is_key key k ≡ b → (is_among keys key ≡ true → key.serial < n) → key.serial < n
    by_test true here rest = let same : key.serial ≡ k.serial = ap (λ (x : Key). x.serial) (same_key key k here) in omega (arith, rises.1, same)
    by_test false apart rest = rest (rw apart at h)

none_is-new : (keys : List Key) (n : ℕ) (key : Key) (some : List Key) → Rises keys n → key.serial ≡ n → AllByRecursion (λ other. is_among keys other ≡ true) some
    → AllByRecursion (λ other. is_key other key ≡ false) some
none_is-new keys n key some rises is all =
    All-implied (λ other. is_among keys other ≡ true) (λ other. is_key other key ≡ false) some
    (λ other h. let below : other.serial < n = among-below keys n other rises h in other_serial other key (λ same. omega (arith, below, same, is))) all

module _ {W : Type 0} where
  -- the first that wait were notified
  pub line-told : (free : ℕ) (old new : State W) → TellsUpTo free old.queue new.queue → new.starving ≡ old.starving → new.came ≡ old.came → IsFairQueue old → IsFairQueue new
  line-told free old new step starving came line = record {
    turns =
        let turns = turns-drop (told_anew free old.queue) (old.came + length old.queue.told) old.queue.waiting line.turns in
        let later : new.came + length new.queue.told ≡ old.came + length old.queue.told + told_anew free old.queue = omega (arith, step.told, came) in
        rw (later, step.waiting) turns;
    among = rw (step.order, starving) line.among;
    differ = rw starving line.differ;
    counted =
        let left : length new.queue.waiting ≡ length old.queue.waiting - told_anew free old.queue = ap (λ (es : List (Key × Option (Queued W))). length es) step.waiting ∙ length-drop (told_anew free old.queue) old.queue.waiting in
        omega (arith, step.told, left, came, step.serial, line.counted);
  }

  -- one has left, told or not
  pub line-left : (key : Key) (old new : State W) → HasLeft key old.queue new.queue → length new.queue.told + length new.queue.waiting ≤ length old.queue.told + length old.queue.waiting
      → length new.queue.told ≤ length old.queue.told → new.starving ≡ but (Some key) old.starving → new.came ≡ old.came → IsFairQueue old → IsFairQueue new
  line-left key old new step fewer told starving came line = record {
    turns =
        let turns = turns-without (is_key key) (old.came + length old.queue.told) old.queue.waiting line.turns in
        rw step.waiting (turns-sooner (new.came + length new.queue.told) (old.came + length old.queue.told) (remove_entry (is_key key) old.queue.waiting) (omega (arith, told, came)) turns);
    among = rw (step.order, starving, keys-but key old.starving) (all_among-without key (order_of old.queue) (keys_of old.starving) line.among);
    differ = rw (starving, keys-but key old.starving) (differ-without key (keys_of old.starving) line.differ);
    counted = omega (arith, fewer, came, step.serial, line.counted);
  }

  -- a notified one has come
  pub line-came : (key : Key) (old new : State W) → length new.queue.told + 1 ≡ length old.queue.told → new.queue.waiting ≡ old.queue.waiting → order_of new.queue ≡ without key (order_of old.queue)
      → new.queue.next_serial ≡ old.queue.next_serial → new.starving ≡ but (Some key) old.starving → new.came ≡ old.came + 1 → IsFairQueue old → IsFairQueue new
  line-came key old new told waiting order serial starving came line = record {
    turns =
        let same : new.came + length new.queue.told ≡ old.came + length old.queue.told = omega (arith, told, came) in
        rw (same, waiting) line.turns;
    among = rw (order, starving, keys-but key old.starving) (all_among-without key (order_of old.queue) (keys_of old.starving) line.among);
    differ = rw (starving, keys-but key old.starving) (differ-without key (keys_of old.starving) line.differ);
    counted =
        let as_many : length new.queue.waiting ≡ length old.queue.waiting = ap (λ (es : List (Key × Option (Queued W))). length es) waiting in
        omega (arith, told, as_many, came, serial, line.counted);
  }

  -- one was struck off that waits on
  pub line-struck : (key : Key) (old new : State W) → new.queue ≡ old.queue → new.starving ≡ but (Some key) old.starving → new.came ≡ old.came → IsFairQueue old → IsFairQueue new
  line-struck key old new queue starving came line = record {
    turns = rw (queue, came) line.turns;
    among = rw (queue, starving, keys-but key old.starving) (All-filter (λ k. is_among (order_of old.queue) k ≡ true) (λ other. not (is_key key other)) (keys_of old.starving) line.among);
    differ = rw (starving, keys-but key old.starving) (differ-without key (keys_of old.starving) line.differ);
    counted = rw (queue, came) line.counted;
  }

  -- the first that starves is forborne with for one fewer
  pub line-forborne : (old new : State W) → new ≡ record old { starving = less_forborne old.starving } → IsFairQueue old → IsFairQueue new
  line-forborne old new is line = subst IsFairQueue (sym is) (record {
    turns = line.turns;
    among = rw (keys-less_forborne old.starving) line.among;
    differ = rw (keys-less_forborne old.starving) line.differ;
    counted = line.counted;
  })

  module _ {C : Type 0} (exchanged : C → Option W → W → C → Type 0) where
    -- one waits on: it had a turn, and has kept it
    pub waits_on : (next : ℕ) (key : Key) (old : State W) (before : C) (queue : Queue (Unit {0}) (Queued W)) (after : C) → Exchanges (StoresInTurn exchanged next) old.queue key before queue after → IsFairQueue old
        → WaitsOn exchanged key old before (record old { queue = queue }) after
    waits_on next key old before queue after step line = by_stored step.handed_out step.task step.found step.made step.stored
      where
        by_stored : (stored : Option (Queued W)) (waiter : Queued W) → lookup (is_key key) old.queue.waiting ≡ Some stored → StoresInTurn exchanged next before stored waiter after
            → queue ≡ after_storing key waiter old.queue → WaitsOn exchanged key old before (record old { queue = queue }) after
        by_stored None waiter found made stored =
            absurd (turn_at (is_key key) (old.came + length old.queue.told) old.queue.waiting None found line.turns)
        by_stored (Some was) waiter found made stored =
            let kept : Queued W = record { task = waiter.task; turn = was.turn } in
            let same : waiter ≡ kept = ap (λ (turn : ℕ). let w : Queued W = record { task = waiter.task; turn = turn } in w) made.turn in
            let queue_is : queue ≡ after_storing key kept old.queue = stored ∙ ap (λ (w : Queued W). after_storing key w old.queue) same in
            let told : length queue.told ≡ length old.queue.told = ap (λ (q : Queue (Unit {0}) (Queued W)). length q.told) queue_is in
            let within : old.came + length old.queue.told ≤ was.turn = turn_at (is_key key) (old.came + length old.queue.told) old.queue.waiting (Some was) found line.turns in
            record {
              waiter = was;
              task = waiter.task;
              found = found;
              made = made.made;
              stored = ap (λ (q : Queue (Unit {0}) (Queued W)). let s : State W = record old { queue = q } in s) queue_is;
              within = omega (arith, told, within);
            }

    pub line-waits : (key : Key) (old : State W) (before : C) (new : State W) (after : C) → WaitsOn exchanged key old before new after → IsFairQueue old → IsFairQueue new
    line-waits key old before new after step line =
        let kept : Queued W = record { task = step.task; turn = step.waiter.turn } in
        subst IsFairQueue (sym step.stored) (record {
          turns = turns-set (is_key key) (old.came + length old.queue.told) old.queue.waiting step.waiter kept step.found refl line.turns;
          among = rw (order_of-after_storing key kept old.queue) line.among;
          differ = line.differ;
          counted = omega (arith, length-set_value (is_key key) old.queue.waiting (Some kept), line.counted);
        })

    -- a newcomer waits at the end
    pub joins : (starves : Option ℕ) (key : Key) (old : State W) (before : C) (new : State W) (after : C) → JoinsWithTask (StoresInTurn exchanged (next_turn old)) old.queue before key new.queue after
        → new.starving ≡ counted_in key starves old.starving → new.came ≡ old.came → IsQueue old.queue → Joins exchanged starves key old before new after
    joins starves key old before new after step starving came queue = record {
      task = step.task.task;
      made = step.made.made;
      queue =
          let same : step.task ≡ record { task = step.task.task; turn = next_turn old } = ap (λ (turn : ℕ). let w : Queued W = record { task = step.task.task; turn = turn } in w) step.made.turn in
          subst (λ (w : Queued W). JoinsStoring (Some w) old.queue key new.queue) same step.joins;
      its_own = by_test (is_among (order_of old.queue) key) refl;
      starving = starving;
      came = came;
    }
      where
        by_test : (b : Bool) → is_among (order_of old.queue) key ≡ b → is_among (order_of old.queue) key ≡ false
        by_test true here =
            let below : key.serial < old.queue.next_serial = among-below (order_of old.queue) old.queue.next_serial key (rises_along old.queue queue) here in
            absurd (omega (arith, below, step.joins.serial))
        by_test false apart = apart

    pub line-joined : (starves : Option ℕ) (key : Key) (old : State W) (before : C) (new : State W) (after : C) → Joins exchanged starves key old before new after → IsQueue old.queue → IsFairQueue old → IsFairQueue new
    line-joined starves key old before new after step queue line =
        let is : new ≡ record { queue = at_end; starving = counted_in key starves old.starving; came = old.came } =
        λ i. record { queue = step.queue.queue i; starving = step.starving i; came = step.came i } in
        subst IsFairQueue (sym is) (record {
          turns = turns-last (old.came + length old.queue.told) old.queue.waiting key waiter (omega arith) line.turns;
          among = rw (order_of-push old.queue key (Some waiter), keys-counted_in key starves old.starving) (among starves);
          differ = rw (keys-counted_in key starves old.starving) (differ starves);
          counted = omega (arith, length-append old.queue.waiting ((key, Some waiter) ∷ []), line.counted);
        })
      where
        waiter : Queued W
        waiter = record { task = step.task; turn = next_turn old }

        at_end : Queue (Unit {0}) (Queued W)
        at_end = record old.queue {
          waiting = old.queue.waiting ++ (key, Some waiter) ∷ [];
          next_serial = old.queue.next_serial + 1;
          spare = new.queue.spare;
        }

        among : (b : Option ℕ) → AllByRecursion (λ k. is_among (order_of old.queue ++ key ∷ []) k ≡ true) (joined_keys key b (keys_of old.starving))
        among (Some n) = All-append (λ k. is_among (order_of old.queue ++ key ∷ []) k ≡ true) (keys_of old.starving) (key ∷ [])
            (all_among-more (order_of old.queue) (key ∷ []) (keys_of old.starving) line.among) (among-last (order_of old.queue) key, tt)
        among None = all_among-more (order_of old.queue) (key ∷ []) (keys_of old.starving) line.among

        differ : (b : Option ℕ) → AllDiffer (joined_keys key b (keys_of old.starving))
        differ (Some n) = differ-last (keys_of old.starving) key (none_is-new (order_of old.queue) old.queue.next_serial key (keys_of old.starving) (rises_along old.queue queue) step.queue.serial line.among) line.differ
        differ None = line.differ
