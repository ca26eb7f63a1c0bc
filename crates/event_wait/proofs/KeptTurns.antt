-- Whoever waits has the turn that it had, whatever is done to the queue.
use Rattle.std.proofs.Common.{◌≡◌, ℕ, ◌+◌, ◌≤◌, Bool, true, false, List, [], ◌∷◌, ◌++◌, length, drop, refl, sym, ap, ◌∙◌, subst, arith, zero, suc, Option, Some, None, IsSome}
use Rattle.std.specs.Map.{keys_of, lookup, remove_entry, set_value}
use Rattle.event_queue.specs.declared.key.Key.{Key}
use Rattle.event_queue.specs.Key.{is_key}
use Rattle.event_queue.specs.Queue.{Queue, IsQueue, order_of, listeners_of}
use Rattle.event_queue.proofs.OrderLemmas.{Rises, NoneIs, Rises-back, All-back, lookup-none_is, none_before, none_is-without, other_serial}
use Rattle.event_queue.proofs.QueueLemmas.{rises_along}
use Rattle.event_wait.specs.Line.{HasLeft, TellsUpTo, told_anew}
use Rattle.event_wait.specs.FairQueue.{State, FewCame, HasJoined, IsFairQueue, Joins, KeepsTurns, WaitsOn, is_among, next_turn, turn_in, turn_of}
use Rattle.event_wait.proofs.TurnLemmas.{is_key-itself, same_key, some_is, turn_at}
use Rattle.event_wait.specs.declared.fair_queue.Queued.{Queued}

none_of_none : false ≡ true → ⊥
none_of_none h = cc

module _ {X : Type 0} where
  -- one that is found after some were left out, or one was added, was found before

  found-dropped : (k n : ℕ) (entries : List (Key × X)) (key : Key) (value : X) → Rises (keys_of entries) n → lookup (is_key key) (drop k entries) ≡ Some value → lookup (is_key key) entries ≡ Some value
  found-dropped zero n es key value rises found = found
  found-dropped (suc k) n [] key value rises found = found
  found-dropped (suc k) n (e ∷ es) key value rises found =
      let later : lookup (is_key key) es ≡ Some value = found-dropped k n es key value rises.2 found in
      let apart = none_before key (e.0 ∷ []) es value n rises later in
      rw apart.0 later

  found-removed : (gone : Key) (entries : List (Key × X)) (key : Key) (value : X) → is_key gone key ≡ false → lookup (is_key key) (remove_entry (is_key gone) entries) ≡ Some value
      → lookup (is_key key) entries ≡ Some value
  found-removed gone [] key value other found = found
  found-removed gone (e ∷ es) key value other found = by_test (is_key gone e.0) refl (is_key key e.0) refl (found-removed gone es key value other)
    where
      by_test : (a : Bool) → is_key gone e.0 ≡ a → (b : Bool) → is_key key e.0 ≡ b → (lookup (is_key key) (remove_entry (is_key gone) es) ≡ Some value → lookup (is_key key) es ≡ Some value)
          → lookup (is_key key) (e ∷ es) ≡ Some value
      by_test true goes true here rest = absurd (none_of_none (sym other ∙ (ap (λ k. is_key gone k) (same_key key e.0 here) ∙ goes)))
      by_test true goes false apart rest = rw apart (rw goes at found)
      by_test false stays true here rest = rw here (rw (stays, here) at found)
      by_test false stays false apart rest = rw apart (rest (rw (stays, apart) at found))

  found-pushed : (entries : List (Key × X)) (last : Key × X) (key : Key) (value : X) → is_key key last.0 ≡ false → lookup (is_key key) (entries ++ last ∷ []) ≡ Some value
      → lookup (is_key key) entries ≡ Some value
  found-pushed [] last key value other found = rw other at found
  found-pushed (e ∷ es) last key value other found = by_test (is_key key e.0) refl (found-pushed es last key value other)
    where
      by_test : (a : Bool) → is_key key e.0 ≡ a → (lookup (is_key key) (es ++ last ∷ []) ≡ Some value → lookup (is_key key) es ≡ Some value) → lookup (is_key key) (e ∷ es) ≡ Some value
      by_test true here rest = rw here (rw here at found)
      by_test false apart rest = rw apart (rest (rw apart at found))

  found-last : (entries : List (Key × X)) (key : Key) (value : X) → is_among (keys_of entries) key ≡ false → lookup (is_key key) (entries ++ (key, value) ∷ []) ≡ Some value
  found-last [] key value none = rw (is_key-itself key) refl
  found-last (e ∷ es) key value none = by_test (is_key key e.0) refl (found-last es key value)
    where
      by_test : (a : Bool) → is_key key e.0 ≡ a → (is_among (keys_of es) key ≡ false → lookup (is_key key) (es ++ (key, value) ∷ []) ≡ Some value) → lookup (is_key key) (e ∷ es ++ (key, value) ∷ []) ≡ Some value
      by_test true here rest = absurd (none_of_none (sym (rw here at none)))
      by_test false apart rest = rw apart (rest (rw apart at none))

among-back : (keys more : List Key) (key : Key) → is_among (keys ++ more) key ≡ false → is_among more key ≡ false
among-back [] more key none = none
among-back (k ∷ keys) more key none = by_test (is_key key k) refl (among-back keys more key)
  where
    by_test : (a : Bool) → is_key key k ≡ a → (is_among (keys ++ more) key ≡ false → is_among more key ≡ false) → is_among more key ≡ false
    by_test true here rest = absurd (none_of_none (sym (rw here at none)))
    by_test false apart rest = rest (rw apart at none)

module _ {W : Type 0} where
  same_turn : (now was : Option (Option (Queued W))) → ((stored : Option (Queued W)) → now ≡ Some stored → was ≡ Some stored) → IsSome (turn_in now) → turn_in now ≡ turn_in was
  same_turn None was same some = absurd (none_of_none some)
  same_turn (Some stored) was same some = ap turn_in (sym (same stored refl))

  turn-set : (key : Key) (entries : List (Key × Option (Queued W))) (old new : Queued W) → lookup (is_key key) entries ≡ Some (Some old) → new.turn ≡ old.turn → (other : Key)
      → turn_in (lookup (is_key other) (set_value (is_key key) entries (Some new))) ≡ turn_in (lookup (is_key other) entries)
  turn-set key [] old new found same other = refl
  turn-set key (e ∷ es) old new found same other = by_test (is_key key e.0) refl (is_key other e.0) refl (λ at. turn-set key es old new at same other)
    where
      by_test : (a : Bool) → is_key key e.0 ≡ a → (b : Bool) → is_key other e.0 ≡ b
          → (lookup (is_key key) es ≡ Some (Some old) → turn_in (lookup (is_key other) (set_value (is_key key) es (Some new))) ≡ turn_in (lookup (is_key other) es))
          → turn_in (lookup (is_key other) (set_value (is_key key) (e ∷ es) (Some new))) ≡ turn_in (lookup (is_key other) (e ∷ es))
      by_test true here true there rest =
          let is : e.1 ≡ Some old = some_is _ _ (rw here at found) in
          rw (here, there, is, same) refl
      by_test true here false apart rest = rw (here, apart) refl
      by_test false apart true there rest = rw (apart, there) refl
      by_test false apart false off rest = rw (apart, off) (rest (rw apart at found))

  pub turns-same : (old new : State W) → new.queue.waiting ≡ old.queue.waiting → old.queue.next_serial ≤ new.queue.next_serial → KeepsTurns old new
  turns-same old new same later = record {
    turns = λ key given some. ap (λ (es : List (Key × Option (Queued W))). turn_in (lookup (is_key key) es)) same;
    serial = later;
  }

  pub turns-told : (free : ℕ) (old new : State W) → TellsUpTo free old.queue new.queue → IsQueue old.queue → KeepsTurns old new
  turns-told free old new step queue = record {
    turns = λ key given some. same_turn (lookup (is_key key) new.queue.waiting) (lookup (is_key key) old.queue.waiting)
        (λ stored found. found-dropped (told_anew free old.queue) old.queue.next_serial old.queue.waiting key stored (Rises-back (keys_of old.queue.told) (keys_of old.queue.waiting) old.queue.next_serial (rises_along old.queue queue)) (rw step.waiting at found)) some;
    serial = omega (arith, step.serial);
  }

  pub turns-left : (gone : Key) (old new : State W) → HasLeft gone old.queue new.queue → KeepsTurns old new
  turns-left gone old new step = record {
    turns = λ key given some. same_turn (lookup (is_key key) new.queue.waiting) (lookup (is_key key) old.queue.waiting)
        (λ stored found. found-removed gone old.queue.waiting key stored (other key stored (is_key gone key) refl found) (rw step.waiting at found)) some;
    serial = omega (arith, step.serial);
  }
    where
      none : lookup (is_key gone) new.queue.waiting ≡ None
      none = lookup-none_is gone new.queue.waiting
          (All-back _ (keys_of new.queue.told) (keys_of new.queue.waiting) (subst (λ (keys : List Key). NoneIs gone keys) (sym step.order) (none_is-without gone (order_of old.queue))))

      other : (key : Key) (stored : Option (Queued W)) (b : Bool) → is_key gone key ≡ b → lookup (is_key key) new.queue.waiting ≡ Some stored → is_key gone key ≡ false
      other key stored true same found =
          let is : gone ≡ key = same_key gone key same in
          let no : Some stored ≡ None = sym found ∙ (ap (λ k. lookup (is_key k) new.queue.waiting) (sym is) ∙ none) in
          absurd (let gone : Some stored ≡ None = no in cc)
      other key stored false apart found = apart

  module _ {C : Type 0} (exchanged : C → Option W → W → C → Type 0) where
    pub turns-on : (key : Key) (old : State W) (before : C) (new : State W) (after : C) → WaitsOn exchanged key old before new after → KeepsTurns old new
    turns-on key old before new after step =
        subst (λ (s : State W). KeepsTurns old s) (sym step.stored) (record {
          turns = λ other given some. turn-set key old.queue.waiting step.waiter (record { task = step.task; turn = step.waiter.turn }) step.found refl other;
          serial = omega arith;
        })

    pub turns-joined : (starves : Option ℕ) (key : Key) (old : State W) (before : C) (new : State W) (after : C) → Joins exchanged starves key old before new after → KeepsTurns old new
    turns-joined starves key old before new after step = record {
      turns = λ other given some. same_turn (lookup (is_key other) new.queue.waiting) (lookup (is_key other) old.queue.waiting)
          (λ stored found.
          let apart : is_key other key ≡ false = other_serial other key (λ same. omega (arith, given, same, step.queue.serial)) in
          found-pushed old.queue.waiting (key, Some (record { task = step.task; turn = next_turn old })) other stored apart (rw step.queue.queue at found)) some;
      serial = later;
    }
      where
        later : old.queue.next_serial ≤ new.queue.next_serial
        later = omega (arith, ap (λ (q : Queue (Unit {0}) (Queued W)). q.next_serial) step.queue.queue)

    pub has_joined : (starves : Option ℕ) (key : Key) (old : State W) (before : C) (new : State W) (after : C) → Joins exchanged starves key old before new after → HasJoined key old new
    has_joined starves key old before new after step = record {
      turn =
          let waiter : Queued W = record { task = step.task; turn = next_turn old } in
          let last = found-last old.queue.waiting key (Some waiter) (among-back (keys_of old.queue.told) (keys_of old.queue.waiting) key step.its_own) in
          ap (λ (q : Queue (Unit {0}) (Queued W)). turn_in (lookup (is_key key) q.waiting)) step.queue.queue ∙ ap turn_in last;
      given = omega (arith, ap (λ (q : Queue (Unit {0}) (Queued W)). q.next_serial) step.queue.queue, step.queue.serial);
    }

  -- the laws

  pub turns-along : (first between last : State W) → KeepsTurns first between → KeepsTurns between last → KeepsTurns first last
  turns-along first between last before after = record {
    turns = λ key given some.
        let later = after.turns key (omega (arith, given, before.serial)) some in
        later ∙ before.turns key given (subst IsSome later some);
    serial = omega (arith, before.serial, after.serial);
  }

  pub few_came : (now : State W) → IsFairQueue now → FewCame now
  few_came now line key old joined joins kept some =
      let turn : turn_of key now ≡ Some (next_turn old) = kept.turns key joins.given some ∙ joins.turn in
      by_stored (lookup (is_key key) now.queue.waiting) refl turn
    where
      by_stored : (stored : Option (Option (Queued W))) → lookup (is_key key) now.queue.waiting ≡ stored → turn_in stored ≡ Some (next_turn old) → now.came ≤ old.came + listeners_of old.queue
      by_stored None found turn = absurd (let no : None ≡ Some (next_turn old) = turn in cc)
      by_stored (Some None) found turn = absurd (let no : None ≡ Some (next_turn old) = turn in cc)
      by_stored (Some (Some waiter)) found turn =
          let at : now.came + length now.queue.told ≤ waiter.turn = turn_at (is_key key) (now.came + length now.queue.told) now.queue.waiting (Some waiter) found line.turns in
          let is : waiter.turn ≡ next_turn old = some_is _ _ turn in
          omega (arith, at, is)
