-- A record replays entry by entry.
use Rattle.std.proofs.Common.{◌≡◌, ℕ, suc, ◌+◌, ◌<◌, Bool, true, false, ◌&&◌, nat_eq, List, [], ◌∷◌, ◌++◌}
use Rattle.std.proofs.Common.{length, drop, get_or, drop-cons, arith, refl, sym, ap, ◌∙◌, Option, Some, None, Result, Ok, Err}
use Rattle.std.specs.Prelude.{option_and_then}
use Rattle.std.specs.Cmp.{IsEquivalence, bool_eq_equiv}
use Rattle.std.proofs.lemmas.Cmp.{nat_eq_equiv}
use Rattle.std.proofs.lemmas.Bool.{eqb-true, and_parts}
use Rattle.event_queue.specs.declared.key.Key.{Key}
use Rattle.event_queue.specs.declared.reply.ListenError.{ListenError}
use Rattle.event_queue.specs.declared.reply.ListenError.TheVariants.{Memory, SerialsUsedUp}
use Rattle.event_queue.specs.declared.reply.RegisterResult.{RegisterResult}
use Rattle.event_queue.specs.declared.reply.RegisterResult.TheVariants as register
use Rattle.event_queue.specs.Key.{is_key}
use Rattle.event_queue.specs.Queue.{Queue}
use Rattle.event_listener.specs.declared.recorded.entry.Entry.{Entry}
use Rattle.event_listener.specs.declared.recorded.reply.RecordedReply.{RecordedReply}
use Rattle.event_listener.specs.declared.recorded.reply.RecordedReply.TheVariants as reply
use Rattle.event_listener.specs.declared.recorded.reply.Former.{Former}
use Rattle.event_listener.specs.declared.recorded.reply.Former.TheVariants as former
use Rattle.event_listener.specs.recording.Replay.{Shape, shape_of, answer_at, after_call, slot_in, same_registration, same_removal, same_listening, same_reply, replay_entry, replay_from}
use Rattle.event_listener.proofs.recording.StepLemmas.{Follows}

both_true : (a b : Bool) → a ≡ true → b ≡ true → a && b ≡ true
both_true a b h k = rw h k

same_key-refl : (key : Key) → is_key key key ≡ true
same_key-refl key =
    both_true (nat_eq key.slot key.slot) (nat_eq key.serial key.serial) (nat_eq_equiv.refl key.slot) (nat_eq_equiv.refl key.serial)

module _ {T : Type 0} (eq : T → T → Bool) where
  -- a reply is equal to itself
  module _ (equivalence : IsEquivalence eq) where
    same_listening-refl : (answer : Result Key ListenError) → same_listening eq answer answer ≡ true
    same_listening-refl (Ok key) = same_key-refl key
    same_listening-refl (Err Memory) = refl
    same_listening-refl (Err SerialsUsedUp) = refl

    same_registration-refl : (answer : RegisterResult T) → same_registration eq answer answer ≡ true
    same_registration-refl (register.Notified tag) = equivalence.refl tag
    same_registration-refl register.Registered = refl
    same_registration-refl register.NeverInserted = refl

    same_removal-refl : (answer : Option (Former T)) → same_removal eq answer answer ≡ true
    same_removal-refl None = refl
    same_removal-refl (Some former.Created) = refl
    same_removal-refl (Some (former.Notified additional tag)) = both_true _ _ (bool_eq_equiv.refl additional) (equivalence.refl tag)
    same_removal-refl (Some former.Task) = refl
    same_removal-refl (Some (former.Passed to)) = same_key-refl to
    same_removal-refl (Some (former.Lost additional tag)) = both_true _ _ (bool_eq_equiv.refl additional) (equivalence.refl tag)

    pub same_reply-refl : (r : RecordedReply T) → same_reply eq r r ≡ true
    same_reply-refl (reply.Listened answer) = same_listening-refl answer
    same_reply-refl (reply.Registered answer) = same_registration-refl answer
    same_reply-refl (reply.Removed answer) = same_removal-refl answer
    same_reply-refl (reply.Notified told) = nat_eq_equiv.refl told
    same_reply-refl (reply.TotalListeners total) = nat_eq_equiv.refl total
    same_reply-refl (reply.IsNotified told) = bool_eq_equiv.refl told

  -- equal replies name one slot

  same_listening-slot : (a b : Result Key ListenError) → same_listening eq a b ≡ true → slot_in {T = T} (reply.Listened a) ≡ slot_in {T = T} (reply.Listened b)
  same_listening-slot (Ok key) (Ok other) same = eqb-true key.slot other.slot (and_parts _ _ same).0
  same_listening-slot (Err Memory) (Err Memory) same = refl
  same_listening-slot (Err SerialsUsedUp) (Err SerialsUsedUp) same = refl
  same_listening-slot _ _ same = absurd (cc)

  pub same_reply-slot : (a b : RecordedReply T) → same_reply eq a b ≡ true → slot_in a ≡ slot_in b
  same_reply-slot (reply.Listened answer) (reply.Listened answer') same = same_listening-slot answer answer' same
  same_reply-slot (reply.Registered answer) (reply.Registered answer') same = refl
  same_reply-slot (reply.Removed answer) (reply.Removed answer') same = refl
  same_reply-slot (reply.Notified told) (reply.Notified told') same = refl
  same_reply-slot (reply.TotalListeners total) (reply.TotalListeners total') same = refl
  same_reply-slot (reply.IsNotified told) (reply.IsNotified told') same = refl
  same_reply-slot _ _ same = absurd (cc)

  -- an entry replays where its call answers its reply
  pub replay_entry-by : (shape after : Shape T) (entry : Entry T) (r : RecordedReply T)
      → answer_at shape (slot_in entry.reply) entry.call ≡ r → same_reply eq r entry.reply ≡ true
      → after_call shape (slot_in entry.reply) entry.call ≡ after → replay_entry eq shape entry ≡ Some after
  replay_entry-by shape after entry r answers same leaves = rw (answers, same, leaves) refl

  pub refused_entry : (shape : Shape T) (entry : Entry T) (r : RecordedReply T)
      → answer_at shape (slot_in entry.reply) entry.call ≡ r → same_reply eq r entry.reply ≡ false
      → replay_entry eq shape entry ≡ None
  refused_entry shape entry r answers differs = rw (answers, differs) refl

  pub replay_entry-follows : {W : Type 0} (old new : Queue T W) (entry : Entry T) (r : RecordedReply T)
      → Follows old entry.call r new → same_reply eq r entry.reply ≡ true
      → replay_entry eq (shape_of old) entry ≡ Some (shape_of new)
  replay_entry-follows old new entry r follows same =
      let slot = same_reply-slot r entry.reply same in
      replay_entry-by (shape_of old) (shape_of new) entry r (ap (λ s. answer_at (shape_of old) s entry.call) (sym slot) ∙ follows.answers) same
      (ap (λ s. after_call (shape_of old) s entry.call) (sym slot) ∙ follows.leaves)

  -- one more entry
  pub replay_from-push : (shape between after : Shape T) (entries : List (Entry T)) (entry : Entry T)
      → replay_from eq shape entries ≡ Some between → replay_entry eq between entry ≡ Some after
      → replay_from eq shape (entries ++ entry ∷ []) ≡ Some after
  replay_from-push shape between after [] entry replays last =
      let same : shape ≡ between = cc in
      rw (same, last) refl
  replay_from-push shape between after (first ∷ rest) entry replays last =
      by_first (replay_entry eq shape first) refl (λ next. replay_from-push next between after rest entry)
    where
      by_first : (o : Option (Shape T)) → replay_entry eq shape first ≡ o
          → ((next : Shape T) → replay_from eq next rest ≡ Some between → replay_entry eq between entry ≡ Some after → replay_from eq next (rest ++ entry ∷ []) ≡ Some after)
          → replay_from eq shape (first ∷ rest ++ entry ∷ []) ≡ Some after
      by_first None none later = absurd (let h : None ≡ Some between = ap (option_and_then (λ next. replay_from eq next rest)) (sym none) ∙ replays in cc)
      by_first (Some next) some later =
          let h : replay_from eq next rest ≡ Some between = ap (option_and_then (λ next. replay_from eq next rest)) (sym some) ∙ replays in
          ap (option_and_then (λ next. replay_from eq next (rest ++ entry ∷ []))) some ∙ later next h last

  -- the entry at an index comes next where those before it are dropped

  next_entry : (entries : List (Entry T)) (i : ℕ) (entry : Entry T) → i < length entries → entry ≡ get_or entries i entry → drop i entries ≡ entry ∷ drop (i + 1) entries
  next_entry entries i entry within here =
      let one : suc i ≡ i + 1 = omega arith in
      drop-cons entries i entry within ∙ ap (λ (e : Entry T). e ∷ drop (suc i) entries) (sym here) ∙ ap (λ n. entry ∷ drop n entries) one

  pub replay_from-next : (shape after : Shape T) (entries : List (Entry T)) (i : ℕ) (entry : Entry T) (slot : ℕ) (r : RecordedReply T)
      → i < length entries → entry ≡ get_or entries i entry → slot ≡ slot_in entry.reply
      → r ≡ answer_at shape slot entry.call → same_reply eq r entry.reply ≡ true
      → after ≡ after_call shape slot entry.call
      → replay_from eq shape (drop i entries) ≡ replay_from eq after (drop (i + 1) entries)
  replay_from-next shape after entries i entry slot r within here slot_is answers same leaves =
      let replays = replay_entry-by shape after entry r (ap (λ s. answer_at shape s entry.call) (sym slot_is) ∙ sym answers) same
      (ap (λ s. after_call shape s entry.call) (sym slot_is) ∙ sym leaves) in
      ap (replay_from eq shape) (next_entry entries i entry within here) ∙ ap (option_and_then (λ next. replay_from eq next (drop (i + 1) entries))) replays

  pub replay_from-refused : (shape : Shape T) (entries : List (Entry T)) (i : ℕ) (entry : Entry T) (slot : ℕ) (r : RecordedReply T)
      → i < length entries → entry ≡ get_or entries i entry → slot ≡ slot_in entry.reply
      → r ≡ answer_at shape slot entry.call → same_reply eq r entry.reply ≡ false
      → replay_from eq shape (drop i entries) ≡ None
  replay_from-refused shape entries i entry slot r within here slot_is answers differs =
      let none = refused_entry shape entry r (ap (λ s. answer_at shape s entry.call) (sym slot_is) ∙ sym answers) differs in
      ap (replay_from eq shape) (next_entry entries i entry within here) ∙ ap (option_and_then (λ next. replay_from eq next (drop (i + 1) entries))) none
