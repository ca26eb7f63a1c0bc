-- From the steps of a recorded wait to the notes that its hand keeps.
use Rattle.std.proofs.Common.{◌≡◌, ◌∙◌, refl, sym, ◌++◌, ◌∷◌, [], ap, ℕ, zero, suc, List, replicate, inl, inr, arith, Option, Some, None, Result, Ok, Err}
use Rattle.std.specs.Option.{option_transpose}
use Rattle.std.proofs.lemmas.List.{append-nil, append_assoc, replicate_more}
use Rattle.std.proofs.Math.Numerals.{suc-eq-add-one}
use Rattle.event_queue.specs.declared.key.Key.{Key}
use Rattle.event_wait.specs.declared.lock.wait.Refused.{Refused}
use Rattle.event_wait.specs.declared.lock.wait.Refused.TheVariants.{Memory, Request}
use Rattle.event_wait.specs.Rounds.{Rules, Rounds, Fails, Waits, of_any}
use Rattle.event_listener.specs.declared.listener.wait_error.WaitError.{WaitError}
use Rattle.event_listener.specs.declared.listener.wait_error.WaitError.TheVariants as wait
use Rattle.event_listener.specs.declared.recorded.hand.Note.{Note}
use Rattle.event_listener.specs.declared.recorded.wait.RecordedPlace.{RecordedPlace}
use Rattle.event_listener.specs.Noting.{HandNotes, RecordedListening}
use Rattle.event_listener.specs.recording.Wait.{NotesWait, still_waiting}
use Rattle.event_listener.specs.recording.WaitSteps.{NotesAttempt, NotesRemoval, NotesRound}

module _ {T : Type 0} where
  abbrev pub WaitsOn : RecordedPlace T → RecordedPlace T → Type 0
  WaitsOn before after = (after.key ≡ before.key) × NotesRound before.key before.hand after.hand

  -- the hand once it has noted so many registrations that found the listener of that key waiting
  abbrev pub after_rounds : HandNotes T → ℕ → Key → HandNotes T
  after_rounds hand rounds key = record hand { notes = hand.notes ++ replicate rounds (still_waiting key) }

  noted_rounds : (rounds : ℕ) (before after : RecordedPlace T) → Rounds WaitsOn rounds before after → (after.key ≡ before.key) × (after.hand ≡ after_rounds before.hand rounds before.key)
  noted_rounds zero before after same =
      (ap (λ place. place.key) same, rw (append-nil before.hand.notes) (ap (λ place. place.hand) same))
  noted_rounds (suc rounds) before after waited =
      let earlier = noted_rounds rounds before waited.0 waited.1 in
      let now = rw (earlier.0, earlier.1) at waited.2.1 in
      let more : replicate rounds (still_waiting {T = T} before.key) ++ still_waiting before.key ∷ [] ≡ replicate (suc rounds) (still_waiting before.key) =
      replicate_more rounds (still_waiting before.key) ∙ ap (λ count. replicate count (still_waiting {T = T} before.key)) (sym (suc-eq-add-one rounds)) in
      let notes = append_assoc before.hand.notes (replicate rounds (still_waiting before.key)) (still_waiting before.key ∷ []) ∙ ap (λ later. before.hand.notes ++ later) more in
      (waited.2.0 ∙ earlier.0, now ∙ ap (λ (all : List (Note T)). record before.hand { notes = all }) notes)

  abbrev pub Succeeds : {E : Type 0} → RecordedPlace T → Result T E → RecordedPlace T → Type 0
  Succeeds before output after = (after.key ≡ before.key) × NotesAttempt before.key before.hand output after.hand

  abbrev pub Leaves : {E : Type 0} → RecordedPlace T → Option (Result T E) → RecordedPlace T → Type 0
  Leaves before answer after = (after.key ≡ before.key) × NotesRemoval before.key before.hand answer after.hand

  -- what the wait of this listener returns
  abbrev pub answered : {E : Type 0} → Result (Option T) E → Result (Option T) (WaitError RecordedListening)
  answered (Ok tag) = Ok tag
  answered (Err error) = Err wait.NeverInserted

  module _ {E R : Type 0} where
    abbrev pub returned : RecordedListening → Result (Option (Result T E)) R → Result (Option T) (WaitError RecordedListening)
    returned listener (Ok answer) = answered (option_transpose answer)
    returned listener (Err refused) = Err (wait.Memory listener)

  module _ (E : Type 0) {R : Type 0} where
    -- what the lock says of a listener that waits
    abbrev asks : Rules (RecordedPlace T) (Result T E) R
    asks = of_any Succeeds WaitsOn Leaves

    where_it_was : (before : RecordedPlace T) (error : Refused R) (after : RecordedPlace T) → Fails asks before error after → after ≡ before
    where_it_was before Memory after same = same
    where_it_was before (Request error) after (inl same) = same
    where_it_was before (Request error) after (inr same) = same

    pub noted_wait : (may_end : Type 0) (before : RecordedPlace T) (listener : RecordedListening) (result : Result (Option (Result T E)) (Refused R)) (after : RecordedPlace T)
        → before.key ≡ listener.key → Waits asks may_end before result after
        → NotesWait may_end listener before.hand (returned listener result) after.hand
    noted_wait may_end before listener (Ok (Some (Ok tag))) after key (inl round) =
        let earlier = noted_rounds round.waited.0 before round.between round.waited.1 in
        let last = rw (earlier.0, earlier.1, key) at round.succeeded.1 in
        record { rounds = round.waited.0; last = _; notes = last; ended = inl refl }
    noted_wait may_end before listener (Ok (Some (Err error))) after key (inl round) =
        let earlier = noted_rounds round.waited.0 before round.between round.waited.1 in
        let last = rw (earlier.0, earlier.1, key) at round.succeeded.1 in
        record { rounds = round.waited.0; last = _; notes = last; ended = inl refl }
    noted_wait may_end before listener (Ok (Some (Ok tag))) after key (inr late) =
        let earlier = noted_rounds (suc late.waited.0) before late.between late.waited.1 in
        let last = rw (earlier.0, earlier.1, key) at late.left.1.1 in
        record { rounds = suc late.waited.0; last = _; notes = last; ended = inr (late.left.1.0, record { has_deadline = late.has_limit; registered = omega arith; removal = refl }) }
    noted_wait may_end before listener (Ok None) after key late = by_answer late.left.1
      where
        earlier : (late.between.key ≡ before.key) × (late.between.hand ≡ after_rounds before.hand (suc late.waited.0) before.key)
        earlier = noted_rounds (suc late.waited.0) before late.between late.waited.1

        by_answer : NotesRemoval {T = T} {E = E} late.between.key late.between.hand None after.hand → NotesWait may_end listener before.hand (Ok None) after.hand
        by_answer (inl created) =
            let last = rw (earlier.0, earlier.1, key) at created in
            record { rounds = suc late.waited.0; last = _; notes = last; ended = inl (record { has_deadline = late.has_limit; registered = omega arith; removal = refl }) }
        by_answer (inr task) =
            let last = rw (earlier.0, earlier.1, key) at task in
            record { rounds = suc late.waited.0; last = _; notes = last; ended = inr (record { has_deadline = late.has_limit; registered = omega arith; removal = refl }) }
    noted_wait may_end before listener (Ok (Some (Err error))) after key (inr late) =
        let earlier = noted_rounds (suc late.waited.0) before late.between late.waited.1 in
        let last = rw (earlier.0, earlier.1, key) at late.left.1 in
        record { rounds = suc late.waited.0; last = _; notes = last; ended = inr (record { has_deadline = late.has_limit; registered = omega arith; removal = refl }) }
    noted_wait may_end before listener (Err refused) after key failed =
        let some = failed.1 in
        let earlier = noted_rounds some.0 before failed.0 some.1 in
        let last = rw (key) at (ap (λ place. place.hand) (where_it_was failed.0 refused after failed.2) ∙ earlier.1) in
        record { rounds = some.0; last = []; notes = rw (append-nil (before.hand.notes ++ replicate some.0 (still_waiting listener.key))) last; ended = (refl, refl) }
