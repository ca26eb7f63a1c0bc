-- The notes of a hand and its entries, entry by entry; the hands and how often each number is among them.
use Rattle.std.proofs.Common.{◌≡◌, ◌∙◌, ◌<◌, ◌+◌, ◌&&◌, ◌==◌, nat_lt, ℕ, suc, Some, None, Option, Bool, true, false, List, [], ◌∷◌, length, drop, get_or, refl, sym, ap, arith}
use Rattle.std.proofs.lemmas.Bool.{ltb-true}
use Rattle.std.proofs.lemmas.List.{drop_more}
use Rattle.event_listener.specs.declared.recorded.entry.Entry.{Entry}
use Rattle.event_listener.specs.declared.recorded.hand.Note.{Note}
use Rattle.event_listener.specs.Closing.{is_by, is_below, entries_of, entries_of_hands, are_notes, are_notes_of_all, notes_of_all, how_many_with, AreAllHands, are_hands_below, same_call}
use Rattle.event_listener.specs.Noting.{HandNotes}
use Rattle.event_listener.specs.recording.Replay.{same_reply}

module _ {T : Type 0} (eq : T → T → Bool) (hand : ℕ) (entries : List (Entry T)) (at : ℕ) (x : Entry T) (here : x ≡ get_or entries at x) (within : at < length entries) where
  entries_by : is_by hand x.hand ≡ true → entries_of hand (drop at entries) ≡ x ∷ entries_of hand (drop (at + 1) entries)
  entries_by by = rw (drop_more entries at x within, ← here, by) refl

  entries_apart : is_by hand x.hand ≡ false → entries_of hand (drop at entries) ≡ entries_of hand (drop (at + 1) entries)
  entries_apart apart = rw (drop_more entries at x within, ← here, apart) refl

  module _ (all : Bool) (left : List (Note T)) (so_far : all ≡ are_notes eq (entries_of hand (drop at entries)) left) where
    -- an entry of another hand, or of none
    pub notes_skip : is_by hand x.hand ≡ false → all ≡ are_notes eq (entries_of hand (drop (at + 1) entries)) left
    notes_skip apart = rw (entries_apart apart) at so_far

    -- no note is left for it
    pub notes_end : is_by hand x.hand ≡ true → length left ≡ 0 → false ≡ all
    notes_end by none = sym (by_left left none so_far)
      where
        by_left : (left : List (Note T)) → length left ≡ 0 → all ≡ are_notes eq (entries_of hand (drop at entries)) left → all ≡ false
        by_left [] none so_far = rw (entries_by by) at so_far
        by_left (note ∷ rest) none so_far = absurd (omega (arith, none))

    module _ (by : is_by hand x.hand ≡ true) (note : Note T) (rest : List (Note T)) (next : left ≡ note ∷ rest) where
      -- its note differs
      pub notes_differ : same_call eq x.call note.call && same_reply eq x.reply note.reply ≡ false → false ≡ all
      notes_differ differ = sym (by_parts (same_call {T = T} eq x.call note.call) (same_reply {T = T} eq x.reply note.reply) differ (rw (entries_by by, next) at so_far))
        where
          by_parts : (call reply : Bool) → call && reply ≡ false → all ≡ (call && reply && are_notes eq (entries_of hand (drop (at + 1) entries)) rest) → all ≡ false
          by_parts true false differ same = same
          by_parts false reply differ same = same
          by_parts true true differ same = absurd (cc)

      -- its note is the same
      pub notes_go_on : same_call eq x.call note.call && same_reply eq x.reply note.reply ≡ true → all ≡ are_notes eq (entries_of hand (drop (at + 1) entries)) rest
      notes_go_on agree = by_parts (same_call {T = T} eq x.call note.call) (same_reply {T = T} eq x.reply note.reply) agree (rw (entries_by by, next) at so_far)
        where
          by_parts : (call reply : Bool) → call && reply ≡ true
              → all ≡ (call && reply && are_notes eq (entries_of hand (drop (at + 1) entries)) rest)
              → all ≡ are_notes eq (entries_of hand (drop (at + 1) entries)) rest
          by_parts true true agree same = same
          by_parts true false agree same = absurd (cc)
          by_parts false reply agree same = absurd (cc)

module _ {T : Type 0} where
  -- the entries of each of the hands, counted together
  abbrev entries_of_all : List (HandNotes T) → List (Entry T) → ℕ
  entries_of_all [] entries = 0
  entries_of_all (hand ∷ rest) entries = length (entries_of hand.number entries) + entries_of_all rest entries

  as_many_notes : (eq : T → T → Bool) (entries : List (Entry T)) (notes : List (Note T)) → are_notes eq entries notes ≡ true → length entries ≡ length notes
  as_many_notes eq [] [] same = refl
  as_many_notes eq [] (note ∷ notes) same = absurd (cc)
  as_many_notes eq (entry ∷ entries) [] same = absurd (cc)
  as_many_notes eq (entry ∷ entries) (note ∷ notes) same =
      by_parts (same_call eq entry.call note.call) (same_reply eq entry.reply note.reply) same (as_many_notes eq entries notes)
    where
      by_parts : (call reply : Bool) → (call && reply && are_notes eq entries notes) ≡ true
          → (are_notes eq entries notes ≡ true → length entries ≡ length notes)
          → suc (length entries) ≡ suc (length notes)
      by_parts true true same others = ap suc (others same)
      by_parts true false same others = absurd (cc)
      by_parts false reply same others = absurd (cc)

  notes_are_entries : (eq : T → T → Bool) (entries : List (Entry T)) (hands : List (HandNotes T)) → are_notes_of_all eq entries hands ≡ true → entries_of_all hands entries ≡ notes_of_all hands
  notes_are_entries eq entries [] same = refl
  notes_are_entries eq entries (hand ∷ rest) same =
      by_first (are_notes eq (entries_of hand.number entries) hand.notes) refl same (notes_are_entries eq entries rest)
    where
      by_first : (first : Bool) → are_notes eq (entries_of hand.number entries) hand.notes ≡ first
          → (first && are_notes_of_all eq entries rest) ≡ true
          → (are_notes_of_all eq entries rest ≡ true → entries_of_all rest entries ≡ notes_of_all rest)
          → entries_of_all (hand ∷ rest) entries ≡ notes_of_all (hand ∷ rest)
      by_first true is same others =
          let one = as_many_notes eq (entries_of hand.number entries) hand.notes is in
          let more = others same in omega (arith, one, more)
      by_first false is same others = absurd (cc)

  -- an entry of no hand counts for none, and one of a hand for as many as have its number
  entries_of_all-none : (hands : List (HandNotes T)) (entry : Entry T) (entries : List (Entry T)) → entry.hand ≡ None → entries_of_all hands (entry ∷ entries) ≡ entries_of_all hands entries
  entries_of_all-none [] entry entries nobody = refl
  entries_of_all-none (hand ∷ rest) entry entries nobody =
      let others = entries_of_all-none rest entry entries nobody in
      let mine : length (entries_of hand.number (entry ∷ entries)) ≡ length (entries_of hand.number entries) = rw nobody refl in
      omega (arith, mine, others)

  entries_of_all-some : (hands : List (HandNotes T)) (entry : Entry T) (entries : List (Entry T)) (number : ℕ)
      → entry.hand ≡ Some number
      → entries_of_all hands (entry ∷ entries) ≡ how_many_with number hands + entries_of_all hands entries
  entries_of_all-some [] entry entries number is = refl
  entries_of_all-some (hand ∷ rest) entry entries number is =
      by_test (number == hand.number) refl (entries_of_all-some rest entry entries number is)
    where
      by_test : (b : Bool) → (number == hand.number) ≡ b
          → entries_of_all rest (entry ∷ entries) ≡ how_many_with number rest + entries_of_all rest entries
          → entries_of_all (hand ∷ rest) (entry ∷ entries) ≡ how_many_with number (hand ∷ rest) + entries_of_all (hand ∷ rest) entries
      by_test true test others =
          let mine : length (entries_of hand.number (entry ∷ entries)) ≡ suc (length (entries_of hand.number entries)) = rw (is, test) refl in
          let found : how_many_with number (hand ∷ rest) ≡ 1 + how_many_with number rest = rw test refl in
          omega (arith, mine, found, others)
      by_test false test others =
          let mine : length (entries_of hand.number (entry ∷ entries)) ≡ length (entries_of hand.number entries) = rw (is, test) refl in
          let found : how_many_with number (hand ∷ rest) ≡ 0 + how_many_with number rest = rw test refl in
          omega (arith, mine, found, others)

  entries_of_all-empty : (hands : List (HandNotes T)) → entries_of_all hands [] ≡ 0
  entries_of_all-empty [] = refl
  entries_of_all-empty (hand ∷ rest) = let none = entries_of_all-empty rest in omega (arith, none)

  -- the entries of hands are as many as those of these hands, where each number below the count is that of one of them
  entries_counted : (count : ℕ) (hands : List (HandNotes T)) → AreAllHands count hands → (entries : List (Entry T))
      → are_hands_below count entries ≡ true → entries_of_all hands entries ≡ length (entries_of_hands entries)
  entries_counted count hands all [] below = entries_of_all-empty hands
  entries_counted count hands all (entry ∷ entries) below =
      by_hand entry.hand refl below (entries_counted count hands all entries)
    where
      by_hand : (by : Option ℕ) → entry.hand ≡ by → (is_below count by && are_hands_below count entries) ≡ true
          → (are_hands_below count entries ≡ true → entries_of_all hands entries ≡ length (entries_of_hands entries))
          → entries_of_all hands (entry ∷ entries) ≡ length (entries_of_hands (entry ∷ entries))
      by_hand None is below others =
          let none = entries_of_all-none hands entry entries is in
          let apart : length (entries_of_hands (entry ∷ entries)) ≡ length (entries_of_hands entries) = rw is refl in
          let more = others below in omega (arith, none, apart, more)
      by_hand (Some number) is below others =
          by_test (nat_lt number count) refl below
        where
          by_test : (b : Bool) → nat_lt number count ≡ b → (b && are_hands_below count entries) ≡ true → entries_of_all hands (entry ∷ entries) ≡ length (entries_of_hands (entry ∷ entries))
          by_test true test below =
              let some = entries_of_all-some hands entry entries number is in
              let one = all number (ltb-true number count test) in
              let counts : length (entries_of_hands (entry ∷ entries)) ≡ suc (length (entries_of_hands entries)) = rw is refl in
              let more = others below in omega (arith, some, one, counts, more)
          by_test false test below = absurd (cc)

  pub as_many_as_notes : (eq : T → T → Bool) (count : ℕ) (hands : List (HandNotes T)) (entries : List (Entry T))
      → AreAllHands count hands → are_hands_below count entries ≡ true → are_notes_of_all eq entries hands ≡ true
      → length (entries_of_hands entries) ≡ notes_of_all hands
  as_many_as_notes eq count hands entries all below same =
      sym (entries_counted count hands all entries below) ∙ notes_are_entries eq entries hands same
