-- A key in a list of entries, by the position at which a search from the front finds it.
use Rattle.std.proofs.Common.{nat_lt, ◌≡◌, ℕ, zero, suc, ◌<◌, Bool, true, false, List, [], ◌∷◌, length, get_or, refl, ap, sym, ◌∙◌, arith, Option, Some, None}
use Rattle.std.specs.List.{position, position_or_len, remove, slice_set}
use Rattle.std.specs.Map.{lookup, remove_entry, set_value}
use Rattle.std.proofs.lemmas.Bool.{lt-ltb}
use Rattle.std.proofs.lemmas.List.Quantifiers.{position-Some}
use Rattle.event_queue.specs.declared.key.Key.{Key}
use Rattle.event_queue.specs.Key.{is_key}

module _ {X : Type 0} where
  -- what a key finds, and what its entry's removal and its change leave, by the position of its first entry
  pub record IsAt (key : Key) (entries : List (Key × X)) (at : ℕ) (default : Key × X) : Type 0 where
    pub found : lookup (is_key key) entries ≡ Some (get_or entries at default).1
    pub taken : remove_entry (is_key key) entries ≡ remove entries at
    pub changed : (value : X) → set_value (is_key key) entries value ≡ slice_set entries at ((get_or entries at default).0, value)

  by_first : (key : Key) (entries : List (Key × X)) (at : ℕ) (default : Key × X) → at < length entries
      → is_key key (get_or entries at default).0 ≡ true
      → ((k : ℕ) → k < at → is_key key (get_or entries k default).0 ≡ false) → IsAt key entries at default
  by_first key [] at default within here before = absurd (omega arith)
  by_first key (first ∷ rest) zero default within here before = record {
    found = rw here refl;
    taken = rw here refl;
    changed = λ value. rw here refl;
  }
  by_first key (first ∷ rest) (suc at) default within here before =
      let apart : is_key key first.0 ≡ false = before zero (omega arith) in
      let later = by_first key rest at default (omega arith) here (λ k below. before (suc k) (omega arith)) in
      record {
        found = rw apart later.found;
        taken = rw apart (ap (λ es. first ∷ es) later.taken);
        changed = λ value. rw apart (ap (λ es. first ∷ es) (later.changed value));
      }

  pub at_position : (key : Key) (searched entries : List (Key × X)) (at : ℕ) (default : Key × X) → searched ≡ entries → Some at ≡ position (λ e. is_key key e.0) searched → IsAt key entries at default
  at_position key searched entries at default same found =
      let first = position-Some (λ (e : Key × X). is_key key e.0) entries at default (ap (position (λ e. is_key key e.0)) (sym same) ∙ sym found) in
      by_first key entries at default first.0 first.1 first.2

  -- where no position is found, there is no such key

  position_within : (key : Key) (entries : List (Key × X)) (value : X) → lookup (is_key key) entries ≡ Some value → position_or_len (λ e. is_key key e.0) entries < length entries
  position_within key [] value found = absurd (cc)
  position_within key (first ∷ rest) value found = by_test (is_key key first.0) refl (position_within key rest value)
    where
      by_test : (b : Bool) → is_key key first.0 ≡ b
          → (lookup (is_key key) rest ≡ Some value → position_or_len (λ e. is_key key e.0) rest < length rest)
          → position_or_len (λ e. is_key key e.0) (first ∷ rest) < length (first ∷ rest)
      by_test true here later = rw here (omega arith)
      by_test false apart later = rw apart (omega (arith, later (rw apart at found)))

  none_without : (key : Key) (entries : List (Key × X)) (o : Option X) → position (λ e. is_key key e.0) entries ≡ None → lookup (is_key key) entries ≡ o → o ≡ None
  none_without key entries None nowhere same = refl
  none_without key entries (Some value) nowhere same =
      let within : nat_lt (position_or_len (λ (e : Key × X). is_key key e.0) entries) (length entries) ≡ true = lt-ltb _ _ (position_within key entries value same) in
      absurd (let some : Some (position_or_len (λ (e : Key × X). is_key key e.0) entries) ≡ None = rw within at nowhere in cc)

  pub nowhere : (key : Key) (searched entries : List (Key × X)) → searched ≡ entries → None ≡ position (λ e. is_key key e.0) searched → lookup (is_key key) entries ≡ None
  nowhere key searched entries same none =
      none_without key entries (lookup (is_key key) entries) (ap (position (λ e. is_key key e.0)) (sym same) ∙ sym none) refl
