-- The order of listening: serials that rise along it, and the keys but one.
use Rattle.std.proofs.Common.{◌≡◌, ℕ, zero, suc, ◌+◌, ◌<◌, Bool, true, false, not, List, [], ◌∷◌, ◌++◌, length, get_or, refl, sym, ap, subst, arith, Some, None}
use Rattle.std.specs.List.{AllByRecursion, filter}
use Rattle.std.specs.List.Sorted.{IsStrictlyIncreasing}
use Rattle.std.specs.Map.{keys_of, lookup, remove_entry}
use Rattle.std.proofs.lemmas.Bool.{eqb-true, and_parts, false_from_ne_true, cond_both, not-true}
use Rattle.std.proofs.lemmas.List.Elements.{recursion_from_All}
use Rattle.std.proofs.lemmas.List.Kept.{AllPairs-from_increasing}
use Rattle.event_queue.specs.declared.key.Key.{Key}
use Rattle.event_queue.specs.Key.{is_key, without, serials}
pub use Rattle.event_queue.proofs.Lists.{All-append, All-front, All-back, All-implied, All-filter}

-- each serial is below those after it, and all are below n
abbrev pub Rises : List Key → ℕ → Type 0
Rises [] n = Unit {0}
Rises (key ∷ keys) n =
    AllByRecursion (λ later. key.serial < later.serial) keys × (key.serial < n) × Rises keys n

-- no key of the list is this one
abbrev pub NoneIs : Key → List Key → Type 0
NoneIs key keys = AllByRecursion (λ other. is_key key other ≡ false) keys

-- from rising numbers to rising keys

above_keys : (s n : ℕ) (keys : List Key) → AllByRecursion (λ x. s < x) (serials keys ++ n ∷ []) → AllByRecursion (λ later. s < later.serial) keys × (s < n)
above_keys s n [] h = (tt, h.0)
above_keys s n (key ∷ keys) h = let rest = above_keys s n keys h.1 in ((h.0, rest.0), rest.1)

increasing_tail : (x : ℕ) (xs : List ℕ) → IsStrictlyIncreasing (x ∷ xs) → IsStrictlyIncreasing xs
increasing_tail x xs h k within =
    let e : suc k + 1 ≡ suc (k + 1) = omega arith in
    subst (λ n. get_or xs k 0 < get_or (x ∷ xs) n 0) e (h (suc k) (omega arith))

pub Rises-from_increasing : (keys : List Key) (n : ℕ) → IsStrictlyIncreasing (serials keys ++ n ∷ []) → Rises keys n
Rises-from_increasing [] n h = tt
Rises-from_increasing (key ∷ keys) n h =
    let rest : List ℕ = serials keys ++ n ∷ [] in
    let later : AllByRecursion (λ x. key.serial < x) rest =
    recursion_from_All (λ x. key.serial < x) rest (λ k d within. AllPairs-from_increasing (key.serial ∷ rest) h 0 (suc k) d (omega arith) (omega arith)) in
    let above = above_keys key.serial n keys later in
    (above.0, above.1, Rises-from_increasing keys n (increasing_tail key.serial rest h))

pub increasing_from_Rises : (keys : List Key) (n : ℕ) → Rises keys n → IsStrictlyIncreasing (serials keys ++ n ∷ [])
increasing_from_Rises [] n h k within = absurd (omega arith)
increasing_from_Rises (key ∷ []) n h zero within = h.1
increasing_from_Rises (key ∷ []) n h (suc k) within = absurd (omega arith)
increasing_from_Rises (key ∷ next ∷ keys) n h zero within = h.0.0
increasing_from_Rises (key ∷ next ∷ keys) n h (suc k) within =
    let rest : List ℕ = serials (next ∷ keys) ++ n ∷ [] in
    let e : suc (k + 1) ≡ suc k + 1 = omega arith in
    subst (λ m. get_or rest k 0 < get_or (key.serial ∷ rest) m 0) e (increasing_from_Rises (next ∷ keys) n h.2 k (omega arith))

-- parts of rising keys rise

pub Rises-front : (xs ys : List Key) (n : ℕ) → Rises (xs ++ ys) n → Rises xs n
Rises-front [] ys n h = tt
Rises-front (x ∷ xs) ys n h = (All-front _ xs ys h.0, h.1, Rises-front xs ys n h.2)

pub Rises-back : (xs ys : List Key) (n : ℕ) → Rises (xs ++ ys) n → Rises ys n
Rises-back [] ys n h = h
Rises-back (x ∷ xs) ys n h = Rises-back xs ys n h.2

pub Rises-filter : (p : Key → Bool) (keys : List Key) (n : ℕ) → Rises keys n → Rises (filter p keys) n
Rises-filter p [] n h = tt
Rises-filter p (key ∷ keys) n h =
    let rest = Rises-filter p keys n h.2 in
    let later = All-filter (λ other. key.serial < other.serial) p keys h.0 in
    cond_both (p key) (key ∷ filter p keys) (filter p keys) (λ (ks : List Key). Rises ks n) (λ _. (later, h.1, rest)) (λ _. rest)

below_all : (keys : List Key) (n : ℕ) → Rises keys n → AllByRecursion (λ key. key.serial < n) keys
below_all [] n h = tt
below_all (key ∷ keys) n h = (h.1, below_all keys n h.2)

-- a key that has the next serial joins at the end
pub Rises-push : (keys : List Key) (key : Key) (n : ℕ) → key.serial ≡ n → Rises keys n → Rises (keys ++ key ∷ []) (n + 1)
Rises-push [] key n same h = (tt, omega arith, tt)
Rises-push (first ∷ keys) key n same h =
    (All-append _ keys (key ∷ []) h.0 (omega arith, tt), omega (arith, h.1), Rises-push keys key n same h.2)

-- a key and the others

same_serial : (key other : Key) → is_key key other ≡ true → key.serial ≡ other.serial
same_serial key other h = eqb-true key.serial other.serial (and_parts _ _ h).1

pub other_serial : (key other : Key) → (key.serial ≡ other.serial → ⊥) → is_key key other ≡ false
other_serial key other apart = false_from_ne_true (is_key key other) (λ h. apart (same_serial key other h))

pub without-none : (key : Key) (keys : List Key) → NoneIs key keys → without key keys ≡ keys
without-none key [] h = refl
without-none key (k ∷ keys) h = rw h.0 (ap (λ ks. k ∷ ks) (without-none key keys h.1))

pub none_is-without : (key : Key) (keys : List Key) → NoneIs key (without key keys)
none_is-without key [] = tt
none_is-without key (k ∷ keys) =
    let rest = none_is-without key keys in
    cond_both (not (is_key key k)) (k ∷ without key keys) (without key keys) (λ (ks : List Key). NoneIs key ks) (λ h. (not-true (is_key key k) h, rest)) (λ _. rest)

module _ {X : Type 0} where
  pub none_is-from_lookup : (key : Key) (entries : List (Key × X)) → lookup (is_key key) entries ≡ None → NoneIs key (keys_of entries)
  none_is-from_lookup key [] absent = tt
  none_is-from_lookup key (e ∷ es) absent = by_test (is_key key e.0) refl (none_is-from_lookup key es)
    where
      by_test : (b : Bool) → is_key key e.0 ≡ b → (lookup (is_key key) es ≡ None → NoneIs key (keys_of es)) → NoneIs key (e.0 ∷ keys_of es)
      by_test true here rest = absurd (let gone : Some e.1 ≡ None = rw here at absent in cc)
      by_test false apart rest = (apart, rest (rw apart at absent))

  pub lookup-none_is : (key : Key) (entries : List (Key × X)) → NoneIs key (keys_of entries) → lookup (is_key key) entries ≡ None
  lookup-none_is key [] h = refl
  lookup-none_is key (e ∷ es) h = rw h.0 (lookup-none_is key es h.1)

  -- what holds of each key's serial holds of the serial of one that is found
  pub at_found : (P : ℕ → Type 0) (key : Key) (entries : List (Key × X)) (value : X) → AllByRecursion (λ other. P other.serial) (keys_of entries)
      → lookup (is_key key) entries ≡ Some value → P key.serial
  at_found P key [] value h found = absurd (cc)
  at_found P key (e ∷ es) value h found = by_test (is_key key e.0) refl (at_found P key es value h.1)
    where
      by_test : (b : Bool) → is_key key e.0 ≡ b → (lookup (is_key key) es ≡ Some value → P key.serial) → P key.serial
      by_test true here rest = subst P (sym (same_serial key e.0 here)) h.0
      by_test false apart rest = rest (rw apart at found)

  -- a key that is found is below n, and none after the list is that key
  pub below-found : (key : Key) (entries : List (Key × X)) (value : X) (n : ℕ) → Rises (keys_of entries) n → lookup (is_key key) entries ≡ Some value → key.serial < n
  below-found key es value n rises found = at_found (λ s. s < n) key es value (below_all (keys_of es) n rises) found

  pub none_after : (key : Key) (entries : List (Key × X)) (value : X) (keys : List Key) (n : ℕ) → Rises (keys_of entries ++ keys) n → lookup (is_key key) entries ≡ Some value → NoneIs key keys
  none_after key [] value keys n rises found = absurd (cc)
  none_after key (e ∷ es) value keys n rises found =
      by_test (is_key key e.0) refl (none_after key es value keys n rises.2)
    where
      later : is_key key e.0 ≡ true → (k : Key) → e.0.serial < k.serial → is_key key k ≡ false
      later here k above = let same = same_serial key e.0 here in other_serial key k (λ h. omega arith)

      by_test : (b : Bool) → is_key key e.0 ≡ b → (lookup (is_key key) es ≡ Some value → NoneIs key keys) → NoneIs key keys
      by_test true here rest =
          All-implied (λ k. e.0.serial < k.serial) (λ k. is_key key k ≡ false) keys (later here) (All-back _ (keys_of es) keys rises.0)
      by_test false apart rest = rest (rw apart at found)

  pub none_before : (key : Key) (keys : List Key) (entries : List (Key × X)) (value : X) (n : ℕ) → Rises (keys ++ keys_of entries) n → lookup (is_key key) entries ≡ Some value → NoneIs key keys
  none_before key [] es value n rises found = tt
  none_before key (k ∷ keys) es value n rises found =
      let above : k.serial < key.serial = at_found (λ s. k.serial < s) key es value (All-back _ keys (keys_of es) rises.0) found in
      (other_serial key k (λ h. omega arith), none_before key keys es value n rises.2 found)

  -- the keys once an entry that is found has left
  pub keys_of-remove_entry : (key : Key) (entries : List (Key × X)) (value : X) (n : ℕ) → Rises (keys_of entries) n → lookup (is_key key) entries ≡ Some value
      → keys_of (remove_entry (is_key key) entries) ≡ without key (keys_of entries)
  keys_of-remove_entry key [] value n rises found = absurd (cc)
  keys_of-remove_entry key (e ∷ es) value n rises found =
      by_test (is_key key e.0) refl (keys_of-remove_entry key es value n rises.2)
    where
      alone : is_key key e.0 ≡ true → NoneIs key (keys_of es)
      alone here = none_after key (e ∷ []) e.1 (keys_of es) n rises (rw here refl)

      by_test : (b : Bool) → is_key key e.0 ≡ b → (lookup (is_key key) es ≡ Some value → keys_of (remove_entry (is_key key) es) ≡ without key (keys_of es))
          → keys_of (remove_entry (is_key key) (e ∷ es)) ≡ without key (e.0 ∷ keys_of es)
      by_test true here rest = rw here (sym (without-none key (keys_of es) (alone here)))
      by_test false apart rest = rw apart (ap (λ ks. e.0 ∷ ks) (rest (rw apart at found)))

  pub length-remove_entry : (key : Key) (entries : List (Key × X)) (value : X) → lookup (is_key key) entries ≡ Some value → length (remove_entry (is_key key) entries) + 1 ≡ length entries
  length-remove_entry key [] value found = absurd (cc)
  length-remove_entry key (e ∷ es) value found = by_test (is_key key e.0) refl (length-remove_entry key es value)
    where
      by_test : (b : Bool) → is_key key e.0 ≡ b → (lookup (is_key key) es ≡ Some value → length (remove_entry (is_key key) es) + 1 ≡ length es)
          → length (remove_entry (is_key key) (e ∷ es)) + 1 ≡ length (e ∷ es)
      by_test true here rest = rw here (omega arith)
      by_test false apart rest = rw apart (omega (arith, rest (rw apart at found)))
