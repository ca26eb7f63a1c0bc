-- The keys of the waiters that starve.
use Rattle.std.proofs.Common.{◌≡◌, ℕ, ◌+◌, ◌-◌, ◌<◌, ◌≤◌, ◌==◌, Bool, true, false, not, List, [], ◌∷◌, ◌++◌, length, refl, sym, ap, arith, subst, Option, Some, None, unwrap_or, if◌then◌else◌}
use Rattle.std.specs.Map.{keys_of}
use Rattle.event_queue.specs.declared.key.Key.{Key}
use Rattle.event_queue.specs.Key.{is_key, without}
use Rattle.event_wait.specs.Starving.{Starving, but, counted_in, less_forborne, refusals_for, struck_off}

pub keys-but : (key : Key) (starving : List Starving) → keys_of (but (Some key) starving) ≡ without key (keys_of starving)
keys-but key [] = refl
keys-but key (one ∷ others) = by_test (is_key key one.0) refl (keys-but key others)
  where
    by_test : (b : Bool) → is_key key one.0 ≡ b → keys_of (but (Some key) others) ≡ without key (keys_of others) → keys_of (but (Some key) (one ∷ others)) ≡ without key (keys_of (one ∷ others))
    by_test true gone rest = rw gone rest
    by_test false stays rest = rw stays (ap (λ keys. one.0 ∷ keys) rest)

keys-last : (key : Key) (n : ℕ) (starving : List Starving) → keys_of (starving ++ (key, n) ∷ []) ≡ keys_of starving ++ key ∷ []
keys-last key n [] = refl
keys-last key n (one ∷ others) = ap (λ keys. one.0 ∷ keys) (keys-last key n others)

-- the keys once one has joined, which starves or does not
abbrev pub joined_keys : Key → Option ℕ → List Key → List Key
joined_keys key None keys = keys
joined_keys key (Some n) keys = keys ++ key ∷ []

pub keys-counted_in : (key : Key) (starves : Option ℕ) (starving : List Starving) → keys_of (counted_in key starves starving) ≡ joined_keys key starves (keys_of starving)
keys-counted_in key None starving = refl
keys-counted_in key (Some n) starving = keys-last key n starving

pub keys-less_forborne : (starving : List Starving) → keys_of (less_forborne starving) ≡ keys_of starving
keys-less_forborne [] = refl
keys-less_forborne (one ∷ others) = refl

refusals-but : (key : Key) (starving : List Starving) → refusals_for (but (Some key) starving) ≤ refusals_for starving
refusals-but key [] = omega arith
refusals-but key (one ∷ others) = by_test (is_key key one.0) refl (refusals-but key others)
  where
    by_test : (b : Bool) → is_key key one.0 ≡ b → refusals_for (but (Some key) others) ≤ refusals_for others → refusals_for (but (Some key) (one ∷ others)) ≤ refusals_for (one ∷ others)
    by_test true gone rest = rw gone (omega (arith, rest))
    by_test false stays rest = rw stays (omega (arith, rest))

is_key-itself : (key : Key) → is_key key key ≡ true
is_key-itself key = grind arith

some_is : (key other : Key) → Some key ≡ Some other → key ≡ other
some_is key other h = ap {B = Key} (λ o. unwrap_or o key) h

-- once one is struck off fewer newcomers may still be refused
pub fewer-struck : (key : Key) (old : List Starving) → struck_off old ≡ Some key → refusals_for (but (Some key) old) + 1 ≤ refusals_for old
fewer-struck key [] off = absurd (let none : None ≡ Some key = off in cc)
fewer-struck key (one ∷ others) off = by_test (one.1 == 0) refl
  where
    by_test : (b : Bool) → (one.1 == 0) ≡ b → refusals_for (but (Some key) (one ∷ others)) + 1 ≤ refusals_for (one ∷ others)
    by_test true zero =
        let is : one.0 ≡ key = some_is one.0 key (rw zero at off) in
        let same : is_key key one.0 ≡ true = rw is (is_key-itself key) in
        rw same (omega (arith, refusals-but key others))
    by_test false more = absurd (let none : None ≡ Some key = rw more at off in cc)
