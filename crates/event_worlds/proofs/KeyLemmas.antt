-- The keys of a line's clients: whose a key is, and how many clients have none.
use Rattle.std.proofs.Common.{◌≡◌, ℕ, zero, suc, ◌+◌, ◌<◌, true, false, eqb, List, [], ◌∷◌, length, get_or, set, replicate, Option, Some, None, refl, sym, ap, ◌∙◌, inl, inr, arith, ne_eqb, eq-eqb}
use Rattle.std.proofs.lemmas.Bool.{cases_Bool, and_from, both_ways}
use Rattle.std.proofs.lemmas.Option.{none-some, same_Some}
use Rattle.event_queue.specs.declared.key.Key.{Key}
use Rattle.event_queue.specs.Key.{is_key}
use Rattle.event_queue.proofs.ChainLookups.{same_key}
use Rattle.event_worlds.specs.LineKeys.{holds, client_of, keyless}

pub is_key-same : (key : Key) → is_key key key ≡ true
is_key-same key = grind (arith, and_from, eq-eqb)

key_held : (key : Key) (held : Option Key) → holds key held ≡ true → held ≡ Some key
key_held key None h = absurd (cc)
key_held key (Some held) h = ap (λ (k : Key). Some k) (sym (same_key held key h))

-- a client's key that is neither put in nor taken out names the same client
pub client_of-set : (keys : List (Option Key)) (client : ℕ) (now : Option Key) (key : Key) → holds key (get_or keys client None) ≡ false → holds key now ≡ false → client_of (set keys client now) key ≡ client_of keys key
client_of-set [] client now key was is = refl
client_of-set (first ∷ rest) zero now key was is = rw (was, is) refl
client_of-set (first ∷ rest) (suc client) now key was is = grind (arith, client_of-set rest client now key was is)

-- a new key names the client that gets it
pub client_of-new : (keys : List (Option Key)) (client : ℕ) (key : Key) → client < length keys → ((other : ℕ) → holds key (get_or keys other None) ≡ false) → client_of (set keys client (Some key)) key ≡ client
client_of-new [] client key within new = absurd (omega arith)
client_of-new (first ∷ rest) zero key within new = rw (is_key-same key) refl
client_of-new (first ∷ rest) (suc client) key within new =
    let here : holds key first ≡ false = new zero in
    rw here (ap suc (client_of-new rest client key (omega arith) (λ other. new (suc other))))

-- a key that names a client is its key
pub key_at : (keys : List (Option Key)) (key : Key) → client_of keys key < length keys → get_or keys (client_of keys key) None ≡ Some key
key_at [] key within = absurd (omega arith)
key_at (first ∷ rest) key within = grind (arith, key_at rest key, key_held)

module _ (keys : List (Option Key)) (client : ℕ) where
  -- a key in the queue is the client's key exactly if it names the client
  pub is_client : (key other : Key) → get_or keys client None ≡ Some key → client_of keys key ≡ client → client_of keys other < length keys → is_key key other ≡ eqb client (client_of keys other)
  is_client key other at own listed =
      elim (cases_Bool (is_key key other)) [
        | inl same ↦
            let named : client ≡ client_of keys other = sym own ∙ ap (client_of keys) (sym (same_key key other same)) in
            rw same (sym (eq-eqb client (client_of keys other) named))
        | inr differs ↦ rw differs (sym (ne_eqb client (client_of keys other) (apart differs)))
      ]
    where
      apart : is_key key other ≡ false → client ≡ client_of keys other → ⊥
      apart differs here = grind (arith, both_ways, is_key-same, key_at, same_Some)

  -- no key in the queue names a client that has none
  pub not_client : (other : Key) → get_or keys client None ≡ None → client_of keys other < length keys → eqb client (client_of keys other) ≡ false
  not_client other without listed = grind (arith, key_at, none-some)

-- how many have no key, once one leaves and once one joins

pub keyless-leaves : (keys : List (Option Key)) (client : ℕ) (key : Key) → get_or keys client None ≡ Some key → keyless (set keys client None) ≡ keyless keys + 1
keyless-leaves [] client key at = absurd (none-some key at)
keyless-leaves (None ∷ rest) zero key at = absurd (none-some key at)
keyless-leaves (Some k ∷ rest) zero key at = omega arith
keyless-leaves (None ∷ rest) (suc client) key at = omega (arith, keyless-leaves rest client key at)
keyless-leaves (Some k ∷ rest) (suc client) key at = keyless-leaves rest client key at

pub keyless-joins : (keys : List (Option Key)) (client : ℕ) (key : Key) → client < length keys → get_or keys client None ≡ None → keyless (set keys client (Some key)) + 1 ≡ keyless keys
keyless-joins [] client key within none = absurd (omega arith)
keyless-joins (None ∷ rest) zero key within none = omega arith
keyless-joins (Some k ∷ rest) zero key within none = absurd (none-some k (sym none))
keyless-joins (None ∷ rest) (suc client) key within none = grind (arith, keyless-joins rest client key)
keyless-joins (Some k ∷ rest) (suc client) key within none = keyless-joins rest client key (omega arith) none

-- before anybody joins

pub keyless-replicate : (n : ℕ) → keyless (replicate n None) ≡ n
keyless-replicate zero = refl
keyless-replicate (suc n) = ap suc (keyless-replicate n)

pub no_key : (n i : ℕ) → get_or {A = Option Key} (replicate n None) i None ≡ None
no_key zero i = refl
no_key (suc n) zero = refl
no_key (suc n) (suc i) = no_key n i

-- what is read at a client is its key
pub read_key : (keys : List (Option Key)) (client : ℕ) (read : Option Key) → client < length keys → read ≡ get_or keys client read → get_or keys client None ≡ read
read_key [] client read within is = absurd (omega arith)
read_key (first ∷ rest) zero read within is = sym is
read_key (first ∷ rest) (suc client) read within is = read_key rest client read (omega arith) is

-- what follows where only no key is like no key
pub none_only : {X : Type 0} (R : Option Key → Type 0) → (((y : Option Key) → R y → y ≡ None) → X) → ((key : Key) → R (Some key) → ⊥) → X
none_only R follows apart = follows only
  where
    only : (y : Option Key) → R y → y ≡ None
    only None like = refl
    only (Some key) like = absurd (apart key like)
