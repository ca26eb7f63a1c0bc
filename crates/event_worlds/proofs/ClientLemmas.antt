-- The clients that a queue's listeners are: what is found, and what a change makes of them.
use Rattle.std.proofs.Common.{arith, ◌≡◌, ℕ, Bool, true, false, eqb, List, [], ◌∷◌, map, Option, Some, None, is_some, IfSome, refl, sym, ap, ◌∙◌}
use Rattle.std.specs.List.{AllByRecursion, list_any}
use Rattle.std.specs.Map.{keys_of, lookup, remove_entry, set_value}
use Rattle.std.proofs.lemmas.Bool.{or_parts, false_from_ne_true, both_ways}
use Rattle.event_queue.specs.declared.key.Key.{Key}
use Rattle.event_queue.specs.Key.{is_key, without}
use Rattle.event_queue.proofs.ChainLookups.{same_key}
use Rattle.event_worlds.specs.Line as line
use Rattle.event_worlds.specs.LineKeys.{client_of, waiting_clients}

-- what two facts of each give of all
pub All-both : {X : Type 0} (P Q R : X → Type 0) (xs : List X) → ((x : X) → P x → Q x → R x) → AllByRecursion P xs → AllByRecursion Q xs → AllByRecursion R xs
All-both P Q R [] both p q = tt
All-both P Q R (x ∷ xs) both p q = (both x p.0 q.0, All-both P Q R xs both p.1 q.1)

pub All-remove : {K X : Type 0} (P : K × X → Type 0) (test : K → Bool) (entries : List (K × X)) → AllByRecursion P entries → AllByRecursion P (remove_entry test entries)
All-remove P test [] all = tt
All-remove P test (e ∷ es) all = grind (arith, All-remove P test es all.1)

-- another key is still among those without this one
pub any-without : (key other : Key) (keys : List Key) → is_key key other ≡ false → list_any (is_key other) (without key keys) ≡ list_any (is_key other) keys
any-without key other [] differs = refl
any-without key other (first ∷ rest) differs = grind (arith, any-without key other rest differs, both_ways, false_from_ne_true, same_key)

-- a test of keys is a test for a client
abbrev pub AreClient : (Key → Bool) → ℕ → List (Option Key) → List Key → Type 0
AreClient test client keys ks = AllByRecursion (λ key. test key ≡ eqb client (client_of keys key)) ks

module _ {X : Type 0} where
  abbrev pub clients_of : List (Option Key) → List (Key × X) → List ℕ
  clients_of keys entries = map (λ entry. client_of keys entry.0) entries

  pub any-lookup : (test : Key → Bool) (client : ℕ) (keys : List (Option Key)) (entries : List (Key × X)) → AreClient test client keys (keys_of entries) → list_any (eqb client) (clients_of keys entries) ≡ is_some (lookup test entries)
  any-lookup test client keys [] are = refl
  any-lookup test client keys (e ∷ es) are = grind (arith, any-lookup test client keys es are.1)

  pub any-none : (client : ℕ) (keys : List (Option Key)) (entries : List (Key × X)) → AllByRecursion (λ key. eqb client (client_of keys key) ≡ false) (keys_of entries) → list_any (eqb client) (clients_of keys entries) ≡ false
  any-none client keys [] none = refl
  any-none client keys (e ∷ es) none = rw none.0 (any-none client keys es none.1)

  pub clients-remove : (test : Key → Bool) (client : ℕ) (keys : List (Option Key)) (entries : List (Key × X)) → AreClient test client keys (keys_of entries) → clients_of keys (remove_entry test entries) ≡ line.without client (clients_of keys entries)
  clients-remove test client keys [] are = refl
  clients-remove test client keys (e ∷ es) are = grind (arith, clients-remove test client keys es are.1)

  pub clients-same : (keys keys' : List (Option Key)) (entries : List (Key × X)) → AllByRecursion (λ key. client_of keys' key ≡ client_of keys key) (keys_of entries) → clients_of keys' entries ≡ clients_of keys entries
  clients-same keys keys' [] same = refl
  clients-same keys keys' (e ∷ es) same = grind (arith, clients-same keys keys' es same.1)

module _ (keys : List (Option Key)) where
  pub keys_of-waiting : (waiting : List (Key × Option ℕ)) → keys_of (waiting_clients keys waiting) ≡ clients_of keys waiting
  keys_of-waiting [] = refl
  keys_of-waiting (e ∷ es) = ap (λ (cs : List ℕ). client_of keys e.0 ∷ cs) (keys_of-waiting es)

  pub waiting-same : (keys' : List (Option Key)) (waiting : List (Key × Option ℕ)) → AllByRecursion (λ key. client_of keys' key ≡ client_of keys key) (keys_of waiting) → waiting_clients keys' waiting ≡ waiting_clients keys waiting
  waiting-same keys' [] same = refl
  waiting-same keys' (e ∷ es) same = grind (arith, waiting-same keys' es same.1)

  pub waiting-remove : (test : Key → Bool) (client : ℕ) (waiting : List (Key × Option ℕ)) → AreClient test client keys (keys_of waiting) → waiting_clients keys (remove_entry test waiting) ≡ remove_entry (eqb client) (waiting_clients keys waiting)
  waiting-remove test client [] are = refl
  waiting-remove test client (e ∷ es) are = grind (arith, waiting-remove test client es are.1)

  pub waiting-set : (test : Key → Bool) (client task : ℕ) (waiting : List (Key × Option ℕ)) → AreClient test client keys (keys_of waiting) → waiting_clients keys (set_value test waiting (Some task)) ≡ set_value (eqb client) (waiting_clients keys waiting) true
  waiting-set test client task [] are = refl
  waiting-set test client task (e ∷ es) are = grind (arith, waiting-set test client task es are.1)

-- who does not wait changes nothing by registering or by leaving

pub set_value-none : (client : ℕ) (waiting : List (ℕ × Bool)) → list_any (eqb client) (keys_of waiting) ≡ false → set_value (eqb client) waiting true ≡ waiting
set_value-none client [] none = refl
set_value-none client (first ∷ rest) none = grind (arith, set_value-none client rest, or_parts)

pub remove_entry-none : (client : ℕ) (waiting : List (ℕ × Bool)) → list_any (eqb client) (keys_of waiting) ≡ false → remove_entry (eqb client) waiting ≡ waiting
remove_entry-none client [] none = refl
remove_entry-none client (first ∷ rest) none = grind (arith, remove_entry-none client rest, or_parts)

-- tasks that are their listeners' clients

abbrev pub HasTask : List (Option Key) → Key × Option ℕ → Type 0
HasTask keys entry = IfSome entry.1 (λ task. task ≡ client_of keys entry.0)

task-same : (task : Option ℕ) (client client' : ℕ) → client' ≡ client → IfSome task (λ t. t ≡ client) → IfSome task (λ t. t ≡ client')
task-same None client client' same has = tt
task-same (Some t) client client' same has = has ∙ sym same

pub tasks-same : (keys keys' : List (Option Key)) (waiting : List (Key × Option ℕ)) → AllByRecursion (λ key. client_of keys' key ≡ client_of keys key) (keys_of waiting) → AllByRecursion (HasTask keys) waiting → AllByRecursion (HasTask keys') waiting
tasks-same keys keys' [] same has = tt
tasks-same keys keys' (e ∷ es) same has = grind (arith, tasks-same keys keys' es same.1 has.1, task-same)

pub tasks-set : (keys : List (Option Key)) (client : ℕ) (key : Key) (waiting : List (Key × Option ℕ)) → client_of keys key ≡ client → AllByRecursion (HasTask keys) waiting → AllByRecursion (HasTask keys) (set_value (is_key key) waiting (Some client))
tasks-set keys client key [] own has = tt
tasks-set keys client key (e ∷ es) own has = grind (arith, tasks-set keys client key es own has.1, same_key)
