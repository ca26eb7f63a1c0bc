-- What each change of a line does to how the clients stand in it, and that telling one keeps them fitting their
-- places, whatever the type of places.
use Rattle.std.proofs.Common.{◌≡◌, ◌≢◌, ℕ, zero, suc, ◌+◌, ◌-◌, ◌<◌, ◌≤◌, min, Bool, true, false, cond, eqb, List, [], ◌∷◌, ◌++◌, length, set, get_or, replicate, slice_get, Option, Some, None, refl, sym, ap, ◌∙◌, subst, arith, inl, inr, eq-eqb, eqb-true, length-append, length-set, get_or-set_same, get_or-set_other}
use Rattle.std.proofs.lemmas.Bool.{cases_eq, cond_both, or_parts}
use Rattle.std.proofs.lemmas.List.{map-append}
use Rattle.std.proofs.lemmas.Map.{keys-set_value}
use Rattle.std.proofs.lemmas.Option.{slice_get_within}
use Rattle.std.specs.List.{list_any}
use Rattle.std.specs.Map.{keys_of, remove_entry, set_value}
use Rattle.event_worlds.specs.Line.{Line, IsLine, empty_line, everybody, is_told, joined, registered, without, told_left, waiting_left, wake_lost, woken, first_told_of, first_told, tell, wanted, notified, dropped}
use Rattle.event_worlds.specs.Standing.{times, times_unregistered, Standing, standing, Fits, FitsAt, AllFit}
use Rattle.event_worlds.proofs.PlaceLemmas.{one_if, none_if, slice_get-set, slice_get-set_other}

-- a client among clients

pub times-any : (client : ℕ) (xs : List ℕ) → list_any (eqb client) xs ≡ true → 0 < times client xs
times-any client [] found = absurd (cc)
times-any client (x ∷ xs) found = grind (arith, times-any client xs, one_if)

pub times-none : (client : ℕ) (xs : List ℕ) → list_any (eqb client) xs ≡ false → times client xs ≡ 0
times-none client [] missing = refl
times-none client (x ∷ xs) missing = grind (arith, times-none client xs, none_if, or_parts)

pub times-append : (client : ℕ) (xs ys : List ℕ) → times client (xs ++ ys) ≡ times client xs + times client ys
times-append client [] ys = omega arith
times-append client (x ∷ xs) ys = omega (arith, times-append client xs ys)

pub times-without : (client : ℕ) (xs : List ℕ) → 0 < times client xs → times client (without client xs) + 1 ≡ times client xs
times-without client [] some = absurd (omega arith)
times-without client (x ∷ xs) some = grind (arith, times-without client xs, none_if)

pub times-without_other : (client other : ℕ) (xs : List ℕ) → other ≢ client → times other (without client xs) ≡ times other xs
times-without_other client other [] differs = refl
times-without_other client other (x ∷ xs) differs = grind (arith, times-without_other client other xs differs, eqb-true, none_if)

pub length-without : (client : ℕ) (xs : List ℕ) → length (without client xs) ≤ length xs
length-without client [] = omega arith
length-without client (x ∷ xs) = grind (arith, length-without client xs)

pub length-without_one : (client : ℕ) (xs : List ℕ) → 0 < times client xs → length (without client xs) + 1 ≡ length xs
length-without_one client [] some = absurd (omega arith)
length-without_one client (x ∷ xs) some = grind (arith, length-without_one client xs, none_if)

pub times-le-length : (client : ℕ) (xs : List ℕ) → times client xs ≤ length xs
times-le-length client [] = omega arith
times-le-length client (x ∷ xs) = grind (arith, times-le-length client xs)

-- a client among waiting clients

pub keys-remove_entry : (client : ℕ) (waiting : List (ℕ × Bool)) → keys_of (remove_entry (eqb client) waiting) ≡ without client (keys_of waiting)
keys-remove_entry client [] = refl
keys-remove_entry client (first ∷ rest) = grind (arith, keys-remove_entry client rest)

none_of-none : (b : Bool) (n : ℕ) → n ≡ 0 → cond b 0 n ≡ 0
none_of-none true n none = refl
none_of-none false n none = none

at_most_all : (b : Bool) (n : ℕ) → cond b 0 n ≤ n
at_most_all true n = omega arith
at_most_all false n = omega arith

other_key : (client other key : ℕ) → other ≢ client → eqb client key ≡ true → cond {A = ℕ} (eqb other key) 1 0 ≡ 0
other_key client other key differs here = grind (arith, eqb-true, none_if)

pub unregistered-le : (client : ℕ) (waiting : List (ℕ × Bool)) → times_unregistered client waiting ≤ times client (keys_of waiting)
unregistered-le client [] = omega arith
unregistered-le client (first ∷ rest) = grind (arith, unregistered-le client rest, at_most_all)

pub unregistered-append : (client : ℕ) (xs ys : List (ℕ × Bool)) → times_unregistered client (xs ++ ys) ≡ times_unregistered client xs + times_unregistered client ys
unregistered-append client [] ys = omega arith
unregistered-append client (x ∷ xs) ys = omega (arith, unregistered-append client xs ys)

pub unregistered-remove_other : (client other : ℕ) (waiting : List (ℕ × Bool)) → other ≢ client → times_unregistered other (remove_entry (eqb client) waiting) ≡ times_unregistered other waiting
unregistered-remove_other client other [] differs = refl
unregistered-remove_other client other (first ∷ rest) differs = grind (arith, unregistered-remove_other client other rest differs, none_of-none, other_key)

pub unregistered-set_other : (client other : ℕ) (waiting : List (ℕ × Bool)) → other ≢ client → times_unregistered other (set_value (eqb client) waiting true) ≡ times_unregistered other waiting
unregistered-set_other client other [] differs = refl
unregistered-set_other client other (first ∷ rest) differs = grind (arith, unregistered-set_other client other rest differs, none_of-none, other_key)

-- who waits once and registers is not among the unregistered
pub unregistered-set : (client : ℕ) (waiting : List (ℕ × Bool)) → times client (keys_of waiting) ≤ 1 → times_unregistered client (set_value (eqb client) waiting true) ≡ 0
unregistered-set client [] once = refl
unregistered-set client (first ∷ rest) once = grind (arith, unregistered-set client rest, none_if, none_of-none, one_if, unregistered-le)

keys-joined : (client : ℕ) (waiting : List (ℕ × Bool)) → keys_of (waiting ++ (client, false) ∷ []) ≡ keys_of waiting ++ client ∷ []
keys-joined client waiting = map-append (λ (e : ℕ × Bool). e.0) waiting ((client, false) ∷ [])

times-joined : (other client : ℕ) (waiting : List (ℕ × Bool)) → times other (keys_of (waiting ++ (client, false) ∷ [])) ≡ times other (keys_of waiting) + cond (eqb other client) 1 0
times-joined other client waiting = grind (arith, keys-joined, times-append)

times-told : (other client : ℕ) (told : List ℕ) → times other (told ++ client ∷ []) ≡ times other told + cond (eqb other client) 1 0
times-told other client told = times-append other told (client ∷ []) ∙ omega arith

-- the other clients stand as they did

pub record IsSame (old new : Standing) : Type 0 where
  pub told : new.told ≡ old.told
  pub waiting : new.waiting ≡ old.waiting
  pub unregistered : new.unregistered ≡ old.unregistered
  pub awake : new.awake ≡ old.awake

pub same-itself : (client : Standing) → IsSame client client
same-itself client = record { told = refl; waiting = refl; unregistered = refl; awake = refl }

module _ (client other : ℕ) (line : Line) (differs : other ≢ client) where
  pub same-joined : IsSame (standing other line) (standing other (joined client line))
  same-joined = grind (arith, get_or-set_other, none_if, times-joined, unregistered-append)

  pub same-registered : IsSame (standing other line) (standing other (registered client line))
  same-registered = grind (arith, keys-set_value, unregistered-set_other)

  pub same-told_left : IsSame (standing other line) (standing other (told_left client line))
  same-told_left = grind (arith, times-without_other)

  pub same-waiting_left : IsSame (standing other line) (standing other (waiting_left client line))
  same-waiting_left = grind (arith, keys-remove_entry, times-without_other, unregistered-remove_other)

  pub same-wake_lost : IsSame (standing other line) (standing other (wake_lost client line))
  same-wake_lost = grind (arith, get_or-set_other)

-- the client itself fits its new place

-- who is not parked owes nothing but its count
unparked : (listens : Bool) (client : Standing) → client.told + client.waiting ≡ cond listens 1 0 → Fits listens false client
unparked listens client once = grind (arith)

module _ (client : ℕ) (line : Line) (parks : Bool) where
  pub fits-joined : Fits false parks (standing client line) → Fits true false (standing client (joined client line))
  fits-joined fits = grind (arith, eq-eqb, one_if, times-joined, unparked)

  pub fits-registered : Fits true parks (standing client line) → is_told client line ≡ false → Fits true true (standing client (registered client line))
  fits-registered fits untold = grind (arith, keys-set_value, times-none, unregistered-set)

  pub fits-told_left : Fits true parks (standing client line) → is_told client line ≡ true → Fits false false (standing client (told_left client line))
  fits-told_left fits told = grind (arith, times-any, times-without, told, unparked)

  pub fits-waiting_left : Fits true parks (standing client line) → is_told client line ≡ false → Fits false false (standing client (waiting_left client line))
  fits-waiting_left fits untold = grind (arith, keys-remove_entry, times-none, times-without, unparked)

  pub fits-wake_lost : Fits true parks (standing client line) → Fits true false (standing client (wake_lost client line))
  fits-wake_lost fits = unparked true (standing client (wake_lost client line)) fits.once

-- who is notified, of the others

woken-other : (r : Bool) (client other : ℕ) (awake : List Bool) → other ≢ client → get_or (woken client r awake) other false ≡ get_or awake other false
woken-other true client other awake differs = get_or-set_other awake client other true false differs
woken-other false client other awake differs = refl

woken-first : (r : Bool) (client : ℕ) (awake : List Bool) (n : ℕ) → client < length awake → cond r 0 1 + n ≡ 0 → get_or (woken client r awake) client false ≡ true
woken-first true client awake n within all = get_or-set_same awake client true false within
woken-first false client awake n within all = absurd (omega arith)

length-woken : (r : Bool) (client : ℕ) (awake : List Bool) → length (woken client r awake) ≡ length awake
length-woken true client awake = length-set awake client true
length-woken false client awake = refl

module _ (first : ℕ × Bool) (rest : List (ℕ × Bool)) (told : List ℕ) (awake : List Bool) (next : ℕ) (kind : Bool) where
  abbrev before : Line
  before = record { told = told; waiting = first ∷ rest; awake = awake; next = next; additional = kind }

  same-first_told : (other : ℕ) → other ≢ first.0 → IsSame (standing other before) (standing other (first_told_of (first ∷ rest) before))
  same-first_told other differs = grind (arith, none_if, none_of-none, times-told, woken-other)

  fits-first_told : (listens parks : Bool) → first.0 < length awake → Fits listens parks (standing first.0 before) → Fits listens parks (standing first.0 (first_told_of (first ∷ rest) before))
  fits-first_told listens parks within fits =
      let one = one_if (eqb first.0 first.0) (eq-eqb first.0 first.0 refl) in
      let old : times first.0 told + (cond (eqb first.0 first.0) 1 0 + times first.0 (keys_of rest)) ≡ cond listens 1 0 =
      fits.once in
      let once : times first.0 (told ++ first.0 ∷ []) + times first.0 (keys_of rest) ≡ cond listens 1 0 =
      omega (arith, times-told first.0 first.0 told) in
      let all : parks ≡ true → cond first.1 0 1 + times_unregistered first.0 rest ≡ 0 =
      λ parked. subst (λ (k : ℕ). cond first.1 0 k + times_unregistered first.0 rest ≡ 0) one (fits.registered parked) in
      let none : parks ≡ true → times_unregistered first.0 rest ≡ 0 = λ parked. omega (arith, all parked) in
      record {
        once = once;
        registered = none;
        awake = λ parked _. woken-first first.1 first.0 awake (times_unregistered first.0 rest) within (all parked);
      }

  -- nobody waits where nobody stands in line
  nobody-first_told : Fits false false (standing first.0 before) → ⊥
  nobody-first_told fits = grind (arith, eq-eqb, one_if, told)

module _ {P : Type 0} (listens parks : P → Bool) where
  fits-same : (place : Option P) (old new : Standing) → IsSame old new → FitsAt listens parks place old → FitsAt listens parks place new
  fits-same None old new same fits = unparked false new (omega (arith, fits.once, same.told, same.waiting))
  fits-same (Some place) old new same fits = grind (arith)

  -- one client goes to another place, and the others stand as they did
  pub fit-changed : (places : List P) (client : ℕ) (p q : P) (old new : Line) → slice_get places client ≡ Some p → AllFit listens parks places old → ((other : ℕ) → other ≢ client → IsSame (standing other old) (standing other new)) → Fits (listens q) (parks q) (standing client new) → AllFit listens parks (set places client q) new
  fit-changed places client p q old new at fit same fits other = grind (arith, fits-same, slice_get-set, slice_get-set_other)

  -- the first waiting client is notified

  tells_first : (place : Option P) (first : ℕ × Bool) (rest : List (ℕ × Bool)) (told : List ℕ) (awake : List Bool) (next : ℕ) (kind : Bool) → ((p : P) → place ≡ Some p → first.0 < length awake) → FitsAt listens parks place (standing first.0 (before first rest told awake next kind)) → FitsAt listens parks place (standing first.0 (first_told_of (first ∷ rest) (before first rest told awake next kind)))
  tells_first None first rest told awake next kind within fits = absurd (nobody-first_told first rest told awake next kind fits)
  tells_first (Some p) first rest told awake next kind within fits =
      fits-first_told first rest told awake next kind (listens p) (parks p) (within p refl) fits

  fit-first_told_of : (places : List P) (waiting : List (ℕ × Bool)) (told : List ℕ) (awake : List Bool) (next : ℕ) (kind : Bool) → length awake ≡ length places → AllFit listens parks places (record { told = told; waiting = waiting; awake = awake; next = next; additional = kind }) → AllFit listens parks places (first_told_of waiting (record { told = told; waiting = waiting; awake = awake; next = next; additional = kind }))
  fit-first_told_of places [] told awake next kind flags fit other = fit other
  fit-first_told_of places (first ∷ rest) told awake next kind flags fit other =
      elim (cases_eq other first.0) [
        | inl is ↦
            subst
            (λ (x : ℕ). FitsAt listens parks (slice_get places x) (standing x (first_told_of (first ∷ rest) (before first rest told awake next kind))))
            (sym is)
            (tells_first (slice_get places first.0) first rest told awake next kind (λ p at. omega (arith, slice_get_within places first.0 p at)) (fit first.0))
        | inr differs ↦
            fits-same (slice_get places other) (standing other (before first rest told awake next kind)) (standing other (first_told_of (first ∷ rest) (before first rest told awake next kind))) (same-first_told first rest told awake next kind other differs) (fit other)
      ]

-- how many are notified, and how many flags there are

first_told_of-lengths : (waiting : List (ℕ × Bool)) (line : Line) → (length (first_told_of waiting line).awake ≡ length line.awake) × (length line.told ≤ length (first_told_of waiting line).told) × (length (first_told_of waiting line).told ≤ length line.told + 1)
first_told_of-lengths [] line = (refl, omega arith, omega arith)
first_told_of-lengths (first ∷ rest) line = grind (arith, length-append, length-woken)

pub tell-lengths : (count : ℕ) (line : Line) → (length (tell count line).awake ≡ length line.awake) × (length line.told ≤ length (tell count line).told) × (length (tell count line).told ≤ length line.told + count)
tell-lengths zero line = (refl, omega arith, omega arith)
tell-lengths (suc count) line = grind (arith, tell-lengths count, first_told_of-lengths)

pub notified-flags : (count : ℕ) (line : Line) → length (notified count line).awake ≡ length line.awake
notified-flags count line = (tell-lengths (min (wanted count line) (length line.waiting)) line).0

pub tell-kind : (count : ℕ) (line : Line) → (tell count line).additional ≡ line.additional
tell-kind zero line = refl
tell-kind (suc count) line = tell-kind count (first_told line) ∙ first-kind line.waiting line
  where
    first-kind : (waiting : List (ℕ × Bool)) (line : Line) → (first_told_of waiting line).additional ≡ line.additional
    first-kind [] line = refl
    first-kind (first ∷ rest) line = refl

pub notified-kind : (count : ℕ) (line : Line) → (notified count line).additional ≡ line.additional
notified-kind count line = tell-kind (min (wanted count line) (length line.waiting)) line

-- notifying everybody leaves nobody waiting

tell-all : (waiting : List (ℕ × Bool)) (told : List ℕ) (awake : List Bool) (next : ℕ) (kind : Bool) → (tell (length waiting) (record { told = told; waiting = waiting; awake = awake; next = next; additional = kind })).waiting ≡ []
tell-all [] told awake next kind = refl
tell-all (first ∷ rest) told awake next kind = tell-all rest _ _ next kind

pub notified-everybody : (line : Line) → IsLine line → (notified everybody line).waiting ≡ []
notified-everybody line fits =
    let all : min (wanted everybody line) (length line.waiting) ≡ length line.waiting =
    cond_both line.additional everybody (everybody - length line.told) (λ (n : ℕ). min n (length line.waiting) ≡ length line.waiting) (λ _. omega (arith, fits.clients_fit)) (λ _. omega (arith, fits.clients_fit)) in
    ap (λ (n : ℕ). (tell n line).waiting) all
    ∙ tell-all line.waiting line.told line.awake line.next line.additional

pub dropped-kind : (client : ℕ) (line : Line) → (dropped client line).additional ≡ line.additional
dropped-kind client line = grind (arith, notified-kind)

module _ {P : Type 0} (listens parks : P → Bool) where
  -- telling any number of clients keeps all fitting
  pub fit-tell : (count : ℕ) (places : List P) (line : Line) → length line.awake ≡ length places → AllFit listens parks places line → AllFit listens parks places (tell count line)
  fit-tell zero places line flags fit = fit
  fit-tell (suc count) places line flags fit =
      let lengths = first_told_of-lengths line.waiting line in
      fit-tell count places (first_told line) (lengths.0 ∙ flags) (fit-first_told_of listens parks places line.waiting line.told line.awake line.next line.additional flags fit)

  pub fit-notified : (count : ℕ) (places : List P) (line : Line) → length line.awake ≡ length places → AllFit listens parks places line → AllFit listens parks places (notified count line)
  fit-notified count places line flags fit = grind (arith, fit-tell)

  -- all clients fit one place where nobody listens, in a line where nobody stands
  pub fit-start : (place : P) → listens place ≡ false → (kind : Bool) (clients first : ℕ) → AllFit listens parks (replicate clients place) (empty_line kind clients first)
  fit-start place unlistening kind clients first client = replicated clients client
    where
      nowhere : (b : Bool) → Fits b false (standing client (empty_line kind clients first)) → Fits b (parks place) (standing client (empty_line kind clients first))
      nowhere b fits = grind (arith)

      out : Fits false false (standing client (empty_line kind clients first))
      out = record { once = refl; registered = λ _. refl; awake = λ _ (told : 0 < 0). absurd (omega arith) }

      replicated : (n i : ℕ) → FitsAt listens parks (slice_get (replicate n place) i) (standing client (empty_line kind clients first))
      replicated zero i = out
      replicated (suc n) zero = grind (arith, nowhere, out)
      replicated (suc n) (suc i) = replicated n i
