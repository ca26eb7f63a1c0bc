-- The steps keep the rule.
use Rattle.std.proofs.Common.{subst, ◌≡◌, ◌≢◌, ℕ, ◌+◌, ◌/◌, ◌%◌, Bool, false, true, ◌||◌, List, [], ◌∷◌, ◌++◌, set, sym, refl, ap, ◌∙◌, ⊎_elim, arith, eqb, Option, Some, None}
use prog.Atomic.{either}
use mathlib.Core.Bool.{cond}
use mathlib.Core.Logic.{dite}
use mathlib.Core.Option.{some}
use native.Mathlib.Decide.{ℕ_discrete}
use lib.ListN.{get_elem?}
use Rattle.atomic_table.proofs.Lists.{at_set, at_snoc, set_else, exchanged}
use Rattle.event_slot.specs.Ruling.{Keeps, MayTrade, Comes, Enters, MaySplit, MayJoin}
use Rattle.test_slot.specs.declared.rule.Tally.{Tally}
use Rattle.test_slot.specs.declared.rule.View.{View}
use Rattle.test_slot.specs.Closed.{closed_of, out_of, tally_of, Shows, Right, Stay, Look, Close, TakesOut, PutsBack, both, nothing}

abbrev fresh : View
fresh = record { closed = false }

-- words with one high half show the same
shows_on : (m n : ℕ) → m / 4294967296 ≡ n / 4294967296 → (home : Option Tally) → Shows n home → Shows m home
shows_on m n same (Some tally) (o, c) = (omega (arith, same, o), c ∙ omega (arith, same))
shows_on m n same None o = omega (arith, same, o)

-- or that differ only in whether the lock is closed
shows_above : (m n : ℕ) → m / 8589934592 ≡ n / 8589934592 → (home : Option Tally) → Shows n home → Shows m home
shows_above m n same (Some tally) (o, c) = (ap (λ (k : ℕ). k % 2) same ∙ o, c ∙ omega (arith, same))
shows_above m n same None o = ap (λ (k : ℕ). k % 2) same ∙ o

closed_on : (m n : ℕ) → m / 4294967296 ≡ n / 4294967296 → closed_of m ≡ closed_of n
closed_on m n same = ap (λ (k : ℕ). k % 2) same

-- a mark more, which knows nothing
one_more : (views : List View) (n m : ℕ) → closed_of m ≡ closed_of n → ((i : ℕ) (v : View) → get_elem? views i ≡ some v → v.closed ≡ true → closed_of n ≡ 1)
    → (i : ℕ) (v : View) → get_elem? (views ++ fresh ∷ []) i ≡ some v → v.closed ≡ true → closed_of m ≡ 1
one_more views n m same right i v got is = ⊎_elim (λ there. same ∙ right i v there is) (λ e. let no : false ≡ true = ap (λ (u : View). u.closed) e ∙ is in absurd (cc)) (at_snoc views fresh v i got)

-- a mark that knows what it knew
as_before : (id : ℕ) (v : View) (n m : ℕ) (views : List View) → closed_of m ≡ closed_of n → ((i : ℕ) (u : View) → get_elem? views i ≡ some u → u.closed ≡ true → closed_of n ≡ 1) → get_elem? views id ≡ some v
    → (i : ℕ) (u : View) → get_elem? (set views id v) i ≡ some u → u.closed ≡ true → closed_of m ≡ 1
as_before id v n m views same right at i u got is = same ∙ ⊎_elim (λ t. right id v at (ap (λ (w : View). w.closed) t.1 ∙ is)) (λ t. right i u t.1 is) (at_set views id i v u got)

pub begins : Right 1 (Some (record { count = 0 })) (fresh ∷ [])
begins = record { closed = one_more [] 1 1 refl (λ i v got is. absurd (let no = got in cc)); shows = (refl, refl) }

pub comes : (out : Option Tally) (old new : ℕ) → new / 4294967296 ≡ old / 4294967296 → Comes Right out (λ n. either (eqb n old) new n) (Stay old new fresh out)
comes out old new same n home views right small = let m : ℕ = either (eqb n old) new n in
    let on : m / 4294967296 ≡ n / 4294967296 = exchanged n old new (λ k. k / 4294967296 ≡ n / 4294967296) (λ e. same ∙ ap (λ (k : ℕ). k / 4294967296) (sym e)) (λ _. refl) in
    (fresh, false, record { closed = one_more views n m (closed_on m n on) right.closed; shows = shows_on m n on home right.shows }, (refl, refl))

pub writes : (out : Option Tally) → Comes Right out (λ n. either (eqb n 1) 3 n) (Stay 1 3 fresh out)
writes out = comes out 1 3 refl

pub stays : (id : ℕ) (v : View) (out : Option Tally) (old new : ℕ) → new / 4294967296 ≡ old / 4294967296 → MayTrade Right id v out (λ n. either (eqb n old) new n) (Stay old new v out)
stays id v out old new same n home views right at small = let m : ℕ = either (eqb n old) new n in
    let on : m / 4294967296 ≡ n / 4294967296 = exchanged n old new (λ k. k / 4294967296 ≡ n / 4294967296) (λ e. same ∙ ap (λ (k : ℕ). k / 4294967296) (sym e)) (λ _. refl) in
    (v, false, record { closed = as_before id v n m views (closed_on m n on) right.closed at; shows = shows_on m n on home right.shows }, (refl, refl))

pub looks : (id : ℕ) (v : View) → Keeps Right id v (Look v)
looks id v n home views right at small = (v, record { closed = as_before id v n n views refl right.closed at; shows = right.shows }, (refl, right.closed id v at))

-- the writer closes the lock
pub closes : (id : ℕ) (v : View) (out : Option Tally) (old new : ℕ) → closed_of new ≡ 1 → new / 8589934592 ≡ old / 8589934592 → MayTrade Right id v out (λ n. either (eqb n old) new n) (Close old new v out)
closes id v out old new shut same n home views right at small = dite (ℕ_discrete n old)
    (λ e. let m : ℕ = either (eqb n old) new n in let is : m ≡ new = exchanged n old new (λ k. k ≡ new) (λ _. refl) (λ miss. absurd (miss e)) in
    (record { closed = true }, false, record { closed = λ i u got t. ap closed_of is ∙ shut; shows = shows_above m n (ap (λ (k : ℕ). k / 8589934592) is ∙ (same ∙ ap (λ (k : ℕ). k / 8589934592) (sym e))) home right.shows }, ((λ _. refl), (λ miss. absurd (miss e)), refl)))
    (λ miss. let m : ℕ = either (eqb n old) new n in let is : m ≡ n = exchanged n old new (λ k. k ≡ n) (λ e. absurd (miss e)) (λ _. refl) in
    (v, false, record { closed = as_before id v n m views (ap closed_of is) right.closed at; shows = shows_on m n (ap (λ (k : ℕ). k / 4294967296) is) home right.shows }, ((λ e. absurd (miss e)), (λ _. refl), refl)))

-- the tally is taken out
taken : (old n : ℕ) (views : List View) (home : Option Tally) → n ≡ old → out_of old ≢ 1 → Right n home views
    → (w : View) × (change : Bool) × Right (old + 8589934592) (cond change None home) (views ++ w ∷ []) × TakesOut old (old + 8589934592) fresh None n w (cond change home None)
taken old n views (Some tally) e at_home right = let o = right.shows.0 in let m : ℕ = old + 8589934592 in (
  fresh,
  true,
  record { closed = one_more views n m (omega (arith, e, o)) right.closed; shows = omega (arith, e, o) },
  ((λ _. record { tally = tally; is = refl; shown = right.shows.1 ∙ ap tally_of e }), (λ miss. absurd (miss e))),
)
taken old n views None e at_home right = absurd (at_home (ap out_of (sym e) ∙ right.shows))

takes_home : (old : ℕ) → out_of old ≢ 1 → Comes Right None (λ n. either (eqb n old) (old + 8589934592) n) (TakesOut old (old + 8589934592) fresh None)
takes_home old at_home n home views right small = let new : ℕ = old + 8589934592 in dite (ℕ_discrete n old)
    (λ e. exchanged n old new (λ m. (w : View) × (change : Bool) × Right m (cond change None home) (views ++ w ∷ []) × TakesOut old new fresh None n w (cond change home None)) (λ _. taken old n views home e at_home right) (λ miss. absurd (miss e)))
    (λ miss. let m : ℕ = either (eqb n old) new n in let is : m ≡ n = exchanged n old new (λ k. k ≡ n) (λ e. absurd (miss e)) (λ _. refl) in
    (fresh, false, record { closed = one_more views n m (ap closed_of is) right.closed; shows = shows_on m n (ap (λ (k : ℕ). k / 4294967296) is) home right.shows }, ((λ e. absurd (miss e)), (λ _. refl))))

pub takes : (old : ℕ) → out_of old ≢ 1 → (out : Option Tally) → out ≡ None → Comes Right out (λ n. either (eqb n old) (old + 8589934592) n) (TakesOut old (old + 8589934592) fresh out)
takes old at_home out none = subst (λ (o : Option Tally). Comes Right o (λ n. either (eqb n old) (old + 8589934592) n) (TakesOut old (old + 8589934592) fresh o)) (sym none) (takes_home old at_home)

-- and comes back
put : (id : ℕ) (v : View) (tally : Tally) (old n new : ℕ) (views : List View) (home : Option Tally) → n ≡ old → out_of old ≢ 0 → closed_of new ≡ closed_of old → Shows new (Some tally) → Right n home views → get_elem? views id ≡ some v
    → (w : View) × (change : Bool) × Right new (cond change (Some tally) home) (set views id w) × PutsBack old new v (Some tally) n w (cond change home (Some tally))
put id v tally old n new views (Some other) e away same shown right at = absurd (away (ap out_of (sym e) ∙ right.shows.0))
put id v tally old n new views None e away same shown right at = (v, true, record { closed = as_before id v n new views (same ∙ ap closed_of (sym e)) right.closed at; shows = shown }, (refl, (λ _. refl), (λ miss. absurd (miss e))))

pub puts : (id : ℕ) (v : View) (tally : Tally) (old new : ℕ) → out_of old ≢ 0 → closed_of new ≡ closed_of old → Shows new (Some tally) → MayTrade Right id v (Some tally) (λ n. either (eqb n old) new n) (PutsBack old new v (Some tally))
puts id v tally old new away same shown n home views right at small = dite (ℕ_discrete n old)
    (λ e. exchanged n old new (λ m. (w : View) × (change : Bool) × Right m (cond change (Some tally) home) (set views id w) × PutsBack old new v (Some tally) n w (cond change home (Some tally))) (λ _. put id v tally old n new views home e away same shown right at) (λ miss. absurd (miss e)))
    (λ miss. let m : ℕ = either (eqb n old) new n in let is : m ≡ n = exchanged n old new (λ k. k ≡ n) (λ e. absurd (miss e)) (λ _. refl) in
    (v, false, record { closed = as_before id v n m views (ap closed_of is) right.closed at; shows = shows_on m n (ap (λ (k : ℕ). k / 4294967296) is) home right.shows }, (refl, (λ e. absurd (miss e)), (λ _. refl))))

-- a mark more
pub enters : Enters Right (Look fresh)
enters n home views right small = (fresh, record { closed = one_more views n n refl right.closed; shows = right.shows }, (refl, λ is. absurd (let no : false ≡ true = is in cc)))

-- one that knows as much
knows_too : (views : List View) (v : View) (n : ℕ) → (v.closed ≡ true → closed_of n ≡ 1) → ((i : ℕ) (u : View) → get_elem? views i ≡ some u → u.closed ≡ true → closed_of n ≡ 1)
    → (i : ℕ) (u : View) → get_elem? (views ++ v ∷ []) i ≡ some u → u.closed ≡ true → closed_of n ≡ 1
knows_too views v n mine right i u got is = ⊎_elim (λ there. right i u there is) (λ e. mine (ap (λ (w : View). w.closed) e ∙ is)) (at_snoc views v u i got)

pub copies : (id : ℕ) (v : View) → MaySplit Right id v v v
copies id v n home views right at small = record { closed = knows_too (set views id v) v n (right.closed id v at) (as_before id v n n views refl right.closed at); shows = right.shows }

-- one learns what another knows
set_to : (id : ℕ) (w : View) (n : ℕ) (views : List View) → (w.closed ≡ true → closed_of n ≡ 1) → ((i : ℕ) (u : View) → get_elem? views i ≡ some u → u.closed ≡ true → closed_of n ≡ 1)
    → (i : ℕ) (u : View) → get_elem? (set views id w) i ≡ some u → u.closed ≡ true → closed_of n ≡ 1
set_to id w n views mine right i u got is = ⊎_elim (λ t. mine (ap (λ (z : View). z.closed) t.1 ∙ is)) (λ t. right i u t.1 is) (at_set views id i w u got)

by_left : (a b : Bool) (n : ℕ) → (a ≡ true → closed_of n ≡ 1) → (b ≡ true → closed_of n ≡ 1) → (a || b) ≡ true → closed_of n ≡ 1
by_left true b n left right is = left refl
by_left false b n left right is = right is

either_one : (v w : View) (n : ℕ) → (v.closed ≡ true → closed_of n ≡ 1) → (w.closed ≡ true → closed_of n ≡ 1) → (both v w).closed ≡ true → closed_of n ≡ 1
either_one v w n left right is = by_left v.closed w.closed n left right is

-- what the other knew before
there_before : (id : ℕ) (v : View) (other : ℕ) (w u : View) (n : ℕ) (views : List View) → ((i : ℕ) (z : View) → get_elem? views i ≡ some z → z.closed ≡ true → closed_of n ≡ 1) → other ≢ id → get_elem? (set views id u) other ≡ some w → w.closed ≡ true → closed_of n ≡ 1
there_before id v other w u n views right apart beside is = right other w (sym (set_else views id other u apart) ∙ beside) is

pub adds : (id : ℕ) (v : View) (other : ℕ) (w : View) → MayJoin Right id v other w (both v w) nothing
adds id v other w n home views right at apart beside small = record {
  closed = set_to other nothing n (set views id (both v w)) (λ is. absurd (let no : false ≡ true = is in cc))
      (set_to id (both v w) n views (either_one v w n (right.closed id v at) (there_before id v other w (both v w) n views right.closed apart beside)) right.closed);
  shows = right.shows;
}
