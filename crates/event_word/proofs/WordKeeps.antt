-- Each step on a lock's word keeps its rule.
use Rattle.std.proofs.Common.{◌≡◌, ◌≢◌, ℕ, ◌+◌, ◌*◌, ◌%◌, ◌<◌, ◌⊎◌, eqb, Bool, true, false, Option, Some, None, List, [], ◌∷◌, ◌++◌, length, set, sym, refl, ap, ◌∙◌, subst, inl, inr, ⊎_elim, arith, zero, suc}
use mathlib.Core.Bool.{cond}
use mathlib.Core.Option.{some, some-ne-none}
use lib.ListN.{get_elem?}
use mathlib.Core.Logic.{dite}
use native.Mathlib.Decide.{ℕ_discrete}
use prog.Atomic.{either}
use Rattle.std.proofs.lemmas.Bool.{eqb-true, ne_eqb}
use Rattle.atomic_table.proofs.Lists.{exchanged, at_set, set_again, set_else, set_here, at_longer, at_snoc}
use Rattle.event_slot.specs.Ruling.{Keeps, MayTrade, Comes, Enters, Becomes, MayTurn, OwesStill, StaysDue}
use Rattle.event_word.specs.declared.word.rule.View.{View}
use Rattle.event_word.specs.Rules.{Rules}
use Rattle.event_word.specs.Word.{number_of, IsOut, Eases, EasesFrom, AtHome, IsAway, StateIn, Holds, Changes, Passes, Takes, Stays, counts_of, announces, owes_with, owes, owing, entered, looked, slept, seen_again, took, changed, moved, put, woke, nothing, numbered}

-- of each view after one was set
all_set : (K : ℕ → View → Type 0) (vs : List View) (i : ℕ) (a : View) → K i a → ((j : ℕ) (b : View) → j ≢ i → get_elem? vs j ≡ some b → K j b) → (j : ℕ) (b : View) → get_elem? (set vs i a) j ≡ some b → K j b
all_set K vs i a here others j b at = ⊎_elim (λ (t : (j ≡ i) × (a ≡ b)). subst (λ (x : ℕ × View). K x.0 x.1) (λ k. (sym t.0 k, t.1 k)) here)
    (λ (t : (j ≢ i) × (get_elem? vs j ≡ some b)). others j b t.0 t.1) (at_set vs i j a b at)

-- of each view after a new seat came, whose view is empty
all_more : (K : ℕ → View → Type 0) (vs : List View) → ((j : ℕ) → K j nothing) → ((j : ℕ) (b : View) → get_elem? vs j ≡ some b → K j b) → (j : ℕ) (b : View) → get_elem? (vs ++ nothing ∷ []) j ≡ some b → K j b
all_more K vs new others j b at = ⊎_elim (λ (t : get_elem? vs j ≡ some b). others j b t)
    (λ (t : nothing ≡ b). subst (K j) t (new j)) (at_snoc vs nothing b j at)

not_out : (owner number by : ℕ) (v : Option ℕ) → IsOut owner number by v → by ≢ owner → v ≡ None
not_out owner number by None h ne = refl
not_out owner number by (Some n) h ne = absurd (ne h.0)

some_is_none : (n : ℕ) → Some n ≡ None → ⊥
some_is_none n e = cc

false_is_true : false ≡ true → ⊥
false_is_true e = cc

-- the views are the same
same_view : (v w : View) → some v ≡ some w → v ≡ w
same_view v w e = cc

at_below : {A : Type 0} (vs : List A) (j : ℕ) (b : A) → get_elem? vs j ≡ some b → j < length vs
at_below [] j b e = absurd (some-ne-none b (sym e))
at_below (x ∷ xs) zero b e = omega arith
at_below (x ∷ xs) (suc j) b e = omega (arith, at_below xs j b e)

-- who has the state out is another
not_owner : (id owner number : ℕ) (v : View) (vs : List View) → v.number ≡ None → get_elem? vs id ≡ some v → get_elem? vs owner ≡ some (numbered number) → owner ≢ id
not_owner id owner number v vs has me there same =
    let two : v ≡ numbered number = same_view v (numbered number) (sym me ∙ ap (λ (i : ℕ). get_elem? vs i) (sym same) ∙ there) in
    some_is_none number (sym (ap (λ (u : View). u.number) two) ∙ has)

-- it owes a wake of itself, or has the state out
owes_by : (v : View) (b : ℕ) → v.number ≡ Some b → owes v ≡ true → ⊥
owes_by v b has due = false_is_true (sym (ap (λ (o : Option ℕ). owes_with o v.owes) has) ∙ due)

-- a seat that owes nothing may take the state with the word as it likes
pub due_none : (v : View) (new : ℕ) → v ≡ nothing → owes v ≡ true → new % 4 ≡ 3
due_none v new is due = absurd (false_is_true (sym (ap owes is) ∙ due))

-- a word at home announces nothing
quiet_home : (w : ℕ) → w % 2 ≡ 0 → announces w ≡ true → ⊥
quiet_home w even loud = omega (arith, even, eqb-true (w % 4) 3 loud)

pub loud : (w : ℕ) → w % 4 ≡ 3 → announces w ≡ true
loud w is = ap (λ (m : ℕ). eqb m 3) is

-- where the word announced nothing, nothing is owed
pub quiet : (v : View) (w : ℕ) → v ≡ owing (announces w) → w % 4 ≢ 3 → v ≡ nothing
quiet v w is isnt = is ∙ ap owing (ne_eqb (w % 4) 3 isnt)

as_loud : (old new : ℕ) → new % 4 ≡ old % 4 → announces old ≡ true → announces new ≡ true
as_loud old new code is = ap (λ (m : ℕ). eqb m 3) code ∙ is

odd_is_not_even : (w : ℕ) → w % 2 ≡ 1 → w % 2 ≡ 0 → ⊥
odd_is_not_even w odd even = omega (arith, odd, even)

pub is_whole : (m : ℕ) → m ≡ number_of (m * 4)
is_whole m = omega arith

pub is_number : (m code : ℕ) → code < 4 → m ≡ number_of (m * 4 + code)
is_number m code low = omega (arith, low)

module _ {S : Type 0} (rules : Rules S) where
  -- the word has the number that its state says it is to be, with the code that it had
  pub marks_out : (old m : ℕ) → old % 2 ≡ 1 → rules.fits m → Takes rules old (m * 4 + old % 4)
  marks_out old m odd fits = record { out = omega (arith, odd); fits = subst rules.fits (is_number m (old % 4) (omega arith)) fits }

  -- the right to the value depends on the numbers alone
  pub stays_as : (a b c d : ℕ) → number_of a ≡ number_of c → number_of b ≡ number_of d → Stays rules a b → Stays rules c d
  stays_as a b c d is is' h = ap rules.counts (sym is') ∙ (h ∙ ap rules.counts is)

  -- who has no right may make such a step, and has none then
  pub stays_may : (a b : ℕ) → Stays rules a b → MayTurn 0 (counts_of rules a) (counts_of rules b)
  stays_may a b h = ((λ z. omega (arith, h, z)), (λ z. omega (arith, h, z)), (λ z _ l. absurd (omega (arith, h, z, l))), (λ up low. (omega (arith, h, up), omega (arith, h), omega (arith, h))))

  pub stays_none : (a b k : ℕ) → Stays rules a b → Becomes 0 (counts_of rules a) (counts_of rules b) k → k ≡ 0
  stays_none a b k h g = dite (ℕ_discrete (counts_of rules b % 4) 3) (λ z. g.4 (omega (arith, h, z))) (λ z. g.2 (omega (arith, z)) (omega (arith, h)))

  -- the right that one has after a step
  pub passed : (right left a b q k : ℕ) → Passes rules right left a b → q ≡ right → Becomes q (counts_of rules a) (counts_of rules b) k → k ≡ left
  passed right left a b q k h is g = h.has k (subst (λ (r : ℕ). Becomes r (counts_of rules a) (counts_of rules b) k) is g)

  -- the number stays
  pub stays_put : (a b : ℕ) → number_of a ≡ number_of b → Stays rules a b
  stays_put a b is = ap rules.counts (sym is)

  -- the state may go home with this code
  pub home_with : (m code : ℕ) (q : S) → (code ≡ 2) ⊎ ((code ≡ 0) × rules.quiet q) → rules.stands m q → AtHome rules (m * 4 + code) q
  home_with m code q (inl is) stands = record {
    home = omega (arith, is);
    stands = subst (λ (x : ℕ). rules.stands x q) (is_number m code (omega (arith, is))) stands;
    quiet = λ e. absurd (omega (arith, is, e));
  }
  home_with m code q (inr h) stands = record {
    home = omega (arith, h.0);
    stands = subst (λ (x : ℕ). rules.stands x q) (is_number m code (omega (arith, h.0))) stands;
    quiet = λ _. h.1;
  }

  abbrev Vs : Type 0
  Vs = List View

  abbrev Law : ℕ → Option S → Vs → Type 0
  Law = Holds rules

  -- a seat keeps its view
  unmoved : (w id : ℕ) (v : View) (home : Option S) (vs : Vs) → get_elem? vs id ≡ some v → Law w home vs → Law w home (set vs id v)
  unmoved w id v home vs me k = subst (λ (l : Vs). Law w home l) (sym (set_again vs id v me)) k

  abbrev Goes : ℕ → Option S → Vs → ℕ → Option S → (ℕ → View → Option S → Type 0) → ℕ → Type 0
  Goes n home vs id out tells m = (u : View) × (change : Bool) × Law m (cond change out home) (set vs id u) × tells n u (cond change home out)

  joined : (w : ℕ) (home : Option S) (vs : Vs) → StateIn rules w home vs → StateIn rules w home (vs ++ nothing ∷ [])
  joined w None vs h = record {
    away = h.away;
    owner = h.owner;
    number = h.number;
    remembers = at_longer vs (nothing ∷ []) h.owner (numbered h.number) h.remembers;
    eases = h.eases;
    alone = all_more (λ by v. IsOut h.owner h.number by v.number) vs (λ j. tt) h.alone;
  }
  joined w (Some q) vs h = (h.0, all_more (λ by v. v.number ≡ None) vs (λ j. refl) h.1)

  -- a new seat looks at the word
  pub sits : Enters Law (entered rules nothing)
  sits n home vs k small = (nothing, record { fits = k.fits; state = joined n home vs k.state }, (refl, k.fits))

  -- a seat looks at the word
  pub looks : (id : ℕ) (v : View) → Keeps Law id v (looked rules v)
  looks id v n home vs k me small = (v, unmoved n id v home vs me k, (refl, k.fits))

  stands_on : (old new : ℕ) (q : S) → Changes rules old new → AtHome rules old q → (code : ℕ) → code ≡ old % 4 → rules.stands (number_of new) q
  stands_on old new q c h zero e = c.quiet (sym e) q h.stands (h.quiet (sym e))
  stands_on old new q c h (suc zero) e = absurd (omega (arith, h.home, e))
  stands_on old new q c h (suc (suc zero)) e = c.crowded (sym e) q h.stands
  stands_on old new q c h (suc (suc (suc n))) e = absurd (omega (arith, h.home, e))

  state_stays : (old new : ℕ) (home : Option S) (vs : Vs) → Changes rules old new → StateIn rules old home vs → StateIn rules new home vs
  state_stays old new None vs c h = record {
    away = omega (arith, c.code, h.away);
    owner = h.owner;
    number = h.number;
    remembers = h.remembers;
    eases = λ q p. c.out h.away q (h.eases q p);
    alone = h.alone;
  }
  state_stays old new (Some q) vs c h = (
    record {
      home = omega (arith, c.code, h.0.home);
      stands = stands_on old new q c h.0 (old % 4) refl;
      quiet = λ e. h.0.quiet (omega (arith, c.code, e));
    },
    h.1,
  )

  -- the number changes and nobody has to be notified
  pub changes : (id : ℕ) (v : View) (out : Option S) (old new : ℕ) → Changes rules old new → MayTrade Law id v out (λ n. either (eqb n old) new n) (changed rules old new v out)
  changes id v out old new c n home vs k me small = exchanged n old new (Goes n home vs id out (changed rules old new v out))
      (λ hit. (v, false, unmoved new id v home vs me (record { fits = c.fits; state = state_stays old new home vs c (subst (λ (x : ℕ). StateIn rules x home vs) hit k.state) }), (refl, refl, k.fits)))
      (λ miss. (v, false, unmoved n id v home vs me k, (refl, refl, k.fits)))

  -- the same by a step that makes a seat
  pub comes : (out : Option S) (old new : ℕ) → Changes rules old new → Comes Law out (λ n. either (eqb n old) new n) (changed rules old new nothing out)
  comes out old new c n home vs k small = exchanged n old new (λ m. (u : View) × (change : Bool) × Law m (cond change out home) (vs ++ u ∷ []) × changed rules old new nothing out n u (cond change home out))
      (λ hit. (nothing, false, record { fits = c.fits; state = joined new home vs (state_stays old new home vs c (subst (λ (x : ℕ). StateIn rules x home vs) hit k.state)) }, (refl, refl, k.fits)))
      (λ miss. (nothing, false, record { fits = k.fits; state = joined n home vs k.state }, (refl, refl, k.fits)))

  state_away : (w new : ℕ) (home : Option S) (vs : Vs) → new % 2 ≡ 1 → number_of w ≡ number_of new → w % 2 ≡ 1 → StateIn rules w home vs → StateIn rules new home vs
  state_away w new None vs odd same is h = record {
    away = odd;
    owner = h.owner;
    number = h.number;
    remembers = h.remembers;
    eases = subst (Eases rules h.number) same h.eases;
    alone = h.alone;
  }
  state_away w new (Some q) vs odd same is h = absurd (odd_is_not_even w is h.0.home)

  -- a thread is going to sleep until the state is back
  pub awaits : (id : ℕ) (v : View) (out : Option S) (old new : ℕ) → old % 2 ≡ 1 → new % 2 ≡ 1 → number_of new ≡ number_of old → MayTrade Law id v out (λ n. either (eqb n old) new n) (changed rules old new v out)
  awaits id v out old new odd odd' same n home vs k me small = exchanged n old new (Goes n home vs id out (changed rules old new v out))
      (λ hit.
      let is : number_of n ≡ number_of new = ap number_of hit ∙ sym same in
      (v, false, unmoved new id v home vs me (record { fits = subst rules.fits is k.fits; state = state_away n new home vs odd' is (subst (λ (x : ℕ). x % 2 ≡ 1) (sym hit) odd) k.state }), (refl, refl, k.fits)))
      (λ miss. (v, false, unmoved n id v home vs me k, (refl, refl, k.fits)))

  -- the state is out with this seat, which remembers this number
  goes_out : (new id m : ℕ) (vs : Vs) (v : View) → new % 2 ≡ 1 → Eases rules m (number_of new) → get_elem? vs id ≡ some v → ((by : ℕ) (u : View) → by ≢ id → get_elem? vs by ≡ some u → u.number ≡ None) → IsAway rules new (set vs id (numbered m))
  goes_out new id m vs v odd eases me others = record {
    away = odd;
    owner = id;
    number = m;
    remembers = set_here vs id (numbered m) (at_below vs id v me);
    eases = eases;
    alone = all_set (λ by u. IsOut id m by u.number) vs id (numbered m) (refl, refl) (λ by u ne at. subst (IsOut id m by) (sym (others by u ne at)) tt);
  }

  took_at : (n id old new : ℕ) (v : View) (home : Option S) (vs : Vs) → old % 2 ≡ 0 → Takes rules old new → get_elem? vs id ≡ some v → n ≡ old → Law n home vs → Goes n home vs id None (took rules old new v None) new
  took_at n id old new v None vs even c me hit k = let h = k.state in absurd (odd_is_not_even n h.away (subst (λ (x : ℕ). x % 2 ≡ 0) (sym hit) even))
  took_at n id old new v (Some q) vs even c me hit k = let h = k.state in (
    numbered (number_of new),
    true,
    record { fits = c.fits; state = goes_out new id (number_of new) vs v c.out (λ _ p. p) me (λ by u _ at. h.1 by u at) },
    ((λ _. (q, refl, refl, subst (λ (x : ℕ). rules.stands (number_of x) q) hit h.0.stands)), (λ miss. absurd (miss hit)), k.fits),
  )

  takes_none : (id : ℕ) (v : View) (old new : ℕ) → old % 2 ≡ 0 → Takes rules old new → MayTrade Law id v None (λ n. either (eqb n old) new n) (took rules old new v None)
  takes_none id v old new even c n home vs k me small = exchanged n old new (Goes n home vs id None (took rules old new v None))
      (λ hit. took_at n id old new v home vs even c me hit k)
      (λ miss. (v, false, unmoved n id v home vs me k, ((λ hit. absurd (miss hit)), (λ _. (refl, refl)), k.fits)))

  -- the state is taken out
  pub takes_out : (id : ℕ) (v : View) (out : Option S) (old new : ℕ) → out ≡ None → old % 2 ≡ 0 → Takes rules old new → MayTrade Law id v out (λ n. either (eqb n old) new n) (took rules old new v out)
  takes_out id v out old new none even c = subst (λ (o : Option S). MayTrade Law id v o (λ n. either (eqb n old) new n) (took rules old new v o)) (sym none) (takes_none id v old new even c)

  -- whoever remembers a number has the state out, and it is this number
  pub record Mine (w id b : ℕ) (home : Option S) (vs : Vs) : Type 0 where
    pub none : home ≡ None
    pub odd : w % 2 ≡ 1
    pub eases : Eases rules b (number_of w)
    pub others : (by : ℕ) (u : View) → by ≢ id → get_elem? vs by ≡ some u → u.number ≡ None

  owned : (w id b : ℕ) (v : View) (home : Option S) (vs : Vs) → v.number ≡ Some b → get_elem? vs id ≡ some v → StateIn rules w home vs → Mine w id b home vs
  owned w id b v (Some q) vs has me h = absurd (some_is_none b (sym has ∙ h.1 id v me))
  owned w id b v None vs has me h =
      let out : (id ≡ h.owner) × (b ≡ h.number) = subst (IsOut h.owner h.number id) has (h.alone id v me) in
      record {
        none = refl;
        odd = h.away;
        eases = subst (λ (x : ℕ). Eases rules x (number_of w)) (sym out.1) h.eases;
        others = λ by u ne at. not_out h.owner h.number by u.number (h.alone by u at) (λ e. ne (e ∙ sym out.0));
      }

  away_with : (new id m : ℕ) (v : View) (home : Option S) (vs : Vs) → home ≡ None → IsAway rules new (set vs id (numbered m)) → StateIn rules new home (set vs id (numbered m))
  away_with new id m v home vs none h = subst (λ (o : Option S). StateIn rules new o (set vs id (numbered m))) (sym none) h

  -- whoever has the state out looks at the word, and remembers its number
  pub sees_again : (id : ℕ) (v : View) (b : ℕ) → v.number ≡ Some b → Keeps Law id v (seen_again rules v)
  sees_again id v b has n home vs k me small =
      let t = owned n id b v home vs has me k.state in
      let m : ℕ = number_of n in (
        numbered m,
        record { fits = k.fits; state = away_with n id m v home vs t.none (goes_out n id m vs v t.odd (λ _ p. p) me t.others) },
        (refl, k.fits, t.odd, subst (λ (x : Option ℕ). EasesFrom rules x m) (sym has) t.eases),
      )

  -- whoever has the state out changes the number
  pub moves : (id : ℕ) (v : View) (out : Option S) (old new b : ℕ) → v.number ≡ Some b → Takes rules old new → MayTrade Law id v out (λ n. either (eqb n old) new n) (moved old new v out)
  moves id v out old new b has c n home vs k me small = exchanged n old new (Goes n home vs id out (moved old new v out))
      (λ hit.
      let t = owned n id b v home vs has me k.state in
      let m : ℕ = number_of new in (
        numbered m,
        false,
        record { fits = c.fits; state = away_with new id m v home vs t.none (goes_out new id m vs v c.out (λ _ p. p) me t.others) },
        ((λ _. refl), (λ miss. absurd (miss hit)), refl),
      ))
      (λ miss. (v, false, unmoved n id v home vs me k, ((λ hit. absurd (miss hit)), (λ _. refl), refl)))

  puts_some : (id : ℕ) (v : View) (q : S) (old new b : ℕ) → v.number ≡ Some b → AtHome rules new q → rules.fits (number_of new) → MayTrade Law id v (Some q) (λ n. either (eqb n old) new n) (put old new v (Some q))
  puts_some id v q old new b has at_home fit n home vs k me small = exchanged n old new (Goes n home vs id (Some q) (put old new v (Some q)))
      (λ hit.
      let t = owned n id b v home vs has me k.state in
      let u : View = owing (announces old) in (
        u,
        true,
        record { fits = fit; state = (at_home, all_set (λ _ x. x.number ≡ None) vs id u refl t.others) },
        ((λ _. (refl, t.none)), λ miss. absurd (miss hit)),
      ))
      (λ miss. (v, false, unmoved n id v home vs me k, ((λ hit. absurd (miss hit)), λ _. (refl, refl))))

  -- the state is put back, in which nobody waits in vain
  pub puts : (id : ℕ) (v : View) (out : Option S) (q : S) (old new b : ℕ) → v.number ≡ Some b → out ≡ Some q → AtHome rules new q → rules.fits (number_of new) → MayTrade Law id v out (λ n. either (eqb n old) new n) (put old new v out)
  puts id v out q old new b has is at_home fit = subst (λ (o : Option S). MayTrade Law id v o (λ n. either (eqb n old) new n) (put old new v o)) (sym is) (puts_some id v q old new b has at_home fit)

  -- a seat that has nothing out owes a wake, or not
  state_owing : (w id : ℕ) (debt : Bool) (v : View) (home : Option S) (vs : Vs) → v.number ≡ None → get_elem? vs id ≡ some v → StateIn rules w home vs → StateIn rules w home (set vs id (owing debt))
  state_owing w id debt v None vs has me h = record {
    away = h.away;
    owner = h.owner;
    number = h.number;
    remembers = set_else vs id h.owner (owing debt) (not_owner id h.owner h.number v vs has me h.remembers) ∙ h.remembers;
    eases = h.eases;
    alone = all_set (λ by u. IsOut h.owner h.number by u.number) vs id (owing debt) tt (λ by u _ at. h.alone by u at);
  }
  state_owing w id debt v (Some q) vs has me h = (h.0, all_set (λ _ u. u.number ≡ None) vs id (owing debt) refl (λ by u _ at. h.1 by u at))

  -- a seat looks at the word, and its thread may sleep
  pub sleeps : (id : ℕ) (v : View) → v.number ≡ None → Keeps Law id v (slept rules v)
  sleeps id v has n home vs k me small = (owing true, record { fits = k.fits; state = state_owing n id true v home vs has me k.state }, (refl, k.fits))

  -- a seat has woken one that slept
  pub wakes : (id : ℕ) (v : View) → v.number ≡ None → Keeps Law id v (woke v)
  wakes id v has n home vs k me small = (nothing, record { fits = k.fits; state = state_owing n id false v home vs has me k.state }, refl)

  -- What is due stays due: where a seat looks,
  pub due_enters : OwesStill owes nothing (entered rules nothing)
  due_enters due n u told = absurd (false_is_true due)

  pub due_looks : (v : View) → OwesStill owes v (looked rules v)
  due_looks v due n u told = subst (λ (x : View). owes x ≡ true) (sym told.0) due

  pub due_sleeps : (v : View) → OwesStill owes v (slept rules v)
  due_sleeps v due n u told = subst (λ (x : View). owes x ≡ true) (sym told.0) refl

  pub due_sees_again : (v : View) (b : ℕ) → v.number ≡ Some b → OwesStill owes v (seen_again rules v)
  due_sees_again v b has due n u told = absurd (owes_by v b has due)

  -- where the number changes, with the code or not,
  pub due_changes : (v : View) (out : Option S) (old new : ℕ) → Changes rules old new → StaysDue owes announces old new v (changed rules old new v out)
  due_changes v out old new c = record {
    made = λ u out' told due. ⊎_elim (λ (d : owes v ≡ true). inl (subst (λ (x : View). owes x ≡ true) (sym told.0) d)) (λ (d : announces old ≡ true). inr (as_loud old new c.code d)) due;
    missed = λ n u out' ne told due. subst (λ (x : View). owes x ≡ true) (sym told.0) due;
  }

  pub due_awaits : (v : View) (out : Option S) (old new : ℕ) → new % 4 ≡ 3 → StaysDue owes announces old new v (changed rules old new v out)
  due_awaits v out old new is = record { made = λ u out' told due. inr (loud new is); missed = λ n u out' ne told due. subst (λ (x : View). owes x ≡ true) (sym told.0) due }

  -- where the state is taken out, with the word marked if the seat owes a wake,
  pub due_takes : (v : View) (out : Option S) (old new : ℕ) → old % 2 ≡ 0 → (owes v ≡ true → new % 4 ≡ 3) → StaysDue owes announces old new v (took rules old new v out)
  due_takes v out old new even marks = record {
    made = λ u out' told due. ⊎_elim (λ (d : owes v ≡ true). inr (loud new (marks d))) (λ (d : announces old ≡ true). absurd (quiet_home old even d)) due;
    missed = λ n u out' ne told due. subst (λ (x : View). owes x ≡ true) (sym (told.1 ne).0) due;
  }

  pub due_takes_none : (v : View) (out : Option S) (old new : ℕ) → old % 2 ≡ 0 → v ≡ nothing → StaysDue owes announces old new v (took rules old new v out)
  due_takes_none v out old new even is = due_takes v out old new even (λ due. absurd (false_is_true (sym (ap owes is) ∙ due)))

  -- a new lock
  pub opens : (w : ℕ) (q : S) → w % 4 ≡ 0 → rules.fits (number_of w) → rules.stands (number_of w) q → rules.quiet q → Law w (Some q) (nothing ∷ [])
  opens w q code fits stands quiet = record {
    fits = fits;
    state = (record { home = omega (arith, code); stands = stands; quiet = λ _. quiet }, all_more (λ _ v. v.number ≡ None) [] (λ _. refl) (λ j b at. absurd (some-ne-none b (sym at))));
  }

module _ {S : Type 0} where
  -- where whoever has the state out changes the number, and not the code,
  pub due_moves : (v : View) (out : Option S) (old new b : ℕ) → v.number ≡ Some b → new % 4 ≡ old % 4 → StaysDue owes announces old new v (moved old new v out)
  due_moves v out old new b has code = record {
    made = λ u out' told due. ⊎_elim (λ (d : owes v ≡ true). absurd (owes_by v b has d)) (λ (d : announces old ≡ true). inr (as_loud old new code d)) due;
    missed = λ n u out' ne told due. subst (λ (x : View). owes x ≡ true) (sym (told.1 ne)) due;
  }

  -- and where it is put back: then the seat owes what the word announced
  pub due_puts : (v : View) (out : Option S) (old new b : ℕ) → v.number ≡ Some b → StaysDue owes announces old new v (put old new v out)
  due_puts v out old new b has = record {
    made = λ u out' told due. ⊎_elim (λ (d : owes v ≡ true). absurd (owes_by v b has d)) (λ (d : announces old ≡ true). inl (subst (λ (x : View). owes x ≡ true) (sym (told.0 refl).0) d)) due;
    missed = λ n u out' ne told due. subst (λ (x : View). owes x ≡ true) (sym (told.1 ne).0) due;
  }
