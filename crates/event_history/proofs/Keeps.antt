-- Each step on the word keeps the rule.
use Rattle.std.proofs.Common.{◌≡◌, ◌≢◌, ℕ, ◌<◌, ◌⊎◌, eqb, Bool, true, false, Option, Some, None, List, [], ◌∷◌, ◌++◌, length, set, sym, refl, ap, ◌∙◌, subst, inl, inr, ⊎_elim, arith, le_refl, length-set, length-append, true≢false, append-nil}
use Rattle.std.proofs.Math.Seq.{set-append_seam}
use mathlib.Core.Bool.{cond}
use mathlib.Core.Option.{some, some-ne-none}
use lib.ListN.{get_elem?}
use prog.Atomic.{either}
use Rattle.atomic_table.proofs.Lists.{exchanged, at_last, set_again, set_else, set_here, at_set}
use Rattle.event_slot.specs.Ruling.{Keeps, Enters, MaySplit, MayJoin, MayTrade, Comes}
use Rattle.event_history.specs.declared.history.Entry.{Entry}
use Rattle.event_history.specs.declared.history.View.{View}
use Rattle.event_history.specs.History.{Machine, entry, calls_by, StartsWith, AreAmong, EachRests, newcomer, met_of, both_views, Runs, LeadsTo}
use Rattle.event_history.specs.Rule.{IsOut, spent_view, Knows, Fits, Stands, Kept, entered, Tries, owing, arrived, awaited, PutsBack, put_back, put_awaited, looked}
use Rattle.event_history.proofs.RestsOnLemmas.{rests_none, rests_more}
use Rattle.event_history.proofs.Views.{at_below, all_set, all_more, calls_own, calls_other, Goes_on, each_on, each_stood, fits_on, alive_is_none, set_on, call_on, newcomer_fits, fits_set, fits_more}

nothing_spent : true ≡ false → ⊥
nothing_spent e = true≢false e

-- the word while the state is out
abbrev IsLocked : ℕ → Type 0
IsLocked word = (word ≡ 1) ⊎ (word ≡ 2)

not_free : (word : ℕ) → word ≡ 0 → IsLocked word → ⊥
not_free word free (inl one) = omega (arith, free, one)
not_free word free (inr two) = omega (arith, free, two)

awaited_if : (word : ℕ) → word ≢ 1 → IsLocked word → word ≡ 2
awaited_if word isnt (inl one) = absurd (isnt one)
awaited_if word isnt (inr two) = two

-- whatever is owed, where the word says that others may sleep
out_at : {S : Type 0} (m n : ℕ) → m ≡ 2 → (owner : ℕ) (q : S) (by : ℕ) (owes owes' : Bool) (o : List S) → IsOut n owner q by owes o → IsOut m owner q by owes' o
out_at m n two owner q by owes owes' [] h = tt
out_at m n two owner q by owes owes' (x ∷ xs) h = (h.0, h.1, λ _. two)

none_out : {S : Type 0} (n owner : ℕ) (q : S) (by : ℕ) (owes : Bool) (o : List S) → o ≡ [] → IsOut n owner q by owes o
none_out n owner q by owes o empty = subst (λ (l : List _). IsOut n owner q by owes l) (sym empty) tt

not_out : {S : Type 0} (n owner : ℕ) (p : S) (by : ℕ) (owes : Bool) (o : List S) → IsOut n owner p by owes o → by ≢ owner → o ≡ []
not_out n owner p by owes [] h ne = refl
not_out n owner p by owes (x ∷ xs) h ne = absurd (ne h.0)

nonempty : {S : Type 0} (q : S) → (q ∷ []) ≡ [] → ⊥
nonempty q e = search (arith, e)

module _ {S C : Type 0} (machine : Machine S C) where
  abbrev V : Type 0
  V = View S C

  abbrev Law : ℕ → Option S → List V → Type 0
  Law = Kept machine

  abbrev There : ℕ → Option S → List V → List (Entry C) → Type 0
  There = Stands machine

  runs_snoc : (s : S) (log : List (Entry C)) (m : S) (e : Entry C) (t : S) → Runs machine.goes s log m → machine.goes m e.call t → Runs machine.goes s (log ++ e ∷ []) t
  runs_snoc s [] m e t is g = (t, subst (λ (x : S). machine.goes x e.call t) (sym is) g, refl)
  runs_snoc s (x ∷ xs) m e t r g = (r.0, r.1, runs_snoc r.0 xs m e t r.2 g)

  leads_snoc : (log : List (Entry C)) (m : S) (e : Entry C) (t : S) → LeadsTo machine log m → machine.goes m e.call t → LeadsTo machine (log ++ e ∷ []) t
  leads_snoc log m e t r g = (r.0, r.1, runs_snoc r.0 log m e t r.2 g)

  stands_more : (n : ℕ) (home : Option S) (vs : List V) (w : V) (log : List (Entry C)) → w.out ≡ [] → There n home vs log → There n home (vs ++ w ∷ []) log
  stands_more n None vs w log empty h = (h.0, h.1, h.2, h.3, all_more (λ by v. IsOut n h.1 h.2 by v.owes v.out) vs w (none_out n h.1 h.2 (length vs) w.owes w.out empty) h.4)
  stands_more n (Some q) vs w log empty h = (h.0, h.1, all_more (λ _ v. v.out ≡ []) vs w empty h.2)

  -- a mark's view is another, which has the same out
  stands_set : (n : ℕ) (home : Option S) (vs : List V) (id : ℕ) (v w : V) (log : List (Entry C)) → get_elem? vs id ≡ some v → w.out ≡ v.out → ((owner : ℕ) (q : S) → IsOut n owner q id v.owes v.out → IsOut n owner q id w.owes w.out) → There n home vs log → There n home (set vs id w) log
  stands_set n None vs id v w log at same still h = (h.0, h.1, h.2, h.3, all_set (λ by u. IsOut n h.1 h.2 by u.owes u.out) vs id w (still h.1 h.2 (h.4 id v at)) (λ by u _ there. h.4 by u there))
  stands_set n (Some q) vs id v w log at same still h = (h.0, h.1, all_set (λ _ u. u.out ≡ []) vs id w (same ∙ h.2 id v at) (λ by u _ there. h.2 by u there))

  -- a newcomer has seen a beginning of the history
  welcomes : (n : ℕ) (home : Option S) (vs : List V) (k : Law n home vs) (seen : List (Entry C)) → StartsWith k.log seen → Law n home (vs ++ newcomer seen ∷ [])
  welcomes n home vs k seen begins = record {
    log = k.log;
    fits = fits_more vs k.log seen begins (k.others (length vs) (le_refl (length vs))) k.fits;
    others = λ by le. k.others by (omega (arith, length-append vs (newcomer seen ∷ []), le));
    stands = stands_more n home vs (newcomer seen) k.log refl k.stands;
    rested = k.rested;
  }

  -- a mark's view is another, by which it fits, and the word and what is at home may be others
  views : (n : ℕ) (home : Option S) (vs : List V) (k : Law n home vs) (m : ℕ) (home' : Option S) (id : ℕ) (v w : V) → get_elem? vs id ≡ some v → v.spent ≡ false → There m home' (set vs id w) k.log
      → (Fits (set vs id w) k.log id v → Fits (set vs id w) k.log id w) → Law m home' (set vs id w)
  views n home vs k m home' id v w me alive there fit = record {
    log = k.log;
    fits = fits_set vs k.log id v w me alive k.fits fit;
    others = λ by le. k.others by (omega (arith, length-set vs id w, le));
    stands = there;
    rested = k.rested;
  }

  -- where only what is owed and what is out changed
  owes_or_has : (n : ℕ) (home : Option S) (vs : List V) (k : Law n home vs) (m : ℕ) (home' : Option S) (id : ℕ) (v : V) (owes : Bool) (o : List S) → get_elem? vs id ≡ some v → v.spent ≡ false → There m home' (set vs id (record v { out = o; owes = owes })) k.log
      → Law m home' (set vs id (record v { out = o; owes = owes }))
  owes_or_has n home vs k m home' id v owes o me alive there =
      views n home vs k m home' id v (record v { out = o; owes = owes }) me alive there (λ f. record { number = f.number; begins = f.begins; own = f.own; others = f.others; met = f.met; differ = f.differ })

  -- a new mark has seen the history so far
  pub sits : (v : V) → Enters Law (entered v)
  sits v n home vs k small = (newcomer k.log, welcomes n home vs k k.log ([], sym (append-nil k.log)), (k.log, refl))

  -- a hand tells another one what it has seen
  pub tells : (id : ℕ) (v : V) → MaySplit Law id v v (newcomer v.seen)
  tells id v n home vs k me small = subst (λ (us : List V). Law n home (us ++ newcomer v.seen ∷ [])) (sym (set_again vs id v me)) (welcomes n home vs k v.seen (k.fits id v me).begins)

  -- what a step leads to that leaves the word at m
  abbrev Goes : ℕ → Option S → List V → ℕ → Option S → (V → Option S → Type 0) → Type 0
  Goes m home vs id out then = (w : V) × (change : Bool) × Law m (cond change out home) (set vs id w) × then w (cond change home out)

  unmoved : (n : ℕ) (home : Option S) (vs : List V) → Law n home vs → (id : ℕ) (v : V) → get_elem? vs id ≡ some v → Law n home (set vs id v)
  unmoved n home vs k id v me = subst (λ (us : List V). Law n home us) (sym (set_again vs id v me)) k

  -- the state is at home, and a hand that owes nothing has it then
  hits : (owes : Bool) → owes ≡ false → (new : ℕ) → IsLocked new → (id : ℕ) (v : V) → v.spent ≡ false → (n : ℕ) (home : Option S) (vs : List V) → Law n home vs → get_elem? vs id ≡ some v → n ≡ 0 → Goes new home vs id None (Tries (owing owes v) 0 v None n)
  hits owes quiet new locks id v alive n None vs k me free = absurd (not_free n free k.stands.0)
  hits owes quiet new locks id v alive n (Some q) vs k me free = let w : V = record v { out = q ∷ []; owes = owes } in (
    w,
    true,
    owes_or_has n (Some q) vs k new None id v owes (q ∷ []) me alive
        (locks, id, q, k.stands.1, all_set (λ by u. IsOut new id q by u.owes u.out) vs id w (refl, refl, λ is. absurd (true≢false (sym is ∙ quiet))) (λ by u _ at. none_out new id q by u.owes u.out (k.stands.2 by u at))),
    ((λ _. (q, refl, refl)), λ miss. absurd (miss free)),
  )

  locks_home : (owes : Bool) → owes ≡ false → (new : ℕ) → IsLocked new → (id : ℕ) (v : V) → v.spent ≡ false → MayTrade Law id v None (λ n. either (eqb n 0) new n) (Tries (owing owes v) 0 v None)
  locks_home owes quiet new locks id v alive n home vs k me small = exchanged n 0 new (λ m. Goes m home vs id None (Tries (owing owes v) 0 v None n))
      (λ free. hits owes quiet new locks id v alive n home vs k me free)
      (λ miss. (v, false, unmoved n home vs k id v me, ((λ free. absurd (miss free)), λ _. (refl, refl))))

  -- a hand takes the state that is at home
  pub locks : (owes : Bool) → owes ≡ false → (new : ℕ) → IsLocked new → (id : ℕ) (v : V) (out : Option S) → v.spent ≡ false → out ≡ None → MayTrade Law id v out (λ n. either (eqb n 0) new n) (Tries (owing owes v) 0 v out)
  locks owes quiet new locked id v out alive none = subst (λ (o : Option S). MayTrade Law id v o (λ n. either (eqb n 0) new n) (Tries (owing owes v) 0 v o)) (sym none) (locks_home owes quiet new locked id v alive)

  -- a new mark takes the state that is at home, or has seen the history so far
  arrives_home : (v : V) (new : ℕ) → IsLocked new → Comes Law None (λ n. either (eqb n 0) new n) (arrived 0 new v None)
  arrives_home v new locked n home vs k small =
      let first : V = newcomer k.log in
      let at_end = length vs in
      let kept : Law n home (vs ++ first ∷ []) = welcomes n home vs k k.log ([], sym (append-nil k.log)) in
      let goes = locks_home false refl new locked at_end first refl n home (vs ++ first ∷ []) kept (at_last vs first at_end refl) small in (
        goes.0,
        goes.1,
        subst (λ (us : List V). Law (either (eqb n 0) new n) (cond goes.1 None home) us) (set-append_seam vs first [] goes.0) goes.2,
        (k.log, goes.3),
      )

  pub arrives : (v : V) (new : ℕ) (out : Option S) → IsLocked new → out ≡ None → Comes Law out (λ n. either (eqb n 0) new n) (arrived 0 new v out)
  arrives v new out locked none = subst (λ (o : Option S). Comes Law o (λ n. either (eqb n 0) new n) (arrived 0 new v o)) (sym none) (arrives_home v new locked)

  -- a look, from which on a hand owes this
  pub turns : (owes : Bool) (id : ℕ) (v : V) → v.spent ≡ false → v.out ≡ [] → Keeps Law id v (λ r w. w ≡ owing owes v)
  turns owes id v alive empty n home vs k me small = let w : V = owing owes v in (
    w,
    owes_or_has n home vs k n home id v owes v.out me alive (stands_set n home vs id v w k.log me refl (λ owner q _. none_out n owner q id owes v.out empty) k.stands),
    refl,
  )

  louder : (n : ℕ) (home : Option S) (vs : List V) (log : List (Entry C)) → n ≡ 1 → There n home vs log → There 2 home vs log
  louder n None vs log one h = (inr refl, h.1, h.2, h.3, λ by v at. out_at 2 n refl h.1 h.2 by v.owes v.owes v.out (h.4 by v at))
  louder n (Some q) vs log one h = absurd (not_free n h.0 (inl one))

  -- a hand that waits says so
  pub waits : (id : ℕ) (v : V) (out : Option S) → v.spent ≡ false → v.out ≡ [] → MayTrade Law id v out (λ n. either (eqb n 1) 2 n) (awaited 1 2 v out)
  waits id v out alive empty n home vs k me small =
      let w : V = owing true v in
      let owed : (m : ℕ) → There m home vs k.log → Goes m home vs id out (awaited 1 2 v out n) = λ m there.
      (w, false, owes_or_has n home vs k m home id v true v.out me alive (stands_set m home vs id v w k.log me refl (λ owner q _. none_out m owner q id true v.out empty) there), (refl, refl)) in
      exchanged n 1 2 (λ m. Goes m home vs id out (awaited 1 2 v out n)) (λ one. owed 2 (louder n home vs k.log one k.stands)) (λ _. owed n k.stands)

  abbrev brings : List (Entry C) → ℕ → V → C → V
  brings log id v call = record { by = id ∷ []; seen = log ++ entry id call ∷ []; mine = v.mine ++ call ∷ []; out = []; met = v.met; spent = false; owes = false }

  returned : (owes : Bool) (n : ℕ) (home : Option S) (vs : List V) (log : List (Entry C)) (id : ℕ) (v : V) (q r : S) (call : C) → v.out ≡ q ∷ [] → machine.goes q call r → get_elem? vs id ≡ some v → There n home vs log
      → There 0 (Some r) (set vs id (owing owes (brings log id v call))) (log ++ entry id call ∷ []) × (home ≡ None) × LeadsTo machine log q
  returned owes n (Some p) vs log id v q r call has g me h = absurd (nonempty q (sym has ∙ h.2 id v me))
  returned owes n None vs log id v q r call has g me h =
      let owner = h.1 in
      let p = h.2 in
      let own : IsOut n owner p id v.owes (q ∷ []) = subst (λ (o : List S). IsOut n owner p id v.owes o) has (h.4 id v me) in (
        (
          refl,
          leads_snoc log p (entry id call) r h.3 (subst (λ (y : S). machine.goes y call r) own.1 g),
          all_set (λ _ u. u.out ≡ []) vs id (owing owes (brings log id v call)) refl (λ by u ne at. not_out n owner p by u.owes u.out (h.4 by u at) (λ e. ne (e ∙ sym own.0))),
        ),
        refl,
        subst (λ (y : S). LeadsTo machine log y) (sym own.1) h.3,
      )

  -- of the start less may be said
  began : (begins : S → Type 0) → ((q : S) → machine.starts q → begins q) → (log : List (Entry C)) (t : S) → LeadsTo machine log t → LeadsTo (record machine { starts = begins }) log t
  began begins weaker log t (s, is, runs) = (s, weaker s is, runs)

  -- a hand gives the state back after a call, and then owes this
  module _ (begins : S → Type 0) (weaker : (q : S) → machine.starts q → begins q) (made : C → Type 0) (id : ℕ) (v : V) (q r : S) (call : C) (is : made call) (has : v.out ≡ q ∷ []) (g : machine.goes q call r) (alive : v.spent ≡ false) (among : AreAmong (machine.rests call) v.mine) where
    abbrev less : Machine S C
    less = record machine { starts = begins }

    gives : (owed owes : Bool) (n : ℕ) (home : Option S) (vs : List V) (k : Law n home vs) → get_elem? vs id ≡ some v → Law 0 (Some r) (set vs id (owing owes (brings k.log id v call))) × PutsBack less made (owing owed v) (Some r) (brings k.log id v call) home
    gives owed owes n home vs k me =
        let e : Entry C = entry id call in
        let log' : List (Entry C) = k.log ++ e ∷ [] in
        let came : V = brings k.log id v call in
        let w : V = owing owes came in
        let vs' : List V = set vs id w in
        let fit = k.fits id v me in
        let own : calls_by id log' ≡ v.mine ++ call ∷ [] = calls_own id k.log e refl ∙ ap (λ (l : List C). l ++ call ∷ []) (fit.own alive) in
        let rested : EachRests machine.rests log' = rests_more machine.rests k.log e k.rested (subst (λ (l : List C). AreAmong (machine.rests call) l) (sym (fit.own alive)) among) in
        let there = returned owes n home vs k.log id v q r call has g me k.stands in
        let on : Goes_on vs vs' k.log log' = call_on vs k.log id v w e me alive refl in (
          record {
            log = log';
            fits = all_set (λ by u. Fits vs' log' by u) vs id w (record { number = refl; begins = ([], sym (append-nil log')); own = λ _. own; others = fit.others; met = each_on vs vs' k.log log' on fit.others v.met fit.met; differ = fit.differ })
                (λ by u ne at. fits_on vs vs' k.log log' on by u (λ _. calls_other by k.log e (λ same. ne (sym same))) (k.fits by u at));
            others = λ by le. calls_other by k.log e (λ same. let below = at_below vs id v me in let at : id ≡ by = same in omega (arith, below, at, le, length-set vs id w)) ∙ k.others by (omega (arith, le, length-set vs id w));
            stands = there.0;
            rested = rested;
          },
          (
            there.1,
            call,
            is,
            (
              q,
              r,
              has,
              refl,
              record {
                between = fit.begins.0;
                number = id;
                hand = (refl, fit.number);
                seen = ap (λ (l : List (Entry C)). l ++ e ∷ []) fit.begins.1;
                mine = refl;
                each_once = own;
                idle = (refl, refl, refl, refl);
                runs = began begins weaker _ q (subst (λ (l : List (Entry C)). LeadsTo machine l q) fit.begins.1 there.2);
                step = g;
                rested = rested;
              },
            ),
          ),
        )

    -- the word says that others may sleep
    is_awaited : (n : ℕ) (home : Option S) (vs : List V) (log : List (Entry C)) → get_elem? vs id ≡ some v → (n ≢ 1) ⊎ (v.owes ≡ true) → There n home vs log → n ≡ 2
    is_awaited n (Some p) vs log me why h = absurd (nonempty q (sym has ∙ h.2 id v me))
    is_awaited n None vs log me (inl isnt) h = awaited_if n isnt h.0
    is_awaited n None vs log me (inr owes) h = let own : IsOut n h.1 h.2 id v.owes (q ∷ []) = subst (λ (o : List S). IsOut n h.1 h.2 id v.owes o) has (h.4 id v me) in own.2 owes

    puts_one : MayTrade Law id v (Some r) (λ n. either (eqb n 1) 0 n) (put_back less made 1 0 v (Some r))
    puts_one n home vs k me small = exchanged n 1 0 (λ m. Goes m home vs id (Some r) (put_back less made 1 0 v (Some r) n))
        (λ one. let back = gives v.owes false n home vs k me in (brings k.log id v call, true, back.0, ((λ _. back.1), λ miss. absurd (miss one))))
        (λ miss. let two = is_awaited n home vs k.log me (inl miss) k.stands in (
          owing true v,
          false,
          owes_or_has n home vs k n home id v true v.out me alive (stands_set n home vs id v (owing true v) k.log me refl (λ owner p h. out_at n n two owner p id v.owes true v.out h) k.stands),
          ((λ one. absurd (miss one)), λ _. (refl, refl)),
        ))

    pub puts : (out : Option S) → out ≡ Some r → MayTrade Law id v out (λ n. either (eqb n 1) 0 n) (put_back less made 1 0 v out)
    puts out there = subst (λ (o : Option S). MayTrade Law id v o (λ n. either (eqb n 1) 0 n) (put_back less made 1 0 v o)) (sym there) puts_one

    puts_two : v.owes ≡ true → MayTrade Law id v (Some r) (λ n. either (eqb n 2) 0 n) (put_awaited less made 2 0 v (Some r))
    puts_two owes n home vs k me small = let two = is_awaited n home vs k.log me (inr owes) k.stands in exchanged n 2 0 (λ m. Goes m home vs id (Some r) (put_awaited less made 2 0 v (Some r) n))
        (λ _. let back = gives false true n home vs k me in (owing true (brings k.log id v call), true, back.0, (two, brings k.log id v call, refl, back.1)))
        (λ miss. absurd (miss two))

    pub puts_awaited : v.owes ≡ true → (out : Option S) → out ≡ Some r → MayTrade Law id v out (λ n. either (eqb n 2) 0 n) (put_awaited less made 2 0 v out)
    puts_awaited owes out there = subst (λ (o : Option S). MayTrade Law id v o (λ n. either (eqb n 2) 0 n) (put_awaited less made 2 0 v o)) (sym there) (puts_two owes)

  leads : (n : ℕ) (home : Option S) (vs : List V) (log : List (Entry C)) → There n home vs log → (t : S) × LeadsTo machine log t
  leads n None vs log h = (h.2, h.3)
  leads n (Some q) vs log h = (q, h.1)

  -- a hand sees the history so far
  pub looks : (begins : S → Type 0) → ((q : S) → machine.starts q → begins q) → (id : ℕ) (v : V) → v.spent ≡ false → Keeps Law id v (looked (record machine { starts = begins }) v)
  looks begins weaker id v alive n home vs k me small =
      let w : V = record v { by = id ∷ []; seen = k.log } in
      let fit = k.fits id v me in
      let end = leads n home vs k.log k.stands in (
        w,
        views n home vs k n home id v w me alive (stands_set n home vs id v w k.log me refl (λ owner q h. h) k.stands)
            (λ f. record { number = refl; begins = ([], sym (append-nil k.log)); own = f.own; others = f.others; met = f.met; differ = f.differ }),
        record {
          number = id;
          hand = (refl, fit.number);
          seen = fit.begins;
          mine = refl;
          each_once = fit.own alive;
          idle = (refl, refl, refl, refl);
          led = end.0;
          runs = began begins weaker _ _ end.1;
          rested = k.rested;
          others = fit.others;
          met = each_stood vs k.log fit.others v.met fit.met;
          differ = (alive_is_none vs k.log id v me alive fit.others v.met fit.met, fit.differ);
        },
      )

  -- a hand takes another one in
  pub absorbs : (id : ℕ) (v : V) (other : ℕ) (u : V) → v.spent ≡ false → u.spent ≡ false → u.out ≡ [] → MayJoin Law id v other u (both_views v u) spent_view
  absorbs id v other u alive living empty n home vs k me ne there small =
      let w : V = both_views v u in
      let vs1 : List V = set vs id w in
      let vs2 : List V = set vs1 other spent_view in
      let was : get_elem? vs other ≡ some u = sym (set_else vs id other w ne) ∙ there in
      let inside : other < length vs1 = at_below vs1 other u there in
      let on1 = set_on vs k.log id v w me alive in
      let on2 = set_on vs1 k.log other u spent_view there living in
      let on : Goes_on vs vs2 k.log k.log = record { later = []; longer = sym (append-nil k.log); stay = λ j x at spent. on2.stay j x (on1.stay j x at spent) spent; calls = λ j x at spent. refl } in
      let fit = k.fits id v me in
      let fit' = k.fits other u was in
      let knows : Knows vs2 k.log other (met_of u) = record { view = spent_view; at = set_here vs1 other spent_view inside; spent = refl; stood = record { is = fit'.number; begins = fit'.begins; own = fit'.own living } } in
      record {
        log = k.log;
        fits = all_set (λ by x. Fits vs2 k.log by x) vs1 other spent_view (record { number = tt; begins = (k.log, refl); own = λ lives. absurd (nothing_spent lives); others = []; met = tt; differ = tt })
            (λ by x other_ne at. ⊎_elim
            (λ (t : (by ≡ id) × (w ≡ x)). subst (λ (z : ℕ × V). Fits vs2 k.log z.0 z.1) (λ i. (sym t.0 i, t.1 i)) (record {
              number = fit.number;
              begins = fit.begins;
              own = fit.own;
              others = other ∷ fit.others;
              met = (knows, each_on vs vs2 k.log k.log on fit.others v.met fit.met);
              differ = (alive_is_none vs k.log other u was living fit.others v.met fit.met, fit.differ);
            }))
            (λ (t : (by ≢ id) × (get_elem? vs by ≡ some x)). fits_on vs vs2 k.log k.log on by x (λ _. refl) (k.fits by x t.1))
            (at_set vs id by w x at));
        others = λ by le. k.others by (omega (arith, length-set vs id w, length-set vs1 other spent_view, le));
        stands = stands_set n home vs1 other u spent_view k.log there (sym empty) (λ owner q _. tt) (stands_set n home vs id v w k.log me refl (λ owner q h. h) k.stands);
        rested = k.rested;
      }

  pub opens : (q : S) → machine.starts q → Law 0 (Some q) (newcomer [] ∷ [])
  opens q is = record {
    log = [];
    fits = all_more (λ by v. Fits (newcomer [] ∷ []) [] by v) [] (newcomer []) (newcomer_fits (newcomer [] ∷ []) [] [] 0 ([], refl) refl) (λ j b at. absurd (some-ne-none b (sym at)));
    others = λ by _. refl;
    stands = (refl, (q, is, refl), all_more (λ _ v. v.out ≡ []) [] (newcomer []) refl (λ j b at. absurd (some-ne-none b (sym at))));
    rested = rests_none machine.rests;
  }
