-- Views of hands, and what a history has of each.
use Rattle.std.proofs.Common.{◌≡◌, ◌≢◌, ℕ, ◌<◌, ◌⊎◌, eqb, cond, Bool, true, false, zero, suc, List, [], ◌∷◌, ◌++◌, length, set, sym, refl, ap, ◌∙◌, subst, inl, inr, ⊎_elim, arith, true≢false, append_assoc, append-nil, eq-eqb, ne_eqb}
use mathlib.Core.Option.{some, some-injective, some-ne-none}
use lib.ListN.{get_elem?}
use Rattle.atomic_table.proofs.Lists.{at_set, set_else, at_longer}
use Rattle.event_history.specs.declared.history.Entry.{Entry}
use Rattle.event_history.specs.declared.history.Met.{Met}
use Rattle.event_history.specs.declared.history.View.{View}
use Rattle.event_history.specs.History.{calls_by, StartsWith, IsNoneOf, EachStood, newcomer}
use Rattle.event_history.specs.Rule.{Knows, KnowsEach, Fits}

module _ {A : Type 0} where
  at_end : (l : List A) (a b : A) (j : ℕ) → get_elem? (l ++ a ∷ []) j ≡ some b → (get_elem? l j ≡ some b) ⊎ ((j ≡ length l) × (a ≡ b))
  at_end [] a b zero e = inr (refl, some-injective a b e)
  at_end [] a b (suc j) e = absurd (some-ne-none b (sym e))
  at_end (x ∷ xs) a b zero e = inl e
  at_end (x ∷ xs) a b (suc j) e = ⊎_elim (λ t. inl t) (λ t. inr (ap suc t.0, t.1)) (at_end xs a b j e)

  pub at_below : (l : List A) (j : ℕ) (b : A) → get_elem? l j ≡ some b → j < length l
  at_below [] j b e = absurd (some-ne-none b (sym e))
  at_below (x ∷ xs) zero b e = omega arith
  at_below (x ∷ xs) (suc j) b e = omega (arith, at_below xs j b e)

  -- of each element after one was set
  pub all_set : (K : ℕ → A → Type 0) (l : List A) (i : ℕ) (a : A) → K i a → ((j : ℕ) (b : A) → j ≢ i → get_elem? l j ≡ some b → K j b) → (j : ℕ) (b : A) → get_elem? (set l i a) j ≡ some b → K j b
  all_set K l i a here others j b at = ⊎_elim (λ (t : (j ≡ i) × (a ≡ b)). subst (λ (x : ℕ × A). K x.0 x.1) (λ k. (sym t.0 k, t.1 k)) here)
      (λ (t : (j ≢ i) × (get_elem? l j ≡ some b)). others j b t.0 t.1) (at_set l i j a b at)

  -- of each element after one came
  pub all_more : (K : ℕ → A → Type 0) (l : List A) (a : A) → K (length l) a → ((j : ℕ) (b : A) → get_elem? l j ≡ some b → K j b) → (j : ℕ) (b : A) → get_elem? (l ++ a ∷ []) j ≡ some b → K j b
  all_more K l a here others j b at = ⊎_elim (λ (t : get_elem? l j ≡ some b). others j b t)
      (λ (t : (j ≡ length l) × (a ≡ b)). subst (λ (x : ℕ × A). K x.0 x.1) (λ k. (sym t.0 k, t.1 k)) here) (at_end l a b j at)

module _ {C : Type 0} where
  pub cond-append : (b : Bool) (x : C) (l m : List C) → cond b (x ∷ (l ++ m)) (l ++ m) ≡ cond b (x ∷ l) l ++ m
  cond-append true x l m = refl
  cond-append false x l m = refl

  calls_snoc : (by : ℕ) (log : List (Entry C)) (e : Entry C) → calls_by by (log ++ e ∷ []) ≡ calls_by by log ++ cond (eqb e.by by) (e.call ∷ []) []
  calls_snoc by [] e = refl
  calls_snoc by (x ∷ xs) e = ap (λ (l : List C). cond (eqb x.by by) (x.call ∷ l) l) (calls_snoc by xs e) ∙ cond-append (eqb x.by by) x.call (calls_by by xs) (cond (eqb e.by by) (e.call ∷ []) [])

  pub calls_own : (by : ℕ) (log : List (Entry C)) (e : Entry C) → e.by ≡ by → calls_by by (log ++ e ∷ []) ≡ calls_by by log ++ e.call ∷ []
  calls_own by log e is = calls_snoc by log e ∙ ap (λ (b : Bool). calls_by by log ++ cond b (e.call ∷ []) []) (eq-eqb e.by by is)

  pub calls_other : (by : ℕ) (log : List (Entry C)) (e : Entry C) → e.by ≢ by → calls_by by (log ++ e ∷ []) ≡ calls_by by log
  calls_other by log e isnt = calls_snoc by log e ∙ (ap (λ (b : Bool). calls_by by log ++ cond b (e.call ∷ []) []) (ne_eqb e.by by isnt) ∙ append-nil (calls_by by log))

  pub begins_on : (log later front : List (Entry C)) (log' : List (Entry C)) → log' ≡ log ++ later → StartsWith log front → StartsWith log' front
  begins_on log later front log' is b = (b.0 ++ later, is ∙ (ap (λ (l : List (Entry C)). l ++ later) b.1 ∙ append_assoc front b.0 later))

not_both : {b : Bool} → b ≡ true → b ≡ false → ⊥
not_both {b} t f = true≢false (sym t ∙ f)

module _ {S C : Type 0} where
  -- what one step changes of the views and of the history
  pub record Goes_on (vs vs' : List (View S C)) (log log' : List (Entry C)) : Type 0 where
    pub later : List (Entry C)
    pub longer : log' ≡ log ++ later
    pub stay : (n : ℕ) (u : View S C) → get_elem? vs n ≡ some u → u.spent ≡ true → get_elem? vs' n ≡ some u
    pub calls : (n : ℕ) (u : View S C) → get_elem? vs n ≡ some u → u.spent ≡ true → calls_by n log' ≡ calls_by n log

  module _ (vs vs' : List (View S C)) (log log' : List (Entry C)) (g : Goes_on vs vs' log log') where
    knows_on : (n : ℕ) (m : Met C) → Knows vs log n m → Knows vs' log' n m
    knows_on n m k = record {
      view = k.view;
      at = g.stay n k.view k.at k.spent;
      spent = k.spent;
      stood = record { is = k.stood.is; begins = begins_on log g.later m.seen log' g.longer k.stood.begins; own = g.calls n k.view k.at k.spent ∙ k.stood.own };
    }

    pub each_on : (ns : List ℕ) (ms : List (Met C)) → KnowsEach vs log ns ms → KnowsEach vs' log' ns ms
    each_on [] [] k = k
    each_on [] (m ∷ ms) k = k
    each_on (n ∷ ns) [] k = k
    each_on (n ∷ ns) (m ∷ ms) k = (knows_on n m k.0, each_on ns ms k.1)

    pub fits_on : (by : ℕ) (v : View S C) → (v.spent ≡ false → calls_by by log' ≡ calls_by by log) → Fits vs log by v → Fits vs' log' by v
    fits_on by v same f = record {
      number = f.number;
      begins = begins_on log g.later v.seen log' g.longer f.begins;
      own = λ alive. same alive ∙ f.own alive;
      others = f.others;
      met = each_on f.others v.met f.met;
      differ = f.differ;
    }

  pub each_stood : (vs : List (View S C)) (log : List (Entry C)) (ns : List ℕ) (ms : List (Met C)) → KnowsEach vs log ns ms → EachStood log ns ms
  each_stood vs log [] [] k = k
  each_stood vs log [] (m ∷ ms) k = k
  each_stood vs log (n ∷ ns) [] k = k
  each_stood vs log (n ∷ ns) (m ∷ ms) k = (k.0.stood, each_stood vs log ns ms k.1)

  -- a mark that is not spent is none of those that another one took in
  apart : (vs : List (View S C)) (id n : ℕ) (v u : View S C) → get_elem? vs id ≡ some v → v.spent ≡ false → get_elem? vs n ≡ some u → u.spent ≡ true → n ≢ id
  apart vs id n v u at alive there spent e = not_both spent (ap (λ (x : View S C). x.spent) (some-injective u v (sym there ∙ (ap (get_elem? vs) e ∙ at))) ∙ alive)

  pub alive_is_none : (vs : List (View S C)) (log : List (Entry C)) (id : ℕ) (v : View S C) → get_elem? vs id ≡ some v → v.spent ≡ false → (ns : List ℕ) (ms : List (Met C)) → KnowsEach vs log ns ms → IsNoneOf id ns
  alive_is_none vs log id v at alive [] ms k = tt
  alive_is_none vs log id v at alive (n ∷ ns) [] k = absurd k
  alive_is_none vs log id v at alive (n ∷ ns) (m ∷ ms) k = ((λ e. apart vs id n v k.0.view at alive k.0.at k.0.spent (sym e)), alive_is_none vs log id v at alive ns ms k.1)

  -- a mark that is not spent has another view
  pub stays_set : (vs : List (View S C)) (id : ℕ) (v w : View S C) → get_elem? vs id ≡ some v → v.spent ≡ false → (n : ℕ) (u : View S C) → get_elem? vs n ≡ some u → u.spent ≡ true → get_elem? (set vs id w) n ≡ some u
  stays_set vs id v w at alive n u there spent = set_else vs id n w (apart vs id n v u at alive there spent) ∙ there

  pub set_on : (vs : List (View S C)) (log : List (Entry C)) (id : ℕ) (v w : View S C) → get_elem? vs id ≡ some v → v.spent ≡ false → Goes_on vs (set vs id w) log log
  set_on vs log id v w at alive = record { later = []; longer = sym (append-nil log); stay = stays_set vs id v w at alive; calls = λ n u there spent. refl }

  pub more_on : (vs : List (View S C)) (log : List (Entry C)) (w : View S C) → Goes_on vs (vs ++ w ∷ []) log log
  more_on vs log w = record { later = []; longer = sym (append-nil log); stay = λ n u there spent. at_longer vs (w ∷ []) n u there; calls = λ n u there spent. refl }

  -- one call more, of a mark that is not spent
  pub call_on : (vs : List (View S C)) (log : List (Entry C)) (id : ℕ) (v w : View S C) (e : Entry C) → get_elem? vs id ≡ some v → v.spent ≡ false → e.by ≡ id → Goes_on vs (set vs id w) log (log ++ e ∷ [])
  call_on vs log id v w e at alive by = record {
    later = e ∷ [];
    longer = refl;
    stay = stays_set vs id v w at alive;
    calls = λ n u there spent. calls_other n log e (λ is. apart vs id n v u at alive there spent (sym is ∙ by));
  }

  pub newcomer_fits : (vs : List (View S C)) (log seen : List (Entry C)) (by : ℕ) → StartsWith log seen → calls_by by log ≡ [] → Fits vs log by (newcomer seen)
  newcomer_fits vs log seen by begins none_yet = record { number = tt; begins = begins; own = λ _. none_yet; others = []; met = tt; differ = tt }

  -- the views of a state that fits, where one mark's view was changed and the history was not
  pub fits_set : (vs : List (View S C)) (log : List (Entry C)) (id : ℕ) (v w : View S C) → get_elem? vs id ≡ some v → v.spent ≡ false → ((by : ℕ) (u : View S C) → get_elem? vs by ≡ some u → Fits vs log by u) → (Fits (set vs id w) log id v → Fits (set vs id w) log id w)
      → (by : ℕ) (u : View S C) → get_elem? (set vs id w) by ≡ some u → Fits (set vs id w) log by u
  fits_set vs log id v w at alive fits here =
      let on = set_on vs log id v w at alive in
      all_set (λ by u. Fits (set vs id w) log by u) vs id w (here (fits_on vs (set vs id w) log log on id v (λ _. refl) (fits id v at)))
      (λ by u _ there. fits_on vs (set vs id w) log log on by u (λ _. refl) (fits by u there))

  -- and where a newcomer came
  pub fits_more : (vs : List (View S C)) (log seen : List (Entry C)) → StartsWith log seen → calls_by (length vs) log ≡ [] → ((by : ℕ) (u : View S C) → get_elem? vs by ≡ some u → Fits vs log by u)
      → (by : ℕ) (u : View S C) → get_elem? (vs ++ newcomer seen ∷ []) by ≡ some u → Fits (vs ++ newcomer seen ∷ []) log by u
  fits_more vs log seen begins none_yet fits =
      let w : View S C = newcomer seen in
      all_more (λ by u. Fits (vs ++ w ∷ []) log by u) vs w (newcomer_fits (vs ++ w ∷ []) log seen (length vs) begins none_yet)
      (λ by u at. fits_on vs (vs ++ w ∷ []) log log (more_on vs log w) by u (λ _. refl) (fits by u at))
