-- Calls that come after earlier ones of the same hand.
use Rattle.std.proofs.Common.{◌≡◌, ◌⊎◌, List, [], ◌∷◌, ◌++◌, refl, sym, ap, subst, inl, inr, ⊎_elim}
use Rattle.event_history.specs.declared.history.Entry.{Entry}
use Rattle.event_history.specs.History.{calls_by, IsAmong, AreAmong, EachRests}

module _ {C : Type 0} where
  pub among_front : (call : C) (front back : List C) → IsAmong call front → IsAmong call (front ++ back)
  among_front call [] back h = absurd h
  among_front call (x ∷ xs) back (inl here) = inl here
  among_front call (x ∷ xs) back (inr h) = inr (among_front call xs back h)

  pub among_back : (call : C) (front back : List C) → IsAmong call back → IsAmong call (front ++ back)
  among_back call [] back h = h
  among_back call (x ∷ xs) back h = inr (among_back call xs back h)

  pub among_either : (call : C) (front back : List C) → IsAmong call (front ++ back) → IsAmong call front ⊎ IsAmong call back
  among_either call [] back h = inr h
  among_either call (x ∷ xs) back (inl here) = inl (inl here)
  among_either call (x ∷ xs) back (inr h) = ⊎_elim (λ f. inl (inr f)) (λ b. inr b) (among_either call xs back h)

  among_all : (call : C) (calls others : List C) → IsAmong call calls → AreAmong calls others → IsAmong call others
  among_all call [] others h all = absurd h
  among_all call (x ∷ xs) others (inl here) all = subst (λ (c : C). IsAmong c others) (sym here) all.0
  among_all call (x ∷ xs) others (inr h) all = among_all call xs others h all.1

  pub all_of : (calls others those : List C) → AreAmong calls others → AreAmong others those → AreAmong calls those
  all_of [] others those h all = tt
  all_of (x ∷ xs) others those h all = (among_all x others those h.0 all, all_of xs others those h.1 all)

  -- a hand forgets no call
  pub all_front : (calls front back : List C) → AreAmong calls front → AreAmong calls (front ++ back)
  all_front [] front back h = tt
  all_front (x ∷ xs) front back h = (among_front x front back h.0, all_front xs front back h.1)

  all_back : (calls front back : List C) → AreAmong calls back → AreAmong calls (front ++ back)
  all_back [] front back h = tt
  all_back (x ∷ xs) front back h = (among_back x front back h.0, all_back xs front back h.1)

  pub all_these : (calls : List C) → AreAmong calls calls
  all_these [] = tt
  all_these (x ∷ xs) = (inl refl, all_back xs (x ∷ []) xs (all_these xs))

  -- what rests on the same calls as before
  pub all_still : (calls : List C) (call : C) → AreAmong calls (calls ++ call ∷ [])
  all_still calls call = all_front calls calls (call ∷ []) (all_these calls)

  all_both : (calls others more : List C) → AreAmong calls others → AreAmong (calls ++ more) (others ++ more)
  all_both [] others more h = all_back more others more (all_these more)
  all_both (x ∷ xs) others more h = (among_front x others more h.0, all_both xs others more h.1)

  -- what comes after the call rests on none but the calls of the hand
  pub rests_after : (before mine after : List C) (call : C) → AreAmong before mine → AreAmong after (before ++ call ∷ []) → AreAmong after (mine ++ call ∷ [])
  rests_after before mine after call all rest = all_of after (before ++ call ∷ []) (mine ++ call ∷ []) rest (all_both before mine (call ∷ []) all)

  -- the last entry, or one before it
  split_end : (log : List (Entry C)) (last : Entry C) (earlier later : List (Entry C)) (e : Entry C) → log ++ last ∷ [] ≡ earlier ++ e ∷ later
      → ((rest : List (Entry C)) × (log ≡ earlier ++ e ∷ rest)) ⊎ ((log ≡ earlier) × (last ≡ e))
  split_end [] last [] later e is = inr (refl, cc)
  split_end [] last (x ∷ []) later e is = absurd (cc)
  split_end [] last (x ∷ y ∷ ys) later e is = absurd (cc)
  split_end (x ∷ xs) last [] later e is = inl (xs, ap (λ (y : Entry C). y ∷ xs) (cc))
  split_end (x ∷ xs) last (y ∷ ys) later e is =
      let first : x ≡ y = cc in
      let rest : xs ++ last ∷ [] ≡ ys ++ e ∷ later = cc in
      ⊎_elim (λ t. inl (t.0, (λ i. first i ∷ t.1 i))) (λ t. inr ((λ i. first i ∷ t.0 i), t.1)) (split_end xs last ys later e rest)

  nothing_there : (earlier later : List (Entry C)) (e : Entry C) → [] ≡ earlier ++ e ∷ later → ⊥
  nothing_there [] later e is = cc
  nothing_there (x ∷ xs) later e is = cc

  pub rests_none : (rests : C → List C) → EachRests rests []
  rests_none rests = λ earlier later e is. absurd (nothing_there earlier later e is)

  pub rests_more : (rests : C → List C) (log : List (Entry C)) (last : Entry C) → EachRests rests log → AreAmong (rests last.call) (calls_by last.by log) → EachRests rests (log ++ last ∷ [])
  rests_more rests log last each here = λ earlier later e is. ⊎_elim (λ t. each earlier t.0 e t.1)
      (λ t. subst (λ (x : List (Entry C) × Entry C). AreAmong (rests x.1.call) (calls_by x.1.by x.0)) (λ i. (t.0 i, t.1 i)) here) (split_end log last earlier later e is)
