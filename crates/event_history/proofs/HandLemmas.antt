-- What a hand that heard of others knows of the history.
use Rattle.std.proofs.Common.{◌≡◌, ℕ, Bool, true, false, cond, eqb, List, [], ◌∷◌, ◌++◌, subst, inl, inr}
use Rattle.event_history.specs.declared.history.Entry.{Entry}
use Rattle.event_history.specs.declared.history.Met.{Met}
use Rattle.event_history.specs.History.{calls_by, IsAmong, StartsWith, EachStood}

module _ {C : Type 0} where
  -- a call of a hand stands in the history as that grows
  pub among_more : (n : ℕ) (c : C) (xs ys : List (Entry C)) → IsAmong c (calls_by n xs) → IsAmong c (calls_by n (xs ++ ys))
  among_more n c [] ys h = absurd h
  among_more n c (x ∷ xs) ys h = by_hand (eqb x.by n) h (among_more n c xs ys) where
    by_hand : (b : Bool) → IsAmong c (cond b (x.call ∷ calls_by n xs) (calls_by n xs)) → (IsAmong c (calls_by n xs) → IsAmong c (calls_by n (xs ++ ys))) → IsAmong c (cond b (x.call ∷ calls_by n (xs ++ ys)) (calls_by n (xs ++ ys)))
    by_hand true (inl here) rest = inl here
    by_hand true (inr k) rest = inr (rest k)
    by_hand false k rest = rest k

  -- the history begins with what the hand had seen that was taken in last
  pub begins_last : (log : List (Entry C)) (numbers : List ℕ) (met : List (Met C)) (last : Met C) (rest : List (Met C)) → met ≡ last ∷ rest → EachStood log numbers met → StartsWith log last.seen
  begins_last log numbers met last rest is each = by_number numbers (subst (EachStood log numbers) is each) where
    by_number : (ns : List ℕ) → EachStood log ns (last ∷ rest) → StartsWith log last.seen
    by_number [] stood = absurd stood
    by_number (n ∷ ns) stood = stood.0.begins
