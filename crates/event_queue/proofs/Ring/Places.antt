-- Lists that are cut at one place: the nodes of a ring are apart, so an address names one of them.
use Rattle.std.proofs.Common.{◌≡◌, Bool, true, false, ◌&&◌, ◌==◌, List, [], ◌∷◌, ◌++◌, refl, sym, ap, ◌∙◌, subst, true≢false, append_assoc, eqb→eq, T}
use Rattle.std.specs.List.{AllByRecursion, IsDistinct}
use Rattle.std.proofs.lemmas.List.{map-append}
use lib.Dec.{eqb_refl}
use denote.RawPtr.{Ptr, block_ptr, null_ptr}
use Rattle.event_queue.proofs.Lists.{All-append, All-front, All-back}
use Rattle.event_queue.specs.Ring.{Placed, placed, is_same_place, IsApart, places, first_place}

module _ {X : Type 0} where
  head_or : X → List X → X
  head_or d [] = d
  head_or d (x ∷ xs) = x

  tail_of : List X → List X
  tail_of [] = []
  tail_of (x ∷ xs) = xs

  pub heads_equal : (x y : X) (xs ys : List X) → x ∷ xs ≡ y ∷ ys → x ≡ y
  unfolding head_or
  heads_equal x y xs ys e = ap (head_or x) e

  pub tails_equal : (x y : X) (xs ys : List X) → x ∷ xs ≡ y ∷ ys → xs ≡ ys
  unfolding tail_of
  tails_equal x y xs ys e = ap tail_of e

  -- the last of a and xs
  abbrev pub last_from : X → List X → X
  last_from a [] = a
  last_from a (x ∷ xs) = last_from x xs

true_from_T : (b : Bool) → T b → b ≡ true
true_from_T true t = refl
true_from_T false t = absurd t

pub is_same_place-refl : (p : Ptr) → is_same_place p p ≡ true
is_same_place-refl (block_ptr b o) = λ i. true_from_T (b == b) (eqb_refl b) i && true_from_T (o == o) (eqb_refl o) i
is_same_place-refl null_ptr = refl

both_true : (x y : Bool) → (x && y) ≡ true → T x × T y
both_true true true e = (tt, tt)
both_true true false e = cc
both_true false y e = cc

pub is_same_place-eq : (p q : Ptr) → is_same_place p q ≡ true → p ≡ q
is_same_place-eq (block_ptr b o) (block_ptr c p) e = let t = both_true (b == c) (o == p) e in λ i. block_ptr (eqb→eq b c t.0 i) (eqb→eq o p t.1 i)
is_same_place-eq (block_ptr b o) null_ptr e = cc
is_same_place-eq null_ptr (block_ptr c p) e = cc
is_same_place-eq null_ptr null_ptr e = refl

equal_if_both_ways : (x y : Bool) → (x ≡ true → y ≡ true) → (y ≡ true → x ≡ true) → x ≡ y
equal_if_both_ways true y f g = sym (f refl)
equal_if_both_ways false true f g = g refl
equal_if_both_ways false false f g = refl

pub is_same_place-sym : (p q : Ptr) → is_same_place p q ≡ is_same_place q p
is_same_place-sym p q = equal_if_both_ways (is_same_place p q) (is_same_place q p)
    (λ e. subst (λ r. is_same_place r p ≡ true) (is_same_place-eq p q e) (is_same_place-refl p)) (λ e. subst (λ r. is_same_place r q ≡ true) (is_same_place-eq q p e) (is_same_place-refl q))

-- p is none of these
abbrev pub IsNew : Ptr → List Ptr → Type 0
IsNew p = AllByRecursion (λ q. is_same_place p q ≡ false)

pub apart_without : (xs : List Ptr) (p : Ptr) (ys : List Ptr) → IsApart (xs ++ p ∷ ys) → IsApart (xs ++ ys)
unfolding IsDistinct
apart_without [] p ys d = d.1
apart_without (z ∷ xs) p ys d =
    let P : Ptr → Type 0 = λ q. is_same_place z q ≡ false in
    (All-append P xs ys (All-front P xs (p ∷ ys) d.0) (All-back P xs (p ∷ ys) d.0).1, apart_without xs p ys d.1)

pub apart_last : (xs : List Ptr) (p : Ptr) → IsNew p xs → IsApart xs → IsApart (xs ++ p ∷ [])
unfolding IsDistinct
apart_last [] p n d = (tt, tt)
apart_last (z ∷ xs) p n d = (All-append (λ q. is_same_place z q ≡ false) xs (p ∷ []) d.0 (is_same_place-sym z p ∙ n.0, tt), apart_last xs p n.1 d.1)

pub apart_one : (p : Ptr) → IsApart (p ∷ [])
unfolding IsDistinct
apart_one p = (tt, tt)

not_new_among : (p : Ptr) (us vs : List Ptr) → AllByRecursion (λ q. is_same_place p q ≡ false) (us ++ p ∷ vs) → ⊥
not_new_among p us vs all = true≢false (sym (is_same_place-refl p) ∙ (All-back (λ q. is_same_place p q ≡ false) us (p ∷ vs) all).0)

module _ {E : Type 0} where
  abbrev places_of : List (Placed E) → List Ptr
  places_of = places

  pub places_cut : (xs : List (Placed E)) (n : Placed E) (ys : List (Placed E)) → places (xs ++ n ∷ ys) ≡ places xs ++ n.at ∷ places ys
  places_cut xs n ys = map-append (λ (m : Placed E). m.at) xs (n ∷ ys)

  -- the places behind the root, and the root again, cut at a node
  pub round_cut : (xs : List (Placed E)) (n : Placed E) (ys : List (Placed E)) (t : Ptr) → places (xs ++ n ∷ ys) ++ t ∷ [] ≡ places xs ++ n.at ∷ (places ys ++ t ∷ [])
  round_cut xs n ys t = ap (λ l. l ++ t ∷ []) (places_cut xs n ys) ∙ append_assoc (places xs) (n.at ∷ places ys) (t ∷ [])

  pub round_joined : (xs ys : List (Placed E)) (t : Ptr) → places (xs ++ ys) ++ t ∷ [] ≡ places xs ++ (places ys ++ t ∷ [])
  round_joined xs ys t = ap (λ l. l ++ t ∷ []) (map-append (λ (m : Placed E). m.at) xs ys) ∙ append_assoc (places xs) (places ys) (t ∷ [])

  pub apart_unlinked : (h : Ptr) (xs : List (Placed E)) (n : Placed E) (ys : List (Placed E)) → IsApart (h ∷ places (xs ++ n ∷ ys)) → IsApart (h ∷ places (xs ++ ys))
  apart_unlinked h xs n ys d =
      subst (λ l. IsApart (h ∷ l)) (sym (map-append (λ (m : Placed E). m.at) xs ys)) (apart_without (h ∷ places xs) n.at (places ys) (subst (λ l. IsApart (h ∷ l)) (places_cut xs n ys) d))

  pub apart_linked : (h : Ptr) (ns : List (Placed E)) (n : Placed E) → IsNew n.at (h ∷ places ns) → IsApart (h ∷ places ns) → IsApart (h ∷ places (ns ++ n ∷ []))
  apart_linked h ns n f d = subst (λ l. IsApart (h ∷ l)) (sym (places_cut ns n [])) (apart_last (h ∷ places ns) n.at f d)

  pub apart_replaced : (h : Ptr) (xs : List (Placed E)) (n : Placed E) (e : E) (ys : List (Placed E)) → IsApart (h ∷ places (xs ++ n ∷ ys)) → IsApart (h ∷ places (xs ++ placed n.at e ∷ ys))
  apart_replaced h xs n e ys d = subst (λ l. IsApart (h ∷ l)) (places_cut xs n ys ∙ sym (places_cut xs (placed n.at e) ys)) d

  cut_once : (xs : List (Placed E)) (n : Placed E) (ys us : List (Placed E)) (m : Placed E) (vs : List (Placed E)) → IsApart (places (xs ++ n ∷ ys)) → xs ++ n ∷ ys ≡ us ++ m ∷ vs → n.at ≡ m.at
      → (xs ≡ us) × (n ≡ m) × (ys ≡ vs)
  unfolding IsDistinct
  cut_once [] n ys [] m vs d e at = (refl, heads_equal n m ys vs e, tails_equal n m ys vs e)
  cut_once [] n ys (u ∷ us) m vs d e at =
      absurd (not_new_among n.at (places us) (places vs) (subst (λ p. AllByRecursion (λ q. is_same_place n.at q ≡ false) (places us ++ p ∷ places vs)) (sym at)
      (subst (AllByRecursion (λ q. is_same_place n.at q ≡ false)) (ap places_of (tails_equal n u ys (us ++ m ∷ vs) e) ∙ places_cut us m vs) d.0)))
  cut_once (z ∷ xs) n ys [] m vs d e at =
      let first : z.at ≡ n.at = ap (λ (k : Placed E). k.at) (heads_equal z m (xs ++ n ∷ ys) vs e) ∙ sym at in
      absurd (not_new_among z.at (places xs) (places ys) (subst (λ p. AllByRecursion (λ q. is_same_place z.at q ≡ false) (places xs ++ p ∷ places ys)) (sym first)
      (subst (AllByRecursion (λ q. is_same_place z.at q ≡ false)) (places_cut xs n ys) d.0)))
  cut_once (z ∷ xs) n ys (u ∷ us) m vs d e at =
      let on = cut_once xs n ys us m vs d.1 (tails_equal z u (xs ++ n ∷ ys) (us ++ m ∷ vs) e) at in
      let first = heads_equal z u (xs ++ n ∷ ys) (us ++ m ∷ vs) e in
      (λ i. first i ∷ on.0 i, on.1, on.2)

  pub same_node : (h : Ptr) (ns xs : List (Placed E)) (n : Placed E) (ys us : List (Placed E)) (m : Placed E) (vs : List (Placed E)) → IsApart (h ∷ places ns) → ns ≡ xs ++ n ∷ ys
      → ns ≡ us ++ m ∷ vs → n.at ≡ m.at
      → (xs ≡ us) × (n ≡ m) × (ys ≡ vs)
  same_node h ns xs n ys us m vs d a b at = cut_once xs n ys us m vs (subst (λ l. IsApart (places l)) a (apart_without [] h (places ns) d)) (sym a ∙ b) at

  -- what is behind the nodes ys on the way to the root
  pub round_first : (ys : List (Placed E)) (h : Ptr) → (zs : List Ptr) × (places ys ++ h ∷ [] ≡ first_place ys h ∷ zs)
  round_first [] h = ([], refl)
  round_first (y ∷ ys) h = (places ys ++ h ∷ [], refl)
