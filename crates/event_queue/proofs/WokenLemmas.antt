-- A chain of wakes keeps the first tasks and counts the others.
use Rattle.std.proofs.Common.{◌≡◌, ℕ, ◌+◌, ◌-◌, ◌<◌, ◌≤◌, ◌^◌, min, Bool, true, false, List, [], ◌∷◌, ◌++◌, take, length, refl, sym, ap, ◌∙◌, subst, arith, append_assoc}
use Rattle.std.proofs.Common.{length-append, length-take, append-nil}
use Rattle.std.proofs.Math.Seq.{take-nil}
use Rattle.std.proofs.lemmas.List.{take_all}
use Rattle.std.specs.List.{FoldsTo}
use Rattle.std.proofs.lemmas.List.{take-append-le}
use Rattle.std.proofs.lemmas.Bool.{ltb-true, ltb-false}
use Rattle.std.specs.Prelude.{nat_lt}
use Rattle.event_queue.specs.Woken.{Kept, after_one, first_of}

module _ {W : Type 0} where
  -- one more task
  first_of-push : (n : ℕ) (front : List W) (task : W) → after_one task (first_of n front) ≡ first_of n (front ++ task ∷ [])
  first_of-push n front task = by_test (nat_lt (length (take n front)) n) refl
    where
      by_test : (b : Bool) → nat_lt (length (take n front)) n ≡ b → after_one task (first_of n front) ≡ first_of n (front ++ task ∷ [])
      by_test true room =
          let short : length front < n = omega (arith, ltb-true _ _ room, length-take n front) in
          let count = length-append front (task ∷ []) in
          let tasks : take n front ++ task ∷ [] ≡ take n (front ++ task ∷ []) =
          ap (λ ts. ts ++ task ∷ []) (take_all n front (omega arith)) ∙ sym (take_all n (front ++ task ∷ []) (omega arith)) in
          let missed : min (length front - n) (2 ^ 64 - 1) ≡ min (length (front ++ task ∷ []) - n) (2 ^ 64 - 1) = omega arith in
          rw room (λ i. record { tasks = tasks i; room = n; missed = missed i })
      by_test false full =
          let long : n ≤ length front = omega (arith, ltb-false _ _ full, length-take n front) in
          let count = length-append front (task ∷ []) in
          let tasks : take n front ≡ take n (front ++ task ∷ []) = sym (take-append-le n front (task ∷ []) long) in
          let missed : min (min (length front - n) (2 ^ 64 - 1) + 1) (2 ^ 64 - 1) ≡ min (length (front ++ task ∷ []) - n) (2 ^ 64 - 1) =
          omega arith in
          rw full (λ i. record { tasks = tasks i; room = n; missed = missed i })

  after_all : (n : ℕ) (front tasks : List W) (after : Kept W) → FoldsTo (λ before task then. then ≡ after_one task before) (first_of n front) tasks after → after ≡ first_of n (front ++ tasks)
  after_all n front [] after chain = sym chain ∙ ap (first_of n) (sym (append-nil front))
  after_all n front (task ∷ tasks) after chain =
      let next : chain.0 ≡ first_of n (front ++ task ∷ []) = chain.1 ∙ first_of-push n front task in
      let rest = subst (λ k. FoldsTo (λ before t then. then ≡ after_one t before) k tasks after) next chain.2 in
      after_all n (front ++ task ∷ []) tasks after rest ∙ ap (first_of n) (append_assoc front (task ∷ []) tasks)

  pub kept_first : (n : ℕ) (tasks : List W) (after : Kept W) → FoldsTo (λ before task then. then ≡ after_one task before) (record { tasks = []; room = n; missed = 0 }) tasks after
      → after ≡ first_of n tasks
  kept_first n tasks after chain =
      let empty : 0 ≡ min (0 - n) (2 ^ 64 - 1) = omega arith in
      let start : record { tasks = []; room = n; missed = 0 } ≡ first_of n [] =
      λ i. record { tasks = sym (take-nil {A = W} n) i; room = n; missed = empty i } in
      after_all n [] tasks after (subst (λ k. FoldsTo (λ before t then. then ≡ after_one t before) k tasks after) start chain)
