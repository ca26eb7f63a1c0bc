-- What one step changes of who has the lock.
use Rattle.std.proofs.Common.{arith, ◌≡◌, ◌≢◌, ℕ, true, false, List, set, slice_get, Option, Some, None, is_none, refl, sym, ap, ◌∙◌, subst, inl, inr, eq-eqb, ne_eqb, eqb-true}
use Rattle.std.proofs.lemmas.Bool.{cases_eq}
use Rattle.event_worlds.specs.declared.world.place.Place.{Place}
use Rattle.event_worlds.specs.Served.{is_inside}
use Rattle.event_worlds.specs.MutexInvariant.{is_inside_at, is_holder}
use Rattle.event_worlds.proofs.PlaceLemmas.{slice_get-set, slice_get-set_other}

-- the holder

pub free_is : (holder : Option ℕ) → is_none holder ≡ true → holder ≡ None
free_is None free = refl
free_is (Some client) free = absurd (cc)

only_holder : (client other : ℕ) (holder : Option ℕ) → is_holder client holder ≡ true → other ≢ client → is_holder other holder ≡ false
only_holder client other None holds differs = absurd (cc)
only_holder client other (Some holder) holds differs = grind (arith, eqb-true)

-- the holder is who is inside
abbrev pub HolderFits : Option ℕ → List Place → Type 0
HolderFits holder places = (client : ℕ) → is_holder client holder ≡ is_inside_at (slice_get places client)

module _ (places : List Place) (client : ℕ) (p q : Place) (at : slice_get places client ≡ Some p) where
  here : is_inside_at (slice_get (set places client q) client) ≡ is_inside q
  here = ap is_inside_at (slice_get-set places client p q at)

  there : (other : ℕ) → other ≢ client → is_inside_at (slice_get (set places client q) other) ≡ is_inside_at (slice_get places other)
  there other differs = ap is_inside_at (slice_get-set_other places client other q differs)

  was : is_inside_at (slice_get places client) ≡ is_inside p
  was = ap is_inside_at at

  at_all : (new : Option ℕ) → is_holder client new ≡ is_inside q → ((other : ℕ) → other ≢ client → is_holder other new ≡ is_inside_at (slice_get places other)) → HolderFits new (set places client q)
  at_all new mine others other =
      elim (cases_eq other client) [
        | inl is ↦
            subst (λ (x : ℕ). is_holder x new ≡ is_inside_at (slice_get (set places client q) x)) (sym is) (mine ∙ sym here)
        | inr differs ↦ others other differs ∙ sym (there other differs)
      ]

  pub holder-goes : (holder : Option ℕ) → is_inside q ≡ is_inside p → HolderFits holder places → HolderFits holder (set places client q)
  holder-goes holder same fits = grind (arith, at_all)

  pub holder-takes : (holder : Option ℕ) → holder ≡ None → is_inside q ≡ true → HolderFits holder places → HolderFits (Some client) (set places client q)
  holder-takes holder free inside fits =
      at_all (Some client) (eq-eqb client client refl ∙ sym inside) (λ other differs.
      ne_eqb other client differs ∙ (sym (ap (is_holder other) free) ∙ fits other))

  pub is_holder-inside : (holder : Option ℕ) → is_inside p ≡ true → HolderFits holder places → is_holder client holder ≡ true
  is_holder-inside holder inside fits = fits client ∙ (was ∙ inside)

  pub holder-frees : (holder : Option ℕ) → is_inside p ≡ true → is_inside q ≡ false → HolderFits holder places → HolderFits None (set places client q)
  holder-frees holder inside outside fits =
      at_all None (sym outside) (λ other differs.
      sym (only_holder client other holder (is_holder-inside holder inside fits) differs) ∙ fits other)
