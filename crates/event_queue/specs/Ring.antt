-- A ring's nodes, as contracts see them.
use Rattle.std.specs.Prelude.{◌≡◌, Bool, true, false, ◌&&◌, ◌==◌, List, [], ◌∷◌, ◌++◌, map}
use Rattle.std.specs.List.{IsDistinct, IsDistinct-prop}
use denote.RawPtr.{Ptr, block_ptr, null_ptr}

-- whether two addresses are one
abbrev pub is_same_place : Ptr → Ptr → Bool
is_same_place (block_ptr b o) (block_ptr c p) = (b == c) && (o == p)
is_same_place (block_ptr b o) null_ptr = false
is_same_place null_ptr (block_ptr c p) = false
is_same_place null_ptr null_ptr = true

-- no address comes twice
abbrev pub IsApart : List Ptr → Type 0
IsApart = IsDistinct is_same_place

pub IsApart-prop : (ps : List Ptr) → IsProp (IsApart ps)
IsApart-prop = IsDistinct-prop is_same_place

-- a node: its address, and what it carries
pub record Placed (E : Type 0) : Type 0 where
  pub at : Ptr
  pub entry : E

module _ {E : Type 0} where
  abbrev pub placed : Ptr → E → Placed E
  placed p e = record { at = p; entry = e }

  abbrev pub places : List (Placed E) → List Ptr
  places = map (λ n. n.at)

  -- where the first node is, or this address where there is none
  abbrev pub first_place : List (Placed E) → Ptr → Ptr
  first_place [] end = end
  first_place (n ∷ ns) end = n.at

  -- a node is at p
  abbrev pub IsAt : List (Placed E) → Ptr → Type 0
  IsAt ns p = (xs : List (Placed E)) × (n : Placed E) × (ys : List (Placed E)) × (ns ≡ xs ++ n ∷ ys) × (n.at ≡ p)

  -- P holds of the nodes before the one at p, of that node, and of those behind it
  abbrev pub AtNode : List (Placed E) → Ptr → (List (Placed E) → Placed E → List (Placed E) → Type 0) → Type 0
  AtNode ns p P = (xs : List (Placed E)) (n : Placed E) (ys : List (Placed E)) → ns ≡ xs ++ n ∷ ys → n.at ≡ p → P xs n ys
