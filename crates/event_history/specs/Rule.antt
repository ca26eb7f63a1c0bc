-- What holds between any two steps, and what each kind of step tells.
use Rattle.std.specs.Prelude.{◌≡◌, ◌≢◌, ◌⊎◌, ℕ, ◌≤◌, Bool, true, false, Option, Some, None, List, [], ◌∷◌, length}
use mathlib.Core.Option.{some}
use lib.ListN.{get_elem?}
use Rattle.event_history.specs.declared.history.Entry.{Entry}
use Rattle.event_history.specs.declared.history.Met.{Met}
use Rattle.event_history.specs.declared.history.View.{View}
use Rattle.event_history.specs.History.{Machine, calls_by, StartsWith, IsNumber, AllDiffer, Stood, EachRests, LeadsTo, Leads, Looks, newcomer}

-- Only the owner has a state out, and it is this one. Once the owner owes a wake, the word says that others may sleep
abbrev pub IsOut : {S : Type 0} → ℕ → ℕ → S → ℕ → Bool → List S → Type 0
IsOut word owner q by owes [] = Unit {0}
IsOut word owner q by owes (o ∷ os) = (by ≡ owner) × (o ≡ q) × (owes ≡ true → word ≡ 2)

module _ {S C : Type 0} where
  -- a hand that another one took in
  abbrev pub spent_view : View S C
  spent_view = record { by = []; seen = []; mine = []; out = []; met = []; spent = true; owes = false }

  module _ (views : List (View S C)) (log : List (Entry C)) where
    -- the mark of that number is spent, and this is what was known of it
    pub record Knows (number : ℕ) (m : Met C) : Type 0 where
      pub view : View S C
      pub at : get_elem? views number ≡ some view
      pub spent : view.spent ≡ true
      pub stood : Stood log number m

    abbrev pub KnowsEach : List ℕ → List (Met C) → Type 0
    KnowsEach [] [] = Unit {0}
    KnowsEach [] (m ∷ ms) = ⊥
    KnowsEach (n ∷ ns) [] = ⊥
    KnowsEach (n ∷ ns) (m ∷ ms) = Knows n m × KnowsEach ns ms

    -- the history begins with what a hand has seen, and its own calls are all that the history has of it
    pub record Fits (by : ℕ) (v : View S C) : Type 0 where
      pub number : IsNumber by v.by
      pub begins : StartsWith log v.seen
      pub own : v.spent ≡ false → calls_by by log ≡ v.mine
      pub others : List ℕ
      pub met : KnowsEach others v.met
      pub differ : AllDiffer others

module _ {S C : Type 0} (machine : Machine S C) where
  -- the state at home, or the one that a hand has taken out, is where the history leads
  abbrev pub Stands : ℕ → Option S → List (View S C) → List (Entry C) → Type 0
  Stands word None views log = ((word ≡ 1) ⊎ (word ≡ 2)) × (owner : ℕ) × (q : S) × LeadsTo machine log q × ((by : ℕ) (v : View S C) → get_elem? views by ≡ some v → IsOut word owner q by v.owes v.out)
  Stands word (Some q) views log = (word ≡ 0) × LeadsTo machine log q × ((by : ℕ) (v : View S C) → get_elem? views by ≡ some v → v.out ≡ [])

  pub record Kept (word : ℕ) (home : Option S) (views : List (View S C)) : Type 0 where
    pub log : List (Entry C)
    pub fits : (by : ℕ) (v : View S C) → get_elem? views by ≡ some v → Fits views log by v
    pub others : (by : ℕ) → length views ≤ by → calls_by by log ≡ []
    pub stands : Stands word home views log
    pub rested : EachRests machine.rests log

-- Of a step with a mark: what the mark knows before and after it, v and w, what its hand has taken out before and after it, out
-- and out', and the word that the step found, r.
module _ {S C : Type 0} where
  -- a new mark has seen some history
  abbrev pub entered : View S C → ℕ → View S C → Type 0
  entered v r w = (seen : List (Entry C)) × (w ≡ newcomer seen)

  -- the hand has the state alone
  abbrev pub Holds : View S C → View S C → Option S → Type 0
  Holds v w out' = (q : S) × (w ≡ record v { out = q ∷ [] }) × (out' ≡ Some q)

  -- where the word was as expected, the hand has the state, and what it knew is u; else nothing has changed
  abbrev pub Tries : View S C → ℕ → View S C → Option S → ℕ → View S C → Option S → Type 0
  Tries u old v out r w out' = (r ≡ old → Holds u w out') × (r ≢ old → (w ≡ v) × (out' ≡ out))

  abbrev pub taken : ℕ → ℕ → View S C → Option S → ℕ → View S C → Option S → Type 0
  taken old new v = Tries v old v

  -- the hand owes others a wake, or not
  abbrev pub owing : Bool → View S C → View S C
  owing owes v = record v { owes = owes }

  -- a new mark has seen some history, and its hand has the state where the word was as expected
  abbrev pub arrived : ℕ → ℕ → View S C → Option S → ℕ → View S C → Option S → Type 0
  arrived old new v out r w out' = (seen : List (Entry C)) × Tries (newcomer seen) old (newcomer seen) out r w out'

  -- the same as `taken`, and the word says that others may sleep, so the hand owes them nothing
  abbrev pub taken_awaited : ℕ → ℕ → View S C → Option S → ℕ → View S C → Option S → Type 0
  taken_awaited old new v = Tries (owing false v) old v

  -- the hand waits for the state, maybe among others, which it owes a wake once it has it
  abbrev pub awaited : ℕ → ℕ → View S C → Option S → ℕ → View S C → Option S → Type 0
  awaited old new v out r w out' = (w ≡ owing true v) × (out' ≡ out)

  -- it owes that no longer
  abbrev pub woke : View S C → ℕ → View S C → Type 0
  woke v r w = w ≡ owing false v

  module _ (machine : Machine S C) where
    -- the state that was out is at home, changed by the call
    abbrev pub Returns : View S C → Option S → C → View S C → Type 0
    Returns v out call w = (q : S) × (r : S) × (v.out ≡ q ∷ []) × (out ≡ Some r) × Leads machine v call q r w

    -- by a call of which this was said
    abbrev pub PutsBack : (C → Type 0) → View S C → Option S → View S C → Option S → Type 0
    PutsBack made v out w out' = (out' ≡ None) × (c : C) × made c × Returns v out c w

    -- where the word was as expected; else others may sleep, and the hand owes one of them a wake
    abbrev pub put_back : (C → Type 0) → ℕ → ℕ → View S C → Option S → ℕ → View S C → Option S → Type 0
    put_back made old new v out r w out' = (r ≡ old → PutsBack made v out w out') × (r ≢ old → (w ≡ owing true v) × (out' ≡ out))

    -- the word was as expected, and the hand still owes that
    abbrev pub put_awaited : (C → Type 0) → ℕ → ℕ → View S C → Option S → ℕ → View S C → Option S → Type 0
    put_awaited made old new v out r w out' = (r ≡ old) × (u : View S C) × (w ≡ owing true u) × PutsBack made (owing false v) out u out'

    abbrev pub looked : View S C → ℕ → View S C → Type 0
    looked v r w = Looks machine v w
