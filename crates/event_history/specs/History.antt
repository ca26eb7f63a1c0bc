-- One history of all calls on a state, and what a hand knows of it.
use Rattle.std.specs.Prelude.{◌≡◌, ◌≢◌, ◌⊎◌, ℕ, false, cond, eqb, List, [], ◌∷◌, ◌++◌}
use Rattle.event_history.specs.declared.history.Entry.{Entry}
use Rattle.event_history.specs.declared.history.Met.{Met}
use Rattle.event_history.specs.declared.history.Steps as steps
use Rattle.event_history.specs.declared.history.View.{View}

module _ {C : Type 0} where
  abbrev pub entry : ℕ → C → Entry C
  entry by call = record { by = by; call = call }

  -- the calls of one hand, in order
  abbrev pub calls_by : ℕ → List (Entry C) → List C
  calls_by by [] = []
  calls_by by (e ∷ es) = cond (eqb e.by by) (e.call ∷ calls_by by es) (calls_by by es)

  abbrev pub StartsWith : List (Entry C) → List (Entry C) → Type 0
  StartsWith log front = (later : List (Entry C)) × (log ≡ front ++ later)

  -- the call is one of these
  abbrev pub IsAmong : C → List C → Type 0
  IsAmong call [] = ⊥
  IsAmong call (other ∷ others) = (call ≡ other) ⊎ IsAmong call others

  -- each of the first calls is one of the others
  abbrev pub AreAmong : List C → List C → Type 0
  AreAmong [] others = Unit {0}
  AreAmong (call ∷ calls) others = IsAmong call others × AreAmong calls others

  module _ (rests : C → List C) where
    -- what each call of the history rests on are earlier calls of the same hand
    abbrev pub EachRests : List (Entry C) → Type 0
    EachRests log = (earlier later : List (Entry C)) (e : Entry C) → log ≡ earlier ++ e ∷ later → AreAmong (rests e.call) (calls_by e.by earlier)

    -- the call of a hand of whose calls the one is said: it rests on none but these, and with it the other is said of them
    abbrev pub KeepsTo : (List C → Type 0) → C → (List C → Type 0) → Type 0
    KeepsTo before call after = (mine : List C) → before mine → AreAmong (rests call) mine × after (mine ++ call ∷ [])

-- a hand that made no call may not know its number
abbrev pub IsNumber : ℕ → List ℕ → Type 0
IsNumber n [] = Unit {0}
IsNumber n (x ∷ xs) = x ≡ n

abbrev pub IsNoneOf : ℕ → List ℕ → Type 0
IsNoneOf n [] = Unit {0}
IsNoneOf n (x ∷ xs) = (n ≢ x) × IsNoneOf n xs

abbrev pub AllDiffer : List ℕ → Type 0
AllDiffer [] = Unit {0}
AllDiffer (x ∷ xs) = IsNoneOf x xs × AllDiffer xs

module _ {S C : Type 0} where
  -- a hand that made no call yet
  abbrev pub newcomer : List (Entry C) → View S C
  newcomer seen = record { by = []; seen = seen; mine = []; out = []; met = []; spent = false; owes = false }

  -- what another hand learns of it
  abbrev pub met_of : View S C → Met C
  met_of v = record { by = v.by; seen = v.seen; mine = v.mine }

  -- the first hand, which takes in the second
  abbrev pub both_views : View S C → View S C → View S C
  both_views v w = record v { met = met_of w ∷ v.met }

module _ {C : Type 0} (log : List (Entry C)) where
  -- a hand of this number is no more: the history begins with what it had seen, and its calls are all that the history has
  -- of it
  pub record Stood (number : ℕ) (m : Met C) : Type 0 where
    pub is : IsNumber number m.by
    pub begins : StartsWith log m.seen
    pub own : calls_by number log ≡ m.mine

  abbrev pub EachStood : List ℕ → List (Met C) → Type 0
  EachStood [] [] = Unit {0}
  EachStood [] (m ∷ ms) = ⊥
  EachStood (n ∷ ns) [] = ⊥
  EachStood (n ∷ ns) (m ∷ ms) = Stood n m × EachStood ns ms

-- what calls may do to a state
pub record Machine (S C : Type 0) : Type 1 where
  -- before all calls
  pub starts : S → Type 0
  -- from a state a call leads to a state
  pub goes : S → C → S → Type 0
  -- the calls of the same hand that a call comes after
  pub rests : C → List C

module _ {S C Start : Type 0} (of : steps.Ghosts S C Start) where
  -- of a state whose steps these are, where this is known of it before all calls
  abbrev pub machine_from : (S → Type 0) → Machine S C
  machine_from starts = record { starts = starts; goes = of.goes; rests = of.rests }

  -- the same, where this was given of its start
  abbrev pub machine_of : Start → Machine S C
  machine_of start = machine_from (of.starts start)

-- these calls lead from one state to the other
abbrev pub Runs : {S C : Type 0} → (S → C → S → Type 0) → S → List (Entry C) → S → Type 0
Runs goes s [] t = s ≡ t
Runs {S = S} goes s (e ∷ es) t = (m : S) × goes s e.call m × Runs goes m es t

module _ {S C : Type 0} (machine : Machine S C) where
  -- they lead there from a state at the start
  abbrev pub LeadsTo : List (Entry C) → S → Type 0
  LeadsTo log t = (s : S) × machine.starts s × Runs machine.goes s log t

  -- The history after a call begins with all that the caller had seen, and ends with the call, which is one more of the
  -- caller's. The history before the call leads to a state from which the call leads to the one after it. Each call of
  -- the history comes after those of its hand that it rests on.
  pub record Leads (v : View S C) (call : C) (before after : S) (w : View S C) : Type 0 where
    pub between : List (Entry C)
    pub number : ℕ
    pub hand : (w.by ≡ number ∷ []) × IsNumber number v.by
    pub seen : w.seen ≡ (v.seen ++ between) ++ entry number call ∷ []
    pub mine : w.mine ≡ v.mine ++ call ∷ []
    pub each_once : calls_by number w.seen ≡ w.mine
    pub idle : (w.out ≡ []) × (w.spent ≡ false) × (w.met ≡ v.met) × (w.owes ≡ false)
    pub runs : LeadsTo (v.seen ++ between) before
    pub step : machine.goes before call after
    pub rested : EachRests machine.rests w.seen

  abbrev pub Extends : View S C → C → View S C → Type 0
  Extends v call w = (before : S) × (after : S) × Leads v call before after w

  -- the same, by a call of which this is said
  abbrev pub Makes : View S C → (C → Type 0) → View S C → Type 0
  Makes v is w = (call : C) × is call × Extends v call w

  -- the same, and of the state before and after the call this holds
  abbrev pub ExtendsThat : (S → S → Type 0) → View S C → C → View S C → Type 0
  ExtendsThat P v call w = (before : S) × (after : S) × Leads v call before after w × P before after

  -- The hand has seen one history of all hands: it leads to some state, begins with all that the hand had seen, and has
  -- just those calls of the hand that it made; and so of each hand that it took in. All these are different hands.
  pub record Looks (v w : View S C) : Type 0 where
    pub number : ℕ
    pub hand : (w.by ≡ number ∷ []) × IsNumber number v.by
    pub seen : StartsWith w.seen v.seen
    pub mine : w.mine ≡ v.mine
    pub each_once : calls_by number w.seen ≡ w.mine
    pub idle : (w.out ≡ v.out) × (w.spent ≡ v.spent) × (w.met ≡ v.met) × (w.owes ≡ v.owes)
    pub led : S
    pub runs : LeadsTo w.seen led
    pub rested : EachRests machine.rests w.seen
    pub others : List ℕ
    pub met : EachStood w.seen others w.met
    pub differ : AllDiffer (number ∷ others)
