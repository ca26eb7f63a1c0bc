-- A lock on one word. The word is four times the lock's number, and a code: 0 while the state is at home and nobody has to be notified of what is given back, 2 while it is at home and somebody may have to be, 1 while a thread has it out, and 3 while one has it out and others may sleep until it is back.
use Rattle.std.specs.Prelude.{◌≡◌, ◌≢◌, ℕ, ◌/◌, ◌%◌, eqb, Bool, true, false, Option, Some, None, List}
use mathlib.Core.Option.{some}
use lib.ListN.{get_elem?}
use Rattle.event_slot.specs.Ruling.{MayTurn, Becomes, Sees}
use Rattle.event_word.specs.declared.word.rule.View.{View}
use Rattle.event_word.specs.Rules.{Rules}

abbrev pub number_of : ℕ → ℕ
number_of w = w / 4

-- one that was notified is one
abbrev pub count : Bool → ℕ
count true = 1
count false = 0

-- it has nothing out, and owes nothing
abbrev pub nothing : View
nothing = record { number = None; owes = false }

-- it has the state out, and saw or left this number last
abbrev pub numbered : ℕ → View
numbered n = record { number = Some n; owes = false }

-- the word says that threads may sleep until the state is back
abbrev pub announces : ℕ → Bool
announces w = eqb (w % 4) 3

-- of those that sleep, whoever has the state out owes what the word announces alone
abbrev pub owes_with : Option ℕ → Bool → Bool
owes_with None debt = debt
owes_with (Some n) debt = false

-- the seat owes a wake
abbrev pub owes : View → Bool
owes v = owes_with v.number v.owes

-- it has nothing out, and owes a wake or not
abbrev pub owing : Bool → View
owing debt = record { number = None; owes = debt }

-- only the owner of the state remembers a number, and it is this one
abbrev pub IsOut : ℕ → ℕ → ℕ → Option ℕ → Type 0
IsOut owner number by None = Unit {0}
IsOut owner number by (Some n) = (by ≡ owner) × (n ≡ number)

module _ {S : Type 0} (rules : Rules S) where
  -- who has the value by the word, as a slot counts it
  abbrev pub counts_of : ℕ → ℕ
  counts_of w = rules.counts (number_of w)

  -- what was promised of a state at the number b is so at n
  abbrev pub Eases : ℕ → ℕ → Type 0
  Eases b n = (q : S) → rules.promised b q → rules.promised n q

  -- what was promised at the number that a thread remembers is so at n
  abbrev pub EasesFrom : Option ℕ → ℕ → Type 0
  EasesFrom None n = ⊥
  EasesFrom (Some b) n = Eases b n

  -- the state is at home
  pub record AtHome (w : ℕ) (q : S) : Type 0 where
    pub home : w % 2 ≡ 0
    pub stands : rules.stands (number_of w) q
    pub quiet : w % 4 ≡ 0 → rules.quiet q

  -- a thread has the state out, and what it remembers holds still
  pub record IsAway (w : ℕ) (views : List View) : Type 0 where
    pub away : w % 2 ≡ 1
    pub owner : ℕ
    pub number : ℕ
    pub remembers : get_elem? views owner ≡ some (numbered number)
    pub eases : Eases number (number_of w)
    pub alone : (by : ℕ) (v : View) → get_elem? views by ≡ some v → IsOut owner number by v.number

  -- the word's number changes and nobody has to be notified
  pub record Changes (old new : ℕ) : Type 0 where
    pub code : new % 4 ≡ old % 4
    pub fits : rules.fits (number_of new)
    pub quiet : old % 4 ≡ 0 → (q : S) → rules.stands (number_of old) q → rules.quiet q → rules.stands (number_of new) q
    pub crowded : old % 4 ≡ 2 → (q : S) → rules.stands (number_of old) q → rules.stands (number_of new) q
    pub out : old % 2 ≡ 1 → Eases (number_of old) (number_of new)

  -- the word's number may change where the state is taken out by the same step, or is out with whoever makes the step
  pub record Takes (old new : ℕ) : Type 0 where
    pub out : new % 2 ≡ 1
    pub fits : rules.fits (number_of new)

  -- those have the value that had it
  abbrev pub Stays : ℕ → ℕ → Type 0
  Stays old new = counts_of new ≡ counts_of old

  -- one who has this right to the value may make this step, and has the other then: 0 is none, 1 to read and 2 to write
  pub record Passes (right left : ℕ) (old new : ℕ) : Type 0 where
    pub may : MayTurn right (counts_of old) (counts_of new)
    pub has : (k : ℕ) → Becomes right (counts_of old) (counts_of new) k → k ≡ left

  -- the word shows that a thread has this right
  abbrev pub Shows : ℕ → ℕ → Type 0
  Shows right w = Sees right (counts_of w) × rules.fits (number_of w)

  abbrev pub StateIn : ℕ → Option S → List View → Type 0
  StateIn w None views = IsAway w views
  StateIn w (Some q) views = AtHome w q × ((by : ℕ) (v : View) → get_elem? views by ≡ some v → v.number ≡ None)

  -- what holds between any two steps
  pub record Holds (w : ℕ) (home : Option S) (views : List View) : Type 0 where
    pub fits : rules.fits (number_of w)
    pub state : StateIn w home views

  -- What a step tells: v is what the seat knew and out what was out with it before, r the word found, u and out' both afterwards.
  -- a new seat has nothing out
  abbrev pub entered : View → ℕ → View → Type 0
  entered v r u = (u ≡ nothing) × rules.fits (number_of r)

  -- a seat looks at the number
  abbrev pub looked : View → ℕ → View → Type 0
  looked v r u = (u ≡ v) × rules.fits (number_of r)

  -- the same before its thread sleeps: when that is woken, others may sleep still
  abbrev pub slept : View → ℕ → View → Type 0
  slept v r u = (u ≡ owing true) × rules.fits (number_of r)

  -- whoever has the state out looks at the number, and remembers it
  abbrev pub seen_again : View → ℕ → View → Type 0
  seen_again v r u = (u ≡ numbered (number_of r)) × rules.fits (number_of r) × (r % 2 ≡ 1) × EasesFrom v.number (number_of r)

  -- nothing is taken or put back
  abbrev pub changed : ℕ → ℕ → View → Option S → ℕ → View → Option S → Type 0
  changed old new v out r u out' = (u ≡ v) × (out' ≡ out) × rules.fits (number_of r)

  -- where the word was as expected, the state is out
  abbrev pub took : ℕ → ℕ → View → Option S → ℕ → View → Option S → Type 0
  took old new v out r u out' =
      (r ≡ old → (q : S) × (u ≡ numbered (number_of new)) × (out' ≡ Some q) × rules.stands (number_of old) q)
      × (r ≢ old → (u ≡ v) × (out' ≡ out))
      × rules.fits (number_of r)

module _ {S : Type 0} where
  -- whoever has the state out changed the number, and remembers it
  abbrev pub moved : ℕ → ℕ → View → Option S → ℕ → View → Option S → Type 0
  moved old new v out r u out' = (r ≡ old → u ≡ numbered (number_of new)) × (r ≢ old → u ≡ v) × (out' ≡ out)

  -- the state is back, and a wake is owed that the word announced
  abbrev pub put : ℕ → ℕ → View → Option S → ℕ → View → Option S → Type 0
  put old new v out r u out' = (r ≡ old → (u ≡ owing (announces old)) × (out' ≡ None)) × (r ≢ old → (u ≡ v) × (out' ≡ out))

-- it owes none any more
abbrev pub woke : View → ℕ → View → Type 0
woke v r u = u ≡ nothing
