-- What a contract sees of a `Chain`, and how that keeps its entries on nodes. No public clause cites this module.
use Rattle.std.specs.Map.{lookup, remove_entry, set_value}
use Rattle.std.specs.Prelude.{◌≡◌, ℕ, ◌+◌, ◌-◌, ◌^◌, cond, eqb, ltb, List, [], ◌∷◌, ◌++◌, map, length, Option, Some, None, IsSome, slice_get, option_map, option_and_then}
use denote.RawPtr.{Ptr}
use Rattle.event_queue.specs.declared.key.Key.{Key}
use Rattle.event_queue.specs.declared.node.ring.pointers.NodePtr.{NodePtr}
use Rattle.event_queue.specs.Entry.{Held, Nothing, Before, AfterWithout, After}
use Rattle.event_queue.specs.declared.node.entries.Entry.{Entry}
use Rattle.event_queue.specs.declared.node.entries.Entries.{Entries}
use Rattle.event_queue.specs.declared.node.table.Slot.{Slot}
use Rattle.event_queue.specs.declared.node.Side.{Side}
use Rattle.event_queue.specs.declared.node.Side.TheVariants as side
use Rattle.event_queue.specs.Key.{is_key}
use Rattle.event_queue.specs.Ring.{Placed, placed, first_place, AtNode}

-- a sequence in order with a cursor: the entries before it, those after it, and how many more fit with no
-- allocation
pub record Sequence (A B : Type 0) : Type 0 where
  pub before : List (Key × A)
  pub after : List (Key × B)
  pub spare : ℕ

module _ {A B : Type 0} where
  -- the sequence once the entry of that key was taken out, which was before the cursor, and which was after it
  abbrev pub before_leaves : Key → Sequence A B → Sequence A B
  before_leaves key s = record s { before = remove_entry (is_key key) s.before; spare = s.spare + 1 }

  abbrev pub after_leaves : Key → Sequence A B → Sequence A B
  after_leaves key s = record s { after = remove_entry (is_key key) s.after; spare = s.spare + 1 }

  -- no entry has that key
  abbrev pub HasNone : Key → Sequence A B → Type 0
  HasNone key s = (lookup (is_key key) s.before ≡ None) × (lookup (is_key key) s.after ≡ None)

  -- the entry of that key that is taken out, if there is one, and the sequence that is left
  abbrev pub Takes : Sequence A B → Key → Option (Side A B) → Sequence A B → Type 0
  Takes old key None new = HasNone key old × (new ≡ old)
  Takes old key (Some (side.Before value)) new = (lookup (is_key key) old.before ≡ Some value) × (new ≡ before_leaves key old)
  Takes old key (Some (side.After value)) new = (lookup (is_key key) old.after ≡ Some value) × (new ≡ after_leaves key old)

  module _ {C : Type 0} (changes : C → B → B → C → Type 0) where
    -- the entry of that key, which is after the cursor, carries a value that is made of the one that it had
    pub record IsChanged (old : Sequence A B) (key : Key) (on : C) (new : Sequence A B) (on' : C) : Type 0 where
      pub former : B
      pub value : B
      pub found : lookup (is_key key) old.after ≡ Some former
      pub made : changes on former value on'
      pub stored : new ≡ record old { after = set_value (is_key key) old.after value }

    -- the same, where only an entry before the cursor is taken out, and one after it gets another value
    abbrev pub TakesOrChanges : Sequence A B → Key → C → Option (Side A Unit) → Sequence A B → C → Type 0
    TakesOrChanges old key on None new on' = HasNone key old × (new ≡ old) × (on' ≡ on)
    TakesOrChanges old key on (Some (side.Before value)) new on' = (lookup (is_key key) old.before ≡ Some value) × (new ≡ before_leaves key old) × (on' ≡ on)
    TakesOrChanges old key on (Some (side.After _)) new on' = IsChanged old key on new on'

-- how many nodes that visits: those on both sides; where it was after the cursor, the one at the cursor too
abbrev pub visits_of_taking : {A B : Type 0} → Option (Side A B) → ℕ
visits_of_taking None = 0
visits_of_taking (Some (side.Before value)) = 2
visits_of_taking (Some (side.After value)) = 3

abbrev pub visits_of_change : {A : Type 0} → Option (Side A Unit) → ℕ
visits_of_change None = 0
visits_of_change (Some (side.Before value)) = 2
visits_of_change (Some (side.After _)) = 0

-- how often a slot is among these
abbrev pub times : ℕ → List ℕ → ℕ
times slot [] = 0
times slot (first ∷ rest) = cond (eqb slot first) 1 0 + times slot rest

-- a linked node, a spare node, and what the slots say: each an entry's serial and the place of its node, or nothing
abbrev pub Node : Type 0 → Type 0 → Type 0
Node A B = Placed (Entry A B)

abbrev pub Spare : Type 0 → Type 0 → Type 0
Spare A B = Placed (Entry A B)

abbrev pub Slots : Type 0 → Type 0 → Type 0
Slots A B = List (Option (ℕ × NodePtr (Entry A B)))

-- what a slot says: its serial and its place, or nothing if the serial is the one that no entry gets
abbrev pub shown : {A B : Type 0} → Slot A B → Option (ℕ × NodePtr (Entry A B))
shown slot = cond (eqb slot.serial (2 ^ 64 - 1)) None (Some (slot.serial, slot.place))

abbrev pub shown_in : {A B : Type 0} → List (Slot A B) → Slots A B
shown_in slots = map shown slots

-- the place beside this serial, if a slot has it
abbrev pub place_of : {E : Type 0} → ℕ → ℕ × NodePtr E → Option (NodePtr E)
place_of serial used = cond (eqb used.0 serial) (Some used.1) None

-- the place in the slot of a key, if its serial is there
abbrev pub node_at : {E : Type 0} → List (Option (ℕ × NodePtr E)) → Key → Option (NodePtr E)
node_at slots key =
    option_and_then (place_of key.serial) (option_and_then (λ used. used) (slice_get slots key.slot))

module _ {A B : Type 0} where
  -- the value of an entry before the cursor
  abbrev pub value_before : Held A B → Option A
  value_before Nothing = None
  value_before (Before value) = Some value
  value_before AfterWithout = None
  value_before (After value) = None

  -- the value of an entry after the cursor, which it may be without
  abbrev pub value_after : Held A B → Option (Option B)
  value_after Nothing = None
  value_after (Before value) = None
  value_after AfterWithout = Some None
  value_after (After value) = Some (Some value)

  abbrev pub held_after : Option B → Held A B
  held_after None = AfterWithout
  held_after (Some value) = After value

  abbrev pub key_of : Entry A B → Key
  key_of entry = record { slot = entry.slot; serial = entry.serial }

  -- what a spare node of that slot carries
  abbrev pub spare_entry : ℕ → Entry A B
  spare_entry slot = record { slot = slot; serial = 0; held = Nothing }

  -- a node is at p that carries nothing
  abbrev pub IsSpareAt : List (Node A B) → Ptr → Type 0
  IsSpareAt nodes p = (xs : List (Node A B)) × (n : Node A B) × (ys : List (Node A B)) × (nodes ≡ xs ++ n ∷ ys) × (n.at ≡ p) × (n.entry.held ≡ Nothing)

  -- a node is at p that has an entry before the cursor, and one that has an entry after it
  abbrev pub IsBeforeAt : List (Node A B) → Ptr → Type 0
  IsBeforeAt nodes p = (xs : List (Node A B)) × (n : Node A B) × (ys : List (Node A B)) × (nodes ≡ xs ++ n ∷ ys) × (n.at ≡ p) × IsSome (value_before n.entry.held)

  abbrev pub IsAfterAt : List (Node A B) → Ptr → Type 0
  IsAfterAt nodes p = (xs : List (Node A B)) × (n : Node A B) × (ys : List (Node A B)) × (nodes ≡ xs ++ n ∷ ys) × (n.at ≡ p) × IsSome (value_after n.entry.held)

  -- the value after the cursor was taken off the node at p, which is left with what a spare one carries
  pub record HandsOut (old : Entries A B) (p : Ptr) (value : Option B) (new : Entries A B) : Type 0 where
    pub root : new.ring.at ≡ old.ring.at
    pub cursor : new.cursor ≡ old.cursor
    pub held : AtNode old.ring.nodes p (λ _ n _. n.entry.held ≡ held_after value)
    pub nodes : AtNode old.ring.nodes p (λ xs n ys. new.ring.nodes ≡ xs ++ placed n.at (spare_entry n.entry.slot) ∷ ys)

  -- the node at p got the entry of that key, which is after the cursor
  pub record HandsIn (old : Entries A B) (p : Ptr) (key : Key) (value : Option B) (new : Entries A B) : Type 0 where
    pub root : new.ring.at ≡ old.ring.at
    pub cursor : new.cursor ≡ old.cursor
    pub nodes : AtNode old.ring.nodes p (λ xs n ys. new.ring.nodes ≡ xs ++ placed n.at (record { slot = key.slot; serial = key.serial; held = held_after value }) ∷ ys)

  -- the first entry after the cursor, which had this value, got another one under that key, and the cursor moved behind it
  pub record Advances (old : Entries A B) (key : Key) (value : A) (former : Option B) (new : Entries A B) : Type 0 where
    pub root : new.ring.at ≡ old.ring.at
    pub cursor : AtNode old.ring.nodes old.cursor.ptr (λ _ _ ys. new.cursor.ptr ≡ first_place ys old.ring.at)
    pub had : AtNode old.ring.nodes old.cursor.ptr (λ _ n _. n.entry.held ≡ held_after former)
    pub nodes : AtNode old.ring.nodes old.cursor.ptr (λ xs n ys. new.ring.nodes ≡ xs ++ placed n.at (record { slot = key.slot; serial = key.serial; held = Before value }) ∷ ys)

  -- the node at p was taken out
  pub record TakesOut (old : Entries A B) (p : Ptr) (new : Entries A B) : Type 0 where
    pub root : new.ring.at ≡ old.ring.at
    pub nodes : AtNode old.ring.nodes p (λ xs _ ys. new.ring.nodes ≡ xs ++ ys)

  -- the entry on a node, if it is before the cursor, and if it is after it
  abbrev pub entry_before : Node A B → Option (Key × A)
  entry_before node = option_map (λ value. (key_of node.entry, value)) (value_before node.entry.held)

  abbrev pub entry_after : Node A B → Option (Key × Option B)
  entry_after node = option_map (λ value. (key_of node.entry, value)) (value_after node.entry.held)

  -- the linked nodes, if there is a ring
  abbrev pub nodes_of : Option (Entries A B) → List (Node A B)
  nodes_of None = []
  nodes_of (Some entries) = entries.ring.nodes

  -- there is a ring, with the cursor where it was, or else at the root
  abbrev pub IsStarted : Option (Entries A B) → Option (Entries A B) → Type 0
  IsStarted old None = ⊥
  IsStarted None (Some new) = new.cursor.ptr ≡ new.ring.at
  IsStarted (Some old) (Some new) = new ≡ old

  -- the slots of nodes, and of spare ones
  abbrev pub slots_of : List (Node A B) → List ℕ
  slots_of nodes = map (λ node. node.entry.slot) nodes

  abbrev pub spare_slots : List (Spare A B) → List ℕ
  spare_slots spares = map (λ spare. spare.entry.slot) spares

  -- each node's slot leads to it, with the serial of its entry
  abbrev pub AreMapped : Slots A B → List (Node A B) → Type 0
  AreMapped slots [] = Unit {0}
  AreMapped slots (node ∷ rest) =
      (slice_get slots node.entry.slot ≡ Some (Some (node.entry.serial, record { ptr = node.at }))) × AreMapped slots rest

  -- each spare node holds nothing, and its slot leads nowhere
  abbrev pub AreSpare : Slots A B → List (Spare A B) → Type 0
  AreSpare slots [] = Unit {0}
  AreSpare slots (spare ∷ rest) =
      ((spare.entry.held ≡ Nothing) × (slice_get slots spare.entry.slot ≡ Some None)) × AreSpare slots rest

  -- each slot is that of one node, which is linked or spare
  pub record IsTable (slots : Slots A B) (nodes : List (Node A B)) (spares : List (Spare A B)) : Type 0 where
    pub mapped : AreMapped slots nodes
    pub are_spare : AreSpare slots spares
    pub counted : (slot : ℕ) → times slot (slots_of nodes) + times slot (spare_slots spares) ≡ cond (ltb slot (length slots)) 1 0
    pub total : length nodes + length spares ≡ length slots

  -- whatever nodes are linked, the later slots and spare nodes fit them if the former did
  abbrev pub GrowsTo : Slots A B → List (Spare A B) → Slots A B → List (Spare A B) → Type 0
  GrowsTo slots spares slots' spares' = (nodes : List (Node A B)) → IsTable slots nodes spares → IsTable slots' nodes spares'

  -- each of these nodes is before the cursor, and each is after it
  abbrev pub AreBefore : List (Node A B) → Type 0
  AreBefore [] = Unit {0}
  AreBefore (node ∷ rest) = IsSome (value_before node.entry.held) × AreBefore rest

  abbrev pub AreAfter : List (Node A B) → Type 0
  AreAfter [] = Unit {0}
  AreAfter (node ∷ rest) = IsSome (value_after node.entry.held) × AreAfter rest

  -- the cursor is at the first of these nodes, or at the root; where there is no ring there is no slot
  abbrev pub HasCursor : Option (Entries A B) → List (Node A B) → ℕ → Type 0
  HasCursor None after slot_count = slot_count ≡ 0
  HasCursor (Some entries) after slot_count = entries.cursor.ptr ≡ first_place after entries.ring.at

  -- the nodes before the cursor and then those after it are the linked ones, and the table leads to them
  pub record IsSound (entries : Option (Entries A B)) (slots : Slots A B) (spares : List (Spare A B)) (before_len after_len : ℕ) : Type 0 where
    pub before : List (Node A B)
    pub after : List (Node A B)
    pub in_order : nodes_of entries ≡ before ++ after
    pub are_before : AreBefore before
    pub are_after : AreAfter after
    pub before_len_is : before_len ≡ length before
    pub after_len_is : after_len ≡ length after
    pub table : IsTable slots (before ++ after) spares
    pub cursor : HasCursor entries after (length slots)
