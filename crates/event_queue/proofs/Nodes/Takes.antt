-- What is left of a chain once a key's entry was taken out or got another value, and once the cursor moved on.
use Rattle.std.proofs.Common.{Bool, true, false, IsTrue, ◌↔◌, ◌≡◌, ◌+◌, ◌≢◌, ℕ, ap₂, true≢false, IsSome, ◌-◌, ◌<◌, ◌≤◌, cond, eqb, List, [], ◌∷◌, ◌++◌, length, set, Option, Some, None, refl, sym, ap, ◌∙◌, subst, arith, length-append}
use Rattle.std.specs.Prelude.{option_map, slice_get}
use Rattle.std.specs.Map.{lookup, set_value}
use denote.RawPtr.{Ptr}
use Rattle.event_queue.specs.declared.key.Key.{Key}
use Rattle.event_queue.specs.declared.node.ring.pointers.NodePtr.{NodePtr}
use Rattle.event_queue.specs.Entry.{Held, Nothing, Before, AfterWithout, After}
use Rattle.event_queue.specs.declared.node.entries.Entry.{Entry}
use Rattle.event_queue.specs.declared.node.entries.Entries.{Entries}
use Rattle.event_queue.specs.declared.node.table.Slot.{Slot}
use Rattle.event_queue.specs.Key.{is_key}
use Rattle.event_queue.specs.Ring.{placed, first_place, IsAt, AtNode}
use Rattle.event_queue.specs.Nodes.{Node, Spare, Slots, Sequence, shown_in, AreMapped, nodes_of, node_at, key_of, spare_entry, value_before, value_after, held_after, before_leaves, after_leaves, HasNone, IsBeforeAt, IsAfterAt, IsSpareAt, Advances, HandsOut, HandsIn, TakesOut, AreBefore, AreAfter, IsSound}
use Rattle.event_queue.proofs.Nodes.Slots.{AreMapped-cut, slice_get-within, serial_shown}
use Rattle.event_queue.proofs.Nodes.Lookups.{entries_by, some_value, after_of_after, AreAfter-cut}
use Rattle.event_queue.proofs.Nodes.ChainSteps.{Lies, Finds, Cursor, lies, table_is, stands_at, slot_within, spare_room, looked, leads_nowhere, some_before, some_after, IsSound-without_before, IsSound-without_after, before_removed, after_removed, before_kept, after_kept, cursor_is, cursor_after, length-after_of, IsSound-advanced, after_advanced, before_advanced, after_set, before_unset, IsSound-set}

module _ {A B : Type 0} where
  -- a linked node holds something
  holds_something : (before after front rest : List (Node A B)) (node : Node A B) → before ++ after ≡ front ++ node ∷ rest → AreBefore before → AreAfter after → node.entry.held ≢ Nothing
  holds_something [] after front rest node is are_before are_after nothing =
      let here = (AreAfter-cut front (node ∷ rest) (subst AreAfter is are_after)).1.0 in
      true≢false (sym (rw nothing at here))
  holds_something (b ∷ bs) after [] rest node is are_before are_after nothing =
      let same : b ≡ node = cc in
      let here = subst (λ (n : Node A B). IsSome (value_before n.entry.held)) same are_before.0 in
      true≢false (sym (rw nothing at here))
  holds_something (b ∷ bs) after (f ∷ fs) rest node is are_before are_after nothing =
      let others : bs ++ after ≡ fs ++ node ∷ rest = cc in
      holds_something bs after fs rest node others are_before.1 are_after nothing

  -- an entry that is not after the cursor is before it
  other_side : (held : Held A B) → held ≢ Nothing → (IsSome (value_after held) → ⊥) → IsSome (value_before held)
  other_side Nothing holds not_after = absurd (holds refl)
  other_side (Before value) holds not_after = refl
  other_side AfterWithout holds not_after = absurd (not_after refl)
  other_side (After value) holds not_after = absurd (not_after refl)

  -- what a contract sees of a chain
  abbrev pub seen : Option (Entries A B) → List (Spare A B) → Sequence A (Option B)
  seen entries spares =
      record {
        before = entries_by value_before (nodes_of entries);
        after = entries_by value_after (nodes_of entries);
        spare = length spares;
      }

  -- there is a ring, and the slot of the key leads to a node of it
  pub record Reached (chain : Option (Entries A B)) (slots : Slots A B) (spares : List (Spare A B)) (before_len after_len : ℕ) (entries : Entries A B) (key : Key) (at : NodePtr (Entry A B)) : Type 0 where
    pub is : chain ≡ Some entries
    pub sound : IsSound (Some entries) slots spares before_len after_len
    pub leads : node_at slots key ≡ Some at

  pub reached : {chain : Option (Entries A B)} {slots : Slots A B} {spares : List (Spare A B)} {before_len after_len : ℕ} {entries : Entries A B} {key : Key} {at : NodePtr (Entry A B)}
      → IsSound chain slots spares before_len after_len → chain ≡ Some entries → node_at slots key ≡ Some at → Reached chain slots spares before_len after_len entries key at
  reached {chain} {slots} {spares} {before_len} {after_len} sound is leads =
      record {
        is = is;
        sound = subst (λ (entries : Option (Entries A B)). IsSound entries slots spares before_len after_len) is sound;
        leads = leads;
      }

  -- a key that leads nowhere
  pub has_none : {chain : Option (Entries A B)} {slots : Slots A B} {spares : List (Spare A B)} {before_len after_len : ℕ} (key : Key)
      → IsSound chain slots spares before_len after_len → node_at slots key ≡ None → HasNone key (seen chain spares)
  has_none {chain} {slots} {spares} {before_len} {after_len} key sound nowhere =
      (leads_nowhere chain slots spares before_len after_len sound key nowhere value_before, leads_nowhere chain slots spares before_len after_len sound key nowhere value_after)

  module _ {chain : Option (Entries A B)} {slots : Slots A B} {spares : List (Spare A B)} {before_len after_len : ℕ} {entries : Entries A B} {key : Key} {at : NodePtr (Entry A B)}
      (node : Reached chain slots spares before_len after_len entries key at) where
    abbrev its_place : Lies entries.ring.nodes key at.ptr
    its_place = lies entries slots spares before_len after_len node.sound key at node.leads

    pub stands : IsAt entries.ring.nodes at.ptr
    stands = stands_at entries slots spares before_len after_len node.sound key at node.leads

    pub within : key.slot < length slots
    within = slot_within entries slots spares before_len after_len node.sound key at node.leads

    pub has_room : length spares < length slots
    has_room = spare_room entries slots spares before_len after_len node.sound key at node.leads

    -- its value, of either kind
    found : {X : Type 0} (value : Held A B → Option X) (x : X) → value its_place.node.entry.held ≡ Some x → Finds value entries.ring.nodes key at.ptr
    found value x held =
        record {
          lies = its_place;
          key_is = ap₂ {C = Key} (λ a b. record { slot = a; serial = b }) its_place.slot_is its_place.serial_is;
          x = x;
          held = held;
          looked = looked entries slots spares before_len after_len node.sound key at node.leads value ∙ held;
        }

    -- ---- once it was tested on which side of the cursor it is
    module _ (result : Bool) (tests : AtNode entries.ring.nodes at.ptr (λ _ n _. IsTrue result ↔ IsSome (value_after n.entry.held))) where
      says : IsTrue result ↔ IsSome (value_after its_place.node.entry.held)
      says = tests its_place.front its_place.node its_place.rest its_place.is its_place.place

      pub is_after_it : result ≡ true → IsAfterAt entries.ring.nodes at.ptr
      is_after_it passes =
          (its_place.front, its_place.node, its_place.rest, its_place.is, its_place.place, says.0 passes)

      pub is_before_it : result ≡ false → IsBeforeAt entries.ring.nodes at.ptr
      is_before_it fails =
          let holds = holds_something node.sound.before node.sound.after its_place.front its_place.rest its_place.node (sym node.sound.in_order ∙ its_place.is) node.sound.are_before node.sound.are_after in
          let before = other_side its_place.node.entry.held holds (λ some. true≢false (sym (says.1 some) ∙ fails)) in
          (its_place.front, its_place.node, its_place.rest, its_place.is, its_place.place, before)

      pub cursor_stands : result ≡ true → IsAt entries.ring.nodes entries.cursor.ptr
      cursor_stands passes =
          let value = some_value (value_after its_place.node.entry.held) (says.0 passes) in
          let some = some_after entries slots spares before_len after_len node.sound key at.ptr (found value_after value.0 value.1) in
          let cursor = cursor_is entries slots spares before_len after_len node.sound (omega (arith, some)) in
          (node.sound.before, cursor.first, cursor.others, cursor.is, cursor.place)

    -- ---- once it was taken out
    module _ {later : Entries A B} (take : TakesOut entries at.ptr later) where
      abbrev spare : Ptr → Spare A B
      spare made = placed made (spare_entry key.slot)

      others : later.ring.nodes ≡ its_place.front ++ its_place.rest
      others = take.nodes its_place.front its_place.node its_place.rest its_place.is its_place.place

      spare_is : (made : Ptr) → (spare made).entry ≡ spare_entry its_place.node.entry.slot
      spare_is made = ap spare_entry (sym its_place.slot_is)

      module _ (value : A) (held : AtNode entries.ring.nodes at.ptr (λ _ n _. n.entry.held ≡ Before value)) where
        found_before : Finds value_before entries.ring.nodes key at.ptr
        found_before =
            found value_before value (ap value_before (held its_place.front its_place.node its_place.rest its_place.is its_place.place))

        pub some_were_before : 1 ≤ before_len
        some_were_before =
            some_before entries slots spares before_len after_len node.sound key at.ptr found_before

        pub sound_before : (made : Ptr) → later.cursor ≡ entries.cursor → IsSound (Some later) (set slots key.slot None) (spares ++ spare made ∷ []) (before_len - 1) after_len
        unfolding found_before found
        sound_before made cursor =
            IsSound-without_before entries slots spares before_len after_len node.sound key at.ptr found_before later (spare made) others take.root cursor (spare_is made)

        pub was_before : lookup (is_key key) (seen chain spares).before ≡ Some value
        unfolding found_before found
        was_before =
            ap (λ entries. lookup (is_key key) (entries_by value_before (nodes_of entries))) node.is ∙ found_before.looked

        pub left_before : (made : Ptr) → seen (Some later) (spares ++ spare made ∷ []) ≡ before_leaves key (seen chain spares)
        unfolding found_before found
        left_before made =
            let removed = before_removed entries slots spares before_len after_len node.sound key at.ptr found_before later.ring.nodes others in
            let kept = after_kept entries slots spares before_len after_len node.sound key at.ptr found_before later.ring.nodes others in
            rw (node.is, removed, kept, length-append) refl

      module _ (value : Option B) (held : AtNode entries.ring.nodes at.ptr (λ _ n _. n.entry.held ≡ held_after value)) where
        found_after : Finds value_after entries.ring.nodes key at.ptr
        found_after =
            found value_after value (after_of_after value (held its_place.front its_place.node its_place.rest its_place.is its_place.place))

        pub some_were_after : 1 ≤ after_len
        some_were_after =
            some_after entries slots spares before_len after_len node.sound key at.ptr found_after

        pub sound_after : (made : Ptr) → AtNode entries.ring.nodes at.ptr (λ _ _ ys. AtNode entries.ring.nodes entries.cursor.ptr (λ _ first _. later.cursor.ptr ≡ cond (eqb first.entry.slot key.slot) (first_place ys entries.ring.at) entries.cursor.ptr))
            → IsSound (Some later) (set slots key.slot None) (spares ++ spare made ∷ []) before_len (after_len - 1)
        unfolding found_after found
        sound_after made moved =
            let cursor = cursor_is entries slots spares before_len after_len node.sound (omega (arith, some_were_after)) in
            let moves = moved its_place.front its_place.node its_place.rest its_place.is its_place.place node.sound.before cursor.first cursor.others cursor.is cursor.place in
            let skips = subst (λ slot. later.cursor.ptr ≡ cond (eqb cursor.first.entry.slot slot) (first_place its_place.rest entries.ring.at) entries.cursor.ptr) (sym its_place.slot_is) moves in
            IsSound-without_after entries slots spares before_len after_len node.sound key at.ptr found_after cursor later (spare made) others take.root skips (spare_is made)

        pub was_after : lookup (is_key key) (seen chain spares).after ≡ Some value
        unfolding found_after found
        was_after =
            ap (λ entries. lookup (is_key key) (entries_by value_after (nodes_of entries))) node.is ∙ found_after.looked

        pub left_after : (made : Ptr) → seen (Some later) (spares ++ spare made ∷ []) ≡ after_leaves key (seen chain spares)
        unfolding found_after found
        left_after made =
            let removed = after_removed entries slots spares before_len after_len node.sound key at.ptr found_after later.ring.nodes others in
            let kept = before_kept entries slots spares before_len after_len node.sound key at.ptr found_after later.ring.nodes others in
            rw (node.is, removed, kept, length-append) refl

    -- ---- once its value was handed out, and another one was handed in
    module _ {value : Option B} {out : Entries A B} (hand_out : HandsOut entries at.ptr value out) where
      abbrev left_behind : Node A B
      left_behind = placed its_place.node.at (spare_entry its_place.node.entry.slot)

      cut : out.ring.nodes ≡ its_place.front ++ left_behind ∷ its_place.rest
      cut = hand_out.nodes its_place.front its_place.node its_place.rest its_place.is its_place.place

      pub stands_spare : IsSpareAt out.ring.nodes at.ptr
      stands_spare = (its_place.front, left_behind, its_place.rest, cut, its_place.place, refl)

      found_out : Finds value_after entries.ring.nodes key at.ptr
      found_out =
          found value_after value (after_of_after value (hand_out.held its_place.front its_place.node its_place.rest its_place.is its_place.place))

      module _ {later : Entries A B} {changed : Option B} (hand_in : HandsIn out at.ptr key changed later) where
        abbrev other : Node A B
        other = placed its_place.node.at (record { slot = key.slot; serial = key.serial; held = held_after changed })

        set_there : later.ring.nodes ≡ its_place.front ++ other ∷ its_place.rest
        set_there = hand_in.nodes its_place.front left_behind its_place.rest cut its_place.place

        pub had_value : lookup (is_key key) (seen chain spares).after ≡ Some value
        unfolding found_out found
        had_value =
            ap (λ entries. lookup (is_key key) (entries_by value_after (nodes_of entries))) node.is ∙ found_out.looked

        pub sound_changed : IsSound (Some later) slots spares before_len after_len
        unfolding found_out found
        sound_changed =
            IsSound-set entries slots spares before_len after_len node.sound key at.ptr found_out later other changed set_there refl (sym found_out.key_is) refl (hand_in.root ∙ hand_out.root) (hand_in.cursor ∙ hand_out.cursor)

        pub left_changed : seen (Some later) spares ≡ record (seen chain spares) { after = set_value (is_key key) (seen chain spares).after changed }
        unfolding found_out found
        left_changed =
            let replaced = after_set entries slots spares before_len after_len node.sound key at.ptr found_out later other changed set_there refl (sym found_out.key_is) refl in
            let kept = before_unset entries slots spares before_len after_len node.sound key at.ptr found_out later other changed set_there refl (sym found_out.key_is) refl in
            rw (node.is, replaced, kept) refl

  -- ---- the first entry after the cursor, which gets a value before it
  module _ {chain : Option (Entries A B)} {slots : Slots A B} {spares : List (Spare A B)} {before_len after_len : ℕ} {entries : Entries A B}
      (sound : IsSound chain slots spares before_len after_len) (is : chain ≡ Some entries) (some : 0 < length (seen chain spares).after) where
    abbrev sound_now : IsSound (Some entries) slots spares before_len after_len
    sound_now =
        subst (λ (entries : Option (Entries A B)). IsSound entries slots spares before_len after_len) is sound

    pub some_after_it : 0 < after_len
    some_after_it = omega (arith, some, length-after_of chain slots spares before_len after_len sound)

    pub first : Cursor entries sound_now.before sound_now.after
    first = cursor_is entries slots spares before_len after_len sound_now some_after_it

    pub has_next : IsAfterAt entries.ring.nodes entries.cursor.ptr
    has_next =
        (sound_now.before, first.first, first.others, first.is, first.place, cursor_after entries slots spares before_len after_len sound_now first)

    pub next_stands : IsAt entries.ring.nodes entries.cursor.ptr
    next_stands = (sound_now.before, first.first, first.others, first.is, first.place)

    -- a slot that was read off the node at the cursor
    module _ {slot : ℕ} (read : AtNode entries.ring.nodes entries.cursor.ptr (λ _ n _. slot ≡ n.entry.slot)) where
      pub read_is : slot ≡ first.first.entry.slot
      read_is = read sound_now.before first.first first.others first.is first.place

      pub leads_to_first : slice_get slots slot ≡ Some (Some (first.first.entry.serial, record { ptr = first.first.at }))
      leads_to_first =
          let table = table_is entries slots spares before_len after_len sound_now in
          let mapped = subst (λ (ns : List (Node A B)). AreMapped slots ns) first.is table.mapped in
          rw read_is (AreMapped-cut slots sound_now.before (first.first ∷ first.others) mapped).1.0

      pub read_within : slot < length slots
      read_within = slice_get-within slots slot leads_to_first

    module _ {key : Key} {value : A} {former : Option B} {later : Entries A B} (key_is : key ≡ key_of first.first.entry) (advance : Advances entries key value former later) where
      abbrev told : Node A B
      told = placed first.first.at (record { slot = key.slot; serial = key.serial; held = Before value })

      moved : later.ring.nodes ≡ sound_now.before ++ told ∷ first.others
      moved = advance.nodes sound_now.before first.first first.others first.is first.place

      had : first.first.entry.held ≡ held_after former
      had = advance.had sound_now.before first.first first.others first.is first.place

      pub sound_advanced : IsSound (Some later) slots spares (before_len + 1) (after_len - 1)
      sound_advanced =
          let cursor = advance.cursor sound_now.before first.first first.others first.is first.place in
          IsSound-advanced entries slots spares before_len after_len sound_now first later told value former moved refl key_is refl had advance.root cursor

      pub next_was_first : (seen chain spares).after ≡ (key, former) ∷ entries_by value_after later.ring.nodes
      next_was_first =
          rw (is, key_is) (after_advanced entries slots spares before_len after_len sound_now first later told value former moved refl key_is refl had)

      pub next_is_last : entries_by value_before later.ring.nodes ≡ (seen chain spares).before ++ (key, value) ∷ []
      next_is_last =
          rw (is, key_is) (before_advanced entries slots spares before_len after_len sound_now first later told value former moved refl key_is refl had)

  -- the key of the first entry after the cursor: the slot that was read off its node, and the serial that stands there
  pub key_of_first : {chain : Option (Entries A B)} (items : List (Slot A B)) {spares : List (Spare A B)} {before_len after_len : ℕ} {entries : Entries A B}
      (sound : IsSound chain (shown_in items) spares before_len after_len) (is : chain ≡ Some entries) (some : 0 < length (seen chain spares).after) {slot serial : ℕ}
      → AtNode entries.ring.nodes entries.cursor.ptr (λ _ n _. slot ≡ n.entry.slot) → option_map (λ (found : Slot A B). found.serial) (slice_get items slot) ≡ Some serial
      → ◌≡◌ {A = Key} (record { slot = slot; serial = serial }) (key_of (first sound is some).first.entry)
  key_of_first items sound is some {slot} {serial} read there =
      ap₂ {C = Key} (λ a b. record { slot = a; serial = b }) (read_is sound is some read)
      (serial_shown items slot serial _ _ (leads_to_first sound is some read) there)
