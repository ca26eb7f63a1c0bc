-- What each step of a chain finds, and the chain that it leaves.
use Rattle.std.proofs.Common.{◌≡◌, ◌≢◌, ◌↔◌, ℕ, ◌+◌, ◌-◌, ◌<◌, ◌≤◌, Bool, true, false, cond, eqb, List, [], ◌∷◌, ◌++◌, length, set, Option, Some, None, IsSome, IsTrue, All, refl}
use Rattle.std.proofs.Common.{sym, ap, ap₂, ◌∙◌, subst, inl, inr, arith, true≢false, append-nil, append_assoc, length-append}
use Rattle.std.specs.Map.{lookup, remove_entry, set_value}
use Rattle.std.proofs.lemmas.Bool.{eqb-true, eq-eqb, ne_eqb, cases_lt}
use denote.RawPtr.{Ptr}
use Rattle.event_queue.specs.declared.key.Key.{Key}
use Rattle.event_queue.specs.declared.node.ring.pointers.NodePtr.{NodePtr}
use Rattle.event_queue.specs.Entry.{Held, Nothing, Before}
use Rattle.event_queue.specs.declared.node.entries.Entry.{Entry}
use Rattle.event_queue.specs.declared.node.entries.Entries.{Entries}
use Rattle.event_queue.specs.Key.{is_key}
use Rattle.event_queue.specs.Ring.{first_place, IsAt, AtNode}
use Rattle.event_queue.specs.Nodes.{Node, Spare, Slots, times, slots_of, nodes_of, node_at, key_of, spare_entry, value_before, value_after, held_after, AreBefore, AreAfter, AreMapped, GrowsTo}
use Rattle.event_queue.specs.Nodes.{HasCursor, IsStarted, IsTable, IsSound}
use Rattle.event_queue.proofs.Nodes.Slots.{times_same, apart_from_times, times-slots_of-append, cut_at, once, within, linked_slot, leads_to, not_linked, spare_within}
use Rattle.event_queue.proofs.Nodes.Slots.{last_is_spare, IsTable-linked, IsTable-returned, IsTable-changed}
use Rattle.event_queue.proofs.Nodes.Lookups.{entries_by, entries_by-append, entries_some, entries_none, entries_skip, all_other, lookup_absent, lookup_cut, remove_cut}
use Rattle.event_queue.proofs.Nodes.Lookups.{set_cut, is_before, is_after, after_of_after, before_of_after, none_before, none_after, AreBefore-append, AreBefore-cut, AreAfter-append, AreAfter-cut, length-before}
use Rattle.event_queue.proofs.Nodes.Lookups.{length-after}

-- ---- how many there are
module _ {A B : Type 0} (entries : Option (Entries A B)) (slots : Slots A B) (spares : List (Spare A B)) (before_len after_len : ℕ) (sound : IsSound entries slots spares before_len after_len) where
  pub length-before_of : length (entries_by value_before (nodes_of entries)) ≡ before_len
  length-before_of =
      ap (λ nodes. length (entries_by value_before nodes)) sound.in_order
      ∙ length-before sound.before sound.after sound.are_before sound.are_after
      ∙ sym sound.before_len_is

  pub length-after_of : length (entries_by value_after (nodes_of entries)) ≡ after_len
  length-after_of =
      ap (λ nodes. length (entries_by value_after nodes)) sound.in_order
      ∙ length-after sound.before sound.after sound.are_before sound.are_after
      ∙ sym sound.after_len_is

  -- entries and spare nodes are as many as the slots
  pub total_is : before_len + after_len + length spares ≡ length slots
  total_is =
      omega (arith, sound.table.total, length-append sound.before sound.after, sound.before_len_is, sound.after_len_is)

module _ {A B : Type 0} where
  -- ---- on which side of the cursor a node is
  pub split_before : (before after front rest : List (Node A B)) (node : Node A B) → before ++ after ≡ front ++ node ∷ rest → AreAfter after → (value : A)
      → value_before node.entry.held ≡ Some value → (more : List (Node A B)) × (before ≡ front ++ node ∷ more) × (rest ≡ more ++ after)
  split_before [] after front rest node is are_after value held =
      let here = (AreAfter-cut front (node ∷ rest) (subst AreAfter is are_after)).1.0 in
      absurd (neither (is_before node.entry.held value held) here)
    where
      neither : node.entry.held ≡ Before value → IsSome (value_after node.entry.held) → ⊥
      neither same some = true≢false (sym (rw same at some))
  split_before (b ∷ bs) after [] rest node is are_after value held =
      let same : b ≡ node = cc in
      let others : bs ++ after ≡ rest = cc in
      (bs, ap (λ n. n ∷ bs) same, sym others)
  split_before (b ∷ bs) after (f ∷ fs) rest node is are_after value held =
      let same : b ≡ f = cc in
      let others : bs ++ after ≡ fs ++ node ∷ rest = cc in
      let later = split_before bs after fs rest node others are_after value held in
      (later.0, ap₂ (λ n ns. n ∷ ns) same later.1, later.2)

  pub split_after : (before after front rest : List (Node A B)) (node : Node A B) → before ++ after ≡ front ++ node ∷ rest → AreBefore before → (value : Option B)
      → value_after node.entry.held ≡ Some value → (more : List (Node A B)) × (after ≡ more ++ node ∷ rest) × (front ≡ before ++ more)
  split_after [] after front rest node is are_before value held = (front, is, refl)
  split_after (b ∷ bs) after [] rest node is are_before value held =
      let same : b ≡ node = cc in
      absurd (neither (is_after node.entry.held value held) (subst (λ (n : Node A B). IsSome (value_before n.entry.held)) same are_before.0))
    where
      neither : node.entry.held ≡ held_after value → IsSome (value_before node.entry.held) → ⊥
      neither same some = true≢false (sym (rw (before_of_after value same) at some))
  split_after (b ∷ bs) after (f ∷ fs) rest node is are_before value held =
      let same : b ≡ f = cc in
      let others : bs ++ after ≡ fs ++ node ∷ rest = cc in
      let later = split_after bs after fs rest node others are_before.1 value held in
      (later.0, later.1, ap₂ (λ n ns. n ∷ ns) (sym same) later.2)

  -- ---- what the slot of a key leads to
  -- the node at a place that has this key, the nodes on both sides of it, none of which has the slot
  pub record Lies (nodes : List (Node A B)) (key : Key) (at : Ptr) : Type 0 where
    pub front : List (Node A B)
    pub node : Node A B
    pub rest : List (Node A B)
    pub is : nodes ≡ front ++ node ∷ rest
    pub slot_is : node.entry.slot ≡ key.slot
    pub serial_is : node.entry.serial ≡ key.serial
    pub place : node.at ≡ at
    pub off_front : times key.slot (slots_of front) ≡ 0
    pub off_rest : times key.slot (slots_of rest) ≡ 0

  table_of : (slots : Slots A B) (nodes nodes' : List (Node A B)) (spares : List (Spare A B)) → nodes ≡ nodes' → IsTable slots nodes spares → IsTable slots nodes' spares
  table_of slots nodes nodes' spares same table = subst (λ (ns : List (Node A B)). IsTable slots ns spares) same table

  lies_in : (slots : Slots A B) (nodes : List (Node A B)) (spares : List (Spare A B)) (key : Key) (at : NodePtr (Entry A B)) → IsTable slots nodes spares
      → node_at slots key ≡ Some at → Lies nodes key at.ptr
  lies_in slots nodes spares key at table leads =
      let slot = key.slot in
      let cut = cut_at slot nodes (linked_slot slots nodes spares table key at leads) in
      let there = leads_to slots cut.front cut.rest cut.node key cut.at (subst (λ (ns : List (Node A B)). AreMapped slots ns) cut.is table.mapped) in
      let found = found_there (eqb cut.node.entry.serial key.serial) cut.node.at at (sym there ∙ leads) in
      let counted = ap (λ (ns : List (Node A B)). times slot (slots_of ns)) cut.is ∙ times-slots_of-append slot cut.front (cut.node ∷ cut.rest) in
      let one = times_same slot cut.node.entry.slot (slots_of cut.rest) (sym cut.at) in
      let most = once slots nodes spares table slot in
      record {
        front = cut.front;
        node = cut.node;
        rest = cut.rest;
        is = cut.is;
        slot_is = cut.at;
        serial_is = eqb-true cut.node.entry.serial key.serial found.0;
        place = found.1;
        off_front = omega (arith, counted, one, most);
        off_rest = omega (arith, counted, one, most);
      }
    where
      found_there : (b : Bool) (p : Ptr) (at : NodePtr (Entry A B)) → ◌≡◌ {A = Option (NodePtr (Entry A B))} (cond b (Some (record { ptr = p })) None) (Some at) → (b ≡ true) × (p ≡ at.ptr)
      found_there true p at found =
          let same : ◌≡◌ {A = NodePtr (Entry A B)} (record { ptr = p }) at = cc in
          (refl, ap (λ (q : NodePtr (Entry A B)). q.ptr) same)
      found_there false p at found = absurd (cc)

  module _ (entries : Entries A B) (slots : Slots A B) (spares : List (Spare A B)) (before_len after_len : ℕ) (sound : IsSound (Some entries) slots spares before_len after_len) where
    pub table_is : IsTable slots entries.ring.nodes spares
    table_is =
        table_of slots (sound.before ++ sound.after) entries.ring.nodes spares (sym sound.in_order) sound.table

    module _ (key : Key) (at : NodePtr (Entry A B)) (leads : node_at slots key ≡ Some at) where
      pub lies : Lies entries.ring.nodes key at.ptr
      lies = lies_in slots entries.ring.nodes spares key at table_is leads

      pub stands_at : IsAt entries.ring.nodes at.ptr
      stands_at = (lies.front, lies.node, lies.rest, lies.is, lies.place)

      pub slot_within : key.slot < length slots
      slot_within =
          let some = linked_slot slots entries.ring.nodes spares table_is key at leads in
          within slots entries.ring.nodes spares table_is key.slot (omega arith)

      pub spare_room : length spares < length slots
      spare_room =
          omega (arith, table_is.total, ap length lies.is, length-append lies.front (lies.node ∷ lies.rest))

      module _ {X : Type 0} (value : Held A B → Option X) where
        -- what a key finds
        pub looked : lookup (is_key key) (entries_by value entries.ring.nodes) ≡ value lies.node.entry.held
        looked =
            ap (λ nodes. lookup (is_key key) (entries_by value nodes)) lies.is
            ∙ lookup_cut value key lies.front lies.rest lies.node lies.off_front lies.off_rest lies.slot_is
            ∙ ap (λ b. cond b (value lies.node.entry.held) None) (eq-eqb key.serial lies.node.entry.serial (sym lies.serial_is))

        -- a test of the node at the place
        abbrev pub Tests : Bool → Type 0
        Tests result =
            AtNode entries.ring.nodes at.ptr (λ _ n _. IsTrue result ↔ IsSome (value n.entry.held))

        pub tests_lookup : (result : Bool) → Tests result → IsTrue result ↔ IsSome (lookup (is_key key) (entries_by value entries.ring.nodes))
        tests_lookup result tests =
            rw looked (tests lies.front lies.node lies.rest lies.is lies.place)

  -- the node of a key with its value
  pub record Finds {X : Type 0} (value : Held A B → Option X) (nodes : List (Node A B)) (key : Key) (at : Ptr) : Type 0 where
    pub lies : Lies nodes key at
    pub key_is : key_of lies.node.entry ≡ key
    pub x : X
    pub held : value lies.node.entry.held ≡ Some x
    pub looked : lookup (is_key key) (entries_by value nodes) ≡ Some x

  -- a key that leads nowhere
  pub leads_nowhere : (entries : Option (Entries A B)) (slots : Slots A B) (spares : List (Spare A B)) (before_len after_len : ℕ)
      (sound : IsSound entries slots spares before_len after_len) (key : Key) → node_at slots key ≡ None → {X : Type 0} (value : Held A B → Option X)
      → lookup (is_key key) (entries_by value (nodes_of entries)) ≡ None
  leads_nowhere entries slots spares before_len after_len sound key nowhere value =
      elim (cases_lt 0 (times key.slot (slots_of (nodes_of entries)))) [
        | inl some ↦
            let cut = cut_at key.slot (nodes_of entries) some in
            let table = table_of slots (sound.before ++ sound.after) (cut.front ++ cut.node ∷ cut.rest) spares (sym sound.in_order ∙ cut.is) sound.table in
            let there = leads_to slots cut.front cut.rest cut.node key cut.at table.mapped in
            let fails = nothing_there (eqb cut.node.entry.serial key.serial) (record { ptr = cut.node.at }) (sym there ∙ nowhere) in
            let other = ne_eqb key.serial cut.node.entry.serial (λ same. true≢false (sym (eq-eqb cut.node.entry.serial key.serial (sym same)) ∙ fails)) in
            let split = times-slots_of-append key.slot cut.front (cut.node ∷ cut.rest) in
            let one = times_same key.slot cut.node.entry.slot (slots_of cut.rest) (sym cut.at) in
            let most = once slots (cut.front ++ cut.node ∷ cut.rest) spares table key.slot in
            ap (λ nodes. lookup (is_key key) (entries_by value nodes)) cut.is
            ∙ lookup_cut value key cut.front cut.rest cut.node (omega (arith, split, one, most)) (omega (arith, split, one, most)) cut.at
            ∙ ap (λ b. cond b (value cut.node.entry.held) None) other
        | inr none ↦ lookup_absent value key (nodes_of entries) (omega arith)
      ]
    where
      nothing_there : (b : Bool) (p : NodePtr (Entry A B)) → ◌≡◌ {A = Option (NodePtr (Entry A B))} (cond b (Some p) None) None → b ≡ false
      nothing_there true p nothing = absurd (cc)
      nothing_there false p nothing = refl

  -- ---- an entry before the cursor leaves
  module _ (entries : Entries A B) (slots : Slots A B) (spares : List (Spare A B)) (before_len after_len : ℕ) (sound : IsSound (Some entries) slots spares before_len after_len)
      (key : Key) (at : Ptr) (finds : Finds value_before entries.ring.nodes key at) where
    split_found_before : (more : List (Node A B)) × (sound.before ≡ finds.lies.front ++ finds.lies.node ∷ more) × (finds.lies.rest ≡ more ++ sound.after)
    split_found_before =
        split_before sound.before sound.after finds.lies.front finds.lies.rest finds.lies.node (sym sound.in_order ∙ finds.lies.is) sound.are_after finds.x finds.held

    pub some_before : 1 ≤ before_len
    some_before =
        let split = split_found_before in
        omega (arith, sound.before_len_is, ap length split.1, length-append finds.lies.front (finds.lies.node ∷ split.0))

    pub IsSound-without_before : (later : Entries A B) (spare : Spare A B) → later.ring.nodes ≡ finds.lies.front ++ finds.lies.rest → later.ring.at ≡ entries.ring.at
        → later.cursor ≡ entries.cursor → spare.entry ≡ spare_entry finds.lies.node.entry.slot
        → IsSound (Some later) (set slots key.slot None) (spares ++ spare ∷ []) (before_len - 1) after_len
    IsSound-without_before later spare nodes root cursor is =
        let lies = finds.lies in
        let split = split_found_before in
        let parts = AreBefore-cut lies.front (lies.node ∷ split.0) (subst AreBefore split.1 sound.are_before) in
        let order : lies.front ++ lies.rest ≡ (lies.front ++ split.0) ++ sound.after =
        ap (λ ns. lies.front ++ ns) split.2 ∙ sym (append_assoc lies.front split.0 sound.after) in
        let table = table_of slots (sound.before ++ sound.after) (lies.front ++ lies.node ∷ lies.rest) spares (sym sound.in_order ∙ lies.is) sound.table in
        let returned = IsTable-returned slots lies.front lies.rest lies.node spares spare key.slot lies.slot_is (is ∙ ap spare_entry lies.slot_is) table in
        record {
          before = lies.front ++ split.0;
          after = sound.after;
          in_order = nodes ∙ order;
          are_before = AreBefore-append lies.front split.0 parts.0 parts.1.1;
          are_after = sound.are_after;
          before_len_is = omega (arith, sound.before_len_is, ap length split.1, length-append lies.front (lies.node ∷ split.0), length-append lies.front split.0);
          after_len_is = sound.after_len_is;
          table = table_of (set slots key.slot None) (lies.front ++ lies.rest) ((lies.front ++ split.0) ++ sound.after) (spares ++ spare ∷ []) order returned;
          cursor = ap (λ (c : NodePtr (Entry A B)). c.ptr) cursor ∙ sound.cursor ∙ ap (λ (p : Ptr). first_place sound.after p) (sym root);
        }

    pub before_removed : (later : List (Node A B)) → later ≡ finds.lies.front ++ finds.lies.rest
        → entries_by value_before later ≡ remove_entry (is_key key) (entries_by value_before entries.ring.nodes)
    before_removed later nodes =
        ap (λ ns. entries_by value_before ns) nodes
        ∙ sym (remove_cut value_before key finds.lies.front finds.lies.rest finds.lies.node finds.x finds.lies.off_front finds.key_is finds.held)
        ∙ ap (λ ns. remove_entry (is_key key) (entries_by value_before ns)) (sym finds.lies.is)

    pub after_kept : (later : List (Node A B)) → later ≡ finds.lies.front ++ finds.lies.rest → entries_by value_after later ≡ entries_by value_after entries.ring.nodes
    after_kept later nodes =
        let none : value_after finds.lies.node.entry.held ≡ None = rw (is_before finds.lies.node.entry.held finds.x finds.held) refl in
        ap (λ ns. entries_by value_after ns) nodes
        ∙ sym (entries_skip value_after finds.lies.front finds.lies.rest finds.lies.node none)
        ∙ ap (λ ns. entries_by value_after ns) (sym finds.lies.is)

  -- ---- the cursor, where an entry is after it
  pub record Cursor (entries : Entries A B) (before after : List (Node A B)) : Type 0 where
    pub first : Node A B
    pub others : List (Node A B)
    pub after_is : after ≡ first ∷ others
    pub is : entries.ring.nodes ≡ before ++ first ∷ others
    pub place : first.at ≡ entries.cursor.ptr

  cursor_in : (entries : Entries A B) (before after : List (Node A B)) → entries.ring.nodes ≡ before ++ after → entries.cursor.ptr ≡ first_place after entries.ring.at
      → 0 < length after → Cursor entries before after
  cursor_in entries before [] is at some = absurd (omega arith)
  cursor_in entries before (first ∷ others) is at some =
      record { first = first; others = others; after_is = refl; is = is; place = sym at }

  module _ (entries : Entries A B) (slots : Slots A B) (spares : List (Spare A B)) (before_len after_len : ℕ) (sound : IsSound (Some entries) slots spares before_len after_len) where
    pub cursor_is : 0 < after_len → Cursor entries sound.before sound.after
    cursor_is some =
        cursor_in entries sound.before sound.after sound.in_order sound.cursor (omega (arith, sound.after_len_is))

    -- ---- an entry after the cursor leaves
    module _ (key : Key) (at : Ptr) (finds : Finds value_after entries.ring.nodes key at) where
      split_found_after : (more : List (Node A B)) × (sound.after ≡ more ++ finds.lies.node ∷ finds.lies.rest) × (finds.lies.front ≡ sound.before ++ more)
      split_found_after =
          split_after sound.before sound.after finds.lies.front finds.lies.rest finds.lies.node (sym sound.in_order ∙ finds.lies.is) sound.are_before finds.x finds.held

      pub some_after : 1 ≤ after_len
      some_after =
          let split = split_found_after in
          omega (arith, sound.after_len_is, ap length split.1, length-append split.0 (finds.lies.node ∷ finds.lies.rest))

      -- the cursor skips the entry
      skipped : (first node : Node A B) (others more rest : List (Node A B)) (cursor root now : Ptr) → first ∷ others ≡ more ++ node ∷ rest → first.at ≡ cursor
          → times node.entry.slot (slots_of more) ≡ 0 → now ≡ cond (eqb first.entry.slot node.entry.slot) (first_place rest root) cursor → now ≡ first_place (more ++ rest) root
      skipped first node others [] rest cursor root now is place off skips =
          let same : first ≡ node = cc in
          let slots_same : first.entry.slot ≡ node.entry.slot = ap (λ (n : Node A B). n.entry.slot) same in
          skips ∙ ap (λ b. cond b (first_place rest root) cursor) (eq-eqb first.entry.slot node.entry.slot slots_same)
      skipped first node others (m ∷ ms) rest cursor root now is place off skips =
          let same : first ≡ m = cc in
          let apart = apart_from_times node.entry.slot m.entry.slot (slots_of ms) off in
          let slot_of_first : first.entry.slot ≡ m.entry.slot = ap (λ (n : Node A B). n.entry.slot) same in
          let other = ne_eqb first.entry.slot node.entry.slot (λ equal. apart (sym equal ∙ slot_of_first)) in
          skips ∙ ap (λ b. cond b (first_place rest root) cursor) other ∙ sym place ∙ ap (λ (n : Node A B). n.at) same

      pub IsSound-without_after : (cursor : Cursor entries sound.before sound.after) (later : Entries A B) (spare : Spare A B)
          → later.ring.nodes ≡ finds.lies.front ++ finds.lies.rest → later.ring.at ≡ entries.ring.at
          → later.cursor.ptr ≡ cond (eqb cursor.first.entry.slot finds.lies.node.entry.slot) (first_place finds.lies.rest entries.ring.at) entries.cursor.ptr
          → spare.entry ≡ spare_entry finds.lies.node.entry.slot → IsSound (Some later) (set slots key.slot None) (spares ++ spare ∷ []) before_len (after_len - 1)
      IsSound-without_after cursor later spare nodes root skips is =
          let lies = finds.lies in
          let split = split_found_after in
          let parts = AreAfter-cut split.0 (lies.node ∷ lies.rest) (subst AreAfter split.1 sound.are_after) in
          let order : lies.front ++ lies.rest ≡ sound.before ++ (split.0 ++ lies.rest) =
          ap (λ ns. ns ++ lies.rest) split.2 ∙ append_assoc sound.before split.0 lies.rest in
          let table = table_of slots (sound.before ++ sound.after) (lies.front ++ lies.node ∷ lies.rest) spares (sym sound.in_order ∙ lies.is) sound.table in
          let returned = IsTable-returned slots lies.front lies.rest lies.node spares spare key.slot lies.slot_is (is ∙ ap spare_entry lies.slot_is) table in
          let counted = ap (λ (ns : List (Node A B)). times key.slot (slots_of ns)) split.2 ∙ times-slots_of-append key.slot sound.before split.0 in
          let off : times lies.node.entry.slot (slots_of split.0) ≡ 0 =
          ap (λ slot. times slot (slots_of split.0)) lies.slot_is ∙ omega (arith, counted, lies.off_front) in
          record {
            before = sound.before;
            after = split.0 ++ lies.rest;
            in_order = nodes ∙ order;
            are_before = sound.are_before;
            are_after = AreAfter-append split.0 lies.rest parts.0 parts.1.1;
            before_len_is = sound.before_len_is;
            after_len_is = omega (arith, sound.after_len_is, ap length split.1, length-append split.0 (lies.node ∷ lies.rest), length-append split.0 lies.rest);
            table = table_of (set slots key.slot None) (lies.front ++ lies.rest) (sound.before ++ (split.0 ++ lies.rest)) (spares ++ spare ∷ []) order returned;
            cursor = skipped cursor.first lies.node cursor.others split.0 lies.rest entries.cursor.ptr entries.ring.at later.cursor.ptr (sym cursor.after_is ∙ split.1) cursor.place off skips
                ∙ ap (λ (p : Ptr). first_place (split.0 ++ lies.rest) p) (sym root);
          }

      pub after_removed : (later : List (Node A B)) → later ≡ finds.lies.front ++ finds.lies.rest → entries_by value_after later ≡ remove_entry (is_key key) (entries_by value_after entries.ring.nodes)
      after_removed later nodes =
          ap (λ ns. entries_by value_after ns) nodes
          ∙ sym (remove_cut value_after key finds.lies.front finds.lies.rest finds.lies.node finds.x finds.lies.off_front finds.key_is finds.held)
          ∙ ap (λ ns. remove_entry (is_key key) (entries_by value_after ns)) (sym finds.lies.is)

      no_value_before : value_before finds.lies.node.entry.held ≡ None
      no_value_before =
          before_of_after finds.x (is_after finds.lies.node.entry.held finds.x finds.held)

      pub before_kept : (later : List (Node A B)) → later ≡ finds.lies.front ++ finds.lies.rest → entries_by value_before later ≡ entries_by value_before entries.ring.nodes
      before_kept later nodes =
          ap (λ ns. entries_by value_before ns) nodes
          ∙ sym (entries_skip value_before finds.lies.front finds.lies.rest finds.lies.node no_value_before)
          ∙ ap (λ ns. entries_by value_before ns) (sym finds.lies.is)

      -- ---- an entry after the cursor gets another value
      module _ (later : Entries A B) (other : Node A B) (y : Option B) (nodes : later.ring.nodes ≡ finds.lies.front ++ other ∷ finds.lies.rest)
          (same_place : other.at ≡ finds.lies.node.at) (same_key : key_of other.entry ≡ key_of finds.lies.node.entry) (held : other.entry.held ≡ held_after y) where
        pub after_set : entries_by value_after later.ring.nodes ≡ set_value (is_key key) (entries_by value_after entries.ring.nodes) y
        after_set =
            ap (λ ns. entries_by value_after ns) nodes
            ∙ sym (set_cut value_after key finds.lies.front finds.lies.rest finds.lies.node other finds.x y finds.lies.off_front finds.key_is finds.held same_key (after_of_after y held))
            ∙ ap (λ ns. set_value (is_key key) (entries_by value_after ns) y) (sym finds.lies.is)

        pub before_unset : entries_by value_before later.ring.nodes ≡ entries_by value_before entries.ring.nodes
        before_unset =
            ap (λ ns. entries_by value_before ns) nodes
            ∙ entries_skip value_before finds.lies.front finds.lies.rest other (before_of_after y held)
            ∙ sym (entries_skip value_before finds.lies.front finds.lies.rest finds.lies.node no_value_before)
            ∙ ap (λ ns. entries_by value_before ns) (sym finds.lies.is)

        first_place_set : (more rest : List (Node A B)) (node : Node A B) (root : Ptr) → other.at ≡ node.at → first_place (more ++ node ∷ rest) root ≡ first_place (more ++ other ∷ rest) root
        first_place_set [] rest node root same = sym same
        first_place_set (m ∷ ms) rest node root same = refl

        pub IsSound-set : later.ring.at ≡ entries.ring.at → later.cursor ≡ entries.cursor → IsSound (Some later) slots spares before_len after_len
        IsSound-set root cursor =
            let lies = finds.lies in
            let split = split_found_after in
            let parts = AreAfter-cut split.0 (lies.node ∷ lies.rest) (subst AreAfter split.1 sound.are_after) in
            let order : lies.front ++ other ∷ lies.rest ≡ sound.before ++ (split.0 ++ other ∷ lies.rest) =
            ap (λ ns. ns ++ other ∷ lies.rest) split.2 ∙ append_assoc sound.before split.0 (other ∷ lies.rest) in
            let table = table_of slots (sound.before ++ sound.after) (lies.front ++ lies.node ∷ lies.rest) spares (sym sound.in_order ∙ lies.is) sound.table in
            let changed = IsTable-changed slots lies.front lies.rest lies.node other spares same_place same_key table in
            let some : IsSome (value_after other.entry.held) = rw (after_of_after y held) refl in
            record {
              before = sound.before;
              after = split.0 ++ other ∷ lies.rest;
              in_order = nodes ∙ order;
              are_before = sound.are_before;
              are_after = AreAfter-append split.0 (other ∷ lies.rest) parts.0 (some, parts.1.1);
              before_len_is = sound.before_len_is;
              after_len_is = omega (arith, sound.after_len_is, ap length split.1, length-append split.0 (lies.node ∷ lies.rest), length-append split.0 (other ∷ lies.rest));
              table = table_of slots (lies.front ++ other ∷ lies.rest) (sound.before ++ (split.0 ++ other ∷ lies.rest)) spares order changed;
              cursor = ap (λ (c : NodePtr (Entry A B)). c.ptr) cursor
                  ∙ sound.cursor
                  ∙ ap (λ ns. first_place ns entries.ring.at) split.1
                  ∙ first_place_set split.0 lies.rest lies.node entries.ring.at same_place
                  ∙ ap (λ (p : Ptr). first_place (split.0 ++ other ∷ lies.rest) p) (sym root);
            }

    -- ---- the cursor moves past the first entry after it
    module _ (cursor : Cursor entries sound.before sound.after) where
      pub cursor_after : IsSome (value_after cursor.first.entry.held)
      cursor_after = (subst AreAfter cursor.after_is sound.are_after).0

      module _ (later : Entries A B) (other : Node A B) (x : A) (y : Option B) (nodes : later.ring.nodes ≡ sound.before ++ other ∷ cursor.others) (same_place : other.at ≡ cursor.first.at)
          (same_key : key_of other.entry ≡ key_of cursor.first.entry) (held : other.entry.held ≡ Before x) (former : cursor.first.entry.held ≡ held_after y) where
        are_others : AreAfter cursor.others
        are_others = (subst AreAfter cursor.after_is sound.are_after).1

        pub IsSound-advanced : later.ring.at ≡ entries.ring.at → later.cursor.ptr ≡ first_place cursor.others entries.ring.at → IsSound (Some later) slots spares (before_len + 1) (after_len - 1)
        IsSound-advanced root moved =
            let order : sound.before ++ other ∷ cursor.others ≡ (sound.before ++ other ∷ []) ++ cursor.others =
            sym (append_assoc sound.before (other ∷ []) cursor.others) in
            let table = table_of slots (sound.before ++ sound.after) (sound.before ++ cursor.first ∷ cursor.others) spares (ap (λ ns. sound.before ++ ns) cursor.after_is) sound.table in
            let changed = IsTable-changed slots sound.before cursor.others cursor.first other spares same_place same_key table in
            let some : IsSome (value_before other.entry.held) = rw held refl in
            record {
              before = sound.before ++ other ∷ [];
              after = cursor.others;
              in_order = nodes ∙ order;
              are_before = AreBefore-append sound.before (other ∷ []) sound.are_before (some, tt);
              are_after = are_others;
              before_len_is = omega (arith, sound.before_len_is, length-append sound.before (other ∷ []));
              after_len_is = omega (arith, sound.after_len_is, ap length cursor.after_is);
              table = table_of slots (sound.before ++ other ∷ cursor.others) ((sound.before ++ other ∷ []) ++ cursor.others) spares order changed;
              cursor = moved ∙ ap (λ (p : Ptr). first_place cursor.others p) (sym root);
            }

        pub after_advanced : entries_by value_after entries.ring.nodes ≡ (key_of cursor.first.entry, y) ∷ entries_by value_after later.ring.nodes
        after_advanced =
            let none = none_after sound.before sound.are_before in
            let old = ap (λ ns. entries_by value_after ns) cursor.is
            ∙ entries_by-append value_after sound.before (cursor.first ∷ cursor.others)
            ∙ ap (λ es. es ++ entries_by value_after (cursor.first ∷ cursor.others)) none
            ∙ entries_some value_after cursor.first cursor.others y (after_of_after y former) in
            let new = ap (λ ns. entries_by value_after ns) nodes
            ∙ entries_skip value_after sound.before cursor.others other (ap value_after held)
            ∙ entries_by-append value_after sound.before cursor.others
            ∙ ap (λ es. es ++ entries_by value_after cursor.others) none in
            old ∙ ap (λ es. (key_of cursor.first.entry, y) ∷ es) (sym new)

        pub before_advanced : entries_by value_before later.ring.nodes ≡ entries_by value_before entries.ring.nodes ++ (key_of cursor.first.entry, x) ∷ []
        before_advanced =
            let none = none_before cursor.others are_others in
            let old = ap (λ ns. entries_by value_before ns) cursor.is
            ∙ entries_skip value_before sound.before cursor.others cursor.first (before_of_after y former)
            ∙ entries_by-append value_before sound.before cursor.others
            ∙ ap (λ es. entries_by value_before sound.before ++ es) none
            ∙ append-nil (entries_by value_before sound.before) in
            let new = ap (λ ns. entries_by value_before ns) nodes
            ∙ entries_by-append value_before sound.before (other ∷ cursor.others)
            ∙ ap (λ es. entries_by value_before sound.before ++ es) (entries_some value_before other cursor.others x (ap value_before held))
            ∙ ap (λ es. entries_by value_before sound.before ++ (key_of other.entry, x) ∷ es) none
            ∙ ap (λ (k : Key). entries_by value_before sound.before ++ (k, x) ∷ []) same_key in
            new ∙ ap (λ es. es ++ (key_of cursor.first.entry, x) ∷ []) (sym old)

    -- ---- an entry is pushed
    module _ (later : Entries A B) (node : Node A B) (y : Option B) (nodes : later.ring.nodes ≡ entries.ring.nodes ++ node ∷ []) (held : node.entry.held ≡ held_after y) where
      pub after_pushed : entries_by value_after later.ring.nodes ≡ entries_by value_after entries.ring.nodes ++ (key_of node.entry, y) ∷ []
      after_pushed =
          ap (λ ns. entries_by value_after ns) nodes
          ∙ entries_by-append value_after entries.ring.nodes (node ∷ [])
          ∙ ap (λ es. entries_by value_after entries.ring.nodes ++ es) (entries_some value_after node [] y (after_of_after y held))

      pub before_pushed : entries_by value_before later.ring.nodes ≡ entries_by value_before entries.ring.nodes
      before_pushed =
          ap (λ ns. entries_by value_before ns) nodes
          ∙ entries_by-append value_before entries.ring.nodes (node ∷ [])
          ∙ ap (λ es. entries_by value_before entries.ring.nodes ++ es) (entries_none value_before node [] (before_of_after y held))
          ∙ append-nil (entries_by value_before entries.ring.nodes)

      pushed_cursor : (after : List (Node A B)) (root cursor now : Ptr) → cursor ≡ first_place after root → now ≡ cond (eqb (length after) 0) node.at cursor
          → now ≡ first_place (after ++ node ∷ []) root
      pushed_cursor [] root cursor now at moved = moved
      pushed_cursor (a ∷ as') root cursor now at moved =
          let some : length (a ∷ as') ≢ 0 = λ none. omega arith in
          moved ∙ ap (λ b. cond b node.at cursor) (ne_eqb (length (a ∷ as')) 0 some) ∙ at

      pub IsSound-pushed : (spare : Spare A B) (others : List (Spare A B)) → spares ≡ others ++ spare ∷ [] → node.at ≡ spare.at → node.entry.slot ≡ spare.entry.slot
          → later.ring.at ≡ entries.ring.at → later.cursor.ptr ≡ cond (eqb after_len 0) node.at entries.cursor.ptr
          → IsSound (Some later) (set slots spare.entry.slot (Some (node.entry.serial, record { ptr = spare.at }))) others before_len (after_len + 1)
      IsSound-pushed spare others spares_are same_place same_slot root moved =
          let order : entries.ring.nodes ++ node ∷ [] ≡ sound.before ++ (sound.after ++ node ∷ []) =
          ap (λ ns. ns ++ node ∷ []) sound.in_order ∙ append_assoc sound.before sound.after (node ∷ []) in
          let table = subst (λ (ss : List (Spare A B)). IsTable slots entries.ring.nodes ss) spares_are (table_is entries slots spares before_len after_len sound) in
          let linked = IsTable-linked slots entries.ring.nodes others spare node same_place same_slot table in
          let some : IsSome (value_after node.entry.held) = rw (after_of_after y held) refl in
          record {
            before = sound.before;
            after = sound.after ++ node ∷ [];
            in_order = nodes ∙ order;
            are_before = sound.are_before;
            are_after = AreAfter-append sound.after (node ∷ []) sound.are_after (some, tt);
            before_len_is = sound.before_len_is;
            after_len_is = omega (arith, sound.after_len_is, length-append sound.after (node ∷ []));
            table = table_of (set slots spare.entry.slot (Some (node.entry.serial, record { ptr = spare.at }))) (entries.ring.nodes ++ node ∷ [])
                (sound.before ++ (sound.after ++ node ∷ [])) others order linked;
            cursor = pushed_cursor sound.after entries.ring.at entries.cursor.ptr later.cursor.ptr sound.cursor (moved ∙ ap (λ n. cond (eqb n 0) node.at entries.cursor.ptr) sound.after_len_is)
                ∙ ap (λ (p : Ptr). first_place (sound.after ++ node ∷ []) p) (sym root);
          }

  -- ---- a spare node is taken
  module _ (entries : Option (Entries A B)) (slots : Slots A B) (spares others : List (Spare A B)) (spare : Spare A B) (before_len after_len : ℕ)
      (sound : IsSound entries slots spares before_len after_len) (spares_are : spares ≡ others ++ spare ∷ []) where
    spare_table : IsTable slots (sound.before ++ sound.after) (others ++ spare ∷ [])
    spare_table =
        subst (λ (ss : List (Spare A B)). IsTable slots (sound.before ++ sound.after) ss) spares_are sound.table

    pub spare_is : spare.entry.held ≡ Nothing
    spare_is = last_is_spare slots (sound.before ++ sound.after) others spare spare_table

    pub spare_slot_within : spare.entry.slot < length slots
    spare_slot_within = spare_within slots (sound.before ++ sound.after) others spare spare_table

    pub spare_is_free : {X : Type 0} (value : Held A B → Option X) → All (λ entry. entry.0.slot ≢ spare.entry.slot) (entries_by value (nodes_of entries))
    spare_is_free value =
        let off = not_linked slots (sound.before ++ sound.after) others spare spare_table in
        all_other value spare.entry.slot (nodes_of entries) (ap (λ ns. times spare.entry.slot (slots_of ns)) sound.in_order ∙ off)

  -- ---- there is a ring where something is spare or linked
  pub no_entries : (slots : Slots A B) (spares : List (Spare A B)) (before_len after_len : ℕ) → IsSound {A = A} {B = B} None slots spares before_len after_len
      → 0 < before_len + after_len + length spares → ⊥
  no_entries slots spares before_len after_len sound some =
      omega (arith, total_is None slots spares before_len after_len sound, sound.cursor)

  -- ---- the ring is made, and the table grows
  pub IsSound-started : (old new : Option (Entries A B)) (slots slots' : Slots A B) (spares spares' : List (Spare A B)) (before_len after_len : ℕ)
      → IsSound old slots spares before_len after_len → IsStarted old new → nodes_of new ≡ nodes_of old → GrowsTo slots spares slots' spares'
      → IsSound new slots' spares' before_len after_len
  IsSound-started old new slots slots' spares spares' before_len after_len sound started nodes grows =
      record {
        before = sound.before;
        after = sound.after;
        in_order = nodes ∙ sound.in_order;
        are_before = sound.are_before;
        are_after = sound.are_after;
        before_len_is = sound.before_len_is;
        after_len_is = sound.after_len_is;
        table = grows (sound.before ++ sound.after) sound.table;
        cursor = started_cursor old new sound.after started sound.in_order sound.cursor;
      }
    where
      first_of_none : (before after : List (Node A B)) (root : Ptr) → [] ≡ before ++ after → root ≡ first_place after root
      first_of_none before [] root none = refl
      first_of_none [] (n ∷ ns) root none = absurd (cc)
      first_of_none (b ∷ bs) (n ∷ ns) root none = absurd (cc)

      started_cursor : (old new : Option (Entries A B)) (after : List (Node A B)) → IsStarted old new → nodes_of old ≡ sound.before ++ after → HasCursor old after (length slots)
          → HasCursor new after (length slots')
      started_cursor None None after started order at = absurd started
      started_cursor (Some entries) None after started order at = absurd started
      started_cursor None (Some later) after started order at = started ∙ first_of_none sound.before after later.ring.at order
      started_cursor (Some entries) (Some later) after started order at =
          ap (λ (l : Entries A B). l.cursor.ptr) started ∙ at ∙ ap (λ (l : Entries A B). first_place after l.ring.at) (sym started)
