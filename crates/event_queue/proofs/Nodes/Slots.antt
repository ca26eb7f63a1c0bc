-- The table of slots: each slot is that of one node, which is linked or spare.
use Rattle.std.proofs.Common.{◌≡◌, ◌≢◌, ℕ, Bool, true, false, zero, suc, ◌+◌, ◌-◌, ◌^◌, ◌<◌, ◌≤◌, cond, eqb, ltb, List, [], ◌∷◌, ◌++◌, length, set, Option, Some, None, slice_get, refl, sym, ap, ◌∙◌, inl, inr}
use Rattle.std.proofs.Common.{arith, length-append}
use Rattle.std.proofs.lemmas.Bool.{cases_eq, eq-eqb, ne_eqb, lt-ltb, le-ltb, cases_lt}
use Rattle.std.proofs.lemmas.List.{length-map, map-append, map-set, length-set}
use Rattle.std.proofs.lemmas.Option.{slice_get_past, slice_get-map}
use Rattle.std.specs.Prelude.{option_map}
use Rattle.event_queue.specs.declared.key.Key.{Key}
use Rattle.event_queue.specs.declared.node.ring.pointers.NodePtr.{NodePtr}
use Rattle.event_queue.specs.Entry.{Nothing}
use Rattle.event_queue.specs.declared.node.entries.Entry.{Entry}
use Rattle.event_queue.specs.declared.node.table.Slot.{Slot}
use Rattle.event_queue.specs.Nodes.{Node, Spare, Slots, shown, shown_in, times, slots_of, spare_slots, node_at, key_of, spare_entry, AreMapped, AreSpare, IsTable}

-- ---- one place of a list
module _ {X : Type 0} where
  pub slice_get-set_same : (xs : List X) (at : ℕ) (x : X) → at < length xs → slice_get (set xs at x) at ≡ Some x
  slice_get-set_same [] at x within = absurd (omega arith)
  slice_get-set_same (y ∷ ys) zero x within = refl
  slice_get-set_same (y ∷ ys) (suc at) x within = slice_get-set_same ys at x (omega arith)

  pub slice_get-set_other : (xs : List X) (at other : ℕ) (x : X) → other ≢ at → slice_get (set xs at x) other ≡ slice_get xs other
  slice_get-set_other [] at other x apart = refl
  slice_get-set_other (y ∷ ys) zero zero x apart = absurd (apart refl)
  slice_get-set_other (y ∷ ys) zero (suc other) x apart = refl
  slice_get-set_other (y ∷ ys) (suc at) zero x apart = refl
  slice_get-set_other (y ∷ ys) (suc at) (suc other) x apart =
      slice_get-set_other ys at other x (λ same. apart (ap suc same))

  pub slice_get-append_left : (xs ys : List X) (at : ℕ) (x : X) → slice_get xs at ≡ Some x → slice_get (xs ++ ys) at ≡ Some x
  slice_get-append_left [] ys at x found = absurd (cc)
  slice_get-append_left (z ∷ zs) ys zero x found = found
  slice_get-append_left (z ∷ zs) ys (suc at) x found = slice_get-append_left zs ys at x found

  pub slice_get-within : (xs : List X) (at : ℕ) {x : X} → slice_get xs at ≡ Some x → at < length xs
  slice_get-within [] at found = absurd (cc)
  slice_get-within (y ∷ ys) zero found = omega arith
  slice_get-within (y ∷ ys) (suc at) found = let later : at < length ys = slice_get-within ys at found in omega arith

  pub slice_get_at_end : (xs : List X) (x : X) → slice_get (xs ++ x ∷ []) (length xs) ≡ Some x
  slice_get_at_end [] x = refl
  slice_get_at_end (z ∷ zs) x = slice_get_at_end zs x

-- ---- how often a slot is among others
pub times_same : (slot first : ℕ) (rest : List ℕ) → slot ≡ first → times slot (first ∷ rest) ≡ 1 + times slot rest
times_same slot first rest same = rw (eq-eqb slot first same) refl

times_other : (slot first : ℕ) (rest : List ℕ) → slot ≢ first → times slot (first ∷ rest) ≡ times slot rest
times_other slot first rest apart = rw (ne_eqb slot first apart) (omega arith)

pub times-cons_le : (slot first : ℕ) (rest : List ℕ) → times slot rest ≤ times slot (first ∷ rest)
times-cons_le slot first rest = omega arith

times-append : (slot : ℕ) (xs ys : List ℕ) → times slot (xs ++ ys) ≡ times slot xs + times slot ys
times-append slot [] ys = omega arith
times-append slot (x ∷ xs) ys = omega (arith, times-append slot xs ys)

-- a slot that is not among these is not the first
pub apart_from_times : (slot first : ℕ) (rest : List ℕ) → times slot (first ∷ rest) ≡ 0 → slot ≢ first
apart_from_times slot first rest none same = omega (arith, times_same slot first rest same)

counted_once : (slot n count : ℕ) → count ≡ cond (ltb slot n) 1 0 → count ≤ 1
counted_once slot n count counted =
    elim (cases_lt slot n) [
      | inl below ↦ omega (arith, counted, ap {B = ℕ} (λ b. cond b 1 0) (lt-ltb slot n below))
      | inr above ↦ omega (arith, counted, ap {B = ℕ} (λ b. cond b 1 0) (le-ltb slot n above))
    ]

counted_below : (slot n count : ℕ) → count ≡ cond (ltb slot n) 1 0 → slot < n → count ≡ 1
counted_below slot n count counted below =
    omega (arith, counted, ap {B = ℕ} (λ b. cond b 1 0) (lt-ltb slot n below))

below_from_counted : (slot n count : ℕ) → count ≡ cond (ltb slot n) 1 0 → 0 < count → slot < n
below_from_counted slot n count counted some =
    elim (cases_lt slot n) [
      | inl below ↦ below
      | inr above ↦ absurd (omega (arith, counted, ap {B = ℕ} (λ b. cond b 1 0) (le-ltb slot n above)))
    ]

-- one slot more, at the end, is counted
counted_at_end : (slot n count : ℕ) → count ≡ cond (ltb slot n) 1 0 → count + times slot (n ∷ []) ≡ cond (ltb slot (n + 1)) 1 0
counted_at_end slot n count counted =
    elim (cases_eq slot n) [
      | inl same ↦
          let above = ap {B = ℕ} (λ b. cond b 1 0) (le-ltb slot n (omega arith)) in
          let below = ap {B = ℕ} (λ b. cond b 1 0) (lt-ltb slot (n + 1) (omega arith)) in
          omega (arith, times_same slot n [] same, above, below, counted)
      | inr apart ↦
          elim (cases_lt slot n) [
            | inl less ↦
                let below = ap {B = ℕ} (λ b. cond b 1 0) (lt-ltb slot n less) in
                let below_next = ap {B = ℕ} (λ b. cond b 1 0) (lt-ltb slot (n + 1) (omega arith)) in
                omega (arith, times_other slot n [] apart, below, below_next, counted)
            | inr more ↦
                let less : n < slot = omega arith in
                let above = ap {B = ℕ} (λ b. cond b 1 0) (le-ltb slot n more) in
                let above_next = ap {B = ℕ} (λ b. cond b 1 0) (le-ltb slot (n + 1) (omega arith)) in
                omega (arith, times_other slot n [] apart, above, above_next, counted)
          ]
    ]

-- ---- what a slot says
module _ {A B : Type 0} where
  shown_used : (serial : ℕ) (place : NodePtr (Entry A B)) → serial < 2 ^ 64 - 1 → shown {A = A} {B = B} (record { serial = serial; place = place }) ≡ Some (serial, place)
  shown_used serial place below =
      ap (λ b. cond b None (Some (serial, place))) (ne_eqb serial (2 ^ 64 - 1) (λ same. omega arith))

  shown_unused : (place : NodePtr (Entry A B)) → shown {A = A} {B = B} (record { serial = 2 ^ 64 - 1; place = place }) ≡ None
  shown_unused place =
      ap (λ b. cond b None (Some (2 ^ 64 - 1, place))) (eq-eqb (2 ^ 64 - 1) (2 ^ 64 - 1) refl)

  pub length-shown_in : (slots : List (Slot A B)) → length (shown_in slots) ≡ length slots
  length-shown_in slots = length-map slots shown

  pub shown_in-used : (slots : List (Slot A B)) (at serial : ℕ) (place : NodePtr (Entry A B)) → serial < 2 ^ 64 - 1
      → shown_in (set slots at (record { serial = serial; place = place })) ≡ set (shown_in slots) at (Some (serial, place))
  shown_in-used slots at serial place below =
      map-set shown slots at (record { serial = serial; place = place })
      ∙ ap (λ says. set (shown_in slots) at says) (shown_used serial place below)

  pub shown_in-unused : (slots : List (Slot A B)) (at : ℕ) (place : NodePtr (Entry A B))
      → shown_in (set slots at (record { serial = 2 ^ 64 - 1; place = place })) ≡ set (shown_in slots) at None
  shown_in-unused slots at place =
      map-set shown slots at (record { serial = 2 ^ 64 - 1; place = place })
      ∙ ap (λ says. set (shown_in slots) at says) (shown_unused place)

  pub shown_in-longer : (slots : List (Slot A B)) (place : NodePtr (Entry A B)) → shown_in (slots ++ record { serial = 2 ^ 64 - 1; place = place } ∷ []) ≡ shown_in slots ++ None ∷ []
  shown_in-longer slots place =
      map-append shown slots (record { serial = 2 ^ 64 - 1; place = place } ∷ [])
      ∙ ap (λ says. shown_in slots ++ says ∷ []) (shown_unused place)

  -- the serial that stands in a slot is the one that it says
  serial_of_shown : (slot : Slot A B) (serial : ℕ) (place : NodePtr (Entry A B)) → shown slot ≡ Some (serial, place) → slot.serial ≡ serial
  serial_of_shown slot serial place says =
      both (eqb slot.serial (2 ^ 64 - 1)) says
    where
      both : (b : Bool) → ◌≡◌ {A = Option (ℕ × NodePtr (Entry A B))} (cond b None (Some (slot.serial, slot.place))) (Some (serial, place)) → slot.serial ≡ serial
      both true is = absurd (cc)
      both false is = let same : ◌≡◌ {A = ℕ × NodePtr (Entry A B)} (slot.serial, slot.place) (serial, place) = cc in ap (λ (pair : ℕ × NodePtr (Entry A B)). pair.0) same

  serial_in_shown : (o : Option (Slot A B)) (found serial : ℕ) (place : NodePtr (Entry A B)) → option_map shown o ≡ Some (Some (serial, place))
      → option_map (λ (slot : Slot A B). slot.serial) o ≡ Some found → found ≡ serial
  serial_in_shown None found serial place says is = absurd (cc)
  serial_in_shown (Some slot) found serial place says is =
      let same : slot.serial ≡ found = cc in
      let shows : shown slot ≡ Some (serial, place) = cc in
      sym same ∙ serial_of_shown slot serial place shows

  pub serial_shown : (slots : List (Slot A B)) (at found serial : ℕ) (place : NodePtr (Entry A B)) → slice_get (shown_in slots) at ≡ Some (Some (serial, place))
      → option_map (λ (slot : Slot A B). slot.serial) (slice_get slots at) ≡ Some found → found ≡ serial
  serial_shown slots at found serial place says is =
      serial_in_shown (slice_get slots at) found serial place (sym (slice_get-map shown slots at) ∙ says) is

module _ {A B : Type 0} where
  pub times-slots_of-append : (slot : ℕ) (xs ys : List (Node A B)) → times slot (slots_of (xs ++ ys)) ≡ times slot (slots_of xs) + times slot (slots_of ys)
  times-slots_of-append slot xs ys =
      rw (map-append (λ (node : Node A B). node.entry.slot) xs ys) (times-append slot (slots_of xs) (slots_of ys))

  times-spare_slots-append : (slot : ℕ) (xs ys : List (Spare A B)) → times slot (spare_slots xs ++ spare_slots ys) ≡ times slot (spare_slots (xs ++ ys))
  times-spare_slots-append slot xs ys =
      ap (λ slots. times slot slots) (sym (map-append (λ (spare : Spare A B). spare.entry.slot) xs ys))

  times-spare_slots : (slot : ℕ) (xs ys : List (Spare A B)) → times slot (spare_slots (xs ++ ys)) ≡ times slot (spare_slots xs) + times slot (spare_slots ys)
  times-spare_slots slot xs ys =
      sym (times-spare_slots-append slot xs ys) ∙ times-append slot (spare_slots xs) (spare_slots ys)

  -- ---- linked nodes
  pub AreMapped-append : (slots : Slots A B) (xs ys : List (Node A B)) → AreMapped slots xs → AreMapped slots ys → AreMapped slots (xs ++ ys)
  AreMapped-append slots [] ys front rest = rest
  AreMapped-append slots (x ∷ xs) ys front rest = (front.0, AreMapped-append slots xs ys front.1 rest)

  pub AreMapped-cut : (slots : Slots A B) (xs ys : List (Node A B)) → AreMapped slots (xs ++ ys) → AreMapped slots xs × AreMapped slots ys
  AreMapped-cut slots [] ys mapped = (tt, mapped)
  AreMapped-cut slots (x ∷ xs) ys mapped =
      let later = AreMapped-cut slots xs ys mapped.1 in
      ((mapped.0, later.0), later.1)

  AreMapped-set : (slots : Slots A B) (slot : ℕ) (place : Option (ℕ × NodePtr (Entry A B))) (nodes : List (Node A B)) → times slot (slots_of nodes) ≡ 0 → AreMapped slots nodes
      → AreMapped (set slots slot place) nodes
  AreMapped-set slots slot place [] off mapped = tt
  AreMapped-set slots slot place (n ∷ ns) off mapped =
      let apart = apart_from_times slot n.entry.slot (slots_of ns) off in (
        slice_get-set_other slots slot n.entry.slot place (λ same. apart (sym same))
            ∙ mapped.0,
        AreMapped-set slots slot place ns (omega (arith, times-cons_le slot n.entry.slot (slots_of ns))) mapped.1,
      )

  AreMapped-longer : (slots more : Slots A B) (nodes : List (Node A B)) → AreMapped slots nodes → AreMapped (slots ++ more) nodes
  AreMapped-longer slots more [] mapped = tt
  AreMapped-longer slots more (n ∷ ns) mapped =
      (slice_get-append_left slots more n.entry.slot _ mapped.0, AreMapped-longer slots more ns mapped.1)

  -- ---- spare nodes
  AreSpare-append : (slots : Slots A B) (xs ys : List (Spare A B)) → AreSpare slots xs → AreSpare slots ys → AreSpare slots (xs ++ ys)
  AreSpare-append slots [] ys front rest = rest
  AreSpare-append slots (x ∷ xs) ys front rest = (front.0, AreSpare-append slots xs ys front.1 rest)

  AreSpare-cut : (slots : Slots A B) (xs ys : List (Spare A B)) → AreSpare slots (xs ++ ys) → AreSpare slots xs × AreSpare slots ys
  AreSpare-cut slots [] ys spare = (tt, spare)
  AreSpare-cut slots (x ∷ xs) ys spare =
      let later = AreSpare-cut slots xs ys spare.1 in
      ((spare.0, later.0), later.1)

  AreSpare-set : (slots : Slots A B) (slot : ℕ) (place : Option (ℕ × NodePtr (Entry A B))) (spares : List (Spare A B)) → times slot (spare_slots spares) ≡ 0 → AreSpare slots spares
      → AreSpare (set slots slot place) spares
  AreSpare-set slots slot place [] off spare = tt
  AreSpare-set slots slot place (s ∷ ss) off spare =
      let apart = apart_from_times slot s.entry.slot (spare_slots ss) off in
      let here = slice_get-set_other slots slot s.entry.slot place (λ same. apart (sym same)) ∙ spare.0.1 in
      ((spare.0.0, here), AreSpare-set slots slot place ss (omega (arith, times-cons_le slot s.entry.slot (spare_slots ss))) spare.1)

  AreSpare-longer : (slots more : Slots A B) (spares : List (Spare A B)) → AreSpare slots spares → AreSpare (slots ++ more) spares
  AreSpare-longer slots more [] spare = tt
  AreSpare-longer slots more (s ∷ ss) spare =
      ((spare.0.0, slice_get-append_left slots more s.entry.slot _ spare.0.1), AreSpare-longer slots more ss spare.1)

  -- the slot of a spare node leads nowhere
  spare_leads_nowhere : (slots : Slots A B) (spares : List (Spare A B)) (slot : ℕ) → AreSpare slots spares → 0 < times slot (spare_slots spares) → slice_get slots slot ≡ Some None
  spare_leads_nowhere slots [] slot spare some = absurd (omega arith)
  spare_leads_nowhere slots (s ∷ ss) slot spare some =
      elim (cases_eq slot s.entry.slot) [
        | inl same ↦ rw same spare.0.1
        | inr apart ↦
            spare_leads_nowhere slots ss slot spare.1 (omega (arith, times_other slot s.entry.slot (spare_slots ss) apart))
      ]

  -- ---- what a slot leads to
  -- the node of a slot, and the nodes on both sides of it, none of which has the slot
  pub record Cut (slot : ℕ) (nodes : List (Node A B)) : Type 0 where
    pub front : List (Node A B)
    pub node : Node A B
    pub rest : List (Node A B)
    pub is : nodes ≡ front ++ node ∷ rest
    pub at : node.entry.slot ≡ slot

  pub cut_at : (slot : ℕ) (nodes : List (Node A B)) → 0 < times slot (slots_of nodes) → Cut slot nodes
  cut_at slot [] some = absurd (omega arith)
  cut_at slot (first ∷ rest) some =
      elim (cases_eq slot first.entry.slot) [
        | inl same ↦ record { front = []; node = first; rest = rest; is = refl; at = sym same }
        | inr apart ↦
            let later = cut_at slot rest (omega (arith, times_other slot first.entry.slot (slots_of rest) apart)) in
            record {
              front = first ∷ later.front;
              node = later.node;
              rest = later.rest;
              is = ap (λ nodes. first ∷ nodes) later.is;
              at = later.at;
            }
      ]

  module _ (slots : Slots A B) (nodes : List (Node A B)) (spares : List (Spare A B)) (table : IsTable slots nodes spares) where
    -- a slot is that of one node at most
    pub once : (slot : ℕ) → times slot (slots_of nodes) + times slot (spare_slots spares) ≤ 1
    once slot = counted_once slot (length slots) _ (table.counted slot)

    pub within : (slot : ℕ) → 0 < times slot (slots_of nodes) + times slot (spare_slots spares) → slot < length slots
    within slot some = below_from_counted slot (length slots) _ (table.counted slot) some

    -- a slot that leads to a place is that of a linked node
    pub linked_slot : (key : Key) (place : NodePtr (Entry A B)) → node_at slots key ≡ Some place → 0 < times key.slot (slots_of nodes)
    linked_slot key place leads =
        let slot = key.slot in
        elim (cases_lt 0 (times slot (slots_of nodes))) [
          | inl some ↦ some
          | inr none ↦
              elim (cases_lt slot (length slots)) [
                | inl below ↦
                    let counted = counted_below slot (length slots) _ (table.counted slot) below in
                    let nowhere = spare_leads_nowhere slots spares slot table.are_spare (omega arith) in
                    absurd (leads_nowhere nowhere)
                | inr above ↦ absurd (leads_past (slice_get_past slots slot above))
              ]
        ]
      where
        leads_nowhere : slice_get slots key.slot ≡ Some None → ⊥
        leads_nowhere nowhere = let none : None ≡ Some place = rw nowhere at leads in absurd (cc)

        leads_past : slice_get slots key.slot ≡ None → ⊥
        leads_past past = let none : None ≡ Some place = rw past at leads in absurd (cc)

  -- ---- what stands in the slot of a linked node
  pub leads_to : (slots : Slots A B) (front rest : List (Node A B)) (node : Node A B) (key : Key) → node.entry.slot ≡ key.slot → AreMapped slots (front ++ node ∷ rest)
      → node_at slots key ≡ cond (eqb node.entry.serial key.serial) (Some (record { ptr = node.at })) None
  leads_to slots front rest node key same mapped =
      let here = (AreMapped-cut slots front (node ∷ rest) mapped).1.0 in
      let there : slice_get slots key.slot ≡ Some (Some (node.entry.serial, record { ptr = node.at })) = rw (← same) here in
      rw there refl

  -- no linked node has the slot of a spare one, which is a slot of the table
  module _ (slots : Slots A B) (nodes : List (Node A B)) (spares : List (Spare A B)) (spare : Spare A B) (table : IsTable slots nodes (spares ++ spare ∷ [])) where
    spare_once : 0 < times spare.entry.slot (spare_slots (spares ++ spare ∷ []))
    spare_once =
        omega (arith, times-spare_slots spare.entry.slot spares (spare ∷ []), times_same spare.entry.slot spare.entry.slot [] refl)

    pub not_linked : times spare.entry.slot (slots_of nodes) ≡ 0
    not_linked =
        omega (arith, spare_once, once slots nodes (spares ++ spare ∷ []) table spare.entry.slot)

    pub spare_within : spare.entry.slot < length slots
    spare_within =
        within slots nodes (spares ++ spare ∷ []) table spare.entry.slot (omega (arith, spare_once))

    pub last_is_spare : spare.entry.held ≡ Nothing
    last_is_spare = (AreSpare-cut slots spares (spare ∷ []) table.are_spare).1.0.0

  -- ---- what the steps keep
  -- a spare node is linked in at the end, and its place goes into its slot
  pub IsTable-linked : (slots : Slots A B) (nodes : List (Node A B)) (spares : List (Spare A B)) (spare : Spare A B) (node : Node A B) → node.at ≡ spare.at
      → node.entry.slot ≡ spare.entry.slot → IsTable slots nodes (spares ++ spare ∷ [])
      → IsTable (set slots spare.entry.slot (Some (node.entry.serial, record { ptr = spare.at }))) (nodes ++ node ∷ []) spares
  IsTable-linked slots nodes spares spare node same_place same_slot table =
      let slot = spare.entry.slot in
      let place : Option (ℕ × NodePtr (Entry A B)) = Some (node.entry.serial, record { ptr = spare.at }) in
      let one = times_same slot slot [] refl in
      let split = times-spare_slots slot spares (spare ∷ []) in
      let most = once slots nodes (spares ++ spare ∷ []) table slot in
      let off_nodes : times slot (slots_of nodes) ≡ 0 = omega (arith, split, one, most) in
      let off_spares : times slot (spare_slots spares) ≡ 0 = omega (arith, split, one, most) in
      let below = within slots nodes (spares ++ spare ∷ []) table slot (omega (arith, split, one)) in
      let here : slice_get (set slots slot place) node.entry.slot ≡ Some (Some (node.entry.serial, record { ptr = node.at })) =
      rw (same_slot, same_place) (slice_get-set_same slots slot place below) in
      record {
        mapped = AreMapped-append (set slots slot place) nodes (node ∷ []) (AreMapped-set slots slot place nodes off_nodes table.mapped) (here, tt);
        are_spare = AreSpare-set slots slot place spares off_spares (AreSpare-cut slots spares (spare ∷ []) table.are_spare).0;
        counted = λ other.
            let as_often = ap (λ (s : ℕ). times other (s ∷ [])) same_slot in
            rw (length-set slots slot place) (omega (arith, table.counted other, times-slots_of-append other nodes (node ∷ []), times-spare_slots other spares (spare ∷ []), as_often));
        total = rw (length-set slots slot place) (omega (arith, table.total, length-append nodes (node ∷ []), length-append spares (spare ∷ [])));
      }

  -- a node becomes spare, and its slot leads nowhere
  pub IsTable-returned : (slots : Slots A B) (front rest : List (Node A B)) (node : Node A B) (spares : List (Spare A B)) (spare : Spare A B) (slot : ℕ) → node.entry.slot ≡ slot
      → spare.entry ≡ spare_entry slot → IsTable slots (front ++ node ∷ rest) spares → IsTable (set slots slot None) (front ++ rest) (spares ++ spare ∷ [])
  IsTable-returned slots front rest node spares spare slot at is table =
      let its_slot : spare.entry.slot ≡ slot = ap (λ (entry : Entry A B). entry.slot) is in
      let its_value : spare.entry.held ≡ Nothing = ap (λ (entry : Entry A B). entry.held) is in
      let one = times_same slot node.entry.slot (slots_of rest) (sym at) in
      let split = times-slots_of-append slot front (node ∷ rest) in
      let most = once slots (front ++ node ∷ rest) spares table slot in
      let off_front : times slot (slots_of front) ≡ 0 = omega (arith, split, one, most) in
      let off_rest : times slot (slots_of rest) ≡ 0 = omega (arith, split, one, most) in
      let off_spares : times slot (spare_slots spares) ≡ 0 = omega (arith, split, one, most) in
      let below = within slots (front ++ node ∷ rest) spares table slot (omega (arith, split, one)) in
      let mapped = AreMapped-cut slots front (node ∷ rest) table.mapped in
      let here : slice_get (set slots slot None) spare.entry.slot ≡ Some None =
      rw its_slot (slice_get-set_same slots slot None below) in
      record {
        mapped = AreMapped-append (set slots slot None) front rest (AreMapped-set slots slot None front off_front mapped.0) (AreMapped-set slots slot None rest off_rest mapped.1.1);
        are_spare = AreSpare-append (set slots slot None) spares (spare ∷ []) (AreSpare-set slots slot None spares off_spares table.are_spare) ((its_value, here), tt);
        counted = λ other.
            let as_often = ap (λ (s : ℕ). times other (s ∷ [])) (at ∙ sym its_slot) in
            rw (length-set slots slot None)
            (omega (
              arith,
              table.counted other,
              times-slots_of-append other front (node ∷ rest),
              times-slots_of-append other front rest,
              times-spare_slots other spares (spare ∷ []),
              as_often,
            ));
        total = rw (length-set slots slot None) (omega (arith, table.total, length-append front (node ∷ rest), length-append front rest, length-append spares (spare ∷ [])));
      }

  -- a linked node carries something else
  pub IsTable-changed : (slots : Slots A B) (front rest : List (Node A B)) (node other : Node A B) (spares : List (Spare A B)) → other.at ≡ node.at
      → key_of other.entry ≡ key_of node.entry → IsTable slots (front ++ node ∷ rest) spares → IsTable slots (front ++ other ∷ rest) spares
  IsTable-changed slots front rest node other spares same_place same_key table =
      let same_slot : other.entry.slot ≡ node.entry.slot = ap (λ (k : Key). k.slot) same_key in
      let same_serial : other.entry.serial ≡ node.entry.serial = ap (λ (k : Key). k.serial) same_key in
      let mapped = AreMapped-cut slots front (node ∷ rest) table.mapped in
      let here : slice_get slots other.entry.slot ≡ Some (Some (other.entry.serial, record { ptr = other.at })) =
      rw (same_slot, same_serial, same_place) mapped.1.0 in
      record {
        mapped = AreMapped-append slots front (other ∷ rest) mapped.0 (here, mapped.1.1);
        are_spare = table.are_spare;
        counted = λ slot.
            let as_often = ap (λ (s : ℕ). times slot (s ∷ [])) same_slot in
            omega (arith, table.counted slot, times-slots_of-append slot front (node ∷ rest), times-slots_of-append slot front (other ∷ rest), as_often);
        total = omega (arith, table.total, length-append front (node ∷ rest), length-append front (other ∷ rest));
      }

  -- one more slot at the end, with a spare node
  pub IsTable-grown : (slots : Slots A B) (nodes : List (Node A B)) (spares : List (Spare A B)) (spare : Spare A B) → spare.entry ≡ spare_entry (length slots)
      → IsTable slots nodes spares → IsTable (slots ++ None ∷ []) nodes (spares ++ spare ∷ [])
  IsTable-grown slots nodes spares spare is table =
      let its_slot : spare.entry.slot ≡ length slots = ap (λ (entry : Entry A B). entry.slot) is in
      let its_value : spare.entry.held ≡ Nothing = ap (λ (entry : Entry A B). entry.held) is in
      let here : slice_get (slots ++ None ∷ []) spare.entry.slot ≡ Some None =
      rw its_slot (slice_get_at_end slots None) in
      record {
        mapped = AreMapped-longer slots (None ∷ []) nodes table.mapped;
        are_spare = AreSpare-append (slots ++ None ∷ []) spares (spare ∷ []) (AreSpare-longer slots (None ∷ []) spares table.are_spare) ((its_value, here), tt);
        counted = λ slot.
            let as_often = ap (λ (s : ℕ). times slot (s ∷ [])) its_slot in
            rw (length-append slots (None ∷ [])) (omega (arith, counted_at_end slot (length slots) _ (table.counted slot), times-spare_slots slot spares (spare ∷ []), as_often));
        total = omega (arith, table.total, length-append slots (None ∷ []), length-append spares (spare ∷ []));
      }
