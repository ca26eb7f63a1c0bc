-- The entries that nodes carry, before the cursor or after it, and what a look-up by key finds among them.
use Rattle.std.proofs.Common.{◌≡◌, ◌≢◌, ◌⊎◌, ℕ, Bool, true, false, cond, eqb, List, [], ◌∷◌, ◌++◌, length, Option, Some, None, IsSome, All, refl, sym, ap, ◌∙◌, inl, inr, arith, true≢false, append-nil}
use Rattle.std.specs.Prelude.{filter_map, option_map}
use Rattle.std.specs.Map.{lookup, remove_entry, set_value}
use Rattle.std.proofs.lemmas.Bool.{eq-eqb, ne_eqb, and_left}
use Rattle.std.proofs.lemmas.List.Elements.{All-nil, All-cons, filter_map-append}
use Rattle.event_queue.specs.declared.key.Key.{Key}
use Rattle.event_queue.specs.Entry.{Held, Nothing, Before, AfterWithout, After}
use Rattle.event_queue.specs.Key.{is_key}
use Rattle.event_queue.specs.Nodes.{Node, times, slots_of, key_of, value_before, value_after, held_after, AreBefore, AreAfter}
use Rattle.event_queue.proofs.Nodes.Slots.{times-cons_le, apart_from_times}

pub cases_option : {X : Type 0} (o : Option X) → (o ≡ None) ⊎ ((x : X) × (o ≡ Some x))
cases_option None = inl refl
cases_option (Some x) = inr (x, refl)

pub some_value : {X : Type 0} (o : Option X) → IsSome o → (x : X) × (o ≡ Some x)
some_value None some = absurd (true≢false (sym some))
some_value (Some x) some = (x, refl)

either_way : {X : Type 0} (b : Bool) → ◌≡◌ {A = Option X} (cond b None None) None
either_way true = refl
either_way false = refl

-- ---- keys
other_slot : (key other : Key) → key.slot ≢ other.slot → is_key key other ≡ false
other_slot key other apart =
    and_left (eqb key.slot other.slot) (eqb key.serial other.serial) (ne_eqb key.slot other.slot apart)

same_key : (key other : Key) → other ≡ key → is_key key other ≡ true
same_key key other same =
    let slot : key.slot ≡ other.slot = ap (λ (k : Key). k.slot) (sym same) in
    let serial : key.serial ≡ other.serial = ap (λ (k : Key). k.serial) (sym same) in
    rw (eq-eqb key.slot other.slot slot, eq-eqb key.serial other.serial serial) refl

module _ {A B X : Type 0} (value : Held A B → Option X) where
  -- the entries of the nodes for which there is a value
  abbrev pub entries_by : List (Node A B) → List (Key × X)
  entries_by nodes = filter_map (λ (n : Node A B). option_map (λ (x : X). (key_of n.entry, x)) (value n.entry.held)) nodes

  pub entries_by-append : (xs ys : List (Node A B)) → entries_by (xs ++ ys) ≡ entries_by xs ++ entries_by ys
  entries_by-append xs ys =
      filter_map-append (λ (n : Node A B). option_map (λ (x : X). (key_of n.entry, x)) (value n.entry.held)) xs ys

  pub entries_some : (n : Node A B) (ns : List (Node A B)) (x : X) → value n.entry.held ≡ Some x → entries_by (n ∷ ns) ≡ (key_of n.entry, x) ∷ entries_by ns
  entries_some n ns x is = rw is refl

  pub entries_none : (n : Node A B) (ns : List (Node A B)) → value n.entry.held ≡ None → entries_by (n ∷ ns) ≡ entries_by ns
  entries_none n ns is = rw is refl

  -- no entry has a slot that no node has
  pub all_other : (slot : ℕ) (nodes : List (Node A B)) → times slot (slots_of nodes) ≡ 0 → All (λ entry. entry.0.slot ≢ slot) (entries_by nodes)
  all_other slot [] off = All-nil (λ entry. entry.0.slot ≢ slot)
  all_other slot (n ∷ ns) off =
      let later = all_other slot ns (omega (arith, times-cons_le slot n.entry.slot (slots_of ns))) in
      let apart = apart_from_times slot n.entry.slot (slots_of ns) off in
      elim (cases_option (value n.entry.held)) [
        | inl none ↦ rw none later
        | inr some ↦ rw some.1 (All-cons (λ entry. entry.0.slot ≢ slot) (key_of n.entry, some.0) (entries_by ns) (λ same. apart (sym same)) later)
      ]

  -- ---- a key and the node that has its slot
  pub lookup_absent : (key : Key) (nodes : List (Node A B)) → times key.slot (slots_of nodes) ≡ 0 → lookup (is_key key) (entries_by nodes) ≡ None
  lookup_absent key [] off = refl
  lookup_absent key (n ∷ ns) off =
      let later = lookup_absent key ns (omega (arith, times-cons_le key.slot n.entry.slot (slots_of ns))) in
      elim (cases_option (value n.entry.held)) [
        | inl none ↦ rw none later
        | inr some ↦
            rw (some.1, other_slot key (key_of n.entry) (apart_from_times key.slot n.entry.slot (slots_of ns) off)) later
      ]

  pub lookup_cut : (key : Key) (front rest : List (Node A B)) (node : Node A B) → times key.slot (slots_of front) ≡ 0 → times key.slot (slots_of rest) ≡ 0
      → node.entry.slot ≡ key.slot → lookup (is_key key) (entries_by (front ++ node ∷ rest)) ≡ cond (eqb key.serial node.entry.serial) (value node.entry.held) None
  lookup_cut key [] rest node off_front off_rest at =
      let later = lookup_absent key rest off_rest in
      elim (cases_option (value node.entry.held)) [
        | inl none ↦ rw none (later ∙ sym (either_way (eqb key.serial node.entry.serial)))
        | inr some ↦ rw (some.1, eq-eqb key.slot node.entry.slot (sym at), later) refl
      ]
  lookup_cut key (n ∷ ns) rest node off_front off_rest at =
      let later = lookup_cut key ns rest node (omega (arith, times-cons_le key.slot n.entry.slot (slots_of ns))) off_rest at in
      elim (cases_option (value n.entry.held)) [
        | inl none ↦ rw none later
        | inr some ↦
            rw (some.1, other_slot key (key_of n.entry) (apart_from_times key.slot n.entry.slot (slots_of ns) off_front)) later
      ]

  pub remove_cut : (key : Key) (front rest : List (Node A B)) (node : Node A B) (x : X) → times key.slot (slots_of front) ≡ 0 → key_of node.entry ≡ key
      → value node.entry.held ≡ Some x → remove_entry (is_key key) (entries_by (front ++ node ∷ rest)) ≡ entries_by (front ++ rest)
  remove_cut key [] rest node x off is held =
      rw (held, same_key key (key_of node.entry) is) refl
  remove_cut key (n ∷ ns) rest node x off is held =
      let later = remove_cut key ns rest node x (omega (arith, times-cons_le key.slot n.entry.slot (slots_of ns))) is held in
      elim (cases_option (value n.entry.held)) [
        | inl none ↦ rw none later
        | inr some ↦
            rw (some.1, other_slot key (key_of n.entry) (apart_from_times key.slot n.entry.slot (slots_of ns) off))
            (ap (λ es. (key_of n.entry, some.0) ∷ es) later)
      ]

  pub set_cut : (key : Key) (front rest : List (Node A B)) (node other : Node A B) (x y : X) → times key.slot (slots_of front) ≡ 0 → key_of node.entry ≡ key
      → value node.entry.held ≡ Some x → key_of other.entry ≡ key_of node.entry → value other.entry.held ≡ Some y
      → set_value (is_key key) (entries_by (front ++ node ∷ rest)) y ≡ entries_by (front ++ other ∷ rest)
  set_cut key [] rest node other x y off is held same held' =
      rw (held, held', same_key key (key_of node.entry) is, same) refl
  set_cut key (n ∷ ns) rest node other x y off is held same held' =
      let later = set_cut key ns rest node other x y (omega (arith, times-cons_le key.slot n.entry.slot (slots_of ns))) is held same held' in
      elim (cases_option (value n.entry.held)) [
        | inl none ↦ rw none later
        | inr some ↦
            rw (some.1, other_slot key (key_of n.entry) (apart_from_times key.slot n.entry.slot (slots_of ns) off))
            (ap (λ es. (key_of n.entry, some.0) ∷ es) later)
      ]

  -- a node that has no value before and none after
  pub entries_skip : (front rest : List (Node A B)) (node : Node A B) → value node.entry.held ≡ None → entries_by (front ++ node ∷ rest) ≡ entries_by (front ++ rest)
  entries_skip front rest node held =
      entries_by-append front (node ∷ rest)
      ∙ ap (λ es. entries_by front ++ es) (entries_none node rest held)
      ∙ sym (entries_by-append front rest)

module _ {A B : Type 0} where
  not_before : (held : Held A B) → IsSome (value_after held) → value_before held ≡ None
  not_before Nothing some = refl
  not_before (Before value) some = absurd (true≢false (sym some))
  not_before AfterWithout some = refl
  not_before (After value) some = refl

  not_after : (held : Held A B) → IsSome (value_before held) → value_after held ≡ None
  not_after Nothing some = refl
  not_after (Before value) some = refl
  not_after AfterWithout some = absurd (true≢false (sym some))
  not_after (After value) some = absurd (true≢false (sym some))

  pub is_before : (held : Held A B) (value : A) → value_before held ≡ Some value → held ≡ Before value
  is_before (Before x) value is = let same : x ≡ value = cc in ap (λ v. Before v) same
  is_before AfterWithout value is = absurd (cc)
  is_before (After x) value is = absurd (cc)
  is_before Nothing value is = absurd (cc)

  pub is_after : (held : Held A B) (value : Option B) → value_after held ≡ Some value → held ≡ held_after value
  is_after Nothing value is = absurd (cc)
  is_after (Before x) value is = absurd (cc)
  is_after AfterWithout value is = let same : None ≡ value = cc in ap held_after same
  is_after (After x) value is = let same : Some x ≡ value = cc in ap held_after same

  -- what a value after the cursor is on both sides of it
  pub after_of_after : {held : Held A B} (value : Option B) → held ≡ held_after value → value_after held ≡ Some value
  after_of_after None is = rw is refl
  after_of_after (Some value) is = rw is refl

  pub before_of_after : {held : Held A B} (value : Option B) → held ≡ held_after value → value_before held ≡ None
  before_of_after None is = rw is refl
  before_of_after (Some value) is = rw is refl

  pub none_before : (after : List (Node A B)) → AreAfter after → entries_by value_before after ≡ []
  none_before [] are_after = refl
  none_before (n ∷ ns) are_after =
      entries_none value_before n ns (not_before n.entry.held are_after.0) ∙ none_before ns are_after.1

  pub none_after : (before : List (Node A B)) → AreBefore before → entries_by value_after before ≡ []
  none_after [] are_before = refl
  none_after (n ∷ ns) are_before =
      entries_none value_after n ns (not_after n.entry.held are_before.0) ∙ none_after ns are_before.1

  length_of_before : (before : List (Node A B)) → AreBefore before → length (entries_by value_before before) ≡ length before
  length_of_before [] are_before = refl
  length_of_before (n ∷ ns) are_before =
      let here = some_value (value_before n.entry.held) are_before.0 in
      ap length (entries_some value_before n ns here.0 here.1)
      ∙ omega (arith, length_of_before ns are_before.1)

  length_of_after : (after : List (Node A B)) → AreAfter after → length (entries_by value_after after) ≡ length after
  length_of_after [] are_after = refl
  length_of_after (n ∷ ns) are_after =
      let here = some_value (value_after n.entry.held) are_after.0 in
      ap length (entries_some value_after n ns here.0 here.1) ∙ omega (arith, length_of_after ns are_after.1)

  pub AreBefore-append : (xs ys : List (Node A B)) → AreBefore xs → AreBefore ys → AreBefore (xs ++ ys)
  AreBefore-append [] ys front rest = rest
  AreBefore-append (x ∷ xs) ys front rest = (front.0, AreBefore-append xs ys front.1 rest)

  pub AreBefore-cut : (xs ys : List (Node A B)) → AreBefore (xs ++ ys) → AreBefore xs × AreBefore ys
  AreBefore-cut [] ys are = (tt, are)
  AreBefore-cut (x ∷ xs) ys are = let later = AreBefore-cut xs ys are.1 in ((are.0, later.0), later.1)

  pub AreAfter-append : (xs ys : List (Node A B)) → AreAfter xs → AreAfter ys → AreAfter (xs ++ ys)
  AreAfter-append [] ys front rest = rest
  AreAfter-append (x ∷ xs) ys front rest = (front.0, AreAfter-append xs ys front.1 rest)

  pub AreAfter-cut : (xs ys : List (Node A B)) → AreAfter (xs ++ ys) → AreAfter xs × AreAfter ys
  AreAfter-cut [] ys are = (tt, are)
  AreAfter-cut (x ∷ xs) ys are = let later = AreAfter-cut xs ys are.1 in ((are.0, later.0), later.1)

  -- ---- nodes before the cursor and then those after it
  module _ (before after : List (Node A B)) (are_before : AreBefore before) (are_after : AreAfter after) where
    pub before_is : entries_by value_before (before ++ after) ≡ entries_by value_before before
    before_is =
        entries_by-append value_before before after
        ∙ ap (λ es. entries_by value_before before ++ es) (none_before after are_after)
        ∙ append-nil (entries_by value_before before)

    pub after_is : entries_by value_after (before ++ after) ≡ entries_by value_after after
    after_is =
        entries_by-append value_after before after
        ∙ ap (λ es. es ++ entries_by value_after after) (none_after before are_before)

    pub length-before : length (entries_by value_before (before ++ after)) ≡ length before
    length-before = ap length before_is ∙ length_of_before before are_before

    pub length-after : length (entries_by value_after (before ++ after)) ≡ length after
    length-after = ap length after_is ∙ length_of_after after are_after
