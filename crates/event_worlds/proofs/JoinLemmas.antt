-- How a line stays tied to its queue as a client joins.
use Rattle.std.proofs.Common.{◌≡◌, ℕ, ◌+◌, ◌<◌, ◌≤◌, ◌^◌, Bool, true, false, if◌then◌else◌, List, [], ◌∷◌, ◌++◌, length, get_or, set, replicate, Option, Some, None, Err, refl, sym, ap, ◌∙◌, subst, inl, inr, arith, length-set, get_or-set_same, get_or-set_other}
use Rattle.std.proofs.lemmas.List.Folds.{list_any-append}
use Rattle.std.specs.List.{AllByRecursion, list_any}
use Rattle.std.specs.Map.{keys_of}
use Rattle.std.proofs.lemmas.Bool.{cases_eq, or_parts, or_left, or_right, lt-ltb, le-ltb}
use Rattle.std.proofs.lemmas.List.{map-append, length-replicate}
use Rattle.std.proofs.lemmas.Option.{none-some, same_Some}
use Rattle.event_queue.specs.declared.key.Key.{Key}
use Rattle.event_queue.specs.declared.reply.ListenError.{ListenError}
use Rattle.event_queue.specs.declared.reply.ListenError.TheVariants.{Memory, SerialsUsedUp}
use Rattle.event_queue.specs.Key.{is_key}
use Rattle.event_queue.specs.Queue.{Queue, IsQueue, order_of}
use Rattle.event_queue.specs.Insert.{Joins, Inserts}
use Rattle.event_queue.proofs.OrderLemmas.{All-append, All-front, All-back, All-implied, other_serial}
use Rattle.event_worlds.specs.Line.{Line, is_in_line, has_serial_left, joined}
use Rattle.event_worlds.specs.LineKeys.{holds, client_of, line_of, IsKeyOf, IsTied}
use Rattle.event_worlds.proofs.KeyLemmas.{is_key-same, client_of-set, client_of-new, key_at, keyless-joins, keyless-replicate, no_key}
use Rattle.event_worlds.proofs.ClientLemmas.{All-both, clients-same, waiting-same, HasTask, tasks-same}
use Rattle.event_worlds.proofs.LineLemmas.{IsOut, Changed}

-- who is not in line is out
pub is_out : (client : ℕ) (line : Line) → is_in_line client line ≡ false → IsOut client line
is_out client line absent = grind (arith, or_parts)

-- a queue without listeners, keys that nobody has, and no wake-ups are tied
pub empty-tied : (kind : Bool) (q : Queue Unit ℕ) (keys : List (Option Key)) (awake : List Bool) (clients : ℕ) → IsQueue q → q.told ≡ [] → q.waiting ≡ [] → clients ≤ q.spare → keys ≡ replicate clients None → awake ≡ replicate clients false → IsTied kind q keys awake
empty-tied kind q keys awake clients queue told waiting room none asleep = grind (arith, keyless-replicate, length-replicate, no_key, none-some)

module _ (kind : Bool) (q : Queue Unit ℕ) (keys : List (Option Key)) (awake : List Bool) (tied : IsTied kind q keys awake) (client : ℕ) (within : client < length keys) (out : get_or keys client None ≡ None) where
  -- whoever is out finds room
  room_left : 0 < q.spare
  room_left =
      let spare : Key = record { slot = 0; serial = 0 } in
      omega (arith, tied.room, keyless-joins keys client spare within out)

  module _ (key : Key) (serial : key.serial ≡ q.next_serial) where
    abbrev given : List (Option Key)
    given = set keys client (Some key)

    -- the new key is no other's
    new-of : (other : ℕ) (o : Option Key) → get_or keys other None ≡ o → holds key o ≡ false
    new-of other None at = refl
    new-of other (Some held) at =
        other_serial held key (λ same. let was = (tied.mapped other held at).given in absurd (omega arith))

    own : client_of given key ≡ client
    own = grind (arith, client_of-new, new-of)

    abbrev Same : Key → Type 0
    Same other = client_of given other ≡ client_of keys other

    same-if : (other : Key) → other.serial < q.next_serial → Same other
    same-if other older =
        client_of-set keys client (Some key) other (ap (holds other) out) (other_serial key other (λ same. absurd (omega arith)))

    same-named : (other : Key) → client_of keys other < length keys → Same other
    same-named other names =
        same-if other (tied.mapped (client_of keys other) other (key_at keys other names)).given

    same : AllByRecursion Same (order_of q)
    same = grind (arith, All-implied, same-named)

    told-same : AllByRecursion Same (keys_of q.told)
    told-same = All-front Same (keys_of q.told) (keys_of q.waiting) same

    waiting-all-same : AllByRecursion Same (keys_of q.waiting)
    waiting-all-same = All-back Same (keys_of q.told) (keys_of q.waiting) same

    names' : (other : Key) → client_of keys other < length keys → Same other → client_of given other < length given
    names' other names is = omega (arith, names, is, length-set keys client (Some key))

    module _ (q' : Queue Unit ℕ) (queue : IsQueue q') (order : order_of q' ≡ order_of q ++ key ∷ []) (next : q'.next_serial ≡ q.next_serial + 1) where
      own-key : (other : ℕ) (k : Key) → other ≡ client → key ≡ k → IsKeyOf q' given other k
      own-key other k is same_key = grind (arith, is_key-same, list_any-append, or_left, or_right, own)

      other-key : (other : ℕ) (k : Key) → get_or keys other None ≡ Some k → IsKeyOf q' given other k
      other-key other k at =
          let was = tied.mapped other k at in
          record {
            own = same-if k was.given ∙ was.own;
            given = omega (arith, was.given, next);
            stands =
                ap (list_any (is_key k)) order
                ∙ (list_any-append (is_key k) (order_of q) (key ∷ [])
                ∙ or_left (list_any (is_key k) (order_of q)) (list_any (is_key k) (key ∷ [])) was.stands);
          }

      mapped' : (other : ℕ) (k : Key) → get_or given other None ≡ Some k → IsKeyOf q' given other k
      mapped' other k at =
          elim (cases_eq other client) [
            | inl is ↦
                let here : get_or given other None ≡ Some key =
                ap (λ (n : ℕ). get_or given n None) is ∙ get_or-set_same keys client (Some key) None within in
                own-key other k is (same_Some key k (sym here ∙ at))
            | inr apart ↦ other-key other k (sym (get_or-set_other keys client other (Some key) None apart) ∙ at)
          ]

      joins-tied : (awake' : List Bool) → q'.told ≡ q.told → q'.waiting ≡ q.waiting ++ (key, None) ∷ [] → q'.spare + 1 ≡ q.spare → length awake' ≡ length awake → IsTied kind q' given awake'
      joins-tied awake' told waiting spare flags =
          let has = tasks-same keys given q.waiting waiting-all-same tied.tasks in
          record {
            queue = queue;
            listed = subst (AllByRecursion (λ other. client_of given other < length given)) (sym order) (All-append (λ other. client_of given other < length given) (order_of q) (key ∷ []) (All-both (λ other. client_of keys other < length keys) Same (λ other. client_of given other < length given) (order_of q) names' tied.listed same) (omega (arith, own, within, length-set keys client (Some key)), tt));
            mapped = mapped';
            tasks = subst (AllByRecursion (HasTask given)) (sym waiting) (All-append (HasTask given) q.waiting ((key, None) ∷ []) has (tt, tt));
            kinds = subst (AllByRecursion (λ entry. entry.1.additional ≡ kind)) (sym told) tied.kinds;
            room = omega (arith, tied.room, spare, keyless-joins keys client key within out);
            flags = flags ∙ (tied.flags ∙ sym (length-set keys client (Some key)));
          }

    joined-line : (spare : ℕ) → line_of kind (record { told = q.told; waiting = q.waiting ++ (key, None) ∷ []; next_serial = q.next_serial + 1; spare = spare }) given (set awake client false) ≡ joined client (line_of kind q keys awake)
    joined-line spare = grind (arith, clients-same, map-append, own, told-same, waiting-all-same, waiting-same)

  pub joins-line : (key : Key) (q' : Queue Unit ℕ) (awake' : List Bool) → IsQueue q' → Joins q key q' → order_of q' ≡ order_of q ++ key ∷ [] → awake' ≡ set awake client false → Changed kind q' (set keys client (Some key)) awake' (joined client (line_of kind q keys awake))
  joins-line key q' awake' queue joins order cleared =
      let next = ap (λ (p : Queue Unit ℕ). p.next_serial) joins.queue in
      let told = ap (λ (p : Queue Unit ℕ). p.told) joins.queue in
      let waiting = ap (λ (p : Queue Unit ℕ). p.waiting) joins.queue in
      let flags = ap length cleared ∙ length-set awake client false in
      record {
        tied = joins-tied key joins.serial q' queue order next awake' told waiting (joins.slot room_left) flags;
        is =
            (λ i. line_of kind (joins.queue i) (set keys client (Some key)) (cleared i))
            ∙ joined-line key joins.serial q'.spare;
      }

  -- a refusal: the serials are used up, and nothing changed
  pub refused-line : (error : ListenError) (q' : Queue Unit ℕ) → Inserts q (Err error) q' → (has_serial_left (line_of kind q keys awake) ≡ false) × (q' ≡ q)
  refused-line Memory q' step = let left = room_left in absurd (omega (arith, step.1))
  refused-line SerialsUsedUp q' step = (le-ltb (q.next_serial + 1) (2 ^ 64) (omega arith), step.1)

pub joined-if : (client : ℕ) (line : Line) → line.next + 1 < 2 ^ 64 → (has_serial_left line ≡ true) × (joined client line ≡ (if has_serial_left line then joined client line else line))
joined-if client line left = grind (arith, lt-ltb)
