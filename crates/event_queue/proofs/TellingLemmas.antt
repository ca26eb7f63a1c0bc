-- Telling one listener after another is telling them all, and keeps the order.
use Rattle.std.proofs.Common.{◌≡◌, ℕ, zero, suc, ◌+◌, ◌≤◌, Bool, List, [], ◌∷◌, ◌++◌, take, drop, length, refl, sym, ap, ◌∙◌, subst, arith, Option, append_assoc, length-append}
use Rattle.std.specs.List.{FoldsTo, filter_map}
use Rattle.std.specs.Map.{keys_of}
use Rattle.std.proofs.lemmas.List.{map-append}
use Rattle.std.proofs.lemmas.List.Elements.{filter_map-append}
use Rattle.event_queue.specs.declared.key.Key.{Key}
use Rattle.event_queue.specs.declared.notice.Notice.{Notice}
use Rattle.event_queue.specs.Queue.{Queue, IsQueue, order_of, listeners_of, told_with, after_telling, tasks_of}
use Rattle.event_queue.proofs.QueueLemmas.{rises_along, IsQueue-from_Rises}

-- two chains in a row
pub FoldsTo-append : {P X : Type 0} (R : P → X → P → Type 0) (from : P) (xs : List X) (between : P) (ys : List X) (to : P) → FoldsTo R from xs between → FoldsTo R between ys to
    → FoldsTo R from (xs ++ ys) to
FoldsTo-append {P} R from [] between ys to h k = subst (λ (p : P). FoldsTo R p ys to) (sym h) k
FoldsTo-append R from (x ∷ xs) between ys to h k = (h.0, h.1, FoldsTo-append R h.0 xs between ys to h.2 k)

drop-push : {X Y : Type 0} (xs : List X) (x : X) (ys : List Y) → drop (length (xs ++ x ∷ [])) ys ≡ drop 1 (drop (length xs) ys)
drop-push [] x ys = refl
drop-push (y ∷ xs) x [] = refl
drop-push (y ∷ xs) x (z ∷ ys) = drop-push xs x ys

take_and_one : {X : Type 0} (n : ℕ) (xs : List X) → take (suc n) xs ≡ take n xs ++ take 1 (drop n xs)
take_and_one zero xs = refl
take_and_one (suc n) [] = refl
take_and_one (suc n) (x ∷ xs) = ap (λ ys. x ∷ ys) (take_and_one n xs)

module _ {T W : Type 0} where
  told_with-push : (additional : Bool) (tags : List T) (tag : T) (waiting : List (Key × Option W))
      → told_with additional (tags ++ tag ∷ []) waiting ≡ told_with additional tags waiting ++ told_with additional (tag ∷ []) (drop (length tags) waiting)
  told_with-push additional [] tag waiting = refl
  told_with-push additional (t ∷ tags) tag [] = refl
  told_with-push additional (t ∷ tags) tag (first ∷ rest) =
      ap (λ es. (first.0, record { additional = additional; tag = t }) ∷ es) (told_with-push additional tags tag rest)

  -- one more is told
  pub after_telling-push : (additional : Bool) (tags : List T) (tag : T) (q : Queue T W)
      → after_telling additional (tag ∷ []) (after_telling additional tags q) ≡ after_telling additional (tags ++ tag ∷ []) q
  after_telling-push additional tags tag q =
      let told : (q.told ++ told_with additional tags q.waiting) ++ told_with additional (tag ∷ []) (drop (length tags) q.waiting) ≡ q.told ++ told_with additional (tags ++ tag ∷ []) q.waiting =
      append_assoc q.told _ _ ∙ ap (λ es. q.told ++ es) (sym (told_with-push additional tags tag q.waiting)) in
      let waiting = sym (drop-push tags tag q.waiting) in
      λ i. record q { told = told i; waiting = waiting i }

  -- one more task is woken
  pub tasks_of-push : (additional : Bool) (tags : List T) (q : Queue T W) → tasks_of (length tags + 1) q ≡ tasks_of (length tags) q ++ tasks_of 1 (after_telling additional tags q)
  tasks_of-push additional tags q =
      let one : length tags + 1 ≡ suc (length tags) = omega arith in
      ap (λ n. tasks_of n q) one
      ∙ ap (filter_map (λ e. e.1)) (take_and_one (length tags) q.waiting)
      ∙ filter_map-append (λ e. e.1) (take (length tags) q.waiting) _

  -- telling keeps the order
  keys_of-told_with : (additional : Bool) (tags : List T) (waiting : List (Key × Option W)) → keys_of (told_with additional tags waiting) ++ keys_of (drop (length tags) waiting) ≡ keys_of waiting
  keys_of-told_with additional [] waiting = refl
  keys_of-told_with additional (tag ∷ tags) [] = refl
  keys_of-told_with additional (tag ∷ tags) (first ∷ rest) =
      ap (λ ks. first.0 ∷ ks) (keys_of-told_with additional tags rest)

  pub order_of-after_telling : (additional : Bool) (tags : List T) (q : Queue T W) → order_of (after_telling additional tags q) ≡ order_of q
  order_of-after_telling additional tags q =
      ap (λ ks. ks ++ keys_of (drop (length tags) q.waiting)) (map-append (λ e. e.0) q.told _)
      ∙ append_assoc (keys_of q.told) _ _
      ∙ ap (λ ks. keys_of q.told ++ ks) (keys_of-told_with additional tags q.waiting)

  -- as many are told anew as there are tags, if so many wait
  length-told_with : (additional : Bool) (tags : List T) (waiting : List (Key × Option W)) → length tags ≤ length waiting → length (told_with additional tags waiting) ≡ length tags
  length-told_with additional [] waiting within = refl
  length-told_with additional (tag ∷ tags) [] within = absurd (omega arith)
  length-told_with additional (tag ∷ tags) (first ∷ rest) within = ap suc (length-told_with additional tags rest (omega arith))

  pub length-after_telling : (additional : Bool) (tags : List T) (q : Queue T W) → length tags ≤ length q.waiting → length (after_telling additional tags q).told ≡ length q.told + length tags
  length-after_telling additional tags q within =
      length-append q.told _ ∙ ap (λ n. length q.told + n) (length-told_with additional tags q.waiting within)

  -- nobody is told twice and nobody is lost: the listeners are as many as before
  told_and_left : (additional : Bool) (tags : List T) (waiting : List (Key × Option W)) → length (told_with additional tags waiting) + length (drop (length tags) waiting) ≡ length waiting
  told_and_left additional [] waiting = omega arith
  told_and_left additional (tag ∷ tags) [] = omega arith
  told_and_left additional (tag ∷ tags) (first ∷ rest) = omega (arith, told_and_left additional tags rest)

  pub listeners_of-after_telling : (additional : Bool) (tags : List T) (q : Queue T W) → listeners_of (after_telling additional tags q) ≡ listeners_of q
  listeners_of-after_telling additional tags q =
      omega (arith, length-append q.told (told_with additional tags q.waiting), told_and_left additional tags q.waiting)

  pub IsQueue-after_telling : (additional : Bool) (tags : List T) (q : Queue T W) → IsQueue q → IsQueue (after_telling additional tags q)
  IsQueue-after_telling additional tags q queue =
      let order = order_of-after_telling additional tags q in
      IsQueue-from_Rises _ (rw order (rises_along q queue)) queue.serial_fits (omega (arith, queue.slots_fit, listeners_of-after_telling additional tags q))

  -- the queue once its first waiting listener has the notice
  pub after_telling-first : (q : Queue T W) (notice : Notice T) (first : Key × Option W) (rest : List (Key × Option W)) (told : List (Key × Notice T)) (spare : ℕ)
      → q.waiting ≡ first ∷ rest → told ≡ q.told ++ (first.0, notice) ∷ [] → spare ≡ q.spare
      → record { told = told; waiting = rest; next_serial = q.next_serial; spare = spare } ≡ after_telling notice.additional (notice.tag ∷ []) q
  after_telling-first q notice first rest told spare split now same =
      let told_is = now ∙ ap (λ w. q.told ++ told_with notice.additional (notice.tag ∷ []) w) (sym split) in
      let waiting_is = ap (drop 1) (sym split) in
      λ i. record { told = told_is i; waiting = waiting_is i; next_serial = q.next_serial; spare = same i }

  pub IsQueue-told_first : (q : Queue T W) (notice : Notice T) (first : Key × Option W) (rest : List (Key × Option W)) (told : List (Key × Notice T)) (spare : ℕ) → IsQueue q
      → q.waiting ≡ first ∷ rest → told ≡ q.told ++ (first.0, notice) ∷ [] → spare ≡ q.spare
      → IsQueue {T = T} {W = W} (record { told = told; waiting = rest; next_serial = q.next_serial; spare = spare })
  IsQueue-told_first q notice first rest told spare queue split now same =
      subst IsQueue (sym (after_telling-first q notice first rest told spare split now same)) (IsQueue-after_telling notice.additional (notice.tag ∷ []) q queue)
