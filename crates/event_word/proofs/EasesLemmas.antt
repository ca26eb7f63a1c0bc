-- What others leave while the state is out with one: as much for those that starve and are notified, and one more.
use Rattle.std.proofs.Common.{◌≡◌, ℕ, ◌+◌, ◌<◌, Bool, true, false, Some, ◌||◌, zero, suc, List, [], ◌∷◌, length, refl, sym, ◌∙◌, subst, arith}
use Rattle.std.specs.List.{list_any}
use Rattle.std.specs.Map.{keys_of}
use Rattle.event_queue.specs.declared.key.Key.{Key}
use Rattle.event_queue.specs.Key.{is_key}
use Rattle.event_queue.specs.declared.notice.Notice.{Notice}
use Rattle.event_word.specs.declared.competing.Competing.{Competing}
use Rattle.event_word.specs.Competing.{rules_of}
use Rattle.event_word.specs.Free.{free_of, IsOpen, ServesTheStarving, ServesWith}
use Rattle.event_word.proofs.FreeLemmas.{serves-fewer, serves-less, serves-taken_told}
use Rattle.event_wait.specs.FairQueue.{State, is_among}
use Rattle.event_word.specs.Held.{HasState}
use Rattle.event_word.specs.Word.{Eases, EasesFrom, count, number_of}
use Rattle.event_word.specs.declared.word.held.Held.{Held}

or_true : (a b : Bool) → b ≡ true → (a || b) ≡ true
or_true true b h = refl
or_true false b h = h

or_both : (a b c d : Bool) → (a ≡ true → c ≡ true) → (b ≡ true → d ≡ true) → (a || b) ≡ true → (c || d) ≡ true
or_both true b c d is is' h = subst (λ (x : Bool). (x || d) ≡ true) (sym (is refl)) refl
or_both false b c d is is' h = or_true c d (is' h)

nobody : (starving : List Key) → list_any (λ (k : Key). false) starving ≡ true → ⊥
nobody [] h = cc
nobody (k ∷ ks) h = nobody ks h

module _ {A : Type 0} where
  pub again : ℕ → Key × A → List (Key × A) → List (Key × A)
  again zero x l = l
  again (suc n) x l = x ∷ again n x l

  pub length-again : (n : ℕ) (x : Key × A) (l : List (Key × A)) → length (again n x l) ≡ n + length l
  unfolding again
  length-again zero x l = omega arith
  length-again (suc n) x l = omega (arith, length-again n x l)

  among-again : (n : ℕ) (x : Key × A) (l : List (Key × A)) (key : Key) → is_among (keys_of l) key ≡ true → is_among (keys_of (again n x l)) key ≡ true
  unfolding again
  among-again zero x l key h = h
  among-again (suc n) x l key h = or_true (is_key key x.0) (is_among (keys_of (again n x l)) key) (among-again n x l key h)

  told-again : (n : ℕ) (x : Key × A) (l : List (Key × A)) (starving : List Key) → list_any (is_among (keys_of l)) starving ≡ true → list_any (is_among (keys_of (again n x l))) starving ≡ true
  told-again n x l [] h = h
  told-again n x l (k ∷ ks) h = or_both (is_among (keys_of l) k) (list_any (is_among (keys_of l)) ks) (is_among (keys_of (again n x l)) k) (list_any (is_among (keys_of (again n x l))) ks) (among-again n x l k) (told-again n x l ks) h

module _ {C : Type 0} (fits : ℕ → Type 0) (taken : ℕ → Bool) (closes many : Bool) where
  eases_at : (more b r : ℕ) (q : Competing C) (told : List (Key × Notice (Unit {0}))) → told ≡ q.line.queue.told → Eases (rules_of {C = C} fits taken closes many) b r → ServesWith more b q.line → ServesWith more r q.line
  eases_at more b r q [] is eases serves = λ some. absurd (nobody (keys_of q.line.starving) (subst (λ (l : List (Key × Notice (Unit {0}))). list_any (is_among (keys_of l)) (keys_of q.line.starving) ≡ true) (sym is) some))
  eases_at more b r q (x ∷ xs) is eases serves = λ some.
      let padded : Competing C = record q { line = record q.line { queue = record q.line.queue { told = again more x q.line.queue.told } } } in
      let size = length-again more x q.line.queue.told in
      let h = serves some in
      let left = eases padded (λ _. (h.0, omega (arith, size, h.1))) (told-again more x q.line.queue.told (keys_of q.line.starving) some) in
      (left.0, omega (arith, size, left.1))

  -- what was left for one more is so still
  pub eases-serves : (more b r : ℕ) (q : Competing C) → Eases (rules_of {C = C} fits taken closes many) b r → ServesWith more b q.line → ServesWith more r q.line
  eases-serves more b r q eases serves = eases_at more b r q q.line.queue.told refl eases serves

  -- whoever has the state out looks at the number again
  pub serves-on : {V : Type 0} (more r : ℕ) (m n : Held (Competing C) V) → HasState (λ b q. ServesWith more b q.line) m → n.claim.state ≡ m.claim.state → n.seat.view.number ≡ Some r → EasesFrom (rules_of {C = C} fits taken closes many) m.seat.view.number r → HasState (λ b q. (b ≡ r) × ServesWith more b q.line) n
  serves-on more r m n t same is eases =
      let from : Eases (rules_of {C = C} fits taken closes many) t.0 r = subst (λ x. EasesFrom (rules_of {C = C} fits taken closes many) x r) t.2 eases in
      (r, t.1, is, same ∙ t.3, (refl, eases-serves more t.0 r t.1 from t.4))

-- one that was notified takes one, or a newcomer where the word is open
pub serves-taken_by : {W : Type 0} (notified : Bool) (old new : ℕ) (s : State W) → new + 1 ≡ old → 0 < free_of old → (notified ≡ false → IsOpen old) → ServesWith (count notified) old s → ServesTheStarving new s
serves-taken_by true old new s is some may h = serves-taken_told 0 old new s is some h
serves-taken_by false old new s is some may h = serves-fewer 0 old new s (may refl) h

pub serves-unless : {W : Type 0} (notified : Bool) (n : ℕ) (s : State W) → ServesWith (count notified) n s → ServesTheStarving n s
serves-unless true n s h = serves-less 0 n s h
serves-unless false n s h = h

-- the state is out as before, and the number is this
pub numbered-on : {S V : Type 0} (P : ℕ → Type 0) (Q : ℕ → S → Type 0) (v : ℕ) (m n : Held S V) → HasState Q m → n.claim.state ≡ m.claim.state → n.seat.view.number ≡ Some v → P v → HasState (λ b _. P b) n
numbered-on P Q v m n t same is h = (v, t.1, is, same ∙ t.3, h)

-- one was taken by whoever has the state out
pub taken-on : {C V : Type 0} (notified : Bool) (old new : ℕ) (m n : Held (Competing C) V) → HasState (λ b q. (b ≡ number_of old) × ServesWith (count notified) b q.line) m → n.claim.state ≡ m.claim.state → n.seat.view.number ≡ Some (number_of new)
    → new + 4 ≡ old → 0 < free_of (number_of old) → (notified ≡ false → IsOpen (number_of old)) → HasState (λ b q. ServesTheStarving b q.line) n
taken-on notified old new m n t same is one some may =
    let h = t.4 in
    let serves : ServesWith (count notified) (number_of old) t.1.line = subst (λ (b : ℕ). ServesWith (count notified) b t.1.line) h.0 h.1 in
    (number_of new, t.1, is, same ∙ t.3, serves-taken_by notified (number_of old) (number_of new) t.1.line (omega (arith, one)) some may serves)
