-- What whoever has the queues of a read-write lock needs to change the number.
use Rattle.std.proofs.Common.{◌≡◌, ℕ, ◌+◌, ◌%◌, ◌<◌, Option, None, Some, zero, suc, length, false, refl, sym, ap, subst, ◌∙◌, arith}
use Rattle.std.proofs.lemmas.Option.{same_Some}
use Rattle.event_queue.specs.declared.key.Key.{Key}
use Rattle.event_queue.specs.declared.notice.Notice.{Notice}
use Rattle.event_wait.specs.declared.lock.task.Task.{Task}
use Rattle.event_word.specs.declared.shares.queues.Queues.{Queues}
use Rattle.event_word.specs.declared.word.held.Held.{Held}
use Rattle.event_word.specs.declared.word.rule.View.{View}
use Rattle.event_word.specs.Count.{IsCount, readers_of, writers_of}
use Rattle.event_word.specs.Queues.{Admits, CountsMore, IsExclusive, Renumbers, lock_rules}
use Rattle.event_word.specs.Held.{HasState}
use Rattle.event_word.specs.Word.{Eases, EasesFrom, Takes, number_of}
use Rattle.event_word.proofs.EasesLemmas.{again, length-again}

alone_of : (r w tr tw : ℕ) → (0 < r + tr → w + tw ≡ 0) → 0 < w → r ≡ 0
alone_of zero w tr tw only some = refl
alone_of (suc r) w tr tw only some = absurd (omega (arith, only (omega arith), some))

-- where who writes is alone, the number says so
pub is_count : {W : Type 0} {n : ℕ} {q : Queues W} → IsExclusive n q → IsCount n
is_count {W} {n} {q} alone = record {
  alone = alone_of (readers_of n) (writers_of n) (length q.read_line.told) (length q.write_line.told) alone.exclusive;
  one = omega (arith, alone.one);
  room = omega (arith, alone.fits);
}

-- whoever has the queues may make the number one with which they are exclusive
pub takes : {q : Queues Task} (old new : ℕ) → new % 2 ≡ 1 → IsExclusive (number_of new) q → Takes (lock_rules {W = Task}) old new
takes old new away alone = record { out = away; fits = is_count alone }

-- whoever has the queues has changed them, and who writes is alone still
pub still_alone : {V : Type 0} (m : Held (Queues Task) V) (was is : Queues Task) → HasState IsExclusive m → Some was ≡ m.claim.state → ((b : ℕ) → IsExclusive b was → IsExclusive b is) → (b : ℕ) × (m.seat.view.number ≡ Some b) × IsExclusive b is
still_alone m was is t same keep = (t.0, t.2, keep t.0 (subst (IsExclusive t.0) (same_Some t.1 was (sym t.3 ∙ sym same)) t.4))

-- one that was let in
let_in : Key × Notice (Unit {0})
let_in = (record { slot = 0; serial = 0 }, record { additional = false; tag = tt })

-- the same queues with so many more that were let in
with_more : ℕ → Queues Task → Queues Task
with_more more q = record q {
  read_line = record q.read_line { told = again (readers_of more) let_in q.read_line.told };
  write_line = record q.write_line { told = again (writers_of more) let_in q.write_line.told };
}

-- as many more may be counted once others have changed the number
eases-admits : (more b r : ℕ) (q : Queues Task) → Eases (lock_rules {W = Task}) b r → Admits more b q → Admits more r q
unfolding with_more
eases-admits more b r q eases admits =
    let rs = length-again (readers_of more) let_in q.read_line.told in
    let ws = length-again (writers_of more) let_in q.write_line.told in
    let alone : IsExclusive b (with_more more q) = record {
      exclusive = λ some. let none = admits.exclusive (omega (arith, rs, some)) in omega (arith, ws, none);
      one = omega (arith, ws, admits.one);
      fits = omega (arith, rs, admits.fits);
      spare = admits.spare;
    } in
    let left = eases (with_more more q) alone in
    record {
      exclusive = λ some. let none = left.exclusive (omega (arith, rs, some)) in omega (arith, ws, none);
      one = omega (arith, ws, left.one);
      fits = omega (arith, rs, left.fits);
      spare = left.spare;
    }

-- whoever has the queues looks at the number again
pub admits-on : {V : Type 0} (more r : ℕ) (m n : Held (Queues Task) V) → HasState (Admits more) m → n.claim.state ≡ m.claim.state → n.seat.view.number ≡ Some r → EasesFrom (lock_rules {W = Task}) m.seat.view.number r → HasState (λ b q. (b ≡ r) × Admits more r q) n
admits-on more r m n t same is eases =
    let from : Eases (lock_rules {W = Task}) t.0 r = subst (λ x. EasesFrom (lock_rules {W = Task}) x r) t.2 eases in
    (r, t.1, is, same ∙ t.3, (refl, eases-admits more t.0 r t.1 from t.4))

-- nobody has changed the number
pub unchanged : {a : View} {n : ℕ} → a.number ≡ Some n → CountsMore 0 a a
unchanged {a} {n} is = record { others = n; eases = subst (λ x. EasesFrom (lock_rules {W = Task}) x n) (sym is) (λ q alone. alone); made = is ∙ ap (λ (m : ℕ). Some m) (omega arith) }

-- others have changed it before
since_at : {by : ℕ → ℕ} (x : Option ℕ) (a b c : View) → a.number ≡ x → CountsMore 0 a b → Renumbers by b c → Renumbers by a c
since_at None a b c is one two = absurd (subst (λ (y : Option ℕ). EasesFrom (lock_rules {W = Task}) y one.others) is one.eases)
since_at (Some n) a b c is one two =
    let eased : Eases (lock_rules {W = Task}) n one.others = subst (λ (y : Option ℕ). EasesFrom (lock_rules {W = Task}) y one.others) is one.eases in
    let from : Eases (lock_rules {W = Task}) (one.others + 0) two.others = subst (λ x. EasesFrom (lock_rules {W = Task}) x two.others) one.made two.eases in
    let eases : Eases (lock_rules {W = Task}) n two.others = λ q alone. from q (subst (λ (m : ℕ). IsExclusive m q) (omega arith) (eased q alone)) in
    record { others = two.others; eases = subst (λ (y : Option ℕ). EasesFrom (lock_rules {W = Task}) y two.others) (sym is) eases; made = two.made }

pub since : {by : ℕ → ℕ} (a b c : View) → CountsMore 0 a b → Renumbers by b c → Renumbers by a c
since a b c one two = since_at a.number a b c refl one two
