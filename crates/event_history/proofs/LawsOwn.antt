-- A listener leaves by the hand that it joined by, so one that a hand did not take out is in the queue.
use Rattle.std.proofs.Common.{◌≡◌, ◌≢◌, ◌⊎◌, ℕ, zero, suc, Bool, true, false, cond, eqb, List, [], ◌∷◌, ◌++◌, refl, sym, ap, ◌∙◌, subst, inl, inr, ⊎_elim, append_assoc, lt_irrefl, eq-eqb, eqb-true, ne_eqb, Option, Some, None, IsSome, Result, Ok}
use mathlib.Core.Logic.{dite}
use native.Mathlib.Decide.{ℕ_discrete}
use Rattle.event_queue.specs.declared.key.Key.{Key}
use Rattle.event_queue.specs.declared.reply.State.{State}
use Rattle.event_queue.specs.declared.reply.RegisterResult.{RegisterResult}
use Rattle.event_queue.specs.declared.reply.RegisterResult.TheVariants as register
use Rattle.event_queue.specs.Key.{is_key}
use Rattle.event_queue.specs.Queue.{Queue}
use Rattle.event_queue.proofs.ChainLookups.{same_key}
use Rattle.event_wait.specs.declared.request.Attempted.{Attempted}
use Rattle.event_wait.specs.Rounds.{Rounds}
use Rattle.event_history.specs.declared.history.Entry.{Entry}
use Rattle.event_history.specs.declared.history.View.{View}
use Rattle.event_history.specs.declared.queue_call.QueueCall.{QueueCall}
use Rattle.event_history.specs.declared.queue_call.QueueCall.TheVariants as call
use Rattle.event_history.specs.History.{entry, calls_by, IsAmong, AreAmong, EachRests, LeadsTo, Leads, Looks}
use Rattle.event_history.specs.Queue.{queue_machine, rests_on}
use Rattle.event_history.specs.Laws.{QueueLog, IsIn, Stays, EachStays, AllStay, Listens, OwnsListener}
use Rattle.event_history.specs.Waiting.{IsUndone, Round}
use Rattle.event_history.proofs.Views.{cond-append, calls_own}
use Rattle.event_history.proofs.RestsOnLemmas.{among_back, among_either}
use Rattle.event_history.proofs.LawsOrder.{serials_rise}
use Rattle.event_history.proofs.LawsStays.{listened, not_never, finds_it}

module _ {C : Type 0} where
  nothing : (front : List C) (c : C) (back : List C) → [] ≡ front ++ c ∷ back → ⊥
  nothing [] c back is = cc
  nothing (x ∷ xs) c back is = cc

  same_front : (xs ys : List C) (c : C) → xs ++ c ∷ [] ≡ ys ++ c ∷ [] → xs ≡ ys
  same_front [] [] c is = refl
  same_front [] (y ∷ []) c is = absurd (cc)
  same_front [] (y ∷ z ∷ ys) c is = absurd (cc)
  same_front (x ∷ []) [] c is = absurd (cc)
  same_front (x ∷ z ∷ xs) [] c is = absurd (cc)
  same_front (x ∷ xs) (y ∷ ys) c is =
      let first : x ≡ y = cc in
      let rest : xs ++ c ∷ [] ≡ ys ++ c ∷ [] = cc in
      λ i. first i ∷ same_front xs ys c rest i

  calls_append : (number : ℕ) (xs ys : List (Entry C)) → calls_by number (xs ++ ys) ≡ calls_by number xs ++ calls_by number ys
  calls_append number [] ys = refl
  calls_append number (x ∷ xs) ys = ap (λ (l : List C). cond (eqb x.by number) (x.call ∷ l) l) (calls_append number xs ys) ∙ cond-append (eqb x.by number) x.call (calls_by number xs) (calls_by number ys)

  -- where a call of a hand stands in the history
  abbrev pub Stands : ℕ → C → List (Entry C) → Type 0
  Stands number c log = (earlier : List (Entry C)) × (later : List (Entry C)) × (log ≡ earlier ++ entry number c ∷ later)

  stands_more : (number : ℕ) (c : C) (x : Entry C) (log : List (Entry C)) → Stands number c log → Stands number c (x ∷ log)
  stands_more number c x log s = (x ∷ s.0, s.1, ap (λ (l : List (Entry C)). x ∷ l) s.2)

  pub stands : (number : ℕ) (c : C) (log : List (Entry C)) → IsAmong c (calls_by number log) → Stands number c log
  stands number c [] h = absurd h
  stands number c (x ∷ xs) h = by_hand (eqb x.by number) refl h (stands number c xs) where
    by_hand : (b : Bool) → eqb x.by number ≡ b → IsAmong c (cond b (x.call ∷ calls_by number xs) (calls_by number xs)) → (IsAmong c (calls_by number xs) → Stands number c xs) → Stands number c (x ∷ xs)
    by_hand true test (inl here) rest = let same : x.by ≡ number = eqb-true x.by number test in ([], xs, (λ i. entry (same i) (sym here i) ∷ xs))
    by_hand true test (inr k) rest = stands_more number c x xs (rest k)
    by_hand false test k rest = stands_more number c x xs (rest k)

  -- the same, with what the hand called later
  abbrev Splits : ℕ → C → List C → List (Entry C) → Type 0
  Splits number c back log = (earlier : List (Entry C)) × (later : List (Entry C)) × (log ≡ earlier ++ entry number c ∷ later) × (calls_by number later ≡ back)

  splits_more : (number : ℕ) (c : C) (back : List C) (x : Entry C) (log : List (Entry C)) → Splits number c back log → Splits number c back (x ∷ log)
  splits_more number c back x log s = (x ∷ s.0, s.1, ap (λ (l : List (Entry C)). x ∷ l) s.2, s.3)

  splits : (number : ℕ) (log : List (Entry C)) (front : List C) (c : C) (back : List C) → calls_by number log ≡ front ++ c ∷ back → Splits number c back log
  splits number [] front c back is = absurd (nothing front c back is)
  splits number (x ∷ xs) front c back is = by_hand (eqb x.by number) refl front is (λ f k. splits number xs f c back k) where
    by_hand : (b : Bool) → eqb x.by number ≡ b → (f : List C) → cond b (x.call ∷ calls_by number xs) (calls_by number xs) ≡ f ++ c ∷ back
        → ((f : List C) → calls_by number xs ≡ f ++ c ∷ back → Splits number c back xs) → Splits number c back (x ∷ xs)
    by_hand true test [] k rest =
        let same : x.by ≡ number = eqb-true x.by number test in
        let first : x.call ≡ c = cc in
        let others : calls_by number xs ≡ back = cc in
        ([], xs, (λ i. entry (same i) (first i) ∷ xs), others)
    by_hand true test (y ∷ ys) k rest = let others : calls_by number xs ≡ ys ++ c ∷ back = cc in splits_more number c back x xs (rest ys others)
    by_hand false test f k rest = splits_more number c back x xs (rest f k)

module _ {T W : Type 0} where
  abbrev pub joins : Key → QueueCall T W
  joins key = call.Insert (Ok key)

  -- a call takes a listener out only if it rests on its joining
  stays_or_rests : (key : Key) (c : QueueCall T W) → Stays key c ⊎ (rests_on c ≡ joins key ∷ [])
  stays_or_rests key (call.Insert reply) = inl tt
  stays_or_rests key (call.Register other register.Registered) = inl tt
  stays_or_rests key (call.Register other register.NeverInserted) = inl tt
  stays_or_rests key (call.Register other (register.Notified tag)) = by_key (is_key key other) refl where
    by_key : (b : Bool) → is_key key other ≡ b → (is_key key other ≡ false) ⊎ (joins other ∷ [] ≡ joins key ∷ [])
    by_key true test = inr (ap (λ (k : Key). joins k ∷ []) (same_key key other test))
    by_key false test = inl test
  stays_or_rests key (call.Remove other propagate None) = inl tt
  stays_or_rests key (call.Remove other propagate (Some state)) = by_key (is_key key other) refl where
    by_key : (b : Bool) → is_key key other ≡ b → (is_key key other ≡ false) ⊎ (joins other ∷ [] ≡ joins key ∷ [])
    by_key true test = inr (ap (λ (k : Key). joins k ∷ []) (same_key key other test))
    by_key false test = inl test
  stays_or_rests key (call.Notify count additional reply) = inl tt
  stays_or_rests key (call.Counts told total) = inl tt

  -- a call of the hand itself is among those of which it is known
  own_stays : (key : Key) (number : ℕ) (e : Entry (QueueCall T W)) (front back : QueueLog T W) → AllStay key (calls_by number (front ++ e ∷ back)) → e.by ≡ number → Stays key e.call
  own_stays key number e [] back all same =
      let here : AllStay key (e.call ∷ calls_by number back) = subst (λ (b : Bool). AllStay key (cond b (e.call ∷ calls_by number back) (calls_by number back))) (eq-eqb e.by number same) all in here.0
  own_stays key number e (x ∷ xs) back all same = by_hand (eqb x.by number) all (λ k. own_stays key number e xs back k same) where
    by_hand : (b : Bool) → AllStay key (cond b (x.call ∷ calls_by number (xs ++ e ∷ back)) (calls_by number (xs ++ e ∷ back))) → (AllStay key (calls_by number (xs ++ e ∷ back)) → Stays key e.call) → Stays key e.call
    by_hand true k rest = rest k.1
    by_hand false k rest = rest k

  -- nobody joins twice by one key
  pub not_twice : (key : Key) (m n : ℕ) (earlier between later : QueueLog T W) (q : Queue T W) → LeadsTo queue_machine (earlier ++ entry m (joins key) ∷ (between ++ entry n (joins key) ∷ later)) q → ⊥
  not_twice key m n earlier between later q leads = lt_irrefl key.serial (serials_rise key key m n earlier between later q leads)

  -- so a call of another hand does not rest on that joining
  module _ (key : Key) (number : ℕ) (earlier : QueueLog T W) (q : Queue T W) where
    other_rests : (n : ℕ) (front back : QueueLog T W) → LeadsTo queue_machine (earlier ++ entry number (joins key) ∷ (front ++ back)) q → n ≢ number → IsAmong (joins key) (calls_by n (earlier ++ entry number (joins key) ∷ front)) → ⊥
    other_rests n front back leads apart h =
        let parts : IsAmong (joins key) (calls_by n earlier ++ calls_by n (entry number (joins key) ∷ front)) = subst (λ (l : List (QueueCall T W)). IsAmong (joins key) l) (calls_append n earlier (entry number (joins key) ∷ front)) h in
        ⊎_elim before after (among_either (joins key) (calls_by n earlier) (calls_by n (entry number (joins key) ∷ front)) parts)
      where
        before : IsAmong (joins key) (calls_by n earlier) → ⊥
        before k =
            let s = stands n (joins key) earlier k in
            let whole : earlier ++ entry number (joins key) ∷ (front ++ back) ≡ s.0 ++ entry n (joins key) ∷ (s.1 ++ entry number (joins key) ∷ (front ++ back)) =
            ap (λ (l : QueueLog T W). l ++ entry number (joins key) ∷ (front ++ back)) s.2 ∙ append_assoc s.0 (entry n (joins key) ∷ s.1) (entry number (joins key) ∷ (front ++ back)) in
            not_twice key n number s.0 s.1 (front ++ back) q (subst (λ (l : QueueLog T W). LeadsTo queue_machine l q) whole leads)

        after : IsAmong (joins key) (calls_by n (entry number (joins key) ∷ front)) → ⊥
        after k =
            let apart' : number ≢ n = λ e. apart (sym e) in
            let among : IsAmong (joins key) (calls_by n front) = subst (λ (b : Bool). IsAmong (joins key) (cond b (joins key ∷ calls_by n front) (calls_by n front))) (ne_eqb number n apart') k in
            let s = stands n (joins key) front among in
            let rest : front ++ back ≡ s.0 ++ entry n (joins key) ∷ (s.1 ++ back) = ap (λ (l : QueueLog T W). l ++ back) s.2 ∙ append_assoc s.0 (entry n (joins key) ∷ s.1) back in
            not_twice key number n earlier s.0 (s.1 ++ back) q (subst (λ (l : QueueLog T W). LeadsTo queue_machine (earlier ++ entry number (joins key) ∷ l) q) rest leads)

    -- each later call lets it stay
    stays_at : (later : QueueLog T W) → LeadsTo queue_machine (earlier ++ entry number (joins key) ∷ later) q → EachRests rests_on (earlier ++ entry number (joins key) ∷ later) → AllStay key (calls_by number later)
        → (front : QueueLog T W) (e : Entry (QueueCall T W)) (back : QueueLog T W) → later ≡ front ++ e ∷ back → Stays key e.call
    stays_at later leads each all front e back is = ⊎_elim (λ s. s) rested (stays_or_rests key e.call) where
      at : earlier ++ entry number (joins key) ∷ later ≡ (earlier ++ entry number (joins key) ∷ front) ++ e ∷ back
      at = ap (λ (l : QueueLog T W). earlier ++ entry number (joins key) ∷ l) is ∙ sym (append_assoc earlier (entry number (joins key) ∷ front) (e ∷ back))

      rested : rests_on e.call ≡ joins key ∷ [] → Stays key e.call
      rested on =
          let among : AreAmong (joins key ∷ []) (calls_by e.by (earlier ++ entry number (joins key) ∷ front)) = subst (λ (l : List (QueueCall T W)). AreAmong l (calls_by e.by (earlier ++ entry number (joins key) ∷ front))) on (each (earlier ++ entry number (joins key) ∷ front) back e at) in
          dite (ℕ_discrete e.by number) (λ same. own_stays key number e front back (subst (λ (l : QueueLog T W). AllStay key (calls_by number l)) is all) same)
          (λ apart. absurd (other_rests e.by front (e ∷ back) (subst (λ (l : QueueLog T W). LeadsTo queue_machine (earlier ++ entry number (joins key) ∷ l) q) is leads) apart among.0))

  each_stays : (key : Key) (log : QueueLog T W) → ((front : QueueLog T W) (e : Entry (QueueCall T W)) (back : QueueLog T W) → log ≡ front ++ e ∷ back → Stays key e.call) → EachStays key log
  each_stays key [] f = tt
  each_stays key (e ∷ es) f = (f [] e es refl, each_stays key es (λ front x back is. f (e ∷ front) x back (ap (λ (l : QueueLog T W). e ∷ l) is)))

  pub own_listens : (key : Key) (number : ℕ) (log : QueueLog T W) (q : Queue T W) → LeadsTo queue_machine log q → EachRests rests_on log → OwnsListener key (calls_by number log) → Listens key log
  own_listens key number log q leads each own =
      let s = splits number log own.earlier (joins key) own.later own.joined in
      let all : AllStay key (calls_by number s.1) = subst (λ (l : List (QueueCall T W)). AllStay key l) (sym s.3) own.stays in
      record {
        earlier = s.0;
        by = number;
        later = s.1;
        inserted = s.2;
        stays = each_stays key s.1 (stays_at key number s.0 q s.1 (subst (λ (l : QueueLog T W). LeadsTo queue_machine l q) s.2 leads) (subst (λ (l : QueueLog T W). EachRests rests_on l) s.2 each) all);
      }

  pub own_is_in : (key : Key) (number : ℕ) (log : QueueLog T W) (q : Queue T W) → LeadsTo queue_machine log q → EachRests rests_on log → OwnsListener key (calls_by number log) → IsIn key q
  own_is_in key number log q leads each own = listened key log q leads (own_listens key number log q leads each own)

  -- what the history before a call has of the hand
  pub own_before : (key : Key) (v w : View (Queue T W) (QueueCall T W)) (c : QueueCall T W) (before after : Queue T W) (l : Leads queue_machine v c before after w) → OwnsListener key v.mine
      → EachRests rests_on (v.seen ++ l.between) × OwnsListener key (calls_by l.number (v.seen ++ l.between))
  own_before key v w c before after l own =
      let log : QueueLog T W = v.seen ++ l.between in
      let e : Entry (QueueCall T W) = entry l.number c in
      let same : calls_by l.number log ≡ v.mine = same_front (calls_by l.number log) v.mine c (sym (calls_own l.number log e refl) ∙ (ap (λ (es : QueueLog T W). calls_by l.number es) (sym l.seen) ∙ (l.each_once ∙ l.mine))) in
      let each : EachRests rests_on log = λ earlier later x is. l.rested earlier (later ++ e ∷ []) x (l.seen ∙ (ap (λ (es : QueueLog T W). es ++ e ∷ []) is ∙ append_assoc earlier (x ∷ later) (e ∷ []))) in
      (each, subst (λ (calls : List (QueueCall T W)). OwnsListener key calls) (sym same) own)

  -- it is there when the hand makes its next call
  pub own_at_call : (key : Key) (v w : View (Queue T W) (QueueCall T W)) (c : QueueCall T W) (before after : Queue T W) → Leads queue_machine v c before after w → OwnsListener key v.mine → IsIn key before
  own_at_call key v w c before after l own = let b = own_before key v w c before after l own in own_is_in key l.number (v.seen ++ l.between) before l.runs b.0 b.1

  pub own_at_look : (key : Key) (v w : View (Queue T W) (QueueCall T W)) (l : Looks queue_machine v w) → OwnsListener key w.mine → IsIn key l.led
  own_at_look key v w l own = own_is_in key l.number w.seen l.led l.runs l.rested (subst (λ (calls : List (QueueCall T W)). OwnsListener key calls) (sym l.each_once) own)

  pub own_registered : (key : Key) (v w : View (Queue T W) (QueueCall T W)) (reply : RegisterResult T) (before after : Queue T W) → Leads queue_machine v (call.Register key reply) before after w → OwnsListener key v.mine → reply ≢ register.NeverInserted
  own_registered key v w reply before after l own = not_never key before after reply l.step (own_at_call key v w (call.Register key reply) before after l own)

  pub own_removed : (key : Key) (v w : View (Queue T W) (QueueCall T W)) (propagate : Bool) (reply : Option (State T W)) (before after : Queue T W) → Leads queue_machine v (call.Remove key propagate reply) before after w → OwnsListener key v.mine → IsSome reply
  own_removed key v w propagate reply before after l own = finds_it key before after propagate reply l.step (own_at_call key v w (call.Remove key propagate reply) before after l own)

  -- how a hand comes by one, and keeps it
  pub own_joined : (key : Key) (v w : View (Queue T W) (QueueCall T W)) (before after : Queue T W) → Leads queue_machine v (joins key) before after w → OwnsListener key w.mine
  own_joined key v w before after l = record { earlier = v.mine; later = []; joined = l.mine; stays = tt }

  all_stay_more : (key : Key) (cs : List (QueueCall T W)) (c : QueueCall T W) → AllStay key cs → Stays key c → AllStay key (cs ++ c ∷ [])
  all_stay_more key [] c all stays = (stays, tt)
  all_stay_more key (x ∷ xs) c all stays = (all.0, all_stay_more key xs c all.1 stays)

  pub own_kept : (key : Key) (v w : View (Queue T W) (QueueCall T W)) (c : QueueCall T W) (before after : Queue T W) → Leads queue_machine v c before after w → Stays key c → OwnsListener key v.mine → OwnsListener key w.mine
  own_kept key v w c before after l stays own = record {
    earlier = own.earlier;
    later = own.later ++ c ∷ [];
    joined = l.mine ∙ (ap (λ (cs : List (QueueCall T W)). cs ++ c ∷ []) own.joined ∙ append_assoc own.earlier (joins key ∷ own.later) (c ∷ []));
    stays = all_stay_more key own.later c own.stays stays;
  }

  pub own_stored : (key : Key) (v w : View (Queue T W) (QueueCall T W)) (reply : RegisterResult T) (before after : Queue T W) → Leads queue_machine v (call.Register key reply) before after w → reply ≡ register.Registered
      → OwnsListener key v.mine → OwnsListener key w.mine
  own_stored key v w reply before after l is own = own_kept key v w (call.Register key reply) before after l (subst (λ (r : RegisterResult T). Stays {T = T} {W = W} key (call.Register key r)) (sym is) tt) own

  pub own_rests : (key : Key) (mine : List (QueueCall T W)) → OwnsListener key mine → AreAmong (joins key ∷ []) mine
  own_rests key mine own = (subst (λ (cs : List (QueueCall T W)). IsAmong (joins key) cs) (sym own.joined) (among_back (joins key) own.earlier (joins key ∷ own.later) (inl refl)), tt)

  -- rounds of a wait keep it, if no attempt that gets nothing takes it out
  module _ {Q G E : Type 0} (attempting : Q → Attempted G E → QueueCall T W → Type 0) (leaving : Q → Result (Option G) E → QueueCall T W → Type 0) (waits : Q → Q → Type 0) (key : Key) (is : Q → Type 0) where
    pub own_along : ((before after : Q) → waits before after → is before → is after) → ((q : Q) (answer : Attempted G E) (c : QueueCall T W) → is q → IsUndone answer → attempting q answer c → Stays key c)
        → (rounds : ℕ) (before after : Q × View (Queue T W) (QueueCall T W)) → Rounds (Round queue_machine attempting leaving waits) rounds before after → is before.0 → OwnsListener key before.1.mine
        → is after.0 × OwnsListener key after.1.mine
    own_along keeps stays zero before after same here own = subst (λ (g : Q × View (Queue T W) (QueueCall T W)). is g.0 × OwnsListener key g.1.mine) (sym same) (here, own)
    own_along keeps stays (suc rounds) before after waited here own =
        let so_far = own_along keeps stays rounds before waited.0 waited.1 here own in
        let round = waited.2 in
        let made = round.3 in
        let leads = made.2 in
        (keeps waited.0.0 after.0 round.0 so_far.0, own_kept key waited.0.1 after.1 made.0 leads.0 leads.1 leads.2 (stays waited.0.0 round.1 made.0 so_far.0 round.2 made.1) so_far.1)
