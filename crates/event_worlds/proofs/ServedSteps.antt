-- What each step of a client of a lock does to what its clients keep, whatever the lock: what can be taken, what is
-- still to come, the client's place and the line.
use Rattle.std.proofs.Common.{rules, ◌≡◌, ◌≢◌, ℕ, zero, suc, ◌+◌, ◌-◌, ◌<◌, ◌≤◌, min, ◌⊎◌, Bool, true, false, cond, List, [], ◌∷◌, length, set, replicate, slice_get, Option, Some, None, IfSome, refl, sym, ap, ◌∙◌, subst, arith, inl, inr, length-set, length-append}
use Rattle.std.proofs.lemmas.Map.Entries.{length-keys_of}
use Rattle.std.proofs.lemmas.Bool.{cases_eq, cond_both, false_from_ne_true}
use Rattle.std.proofs.lemmas.Option.{none-some, same_Some}
use Rattle.std.proofs.lemmas.List.{length-replicate}
use Rattle.std.specs.Map.{keys_of}
use Rattle.event_worlds.specs.declared.world.acts.Act.{Act}
use Rattle.event_worlds.specs.declared.world.acts.Act.TheVariants.{Go, Poll, TimeOut, Cancel}
use Rattle.event_worlds.specs.declared.world.place.Place.{Place}
use Rattle.event_worlds.specs.declared.world.place.Place.TheVariants.{Idle, First, ToListen, Second, Ending, ToRegister, Parked, Holding}
use Rattle.event_worlds.specs.ClientTable.{is_listening, is_woken}
use Rattle.event_worlds.specs.Line.{Line, empty_line, is_told, has_wake, has_serial_left, joined, registered, told_left, waiting_left, wake_lost, first_told_of, first_told, tell, wanted, notified, dropped}
use Rattle.event_worlds.specs.Standing.{times, standing, Fits, FitsAt, AllFit, number}
use Rattle.event_worlds.specs.Served.{is_parked, is_inside, is_releasing, is_past_second, IsServed}
use Rattle.event_worlds.specs.Waiting.{waits}
use Rattle.event_worlds.proofs.InLineLemmas.{once_at}
use Rattle.event_worlds.proofs.PlaceLemmas.{slice_get-set, slice_get-set_other, number-set}
use Rattle.event_worlds.proofs.StandingLemmas.{times-any, times-none, times-append, times-without_other, times-le-length, IsSame, same-joined, same-registered, same-told_left, same-waiting_left, same-wake_lost, fits-joined, fits-registered, fits-told_left, fits-waiting_left, fits-wake_lost, fit-changed, fit-notified, fit-start, same-itself, length-without, length-without_one, tell-lengths, notified-flags, dropped-kind}

at_most_one : (b : Bool) → cond {A = ℕ} b 1 0 ≤ 1
at_most_one true = omega arith
at_most_one false = omega arith

-- who is among the notified as often as before is not notified if it was not before
untold-same : (client : ℕ) (old new : Line) → times client old.told ≤ times client new.told → is_told client new ≡ false → is_told client old ≡ false
untold-same client old new same untold = grind (arith, false_from_ne_true, times-any, times-none)

past_listens : (place : Place) → is_past_second place ≡ true → is_listening place ≡ true
past_listens ToRegister past = refl
past_listens Parked past = refl
past_listens _ past = absurd (cc)

-- a notification

-- telling moves `count` clients from those waiting to those notified
first-counts : (waiting : List (ℕ × Bool)) (line : Line) → line.waiting ≡ waiting → 0 < length waiting → (length (first_told_of waiting line).told ≡ length line.told + 1) × (length (first_told_of waiting line).waiting + 1 ≡ length waiting)
first-counts [] line is some = absurd (omega arith)
first-counts (first ∷ rest) line is some = (omega (arith, length-append line.told (first.0 ∷ [])), omega arith)

pub tell-counts : (count : ℕ) (line : Line) → count ≤ length line.waiting → (length (tell count line).told ≡ length line.told + count) × (length (tell count line).waiting + count ≡ length line.waiting)
tell-counts zero line few = (omega arith, omega arith)
tell-counts (suc count) line few = grind (arith, tell-counts count, first-counts)

-- whoever was notified still is
first-still : (client : ℕ) (waiting : List (ℕ × Bool)) (line : Line) → times client line.told ≤ times client (first_told_of waiting line).told
first-still client [] line = omega arith
first-still client (first ∷ rest) line = omega (arith, times-append client line.told (first.0 ∷ []))

tell-still : (client count : ℕ) (line : Line) → times client line.told ≤ times client (tell count line).told
tell-still client zero line = omega arith
tell-still client (suc count) line =
    omega (arith, first-still client line.waiting line, tell-still client count (first_told line))

-- where somebody still waits, as many are notified anew as are wanted, and so all that can be taken is spoken for
enough-told : (free owed n woken : ℕ) (line : Line) → (line.additional ≡ true) ⊎ (free ≤ n) → free ≤ length line.told + woken + (owed + n) → length line.told + wanted n line ≤ length (notified n line).told → free ≤ length (notified n line).told + woken + owed
enough-told free owed n woken line (inl additional) had told =
    let all : wanted n line ≡ n = rw additional refl in omega arith
enough-told free owed n woken line (inr few) had told = grind (arith)

-- who is past its second failed try and is not notified waits
past_waits : (places : List Place) (line : Line) → AllFit is_listening is_parked places line → (client : ℕ) (place : Place) → slice_get places client ≡ Some place → is_past_second place ≡ true → is_told client line ≡ false → times client (keys_of line.waiting) ≡ 1
past_waits places line fit client place at past untold =
    omega (arith, once_at is_listening is_parked places line fit client place at (past_listens place past), times-none client line.told untold)

-- a notification of `n` that was still to come has come
pub served-notified : (free owed n : ℕ) (places : List Place) (line : Line) → (line.additional ≡ true) ⊎ (free ≤ n) → IsServed free (owed + n) places line → IsServed free owed places (notified n line)
served-notified free owed n places line kind served =
    let fit = fit-notified is_listening is_parked n places line served.flags served.fit in
    record {
      fit = fit;
      enough =
          λ client place at past untold.
          let waits_once = past_waits places (notified n line) fit client place at past untold in
          let some : 0 < length (notified n line).waiting =
          omega (arith, times-le-length client (keys_of (notified n line).waiting), length-keys_of (notified n line).waiting) in
          let (told, waiting) = tell-counts (min (wanted n line) (length line.waiting)) line (omega arith) in
          let had : free ≤ length line.told + number is_woken places + (owed + n) =
          served.enough client place at past (untold-same client line (notified n line) (tell-still client (min (wanted n line) (length line.waiting)) line) untold) in
          enough-told free owed n (number is_woken places) line kind had (omega arith);
      flags = notified-flags n line ∙ served.flags;
    }

-- as many more can be taken as notifications are to come
pub served-owes : (free owed free' owed' : ℕ) (places : List Place) (line : Line) → free' + owed ≤ free + owed' → IsServed free owed places line → IsServed free' owed' places line
served-owes free owed free' owed' places line more served = grind (arith)

-- a notification that leaves nobody waiting serves any number
pub served-all : (free owed free' owed' n : ℕ) (places : List Place) (line : Line) → (notified n line).waiting ≡ [] → IsServed free owed places line → IsServed free' owed' places (notified n line)
served-all free owed free' owed' n places line nobody served =
    let fit = fit-notified is_listening is_parked n places line served.flags served.fit in
    record {
      fit = fit;
      enough =
          λ client place at past untold.
          let waits_once = past_waits places (notified n line) fit client place at past untold in
          let gone = ap (λ (ws : List (ℕ × Bool)). times client (keys_of ws)) nobody in
          absurd (omega arith);
      flags = notified-flags n line ∙ served.flags;
    }

-- the places of a try: where it is made, and where the client is if it took one, and if it found none
pub record IsTry (p got busy : Place) : Type 0 where
  pub got_listens : is_listening got ≡ is_listening p
  pub got_parked : is_parked got ≡ is_parked p
  pub got_woken : is_woken got ≡ false
  pub got_past : is_past_second got ≡ false
  pub got_inside : is_inside got ≡ true
  pub got_releasing : is_releasing got ≡ false
  pub busy_listens : is_listening busy ≡ is_listening p
  pub busy_parked : is_parked busy ≡ is_parked p
  pub busy_inside : is_inside busy ≡ false
  pub busy_releasing : is_releasing busy ≡ false
  pub inside : is_inside p ≡ false
  pub releasing : is_releasing p ≡ false

pub first_try : (woken : Bool) → IsTry (First woken) Holding ToListen
first_try woken = search rules

pub second_try : IsTry Second Ending ToRegister
second_try = search rules

module _ (free owed : ℕ) (places : List Place) (line : Line) (client : ℕ) (served : IsServed free owed places line) where
  module _ (p : Place) (at : slice_get places client ≡ Some p) where
    fits_here : Fits (is_listening p) (is_parked p) (standing client line)
    fits_here =
        subst (λ (o : Option Place). FitsAt is_listening is_parked o (standing client line)) at (served.fit client)

    -- the client goes to another place, the line changes, and the others stand as they did
    served-changed : (q : Place) (new : Line) (free' owed' : ℕ) → ((other : ℕ) → other ≢ client → IsSame (standing other line) (standing other new)) → Fits (is_listening q) (is_parked q) (standing client new) → length new.awake ≡ length line.awake → (free ≤ length line.told + number is_woken places + owed → free' ≤ length new.told + number is_woken (set places client q) + owed') → (is_past_second q ≡ true → is_told client new ≡ false → free' ≤ length new.told + number is_woken (set places client q) + owed') → IsServed free' owed' (set places client q) new
    served-changed q new free' owed' same fits flags others own = record {
      fit = fit-changed is_listening is_parked places client p q line new at served.fit same fits;
      enough =
          λ other place at' past untold.
          elim (cases_eq other client) [
            | inl is ↦
                let there : slice_get (set places client q) other ≡ Some q =
                ap (λ (x : ℕ). slice_get (set places client q) x) is ∙ slice_get-set places client p q at in
                let same_place : q ≡ place = same_Some q place (sym there ∙ at') in
                own (ap is_past_second same_place ∙ past) (ap (λ (x : ℕ). is_told x new) (sym is) ∙ untold)
            | inr apart ↦
                others (served.enough other place (sym (slice_get-set_other places client other q apart) ∙ at') past (untold-same other line new (omega (arith, (same other apart).told)) untold))
          ];
      flags = flags ∙ (served.flags ∙ sym (length-set places client q));
    }

    -- the client goes on, and the line stays

    module _ (q : Place) (free' owed' : ℕ) (listens : is_listening q ≡ is_listening p) (parks : is_parked q ≡ is_parked p) where
      served-stays : (free ≤ length line.told + number is_woken places + owed → free' ≤ length line.told + number is_woken (set places client q) + owed') → (is_past_second q ≡ true → free' ≤ length line.told + number is_woken (set places client q) + owed') → IsServed free' owed' (set places client q) line
      served-stays others own =
          served-changed q line free' owed' (λ other _. same-itself (standing other line)) (subst (λ (b : Bool). Fits b (is_parked q) (standing client line)) (sym listens) (subst (λ (b : Bool). Fits (is_listening p) b (standing client line)) (sym parks) fits_here)) refl others (λ past _. own past)

      pub served-goes_on : is_woken q ≡ false → is_past_second q ≡ false → ((ways : ℕ) → free ≤ ways + cond (is_woken p) 1 0 + owed → free' ≤ ways + owed') → IsServed free' owed' (set places client q) line
      served-goes_on unwoken unpast enough =
          let ways = number-set is_woken places client p q at in
          let none : cond {A = ℕ} (is_woken q) 1 0 ≡ 0 = ap (λ (b : Bool). cond {A = ℕ} b 1 0) unwoken in
          served-stays (λ had. enough (length line.told + number is_woken (set places client q)) (omega arith)) (λ past. absurd (cc))

    -- a try takes one, or finds none

    module _ (got busy : Place) (try : IsTry p got busy) (free' owed' : ℕ) where
      pub served-gets : free' ≤ free - 1 → owed ≤ owed' → IsServed free' owed' (set places client got) line
      served-gets less more =
          let one = at_most_one (is_woken p) in
          served-goes_on got free' owed' try.got_listens try.got_parked try.got_woken try.got_past (λ ways had. omega arith)

      pub served-finds_none : free' ≡ 0 → IsServed free' owed' (set places client busy) line
      served-finds_none none =
          served-stays busy free' owed' try.busy_listens try.busy_parked (λ had. omega arith) (λ past. omega arith)

    -- a client leaves the line, from a place where it listens

    module _ (listens : is_listening p ≡ true) (unwoken : is_woken p ≡ false) where
      fits_in : Fits true (is_parked p) (standing client line)
      fits_in = subst (λ (b : Bool). Fits b (is_parked p) (standing client line)) listens fits_here

      none : cond {A = ℕ} (is_woken p) 1 0 ≡ 0
      none = ap (λ (b : Bool). cond {A = ℕ} b 1 0) unwoken

      -- notified, it is about to try
      served-told : is_told client line ≡ true → IsServed free owed (set places client (First true)) (told_left client line)
      served-told told =
          let ways = number-set is_woken places client p (First true) at in
          let left = length-without_one client line.told (times-any client line.told told) in
          served-changed (First true) (told_left client line) free owed (λ other differs. same-told_left client other line differs) (fits-told_left client line (is_parked p) fits_in told) refl (λ had. omega (arith, none)) (λ past untold. absurd (cc))

      module _ (q : Place) (unlistening : is_listening q ≡ false) (unparked : is_parked q ≡ false) (unpast : is_past_second q ≡ false) where
        fits_out : (new : Line) → Fits false false (standing client new) → Fits (is_listening q) (is_parked q) (standing client new)
        fits_out new fits =
            subst (λ (b : Bool). Fits (is_listening q) b (standing client new)) (sym unparked) (subst (λ (b : Bool). Fits b false (standing client new)) (sym unlistening) fits)

        served-leaves : is_told client line ≡ false → IsServed free owed (set places client q) (waiting_left client line)
        served-leaves untold =
            let ways = number-set is_woken places client p q at in
            served-changed q (waiting_left client line) free owed (λ other differs. same-waiting_left client other line differs) (fits_out (waiting_left client line) (fits-waiting_left client line (is_parked p) fits_in untold)) refl (λ had. omega (arith, none)) (λ past _. absurd (cc))

        -- notified, its notification is to be propagated
        served-to_pass : is_told client line ≡ true → IsServed free (owed + 1) (set places client q) (told_left client line)
        served-to_pass told =
            let ways = number-set is_woken places client p q at in
            let left = length-without_one client line.told (times-any client line.told told) in
            served-changed q (told_left client line) free (owed + 1) (λ other differs. same-told_left client other line differs) (fits_out (told_left client line) (fits-told_left client line (is_parked p) fits_in told)) refl (λ had. omega (arith, none)) (λ past _. absurd (cc))

        pub served-drops : (line.additional ≡ true) ⊎ (free ≤ 1) → IsServed free owed (set places client q) (dropped client line)
        served-drops kind =
            cond_both (is_told client line) (notified 1 (told_left client line)) (waiting_left client line) (λ (new : Line). IsServed free owed (set places client q) new) (λ told. served-notified free owed 1 (set places client q) (told_left client line) kind (served-to_pass told)) served-leaves

  served-listens : slice_get places client ≡ Some ToListen → IsServed free owed (set places client Second) (joined client line)
  served-listens at =
      let ways = number-set is_woken places client ToListen Second at in
      served-changed ToListen at Second (joined client line) free owed (λ other differs. same-joined client other line differs) (fits-joined client line false (fits_here ToListen at)) (length-set line.awake client false) (λ had. omega arith) (λ past untold. absurd (cc))

  served-registers : slice_get places client ≡ Some ToRegister → is_told client line ≡ false → IsServed free owed (set places client Parked) (registered client line)
  served-registers at untold =
      let ways = number-set is_woken places client ToRegister Parked at in
      let had = served.enough client ToRegister at refl untold in
      served-changed ToRegister at Parked (registered client line) free owed (λ other differs. same-registered client other line differs) (fits-registered client line false (fits_here ToRegister at) untold) refl (λ had. omega arith) (λ past untold. omega arith)

  served-wakes : slice_get places client ≡ Some Parked → IsServed free owed (set places client ToRegister) (wake_lost client line)
  served-wakes at =
      let ways = number-set is_woken places client Parked ToRegister at in
      served-changed Parked at ToRegister (wake_lost client line) free owed (λ other differs. same-wake_lost client other line differs) (fits-wake_lost client line true (fits_here Parked at)) (length-set line.awake client false) (λ had. omega arith) (λ past untold.
      let had = served.enough client Parked at refl untold in omega arith)

  -- the steps that are the same in each lock

  abbrev Keeps : Place × Line → Type 0
  Keeps to = IsServed free owed (set places client to.0) to.1

  served-waits_at : (act : Act) (p : Place) → slice_get places client ≡ Some p → (line.additional ≡ true) ⊎ (free ≤ 1) → IfSome (waits act p client line) Keeps
  served-waits_at Go Idle at kind =
      served-goes_on Idle at (First false) free owed refl refl refl refl (λ ways had. omega arith)
  served-waits_at Go ToListen at kind =
      cond_both (has_serial_left line) (Second, joined client line) (Idle, line) Keeps (λ _. served-listens at) (λ _. served-goes_on ToListen at Idle free owed refl refl refl refl (λ ways had. omega arith))
  served-waits_at Go Ending at kind = served-drops Ending at refl refl Holding refl refl refl kind
  served-waits_at Go ToRegister at kind =
      cond_both (is_told client line) (First true, told_left client line) (Parked, registered client line) Keeps (served-told ToRegister at refl refl) (served-registers at)
  served-waits_at Go Parked at kind =
      cond_both (has_wake client line) (Some (ToRegister, wake_lost client line)) None (λ (o : Option (Place × Line)). IfSome o Keeps) (λ _. served-wakes at) (λ _. tt)
  served-waits_at Poll Parked at kind = served-wakes at
  served-waits_at TimeOut Parked at kind =
      cond_both (is_told client line) (First true, told_left client line) (Idle, waiting_left client line) Keeps (served-told Parked at refl refl) (served-leaves Parked at refl refl Idle refl refl refl)
  served-waits_at Cancel ToRegister at kind = served-drops ToRegister at refl refl Idle refl refl refl kind
  served-waits_at Cancel Parked at kind = served-drops Parked at refl refl Idle refl refl refl kind
  served-waits_at _ _ at kind = tt

  pub served-waits : (act : Act) (p : Place) → slice_get places client ≡ Some p → (line.additional ≡ true) ⊎ (free ≤ 1) → (to : Place × Line) → waits act p client line ≡ Some to → Keeps to
  served-waits act p at kind to is =
      subst (λ (o : Option (Place × Line)). IfSome o Keeps) is (served-waits_at act p at kind)

-- what these steps leave as it was

pub record Waited (client : ℕ) (p : Place) (line : Line) (to : Place × Line) : Type 0 where
  pub inside : is_inside to.0 ≡ is_inside p
  pub releasing : is_releasing p ≡ false
  pub kind : to.1.additional ≡ line.additional
  pub one_told : line.additional ≡ false → length line.told ≤ 1 → length to.1.told ≤ 1
  pub others_told : (other : ℕ) → other ≢ client → times other line.told ≤ times other to.1.told
  pub own_told : is_past_second to.0 ≡ true → (is_past_second p ≡ true) × (to.1.told ≡ line.told)

-- a default notification of one leaves at most one notified where there was at most one
pub notified-one_told : (line : Line) → line.additional ≡ false → length line.told ≤ 1 → length (notified 1 line).told ≤ 1
notified-one_told line default one =
    let rest : wanted 1 line ≡ 1 - length line.told = rw default refl in
    let (flags, more, few) = tell-lengths (min (wanted 1 line) (length line.waiting)) line in
    omega arith

module _ (client : ℕ) (line : Line) where
  -- those notified stay as they are
  plain : (p q : Place) (new : Line) → is_inside q ≡ is_inside p → is_releasing p ≡ false → (is_past_second q ≡ true → is_past_second p ≡ true) → new.additional ≡ line.additional → new.told ≡ line.told → Waited client p line (q, new)
  plain p q new inside releasing past kind told =
      let same = ap (λ (ts : List ℕ). length ts) told in
      record {
        inside = inside;
        releasing = releasing;
        kind = kind;
        one_told = λ default one. omega arith;
        others_told = λ other apart. let same_times = ap (times other) told in omega arith;
        own_told = λ is_past. (past is_past, told);
      }

  left : (p : Place) → is_inside p ≡ false → is_releasing p ≡ false → Waited client p line (First true, told_left client line)
  left p outside releasing = record {
    inside = sym outside;
    releasing = releasing;
    kind = refl;
    one_told = λ default one. omega (arith, length-without client line.told);
    others_told = λ other apart. omega (arith, times-without_other client other line.told apart);
    own_told = λ past. absurd (cc);
  }

  drops : (p q : Place) → is_inside q ≡ is_inside p → is_releasing p ≡ false → is_past_second q ≡ false → Waited client p line (q, dropped client line)
  drops p q inside releasing unpast = record {
    inside = inside;
    releasing = releasing;
    kind = dropped-kind client line;
    one_told =
        λ default one.
        cond_both (is_told client line) (notified 1 gone) (waiting_left client line) (λ (new : Line). length new.told ≤ 1) (λ _.
        notified-one_told gone default (omega (arith, length-without client line.told))) (λ _. one);
    others_told =
        λ other apart.
        cond_both (is_told client line) (notified 1 gone) (waiting_left client line) (λ (new : Line). times other line.told ≤ times other new.told) (λ _.
        omega (arith, times-without_other client other line.told apart, tell-still other (min (wanted 1 gone) (length gone.waiting)) gone)) (λ _. omega arith);
    own_told = λ past. absurd (cc);
  }
    where
      gone : Line
      gone = told_left client line

  waited_at : (act : Act) (p : Place) → IfSome (waits act p client line) (Waited client p line)
  waited_at Go Idle = plain Idle (First false) line refl refl (λ past. absurd (cc)) refl refl
  waited_at Go ToListen =
      cond_both (has_serial_left line) (Second, joined client line) (Idle, line) (Waited client ToListen line) (λ _. plain ToListen Second (joined client line) refl refl (λ past. absurd (cc)) refl refl) (λ _. plain ToListen Idle line refl refl (λ past. absurd (cc)) refl refl)
  waited_at Go Ending = drops Ending Holding refl refl refl
  waited_at Go ToRegister =
      cond_both (is_told client line) (First true, told_left client line) (Parked, registered client line) (Waited client ToRegister line) (λ _. left ToRegister refl refl) (λ _. plain ToRegister Parked (registered client line) refl refl (λ _. refl) refl refl)
  waited_at Go Parked =
      cond_both (has_wake client line) (Some (ToRegister, wake_lost client line)) None (λ (o : Option (Place × Line)). IfSome o (Waited client Parked line)) (λ _. plain Parked ToRegister (wake_lost client line) refl refl (λ _. refl) refl refl) (λ _. tt)
  waited_at Poll Parked = plain Parked ToRegister (wake_lost client line) refl refl (λ _. refl) refl refl
  waited_at TimeOut Parked =
      cond_both (is_told client line) (First true, told_left client line) (Idle, waiting_left client line) (Waited client Parked line) (λ _. left Parked refl refl) (λ _. plain Parked Idle (waiting_left client line) refl refl (λ past. absurd (cc)) refl refl)
  waited_at Cancel ToRegister = drops ToRegister Idle refl refl refl
  waited_at Cancel Parked = drops Parked Idle refl refl refl
  waited_at _ _ = tt

  pub waited : (act : Act) (p : Place) (to : Place × Line) → waits act p client line ≡ Some to → Waited client p line to
  waited act p to is =
      subst (λ (o : Option (Place × Line)). IfSome o (Waited client p line)) is (waited_at act p)

-- nobody has come yet

unpast_place : (start : Place) (clients client : ℕ) (place : Place) → is_past_second start ≡ false → slice_get (replicate clients start) client ≡ Some place → is_past_second place ≡ true → ⊥
unpast_place start zero client place unpast at past = none-some place at
unpast_place start (suc clients) zero place unpast at past =
    let same = ap is_past_second (same_Some start place at) in absurd (cc)
unpast_place start (suc clients) (suc client) place unpast at past = unpast_place start clients client place unpast at past

pub served-start : (start : Place) → is_listening start ≡ false → is_past_second start ≡ false → (free owed : ℕ) (kind : Bool) (clients first : ℕ) → IsServed free owed (replicate clients start) (empty_line kind clients first)
served-start start unlistening unpast free owed kind clients first = record {
  fit = fit-start is_listening is_parked start unlistening kind clients first;
  enough = λ client place at past untold. absurd (unpast_place start clients client place unpast at past);
  flags = length-replicate clients false ∙ sym (length-replicate clients start);
}
