-- Each step of the flag world's tables keeps the world's invariant.
use Rattle.std.proofs.Common.{◌≡◌, ◌≢◌, ℕ, ◌+◌, ◌≤◌, true, false, eqb, List, [], length, set, slice_get, Option, Some, None, IfSome, option_map, refl, sym, ap, ◌∙◌, subst, inl, inr, arith}
use Rattle.std.proofs.lemmas.List.{map-set}
use Rattle.std.specs.List.{list_any}
use Rattle.std.proofs.lemmas.Bool.{cases_Bool, cases_eq, cond_both}
use Rattle.std.proofs.lemmas.Option.{same_Some}
use Rattle.event_worlds.specs.declared.world.acts.Act.TheVariants.{Go}
use Rattle.event_worlds.specs.declared.world.flag.FlagPlace.{FlagPlace}
use Rattle.event_worlds.specs.declared.world.flag.FlagPlace.TheVariants.{Check1, ToListen, Check2, Dropping, ToRegister, Parked, Done}
use Rattle.event_worlds.specs.declared.world.flag.SetterMove.{SetterMove}
use Rattle.event_worlds.specs.declared.world.flag.SetterPlace.{SetterPlace}
use Rattle.event_worlds.specs.declared.world.flag.SetterPlace.TheVariants.{ToSet, ToNotify, Done as IsDone}
use Rattle.event_worlds.specs.declared.world.place.Place.{Place}
use Rattle.event_worlds.specs.declared.world.place.Place.TheVariants as lock
use Rattle.event_worlds.specs.declared.world.place.Place.TheVariants.{Idle, First, Second, Ending, Holding}
use Rattle.event_worlds.specs.ClientTable.{is_listening, is_woken}
use Rattle.event_worlds.specs.Line.{Line, everybody, is_told, has_wake, has_serial_left, joined, registered, told_left, wake_lost, notified, dropped}
use Rattle.event_worlds.specs.Served.{is_parked, is_past_second, IsServed, MayBeAt}
use Rattle.event_worlds.specs.Standing.{times, number}
use Rattle.event_worlds.specs.Waiting.{waits}
use Rattle.event_worlds.specs.Flag.{FlagState, start, lock_place, flag_place, moved, from, from_setter, goes, setter_goes}
use Rattle.event_worlds.specs.FlagInvariant.{places_of, is_to_notify, IsSettled, IsSound}
use Rattle.event_worlds.proofs.InLineLemmas.{told_if, out_at}
use Rattle.event_worlds.proofs.MadeLemmas.{each_some}
use Rattle.event_worlds.proofs.PlaceLemmas.{slice_get-set, slice_get-set_other, number-at}
use Rattle.event_worlds.proofs.PlacedClients.{place-at, places-same}
use Rattle.event_worlds.proofs.ServedSteps.{second_try, served-goes_on, served-finds_none, served-drops, served-waits, served-all, served-start, Waited, waited}
use Rattle.event_worlds.proofs.StandingLemmas.{times-any, notified-kind}

module _ (state : FlagState) (client : ℕ) (sound : IsSound state) (p : FlagPlace) (at : slice_get state.places client ≡ Some p) where
  abbrev places : List Place
  places = places_of state.places

  at_place : slice_get places client ≡ Some (lock_place p)
  at_place = place-at lock_place state.places client p at

  -- who is about to listen is not in line
  pub may_be_at : MayBeAt (lock_place p) client state.line
  may_be_at listens =
      out_at is_listening is_parked places state.line sound.served.fit client (lock_place p) at_place (ap is_listening listens)

  -- the client goes, and whoever else was notified still is
  sound-goes : (q : FlagPlace) (line : Line) → IsServed 0 0 (set places client (lock_place q)) line → ((other : ℕ) → other ≢ client → times other state.line.told ≤ times other line.told) → (state.flag ≡ true → number is_to_notify state.setters ≡ 0 → is_past_second (lock_place q) ≡ true → is_told client line ≡ true) → line.additional ≡ false → IsSound (goes client state (q, line))
  sound-goes q line served others own kind =
      let is = map-set lock_place state.places client q in
      let settled : IsSettled state.flag state.setters (set places client (lock_place q)) line =
      λ flag none other place at' past.
      elim (cases_eq other client) [
        | inl here ↦
            let there : slice_get (set places client (lock_place q)) other ≡ Some (lock_place q) =
            ap (λ (x : ℕ). slice_get (set places client (lock_place q)) x) here ∙ slice_get-set places client (lock_place p) (lock_place q) at_place in
            let same : lock_place q ≡ place = same_Some (lock_place q) place (sym there ∙ at') in
            ap (λ (x : ℕ). is_told x line) here ∙ own flag none (ap is_past_second same ∙ past)
        | inr apart ↦
            let was = sound.settled flag none other place (sym (slice_get-set_other places client other (lock_place q) apart) ∙ at') past in
            told_if other line (omega (arith, others other apart, times-any other state.line.told was))
      ] in
      record {
        served = subst (λ (ps : List Place). IsServed 0 0 ps line) (sym is) served;
        settled = subst (λ (ps : List Place). IsSettled state.flag state.setters ps line) (sym is) settled;
        kind = kind;
      }

  -- a step that is the same in each lock
  sound-waits : (q : FlagPlace) (to : Place × Line) → waits Go (lock_place p) client state.line ≡ Some to → to.0 ≡ lock_place q → IsSound (goes client state (q, to.1))
  sound-waits q to is there =
      let keeps : Waited client (lock_place p) state.line to = waited client state.line Go (lock_place p) to is in
      let served = served-waits 0 0 places state.line client sound.served Go (lock_place p) at_place (inr (omega arith)) to is in
      sound-goes q to.1 (subst (λ (r : Place). IsServed 0 0 (set places client r) to.1) there served) keeps.others_told (λ flag none past.
      let (was_past, told) = keeps.own_told (ap is_past_second there ∙ past) in
      ap (λ (ts : List ℕ). list_any (eqb client) ts) told ∙ sound.settled flag none client (lock_place p) at_place was_past) (keeps.kind ∙ sound.kind)

  -- a look
  sound-looks : (q : FlagPlace) → IsServed 0 0 (set places client (lock_place q)) state.line → (state.flag ≡ true → is_past_second (lock_place q) ≡ true → ⊥) → IsSound (goes client state (q, state.line))
  sound-looks q served unset =
      sound-goes q state.line served (λ other _. omega arith) (λ flag _ past. absurd (unset flag past)) sound.kind

-- the places that come after those of the same steps

module _ (client : ℕ) (line : Line) where
  abbrev Returns : Place × Line → Type 0
  Returns to = to.0 ≡ lock_place (flag_place to.0)

  listen_returns : IfSome (waits Go lock.ToListen client line) Returns
  listen_returns = cond_both (has_serial_left line) (Second, joined client line) (Idle, line) Returns (λ _. refl) (λ _. refl)

  register_returns : IfSome (waits Go lock.ToRegister client line) Returns
  register_returns =
      cond_both (is_told client line) (First true, told_left client line) (lock.Parked, registered client line) Returns (λ _. refl) (λ _. refl)

  wake_returns : IfSome (waits Go lock.Parked client line) Returns
  wake_returns =
      cond_both (has_wake client line) (Some (lock.ToRegister, wake_lost client line)) None (λ (o : Option (Place × Line)). IfSome o Returns) (λ _. refl) (λ _. tt)

module _ (state : FlagState) (client : ℕ) (sound : IsSound state) where
  abbrev Leads : FlagPlace × Line → Type 0
  Leads to = IsSound (goes client state to)

  sound-all : (p : FlagPlace) → slice_get state.places client ≡ Some p → IfSome (waits Go (lock_place p) client state.line) (Returns client state.line) → IfSome (option_map moved (waits Go (lock_place p) client state.line)) Leads
  sound-all p at returns =
      each_some moved Leads (waits Go (lock_place p) client state.line) (λ to is.
      sound-waits state client sound p at (flag_place to.0) to is (subst (λ (o : Option (Place × Line)). IfSome o (Returns client state.line)) is returns))

  looks : (p q : FlagPlace) → slice_get state.places client ≡ Some p → IsServed 0 0 (set (places_of state.places) client (lock_place q)) state.line → (state.flag ≡ true → is_past_second (lock_place q) ≡ true → ⊥) → Leads (q, state.line)
  looks p q at = sound-looks state client sound p at q

  sound-from : (p : FlagPlace) → slice_get state.places client ≡ Some p → IfSome (from p client state.flag state.line) Leads
  sound-from Check1 at =
      let here = at_place state client sound Check1 at in
      let goes_on = served-goes_on 0 0 (places_of state.places) state.line client sound.served (First true) here in
      cond_both state.flag Done ToListen (λ (q : FlagPlace). Leads (q, state.line)) (λ _. looks Check1 Done at (goes_on Idle 0 0 refl refl refl refl (λ ways had. omega arith)) (λ _ past. absurd (cc))) (λ _. looks Check1 ToListen at (goes_on lock.ToListen 0 0 refl refl refl refl (λ ways had. omega arith)) (λ _ past. absurd (cc)))
  sound-from Check2 at =
      let here = at_place state client sound Check2 at in
      cond_both state.flag Dropping ToRegister (λ (q : FlagPlace). Leads (q, state.line)) (λ _. looks Check2 Dropping at (served-goes_on 0 0 (places_of state.places) state.line client sound.served Second here Ending 0 0 refl refl refl refl (λ ways had. omega arith)) (λ _ past. absurd (cc))) (λ unset.
      looks Check2 ToRegister at (served-finds_none 0 0 (places_of state.places) state.line client sound.served Second here Ending lock.ToRegister second_try 0 0 refl) (λ flag _. absurd (cc)))
  sound-from Dropping at =
      let here = at_place state client sound Dropping at in
      let keeps : Waited client Ending state.line (Holding, dropped client state.line) =
      waited client state.line Go Ending (Holding, dropped client state.line) refl in
      sound-goes state client sound Dropping at Done (dropped client state.line) (served-drops 0 0 (places_of state.places) state.line client sound.served Ending here refl refl Idle refl refl refl (inr (omega arith))) keeps.others_told (λ _ _ past. absurd (cc)) (keeps.kind ∙ sound.kind)
  sound-from ToListen at = sound-all ToListen at (listen_returns client state.line)
  sound-from ToRegister at = sound-all ToRegister at (register_returns client state.line)
  sound-from Parked at = sound-all Parked at (wake_returns client state.line)
  sound-from Done at = tt

  -- the move that the code makes
  pub sound-moves : (p : FlagPlace) → slice_get state.places client ≡ Some p → (to : FlagPlace × Line) → from p client state.flag state.line ≡ Some to → Leads to
  sound-moves p at to moves = subst (λ (o : Option (FlagPlace × Line)). IfSome o Leads) moves (sound-from p at)

-- setters

module _ (state : FlagState) (setter : ℕ) (sound : IsSound state) where
  sound-sets : slice_get state.setters setter ≡ Some ToSet → IsSound (setter_goes setter state (record { place = ToNotify; flag = true }, state.line))
  sound-sets at =
      let some = number-at is_to_notify (set state.setters setter ToNotify) setter ToNotify (slice_get-set state.setters setter ToSet ToNotify at) refl in
      record { served = sound.served; settled = λ flag none. absurd (omega arith); kind = sound.kind }

  -- a notification of everybody leaves whoever is past its second look notified, since any number is served
  sound-notifies : (notified everybody state.line).waiting ≡ [] → IsSound (setter_goes setter state (record { place = IsDone; flag = state.flag }, notified everybody state.line))
  sound-notifies nobody =
      let places = places_of state.places in
      let line = notified everybody state.line in
      let all : (free : ℕ) → IsServed free 0 places line =
      λ free. served-all 0 0 free 0 everybody places state.line nobody sound.served in
      record {
        served = all 0;
        settled =
            λ flag none client place at past.
            elim (cases_Bool (is_told client line)) [
              | inl told ↦ told
              | inr untold ↦
                  let more = length line.told + number is_woken places + 1 in
                  let few = (all more).enough client place at past untold in
                  absurd (omega arith)
            ];
        kind = notified-kind everybody state.line ∙ sound.kind;
      }

  -- the move that the code makes
  pub sound-setter_moves : (p : SetterPlace) → slice_get state.setters setter ≡ Some p → (p ≡ ToNotify → (notified everybody state.line).waiting ≡ []) → (to : SetterMove × Line) → from_setter p state.flag state.line ≡ Some to → IsSound (setter_goes setter state to)
  sound-setter_moves p at nobody to moves =
      subst (λ (o : Option (SetterMove × Line)). IfSome o (λ t. IsSound (setter_goes setter state t))) moves (sound-from_setter p at nobody)
    where
      sound-from_setter : (p : SetterPlace) → slice_get state.setters setter ≡ Some p → (p ≡ ToNotify → (notified everybody state.line).waiting ≡ []) → IfSome (from_setter p state.flag state.line) (λ t. IsSound (setter_goes setter state t))
      sound-from_setter ToSet at _ = sound-sets at
      sound-from_setter ToNotify at nobody = sound-notifies (nobody refl)
      sound-from_setter IsDone at _ = tt

-- the start

pub start-sound : (clients setters first : ℕ) → IsSound (start clients setters first)
start-sound clients setters first = record {
  served =
      subst (λ (ps : List Place). IsServed 0 0 ps (start clients setters first).line) (sym (places-same lock_place Check1 clients)) (served-start (First true) refl refl 0 0 false clients first);
  settled = λ flag. absurd (cc);
  kind = refl;
}
