-- Each step of the semaphore world's table keeps the world's invariant.
use Rattle.std.proofs.Common.{◌≡◌, ℕ, ◌+◌, ◌-◌, ◌^◌, ◌<◌, true, false, nat_lt, List, set, slice_get, Option, Some, None, IfSome, option_map, refl, sym, ap, ◌∙◌, subst, inl, arith}
use Rattle.std.proofs.lemmas.List.{map-set}
use Rattle.std.proofs.lemmas.Bool.{cond_both}
use borrow.Author.Tests.{ltb-true, ltb-false}
use Rattle.event_worlds.specs.declared.world.acts.Act.{Act}
use Rattle.event_worlds.specs.declared.world.acts.Act.TheVariants as act
use Rattle.event_worlds.specs.declared.world.acts.SemAct.{SemAct}
use Rattle.event_worlds.specs.declared.world.acts.SemAct.TheVariants.{Go, More, TimeOut, Cancel}
use Rattle.event_worlds.specs.declared.world.place.Place.{Place}
use Rattle.event_worlds.specs.declared.world.place.Place.TheVariants.{Idle, First, ToListen, Second, Ending, ToRegister, Holding, Releasing}
use Rattle.event_worlds.specs.declared.world.semaphore.SemaphoreClient.{SemaphoreClient}
use Rattle.event_worlds.specs.declared.world.semaphore.SemaphoreMove.{SemaphoreMove}
use Rattle.event_worlds.specs.ClientTable.{is_listening}
use Rattle.event_worlds.specs.Line.{Line, notified}
use Rattle.event_worlds.specs.Served.{is_inside, is_releasing, is_parked, IsServed, MayBeAt}
use Rattle.event_worlds.specs.Waiting.{waits}
use Rattle.event_worlds.specs.Semaphore.{SemaphoreState, start, idle, moved, tried, took_more, freed, paid, from, goes}
use Rattle.event_worlds.specs.SemaphoreSafety.{place_of, places_of, all_owed}
use Rattle.event_worlds.specs.SemaphoreInvariant.{OwnFits, IsSound}
use Rattle.event_worlds.proofs.InLineLemmas.{out_at}
use Rattle.event_worlds.proofs.MadeLemmas.{each_some}
use Rattle.event_worlds.proofs.PlacedClients.{place-at, places-same, sum-set, sum-same, part-le-sum, all-set, all-at, all-same}
use Rattle.event_worlds.proofs.ServedSteps.{IsTry, first_try, second_try, served-owes, served-goes_on, served-gets, served-finds_none, served-waits, served-notified, served-start, Waited, waited}
use Rattle.event_worlds.proofs.StandingLemmas.{notified-kind}

module _ (state : SemaphoreState) (client : ℕ) (sound : IsSound state) (own : SemaphoreClient) (at : slice_get state.clients client ≡ Some own) where
  fits : OwnFits own
  fits = all-at OwnFits state.clients client own at sound.owns

  abbrev places : List Place
  places = places_of state.clients

  abbrev Leads : SemaphoreMove × Line → Type 0
  Leads to = IsSound (goes client state to)

  at_place : slice_get places client ≡ Some own.place
  at_place = place-at place_of state.clients client own at

  -- who is about to listen is not in line
  pub may_be_at : MayBeAt own.place client state.line
  may_be_at listens =
      out_at is_listening is_parked places state.line sound.served.fit client own.place at_place (ap is_listening listens)

  -- what it holds and what is free are permits
  pub permits_fit : state.permits < 2 ^ 64 → state.free + own.held < 2 ^ 64
  permits_fit few = omega (arith, part-le-sum {C = SemaphoreClient} (λ c. c.held) state.clients client own at, sound.added)

  -- the client, the free permits and the line have changed
  sound-goes : (move : SemaphoreMove) (line : Line) → ((owed : ℕ) → owed + own.owed ≡ all_owed state + move.own.owed → IsServed move.free owed (set places client move.own.place) line) → move.free + move.own.held ≡ state.free + own.held → OwnFits move.own → line.additional ≡ true → Leads (move, line)
  sound-goes move line served kept fits_new kind =
      let owes = sum-set {C = SemaphoreClient} (λ c. c.owed) state.clients client own move.own at in
      let holds = sum-set {C = SemaphoreClient} (λ c. c.held) state.clients client own move.own at in
      record {
        served =
            subst (λ (ps : List Place). IsServed move.free (all_owed (goes client state (move, line))) ps line) (sym (map-set place_of state.clients client move.own)) (served (all_owed (goes client state (move, line))) owes);
        added = omega (arith, sound.added);
        owns = all-set OwnFits state.clients client own move.own at sound.owns fits_new;
        kind = kind;
      }

  sound-waits : (act : Act) (to : Place × Line) → waits act own.place client state.line ≡ Some to → Leads (moved own state.free to)
  sound-waits act to is =
      let keeps : Waited client own.place state.line to = waited client state.line act own.place to is in
      let served = served-waits state.free (all_owed state) places state.line client sound.served act own.place at_place (inl sound.kind) to is in
      let none = fits.owed keeps.releasing in
      sound-goes (record { own = record own { place = to.0 }; free = state.free }) to.1 (λ owed same. served-owes state.free (all_owed state) state.free owed (set places client to.0) to.1 (omega arith) served) refl (record {
        held = λ outside. fits.held (sym keeps.inside ∙ outside);
        owed = λ _. none;
      }) (keeps.kind ∙ sound.kind)

  sound-tries : (got busy : Place) → IsTry own.place got busy → Leads (tried got busy own state.free, state.line)
  sound-tries got busy try =
      let holds_none = fits.held try.inside in
      let owes_none = fits.owed try.releasing in
      cond_both (nat_lt 0 state.free) (record { own = record own { place = got; held = 1 }; free = state.free - 1 }) (record { own = record own { place = busy }; free = state.free }) (λ (move : SemaphoreMove). Leads (move, state.line)) (λ some.
      let left = ltb-true 0 state.free some in
      sound-goes (record { own = record own { place = got; held = 1 }; free = state.free - 1 }) state.line (λ owed same. served-gets state.free (all_owed state) places state.line client sound.served own.place at_place got busy try (state.free - 1) owed (omega arith) (omega arith)) (omega arith) (record {
        held = λ out. absurd (cc);
        owed = λ _. owes_none;
      }) sound.kind) (λ none.
      let gone = ltb-false 0 state.free none in
      sound-goes (record { own = record own { place = busy }; free = state.free }) state.line (λ owed same. served-finds_none state.free (all_owed state) places state.line client sound.served own.place at_place got busy try state.free owed (omega arith)) refl (record {
        held = λ _. holds_none;
        owed = λ _. owes_none;
      }) sound.kind)

  -- a client that holds permits, or notifies of them

  module _ (p : Place) (is : own.place ≡ p) where
    there : slice_get places client ≡ Some p
    there = at_place ∙ ap (λ (q : Place). Some q) is

    owes_none : is_releasing p ≡ false → own.owed ≡ 0
    owes_none not = fits.owed (ap is_releasing is ∙ not)

    holds_none : is_inside p ≡ false → own.held ≡ 0
    holds_none outside = fits.held (ap is_inside is ∙ outside)

  sound-takes_more : own.place ≡ Holding → IfSome (from More Holding client own state.free state.line) Leads
  sound-takes_more is =
      cond_both (nat_lt 0 state.free) (Some (took_more own state.free, state.line)) None (λ (o : Option (SemaphoreMove × Line)). IfSome o Leads) (λ some.
      let left = ltb-true 0 state.free some in
      sound-goes (took_more own state.free) state.line (λ owed same. subst (λ (q : Place). IsServed (state.free - 1) owed (set places client q) state.line) (sym is) (served-goes_on state.free (all_owed state) places state.line client sound.served Holding (there Holding is) Holding (state.free - 1) owed refl refl refl refl (λ ways had. omega arith))) (omega arith) (record {
        held = λ outside. let inside = ap is_inside is in absurd (cc);
        owed = λ _. owes_none Holding is refl;
      }) sound.kind) (λ _. tt)

  sound-frees : own.place ≡ Holding → Leads (freed Releasing own state.free, state.line)
  sound-frees is =
      let none = owes_none Holding is refl in
      sound-goes (freed Releasing own state.free) state.line (λ owed same. served-goes_on state.free (all_owed state) places state.line client sound.served Holding (there Holding is) Releasing (state.free + own.held) owed refl refl refl refl (λ ways had. omega arith)) (omega arith) (record {
        held = λ _. refl;
        owed = λ not. absurd (cc);
      }) sound.kind

  sound-notifies : own.place ≡ Releasing → Leads (paid Idle own state.free, notified own.owed state.line)
  sound-notifies is =
      let none = holds_none Releasing is refl in
      sound-goes (paid Idle own state.free) (notified own.owed state.line) (λ owed same. served-notified state.free owed own.owed (set places client Idle) state.line (inl sound.kind) (served-goes_on state.free (all_owed state) places state.line client sound.served Releasing (there Releasing is) Idle state.free (owed + own.owed) refl refl refl refl (λ ways had. omega arith))) refl (record {
        held = λ _. none;
        owed = λ _. refl;
      }) (notified-kind own.owed state.line ∙ sound.kind)

  all_wait : (act : Act) (p : Place) → own.place ≡ p → IfSome (option_map (moved own state.free) (waits act p client state.line)) Leads
  all_wait act p is =
      subst (λ (q : Place). IfSome (option_map (moved own state.free) (waits act q client state.line)) Leads) is (each_some (moved own state.free) Leads (waits act own.place client state.line) (sound-waits act))

  all_try : (p got busy : Place) → own.place ≡ p → IsTry p got busy → Leads (tried got busy own state.free, state.line)
  all_try p got busy is try = sound-tries got busy (subst (λ (q : Place). IsTry q got busy) (sym is) try)

  from-keeps : (act : SemAct) (p : Place) → own.place ≡ p → IfSome (from act p client own state.free state.line) Leads
  from-keeps Go (First woken) is = all_try (First woken) Holding ToListen is (first_try woken)
  from-keeps Go Second is = all_try Second Ending ToRegister is second_try
  from-keeps Go Holding is = sound-frees is
  from-keeps Go Releasing is = sound-notifies is
  from-keeps More Holding is = sound-takes_more is
  from-keeps More _ is = tt
  from-keeps Go p is = all_wait act.Go p is
  from-keeps TimeOut p is = all_wait act.TimeOut p is
  from-keeps Cancel p is = all_wait act.Cancel p is

  -- what a step of the table leads to
  pub sound-moves : (act : SemAct) (to : SemaphoreMove × Line) → from act own.place client own state.free state.line ≡ Some to → Leads to
  sound-moves act to is =
      subst (λ (o : Option (SemaphoreMove × Line)). IfSome o Leads) is (from-keeps act own.place refl)

-- the start

pub start-sound : (clients permits : ℕ) → IsSound (start clients permits)
start-sound clients permits = record {
  served =
      subst (λ (ps : List Place). IsServed permits (all_owed (start clients permits)) ps (start clients permits).line) (sym (places-same place_of idle clients)) (served-start Idle refl refl permits (all_owed (start clients permits)) true clients 0);
  added = omega (arith, sum-same {C = SemaphoreClient} (λ c. c.held) idle clients refl);
  owns = all-same OwnFits idle (record { held = λ _. refl; owed = λ _. refl }) clients;
  kind = refl;
}
