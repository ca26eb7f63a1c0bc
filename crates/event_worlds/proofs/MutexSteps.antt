-- Each step of the mutex world's table keeps the world's invariant.
use Rattle.std.proofs.Common.{◌≡◌, ℕ, zero, suc, ◌+◌, ◌≤◌, Bool, false, cond, set, replicate, slice_get, Option, Some, None, is_none, IfSome, refl, sym, ap, ◌∙◌, subst, inr, arith}
use Rattle.std.proofs.lemmas.Bool.{cond_both}
use Rattle.event_worlds.specs.declared.world.acts.Act.{Act}
use Rattle.event_worlds.specs.declared.world.acts.Act.TheVariants.{Go}
use Rattle.event_worlds.specs.declared.world.mutex.Move.{Move}
use Rattle.event_worlds.specs.declared.world.place.Place.{Place}
use Rattle.event_worlds.specs.declared.world.place.Place.TheVariants.{Idle, First, ToListen, Second, Ending, ToRegister, Holding, Releasing}
use Rattle.event_worlds.specs.ClientTable.{is_listening}
use Rattle.event_worlds.specs.Line.{Line, notified}
use Rattle.event_worlds.specs.Standing.{number}
use Rattle.event_worlds.specs.Served.{is_releasing, is_parked, MayBeAt}
use Rattle.event_worlds.specs.Waiting.{waits}
use Rattle.event_worlds.specs.Mutex.{MutexState, start, moved, tried, goes, from}
use Rattle.event_worlds.specs.MutexInvariant.{is_inside_at, free_of, IsSound}
use Rattle.event_worlds.proofs.InLineLemmas.{out_at}
use Rattle.event_worlds.proofs.MadeLemmas.{each_some}
use Rattle.event_worlds.proofs.PlaceLemmas.{number-set}
use Rattle.event_worlds.proofs.StandingLemmas.{notified-kind}
use Rattle.event_worlds.proofs.ServedSteps.{IsTry, first_try, second_try, served-owes, served-goes_on, served-gets, served-finds_none, served-waits, served-notified, served-start, Waited, waited, notified-one_told}
use Rattle.event_worlds.proofs.MutexParts.{free_is, holder-goes, holder-takes, holder-frees}

-- the lock can be taken once at most, and not at all where it is held

few_free : (holder : Option ℕ) → free_of holder ≤ 1
few_free None = omega arith
few_free (Some client) = omega arith

none_free : (holder : Option ℕ) → is_none holder ≡ false → free_of holder ≡ 0
none_free None taken = absurd (cc)
none_free (Some client) taken = refl

module _ (state : MutexState) (client : ℕ) (sound : IsSound state) (p : Place) (at : slice_get state.places client ≡ Some p) where
  abbrev free : ℕ
  free = free_of state.holder

  abbrev owed : ℕ
  owed = number is_releasing state.places

  abbrev owed_at : Place → ℕ
  owed_at q = number is_releasing (set state.places client q)

  abbrev Leads : Move × Line → Type 0
  Leads to = IsSound (goes client state to)

  -- who is about to listen is not in line
  pub may_be_at : MayBeAt p client state.line
  may_be_at listens =
      out_at is_listening is_parked state.places state.line sound.served.fit client p at (ap is_listening listens)

  owes_as_before : (q : Place) → is_releasing p ≡ false → owed ≤ owed_at q
  owes_as_before q not =
      let none : cond {A = ℕ} (is_releasing p) 1 0 ≡ 0 = ap (λ (b : Bool). cond {A = ℕ} b 1 0) not in
      omega (arith, number-set is_releasing state.places client p q at)

  sound-waits : (act : Act) (to : Place × Line) → waits act p client state.line ≡ Some to → Leads (moved state.holder to)
  sound-waits act to is =
      let keeps : Waited client p state.line to = waited client state.line act p to is in
      let served = served-waits free owed state.places state.line client sound.served act p at (inr (few_free state.holder)) to is in
      record {
        served = served-owes free owed free (owed_at to.0) (set state.places client to.0) to.1 (omega (arith, owes_as_before to.0 keeps.releasing)) served;
        inside = holder-goes state.places client p to.0 at state.holder keeps.inside sound.inside;
        one_told = keeps.one_told sound.kind sound.one_told;
        kind = keeps.kind ∙ sound.kind;
      }

  sound-tries : (got busy : Place) → IsTry p got busy → Leads (tried got busy client state.holder, state.line)
  sound-tries got busy try =
      cond_both (is_none state.holder) (record { holder = Some client; place = got }) (record { holder = state.holder; place = busy }) (λ (move : Move). Leads (move, state.line)) (λ unheld.
      let none = free_is state.holder unheld in
      let one = ap free_of none in
      record {
        served = served-gets free owed state.places state.line client sound.served p at got busy try 0 (owed_at got) (omega arith) (owes_as_before got try.releasing);
        inside = holder-takes state.places client p got at state.holder none try.got_inside sound.inside;
        one_told = sound.one_told;
        kind = sound.kind;
      }) (λ held. record {
        served = served-finds_none free owed state.places state.line client sound.served p at got busy try free (owed_at busy) (none_free state.holder held);
        inside = holder-goes state.places client p busy at state.holder (try.busy_inside ∙ sym try.inside) sound.inside;
        one_told = sound.one_told;
        kind = sound.kind;
      })

sound-frees : (state : MutexState) (client : ℕ) → IsSound state → slice_get state.places client ≡ Some Holding → IsSound (goes client state (moved None (Releasing, state.line)))
sound-frees state client sound at =
    let owes = number-set is_releasing state.places client Holding Releasing at in
    record {
      served = served-goes_on (free_of state.holder) (number is_releasing state.places) state.places state.line client sound.served Holding at Releasing 1 (number is_releasing (set state.places client Releasing)) refl refl refl refl (λ ways had. omega arith);
      inside = holder-frees state.places client Holding Releasing at state.holder refl refl sound.inside;
      one_told = sound.one_told;
      kind = sound.kind;
    }

sound-notifies : (state : MutexState) (client : ℕ) → IsSound state → slice_get state.places client ≡ Some Releasing → IsSound (goes client state (moved state.holder (Idle, notified 1 state.line)))
sound-notifies state client sound at =
    let owes = number-set is_releasing state.places client Releasing Idle at in
    let owed = number is_releasing (set state.places client Idle) in
    let free = free_of state.holder in
    record {
      served = served-notified free owed 1 (set state.places client Idle) state.line (inr (few_free state.holder)) (served-goes_on free (number is_releasing state.places) state.places state.line client sound.served Releasing at Idle free (owed + 1) refl refl refl refl (λ ways had. omega arith));
      inside = holder-goes state.places client Releasing Idle at state.holder refl sound.inside;
      one_told = notified-one_told state.line sound.kind sound.one_told;
      kind = notified-kind 1 state.line ∙ sound.kind;
    }

from-keeps : (act : Act) (p : Place) (state : MutexState) (client : ℕ) → IsSound state → slice_get state.places client ≡ Some p → IfSome (from act p client state.holder state.line) (λ to. IsSound (goes client state to))
from-keeps Go (First woken) state client sound at =
    sound-tries state client sound (First woken) at Holding ToListen (first_try woken)
from-keeps Go Second state client sound at = sound-tries state client sound Second at Ending ToRegister second_try
from-keeps Go Holding state client sound at = sound-frees state client sound at
from-keeps Go Releasing state client sound at = sound-notifies state client sound at
from-keeps act p state client sound at =
    each_some (moved state.holder) (λ (to : Move × Line). IsSound (goes client state to)) (waits act p client state.line) (sound-waits state client sound p at act)

-- what a step of the table leads to
pub sound-moves : (state : MutexState) (client : ℕ) → IsSound state → (p : Place) → slice_get state.places client ≡ Some p → (act : Act) (to : Move × Line) → from act p client state.holder state.line ≡ Some to → IsSound (goes client state to)
sound-moves state client sound p at act to is =
    subst (λ (o : Option (Move × Line)). IfSome o (λ to. IsSound (goes client state to))) is (from-keeps act p state client sound at)

-- the start

idle-outside : (clients client : ℕ) → false ≡ is_inside_at (slice_get (replicate clients Idle) client)
idle-outside zero client = refl
idle-outside (suc clients) zero = refl
idle-outside (suc clients) (suc client) = idle-outside clients client

pub start-sound : (clients first : ℕ) → IsSound (start clients first)
start-sound clients first = record {
  served = served-start Idle refl refl 1 (number is_releasing (replicate clients Idle)) false clients first;
  inside = idle-outside clients;
  one_told = omega arith;
  kind = refl;
}
