-- From what a step makes of the fields that a world is made of to what it makes of the world's value.
use Rattle.std.proofs.Common.{◌≡◌, true, false, Option, Some, None, IfSome, refl, sym, ap, ◌∙◌, subst}
use Rattle.std.specs.Prelude.{option_and_then, option_map}
use Rattle.event_worlds.specs.Steps.{Takes}

-- a step that is one, and a step that is none

is_taken : {S : Type 0} (step : Option S) (old new : S) → step ≡ Some new → Takes step old true new
is_taken {S = S} step old new is = subst (λ (o : Option S). Takes o old true new) (sym is) (record { state = refl; answer = refl })

pub none_taken : {S : Type 0} (step : Option S) (old new : S) → step ≡ None → new ≡ old → Takes step old false new
none_taken {S = S} step old new is same =
    subst (λ (o : Option S). Takes o old false new) (sym is) (record { state = same; answer = refl })

module _ {S C T : Type 0} (goes : C → T → S) (from : C → Option T) (read : Option C) (own : C) (at : read ≡ Some own) (old : S) where
  abbrev step : Option S
  step = option_and_then (λ c. option_map (goes c) (from c)) read

  step_is : step ≡ option_map (goes own) (from own)
  step_is = ap (λ (o : Option C). option_and_then (λ c. option_map (goes c) (from c)) o) at

  pub takes : (to : T) → from own ≡ Some to → Takes step old true (goes own to)
  takes to is = is_taken step old (goes own to) (step_is ∙ ap (λ (o : Option T). option_map (goes own) o) is)

  pub stays : (new : S) → from own ≡ None → new ≡ old → Takes step old false new
  stays new is same = none_taken step old new (step_is ∙ ap (λ (o : Option T). option_map (goes own) o) is) same

-- what holds of each thing that a step may lead to
pub each_some : {X Y : Type 0} (f : X → Y) (P : Y → Type 0) (o : Option X) → ((x : X) → o ≡ Some x → P (f x)) → IfSome (option_map f o) P
each_some f P None each = tt
each_some f P (Some x) each = each x refl
