-- Equality of calls as the derive makes it is `same_call`.
use denote.RattleType.{RattleType}
use mir.Syntax.{Dict}
use Rattle.std.specs.declared.cmp.PartialEq.{Ghosts}
use Rattle.std.proofs.Common.{◌≡◌, refl}
use Rattle.event_listener.specs.declared.recorded.call.RecordedCall.{RecordedCall}
use Rattle.event_listener.specs.declared.recorded.call.RecordedCall.TheVariants as call
use Rattle.event_listener.specs.Closing.{same_call}
use Rattle.event_listener.specs.contracts.recorded.call.RecordedCallPartialEq.TheImpl.{ghosts}

module _ (row : RattleType) (bound : Ghosts row.Denot) (dict : Dict) where
  pub derived_same_call : (a b : RecordedCall row.Denot) → (ghosts row bound dict).eq a b ≡ same_call bound.eq a b
  derived_same_call call.Listen call.Listen = refl
  derived_same_call (call.Register key) (call.Register key') = refl
  derived_same_call (call.Remove key propagate) (call.Remove key' propagate') = refl
  derived_same_call (call.Notify count additional tag) (call.Notify count' additional' tag') = refl
  derived_same_call call.TotalListeners call.TotalListeners = refl
  derived_same_call call.IsNotified call.IsNotified = refl
  derived_same_call _ _ = refl
