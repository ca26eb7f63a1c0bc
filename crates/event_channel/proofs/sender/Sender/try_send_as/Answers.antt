use Rattle.std.proofs.Common.{refl, rules}
use Rattle.event_channel.specs.Places.{WaitsNowhere}
use Rattle.event_channel.proofs.PlaceLemmas.{led_nowhere}
use Rattle.event_channel.proofs.sender.Sender.try_send_as.Goals as goal

pub invariant_of-hand : goal.invariant_of-hand
invariant_of-hand g c =
    let here : WaitsNowhere c.hand.inside.hand.mark.view.mine = c.hand.invariant in
    let called = c.perform-end.ensures.call in
    led_nowhere _ _ _ _ _ _ called.2 (refl, refl) (Prim.search (rules))
