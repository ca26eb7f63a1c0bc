use Rattle.std.proofs.Common.{refl}
use Rattle.event_channel.proofs.PlaceLemmas.{still_nowhere}
use Rattle.event_channel.proofs.channel.Channel.close.Goals as goal

pub invariant_of-hand : goal.invariant_of-hand
invariant_of-hand g c = still_nowhere _ _ _ _ c.call.ensures.call (refl, refl) c.hand.invariant
