use denote.RattleType.{RattleType}
use denote.Param.Send.{IsSync}
use Rattle.std.specs.declared.alloc.Allocator.{Ghosts}
use Rattle.event_slot.specs.contracts.leased.Leased.{the_row}
use Rattle.event_slot.proofs.Sent.{leased_sync}

pub sync : (T A : RattleType) (g : Ghosts A.Denot) → IsSync (the_row T A g)
sync T A g = leased_sync T A g
