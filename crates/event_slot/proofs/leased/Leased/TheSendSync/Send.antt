use denote.RattleType.{RattleType}
use denote.Param.Send.{IsSend, IsSync, Frees}
use Rattle.std.specs.declared.alloc.Allocator.{Ghosts}
use Rattle.event_slot.specs.contracts.leased.Leased.{the_row}
use Rattle.event_slot.proofs.Sent.{leased_send}

pub send : (T A : RattleType) (g : Ghosts A.Denot) → IsSend T → IsSend A → IsSync T → IsSync A → Frees g g.dealloc_token → IsSend (the_row T A g)
send T A g s sa y ya f = leased_send T A g s sa y ya f
