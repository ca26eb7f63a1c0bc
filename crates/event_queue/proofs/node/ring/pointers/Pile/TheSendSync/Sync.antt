use denote.RattleType.{RattleType}
use denote.Param.Send.{IsSync}
use Rattle.event_queue.proofs.Ring.Crossing.{Pile-sync}
use Rattle.event_queue.specs.contracts.node.ring.pointers.Pile.{the_row}

pub sync : (E : RattleType) → IsSync E → IsSync (the_row E)
sync E y = Pile-sync E
