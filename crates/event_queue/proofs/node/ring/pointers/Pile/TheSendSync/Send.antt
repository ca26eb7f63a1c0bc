use denote.RattleType.{RattleType}
use denote.Param.Send.{IsSend}
use Rattle.event_queue.proofs.Ring.Crossing.{Pile-send}
use Rattle.event_queue.specs.contracts.node.ring.pointers.Pile.{the_row}

pub send : (E : RattleType) → IsSend E → IsSend (the_row E)
send = Pile-send
