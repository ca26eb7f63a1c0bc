use denote.RattleType.{RattleType}
use denote.Param.Send.{IsSync}
use Rattle.event_slot.specs.contracts.exclusive.Exclusive.{the_row}

pub sync : (T : RattleType) → IsSync (the_row T)
sync T = record { shared = λ t b o κ. tt }
