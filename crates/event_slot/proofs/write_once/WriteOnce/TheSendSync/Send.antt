use denote.RattleType.{RattleType}
use denote.Param.Send.{IsSend}
use Rattle.event_slot.specs.declared.write_once.Fits.{Ghosts}
use Rattle.event_slot.specs.contracts.write_once.WriteOnce.{the_row}

pub send : (T Y : RattleType) (g : Ghosts T.Denot Y.Denot) → IsSend T → IsSend (the_row T Y g)
send T Y g s = record { owned = λ d vs. ((λ _. tt), λ z. ((λ vss. (tt, ((tt, tt), (s.owned z.1 vss.1.0, tt)))), λ _. tt)); leaving = λ k d w. tt }
