use denote.RattleType.{RattleType}
use denote.Param.Send.{IsSend}
use Rattle.atomic_table.proofs.Sent.{roster_keyless}
use Rattle.event_slot.specs.declared.rule.Ruled.{Ghosts}
use Rattle.event_slot.specs.contracts.slot.Slot.{the_row}

pub send : (T Q V Y : RattleType) (g : Ghosts T.Denot Q.Denot V.Denot Y.Denot) → IsSend T → IsSend Q → IsSend (the_row T Q V Y g)
send T Q V Y g s y = record { owned = λ d vs. ((λ _. tt), λ z. ((λ vss. (tt, ((tt, tt), (s.owned z.1 vss.1.0, (y.owned z.2 vss.1.1.0, tt))))), λ p. ((λ _. tt), (roster_keyless V.coded.code d.name 0 p.1, λ _. tt)))); leaving = λ k d w. tt }
