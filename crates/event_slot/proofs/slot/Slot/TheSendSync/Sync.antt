use denote.RattleType.{RattleType}
use denote.Param.Send.{IsSend, IsSync}
use Rattle.event_slot.specs.declared.rule.Ruled.{Ghosts}
use Rattle.event_slot.specs.contracts.slot.Slot.{the_row}
use Rattle.event_slot.proofs.Sent.{kept_keyless}

pub sync : (T Q V Y : RattleType) (g : Ghosts T.Denot Q.Denot V.Denot Y.Denot) → IsSend T → IsSend Q → IsSync T → IsSync (the_row T Q V Y g)
sync T Q V Y g s q y = record { shared = λ d b o κ. kept_keyless T s y Q q V.coded.code d.name g.counts (g.holds d.key) κ b o }
