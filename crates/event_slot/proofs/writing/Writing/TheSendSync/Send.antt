use denote.RattleType.{RattleType}
use denote.Ref.{NamedLft}
use denote.Param.Send.{IsSend, IsSync}
use Rattle.event_slot.specs.declared.rule.Ruled.{Ghosts}
use Rattle.event_slot.specs.contracts.writing.Writing.{the_row}
use Rattle.event_slot.proofs.Sent.{writing_keyless}

pub send : (a : NamedLft) (T Q V Y : RattleType) (g : Ghosts T.Denot Q.Denot V.Denot Y.Denot) → IsSend T → IsSend Q → IsSync T → IsSend (the_row a T Q V Y g)
send a T Q V Y g s sq y = record { owned = λ d vs. ((λ vss. (tt, (tt, ((λ uss. (tt, tt)), tt)))), writing_keyless T s y Q sq V.coded.code d.name g.counts (g.holds d.key) a.lft d.slot d.value); leaving = λ k d w. tt }
