use denote.RattleType.{RattleType}
use denote.Param.Send.{IsSend}
use Rattle.event_slot.specs.contracts.rest.Rest.{the_row}
use Rattle.event_slot.proofs.Sent.{rest_keyless}

pub send : (V : RattleType) → IsSend (the_row V)
send V = record { owned = λ d vs. ((λ vss. (tt, ((λ uss. (tt, tt)), tt))), rest_keyless V.coded.code d.slot d.id d.views); leaving = λ k f vs. tt }
