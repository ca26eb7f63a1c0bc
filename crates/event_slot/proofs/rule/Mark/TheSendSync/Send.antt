use denote.RattleType.{RattleType}
use denote.Param.Send.{IsSend}
use types.Keyed.{entry_keyless}
use Rattle.atomic_table.specs.Seated.{halved}
use Rattle.event_slot.specs.contracts.rule.Mark.{the_row}

pub send : (V : RattleType) → IsSend (the_row V)
send V = record { owned = λ d vs. ((λ vss. (tt, ((λ uss. (tt, tt)), tt))), entry_keyless halved d.slot d.id _); leaving = λ k f vs. tt }
