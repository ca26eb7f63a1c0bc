use denote.RattleType.{RattleType}
use denote.Param.Send.{IsSend, struct_send}
use denote.Struct.Declared as declared
use Rattle.event_slot.specs.contracts.exclusive.Exclusive.{the_row}
use Rattle.event_slot.specs.contracts.exclusive.Exclusive.TheInside as Inside

pub send : (T : RattleType) → IsSend T → IsSend (the_row T)
send T s = record {
  owned = λ d vs. ((λ _. tt), (struct_send (declared.shape (Inside.the_type T)) (s, tt)).owned (d, tt) vs);
  leaving = λ k d w. tt;
}
