use denote.RattleType.{RattleType}
use denote.Ref.{NamedLft}
use denote.Param.Send.{IsSync, sendable}
use denote.Struct.Owning.{shape}
use Rattle.event_slot.specs.declared.rule.Ruled.{Ghosts}
use Rattle.event_slot.specs.declared.tied.Ties.{Ghosts as Tying}
use Rattle.event_slot.specs.contracts.tied.Tied.{the_type, the_row}
use Rattle.event_slot.proofs.Fields.{Carrying}
use Rattle.event_slot.proofs.Sent.{writing_common}

pub sync : (a : NamedLft) (T Q B V Y : RattleType) (g : Ghosts T.Denot Q.Denot V.Denot Y.Denot) (h : Tying B.Denot) → IsSync T → IsSync B → IsSync (the_row a T Q B V Y g h)
sync a T Q B V Y g h y z = let fields : IsSync (Carrying (shape (the_type a T Q B V Y g h)) a T B) = search sendable depth 20 in
    record { shared = λ d b o κ. (fields.shared (d.slot, (tt, (d.beside, tt))) b o κ, writing_common a.lft T y d.slot d.value κ) }
