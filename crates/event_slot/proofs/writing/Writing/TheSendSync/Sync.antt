use denote.RattleType.{RattleType}
use denote.Ref.{NamedLft}
use denote.Param.Send.{IsSync, sendable}
use denote.Struct.Owning.{shape}
use Rattle.event_slot.specs.declared.rule.Ruled.{Ghosts}
use Rattle.event_slot.specs.contracts.writing.Writing.{the_type, the_row}
use Rattle.event_slot.proofs.Fields.{Pointing}
use Rattle.event_slot.proofs.Sent.{writing_common}

pub sync : (a : NamedLft) (T Q V Y : RattleType) (g : Ghosts T.Denot Q.Denot V.Denot Y.Denot) → IsSync T → IsSync (the_row a T Q V Y g)
sync a T Q V Y g y = let fields : IsSync (Pointing (shape (the_type a T Q V Y g)) a T) = search sendable depth 20 in
    record { shared = λ d b o κ. (fields.shared (d.slot, (tt, tt)) b o κ, writing_common a.lft T y d.slot d.value κ) }
