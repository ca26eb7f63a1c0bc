use denote.RattleType.{RattleType}
use denote.Ref.{NamedLft}
use denote.Param.Send.{IsSync, sendable}
use denote.Struct.Owning.{shape}
use Rattle.event_slot.specs.declared.tied.Ties.{Ghosts as Tying}
use Rattle.event_slot.proofs.Fields.{Carrying}
use Rattle.event_slot.proofs.Sent.{inner_common}
use Rattle.event_word.specs.declared.word.kept.Kept.{Ghosts}
use Rattle.event_word.specs.contracts.word.writer.Writer.{the_type, the_row}
use Rattle.event_word.proofs.Placing.{Row}

pub sync : (a : NamedLft) (T Q B : RattleType) (g : Ghosts Q.Denot) (h : Tying B.Denot) → IsSync T → IsSync B → IsSync (the_row a T Q B g h)
sync a T Q B g h y z = let fields : IsSync (Carrying (shape (the_type a T Q B g h)) a (Row T) B) = search sendable depth 20 in
    record { shared = λ d b o κ. (fields.shared (d.slot, (tt, (d.beside, tt))) b o κ, inner_common a.lft T y (Row T) d.slot d.value κ) }
