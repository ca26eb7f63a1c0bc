use mathlib.Core.List.{◌∷◌, ◌++◌}
use denote.RattleType.{RattleType}
use denote.Param.Send.{IsSync, sendable}
use denote.Struct.Owning.{shape}
use denote.Struct.Struct.{Struct}
use Rattle.std.specs.contracts.alloc.Global as Heap
use Rattle.std.specs.contracts.impls.GlobalAllocator.TheImpl.{ghosts}
use Rattle.event_slot.specs.declared.exclusive.Exclusive as Exclusive
use Rattle.event_slot.specs.declared.owned.Inside.{Ghosts as Insides}
use Rattle.event_slot.specs.contracts.leased.Leased as leased
use Rattle.event_slot.proofs.Sent.{inner_common, leased_sync}
use Rattle.event_word.specs.declared.word.kept.Kept.{Ghosts}
use Rattle.event_word.specs.declared.word.rule.Place as Place
use Rattle.event_word.specs.declared.word.rule.View as View
use Rattle.event_word.specs.contracts.word.writer_arc.WriterArc.{the_type, the_row}
use Rattle.event_word.proofs.Placing.{Row}

pub sync : (P T Q : RattleType) (h : Insides P.Denot (Place.Place (Exclusive.Exclusive T.Denot)) Q.Denot View.View (Unit {0})) (g : Ghosts Q.Denot) → IsSync T → IsSync (the_row P T Q h g)
sync P T Q h g y = let z : IsSync (leased.the_row P Heap.the_row ghosts) = leased_sync P Heap.the_row ghosts in let fields : IsSync (Struct (shape (the_type P T Q h g))) = search sendable depth 20 in
    record { shared = λ d b o κ. (fields.shared (d.slot, (d.arc, tt)) b o κ, ((λ q. tt), inner_common (d.arc.life ∷ (P.lives ++ ((Row T).lives ++ Q.lives))) T y (Row T) d.slot d.value κ)) }
