use mathlib.Core.List.{◌++◌}
use denote.RattleType.{RattleType}
use denote.Param.Send.{IsSync, sendable}
use denote.Struct.Owning.{shape}
use denote.Struct.Struct.{Struct}
use Rattle.std.specs.declared.alloc.Allocator.{Ghosts as Freeing}
use Rattle.event_slot.specs.declared.rule.Ruled.{Ghosts}
use Rattle.event_slot.specs.contracts.leased.Leased as leased
use Rattle.event_slot.specs.contracts.owned.Owned.{the_type, the_row}
use Rattle.event_slot.proofs.Sent.{owned_common, leased_sync}

pub sync : (T X Q A V Y : RattleType) (g : Ghosts X.Denot Q.Denot V.Denot Y.Denot) (f : Freeing A.Denot) → IsSync X → IsSync (the_row T X Q A V Y g f)
sync T X Q A V Y g f y = let z : IsSync (leased.the_row T A f) = leased_sync T A f in let fields : IsSync (Struct (shape (the_type T X Q A V Y g f))) = search sendable depth 20 in
    record { shared = λ d b o κ. (fields.shared (d.slot, (d.arc, tt)) b o κ, owned_common X y (T.lives ++ (X.lives ++ Q.lives)) d.arc.life d.slot d.right d.value d.state κ) }
