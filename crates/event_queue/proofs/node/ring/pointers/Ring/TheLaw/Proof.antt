-- A `&` to the ring reaches each link and what each node carries. Assumes `Logic`.
use mathlib.Core.List.{[], ◌++◌}
use base.Fml.{Incl-trans}
use contract.BorrowLft.{meet_⊑_left}
use denote.RattleType.{RattleType}
use denote.Param.Laws.{Laws}
use denote.Param.Shared.{copy_shared}
use denote.Struct.Field.{RawPtr-field}
use denote.Struct.Laws.{RawPtr-copy}
use denote.Struct.Lending.{of_Lends}
use Rattle.std.specs.contracts.alloc.Global as Heap
use Rattle.std.proofs.alloc.Global.TheLaws as heap
use Rattle.event_queue.specs.contracts.node.ring.pointers.Ring as C
use Rattle.event_queue.proofs.node.ring.pointers.Ring.TheLaw.Statement.{statement}
use Rattle.event_queue.proofs.Ring.Sharing.{ring_lent_laws, Lends-ring}

pub shares : (E : RattleType) (L : Laws E) → statement E L
shares E L = of_Lends (C.struct E) (C.the_codes E.Denot E.coded Heap.the_row.coded) (C.the_heap E) (C.the_lent E)
    (λ d p. ring_lent_laws E L.shr_laws d.at d.entry d.nodes) (copy_shared RawPtr-field RawPtr-copy, (heap.the_field_shared, tt))
    (λ M 𝓤 𝓛 d p. Lends-ring 𝓛 (C.the_row E).lives E L d.alloc (Incl-trans (meet_⊑_left (E.lives ++ []) _) (meet_⊑_left E.lives [])) d.at d.entry d.nodes)
