-- A `&` to a pile reaches no node. Assumes `Logic`.
use denote.RattleType.{RattleType}
use denote.Param.Laws.{Laws}
use denote.Param.Shared.{copy_shared}
use denote.SharingLaws.{nothing_shr_laws}
use denote.Struct.Field.{RawPtr-field}
use denote.Struct.Laws.{RawPtr-copy}
use denote.Struct.Lending.{of_Lends, Lends-nothing}
use Rattle.std.specs.contracts.alloc.Global as Heap
use Rattle.std.proofs.alloc.Global.TheLaws as heap
use Rattle.event_queue.specs.contracts.node.ring.pointers.Pile as C
use Rattle.event_queue.proofs.node.ring.pointers.Pile.TheLaw.Statement.{statement}

pub shares : (E : RattleType) (L : Laws E) → statement E L
shares E L = of_Lends (C.struct E) (C.the_codes E.Denot E.coded Heap.the_row.coded) (C.the_heap E) (C.the_lent E) (λ d p. nothing_shr_laws)
    (copy_shared RawPtr-field RawPtr-copy, (heap.the_field_shared, tt)) (λ M 𝓤 𝓛 d p. Lends-nothing 𝓛 (C.the_heap E d) (C.the_row E).lives)
