-- A node's block is cut into room for its three cells and what is left of it, and made of them again. Assumes `Logic`.
use Prim.Native.Nat.{ℕ, ◌+◌}
use mathlib.Core.List.{[], ◌∷◌}
use seplogic.Ra.Ura.{Ura}
use mir.Syntax.{Tys, Sym, ty_ptr, ty_struct, tcons, tnil}
use base.Logic.{SProp, ent, sep, wand, apply∗}
use base.Fml.{Fml, ftrue, fsep, froom}
use prog.Model.{rooms_at}
use types.Logic.{Logic, sem}
use types.Kit.{‵, raw, ◌⊛◌, ◌$◌, ◌∵◌, !, qed, by, move, drop, use1, use2, group, split, split3, assume, fsplit, fjoin, done}
use denote.RattleType.{RattleType}
use denote.Param.{param, layout}
use denote.RawPtr.{Ptr, block_ptr}
use denote.Steps.{nothing}
use Rattle.std.proofs.RawLayout.{as_raw, as_written}
use Rattle.std.specs.contracts.alloc.Global as Heap
use Rattle.std.specs.contracts.impls.GlobalAllocator.TheImpl.{ghosts}
use Rattle.std_alloc.specs.contracts.room.vacant.Vacant as vacant_room
use Rattle.event_queue.specs.RingMemory.{link_room, node_type, entry_offset, entry_room, rest_of_block}
use Rattle.event_queue.specs.contracts.node.ring.pointers.Node as node

-- a block with nothing in it, as the heap gives it
abbrev pub Room : RattleType → RattleType
Room R = vacant_room.the_row (node.the_row R) Heap.the_row ghosts

module _ (X : RattleType) {M : Type 1} {𝓤 : Ura M} (𝓛 : Logic 𝓤) (b o : ℕ) where
  open 𝓛 use {H}

  abbrev R : RattleType
  R = param 0 X

  abbrev p : Ptr
  p = block_ptr b o

  abbrev ν : Sym
  ν = (node.the_type R).name

  abbrev fields : Tys
  fields = tcons ty_ptr (tcons ty_ptr (tcons (layout X) tnil))

  abbrev Cells : Fml
  Cells = fsep (link_room p) (entry_room R p)

  abbrev Joins : SProp 𝓤
  Joins = wand 𝓤 (rooms_at 𝓤 H fields 0 b o) (H.room (ty_struct ν fields) b o)

  rest_from_joins : ent 𝓤 Joins (sem 𝓛 (rest_of_block R p))
  rest_from_joins =
      qed 𝓛 (raw Joins ∷ []) ∵ assume ! (‵ Cells) $ fsplit ! $ fsplit ! $ move ! (2 ∷ []) $ as_written ! (layout X) b (o + entry_offset R) $ nothing ! $ move ! (2 ∷ 3 ∷ 1 ∷ 0 ∷ []) $ group ! 4 $
      use2 𝓛 (‵ (froom (ty_struct ν fields) b o)) (apply∗ 𝓤 (rooms_at 𝓤 H fields 0 b o) (H.room (ty_struct ν fields) b o)) $ by ! (𝓛.laws.room-raw (ty_struct ν fields) b o)

  pub block_cut : ent 𝓤 (H.room (node_type R) b o) (sep 𝓤 (sem 𝓛 Cells) (sem 𝓛 (rest_of_block R p)))
  block_cut =
      qed 𝓛 (‵ (froom (node_type R) b o) ∷ []) ∵ as_written ! (ty_struct ν fields) b o $
      use1 𝓛 ((‵ (froom ty_ptr b (o + 0)) ⊛ ‵ (froom ty_ptr b (o + 8)) ⊛ ‵ (froom (layout X) b (o + entry_offset R)) ⊛ ‵ ftrue) ⊛ raw Joins)
      (𝓛.laws.room_fields ν fields b o) $ split ! $ split3 ! $ move ! (2 ∷ []) $ split ! $ as_raw ! (layout X) b (o + entry_offset R) $ move ! (1 ∷ []) $ drop ! $
      move ! (1 ∷ 2 ∷ []) $ fjoin ! $ fjoin ! $ move ! (1 ∷ []) $ use1 𝓛 (‵ (rest_of_block R p)) rest_from_joins $ move ! (1 ∷ []) $ done !

  pub block_glue : ent 𝓤 (sep 𝓤 (sem 𝓛 Cells) (sem 𝓛 (rest_of_block R p))) (H.room (node_type R) b o)
  block_glue = apply∗ 𝓤 (sem 𝓛 Cells) (H.room (node_type R) b o)
