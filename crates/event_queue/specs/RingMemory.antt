-- The memory of a ring. An edge from a to b is the cell of a that points forward and the cell of b that points back, so
-- unlinking takes cells apart by ownership alone, also where both neighbours are one node.
use Rattle.std.specs.Prelude.{ℕ, List, [], ◌∷◌, ◌++◌}
use base.Fraction.{full_share}
use base.Fml.{Lft, Fml, ftrue, fsep, feq, fwand}
use mir.Syntax.{Ty, ty_ptr, ty_struct, tcons, tnil}
use mir.Raw.{raw}
use prog.Memory.{align, up}
use denote.RattleType.{RattleType}
use denote.Memory.{lone}
use denote.Sharing.{nothing, beside}
use denote.RawPtr.{Ptr, RawPtr, null_ptr, lies_at, room_for, ◌+ₚ◌}
use denote.Struct.Lending.{lent_at}
use Rattle.std.specs.declared.alloc.Global.{Global}
use Rattle.std.specs.contracts.impls.GlobalAllocator.TheImpl.{ghosts}
use Rattle.event_queue.specs.Ring.{Placed, placed, places, first_place}

-- the two links of the node at p
abbrev pub next_of : Ptr → Ptr
next_of p = p +ₚ 0

abbrev pub previous_of : Ptr → Ptr
previous_of p = p +ₚ 8

-- room for both
abbrev pub link_room : Ptr → Fml
link_room p = fsep (room_for ty_ptr (next_of p)) (room_for ty_ptr (previous_of p))

-- a leads to b, and b back to a
abbrev pub edge : Ptr → Ptr → Fml
edge a b = fsep (lies_at RawPtr full_share (next_of a) b) (lies_at RawPtr full_share (previous_of b) a)

-- the edges from a along these places
abbrev pub path : Ptr → List Ptr → Fml
path a [] = ftrue
path a (p ∷ ps) = fsep (edge a p) (path p ps)

abbrev pub edge_lent : Ptr → Ptr → Lft → Fml
edge_lent a b = beside (lent_at RawPtr (next_of a) b) (lent_at RawPtr (previous_of b) a)

abbrev pub path_lent : Ptr → List Ptr → Lft → Fml
path_lent a [] = nothing
path_lent a (p ∷ ps) = beside (edge_lent a p) (path_lent p ps)

module _ (E : RattleType) where
  -- a node as the machine sees it
  abbrev pub node_type : Ty
  node_type = ty_struct [] (tcons ty_ptr (tcons ty_ptr (tcons (raw (lone E.mir)) tnil)))

  abbrev pub entry_offset : ℕ
  entry_offset = up (align (lone E.mir)) 16

  abbrev pub entry_of : Ptr → Ptr
  entry_of p = p +ₚ entry_offset

  abbrev pub entry_room : Ptr → Fml
  entry_room p = room_for (raw (lone E.mir)) (entry_of p)

  -- what is left of the block at p once its three cells are taken out
  abbrev pub rest_of_block : Ptr → Fml
  rest_of_block p = fwand (fsep (link_room p) (entry_room p)) (room_for node_type p)

  module _ (alloc : Global) where
    -- the right to give the block at p back
    abbrev pub block_owns : Ptr → Fml
    block_owns p = fsep (ghosts.dealloc_token alloc node_type p) (rest_of_block p)

    -- a node without its links
    abbrev pub node_owns : Placed E.Denot → Fml
    node_owns n = fsep (lies_at E full_share (entry_of n.at) n.entry) (block_owns n.at)

    abbrev pub nodes_own : List (Placed E.Denot) → Fml
    nodes_own [] = ftrue
    nodes_own (n ∷ ns) = fsep (node_owns n) (nodes_own ns)

    -- the edges from the root through the nodes and back, and the nodes
    abbrev pub ring_owns : Ptr → E.Denot → List (Placed E.Denot) → Fml
    ring_owns at entry ns = fsep (path at (places ns ++ at ∷ [])) (nodes_own (placed at entry ∷ ns))

    -- nodes in no ring: each leads to the next of them and the last to nowhere, and none leads back
    abbrev pub chain_owns : List (Placed E.Denot) → Fml
    chain_owns [] = ftrue
    chain_owns (n ∷ ns) = fsep (fsep (lies_at RawPtr full_share (next_of n.at) (first_place ns null_ptr)) (room_for ty_ptr (previous_of n.at))) (fsep (node_owns n) (chain_owns ns))

    -- the same, the first of which is at this pointer
    abbrev pub pile_owns : Ptr → List (Placed E.Denot) → Fml
    pile_owns top ns = fsep (feq Ptr top (first_place ns null_ptr)) (chain_owns ns)

  abbrev pub nodes_lent : List (Placed E.Denot) → Lft → Fml
  nodes_lent [] = nothing
  nodes_lent (n ∷ ns) = beside (lent_at E (entry_of n.at) n.entry) (nodes_lent ns)

  abbrev pub ring_lent : Ptr → E.Denot → List (Placed E.Denot) → Lft → Fml
  ring_lent at entry ns = beside (path_lent at (places ns ++ at ∷ [])) (nodes_lent (placed at entry ∷ ns))
