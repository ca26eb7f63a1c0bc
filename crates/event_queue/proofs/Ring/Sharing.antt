-- A `&` to a ring reaches each link and what each node carries. Assumes `Logic`.
use mathlib.Core.List.{List, [], ◌∷◌, ◌++◌}
use seplogic.Ra.Ura.{Ura}
use base.Fraction.{full_share}
use base.Fml.{Lft, Incl, ftrue}
use contract.BorrowLft.{⊑_static}
use types.Logic.{Logic}
use denote.RattleType.{RattleType, RowLaws}
use denote.Param.Laws.{Laws}
use denote.Param.Shared.{copy_shared}
use denote.RawPtr.{Ptr, RawPtr, lies_at, ptr_row_laws}
use denote.Sharing.{ShrLaws}
use denote.SharingLaws.{beside_shr_laws, nothing_shr_laws}
use denote.Shares.{Shares-less}
use denote.Struct.Field.{RawPtr-field}
use denote.Struct.Laws.{RawPtr-copy}
use denote.Struct.Lending.{Lends, lent_at, lent_at_shr_laws, Lends-lies, Lends-first, Lends-both, Lends-nothing}
use Rattle.std.specs.declared.alloc.Global.{Global}
use Rattle.event_queue.specs.Ring.{Placed, placed, places}
use Rattle.event_queue.specs.RingMemory.{next_of, previous_of, edge, path, edge_lent, path_lent, entry_of, block_owns, node_owns, nodes_own, ring_owns, nodes_lent, ring_lent}

path_lent_laws : (a : Ptr) (ps : List Ptr) → ShrLaws (path_lent a ps)
path_lent_laws a [] = nothing_shr_laws
path_lent_laws a (p ∷ ps) = beside_shr_laws _ _ (beside_shr_laws _ _ (lent_at_shr_laws RawPtr ptr_row_laws (next_of a) p) (lent_at_shr_laws RawPtr ptr_row_laws (previous_of p) a))
    (path_lent_laws p ps)

module _ (E : RattleType) (L : RowLaws E) where
  nodes_lent_laws : (ns : List (Placed E.Denot)) → ShrLaws (nodes_lent E ns)
  nodes_lent_laws [] = nothing_shr_laws
  nodes_lent_laws (n ∷ ns) = beside_shr_laws _ _ (lent_at_shr_laws E L (entry_of E n.at) n.entry) (nodes_lent_laws ns)

  pub ring_lent_laws : (at : Ptr) (entry : E.Denot) (ns : List (Placed E.Denot)) → ShrLaws (ring_lent E at entry ns)
  ring_lent_laws at entry ns = beside_shr_laws _ _ (path_lent_laws at (places ns ++ at ∷ [])) (nodes_lent_laws (placed at entry ∷ ns))

module _ {M : Type 1} {𝓤 : Ura M} (𝓛 : Logic 𝓤) (l : Lft) where
  Lends-link : (p x : Ptr) → Lends 𝓛 (lies_at RawPtr full_share p x) (lent_at RawPtr p x) l
  Lends-link p x = Lends-lies 𝓛 RawPtr l p x (Shares-less 𝓛 RawPtr [] l (⊑_static l) ((copy_shared RawPtr-field RawPtr-copy).shares M 𝓤 𝓛) x)

  Lends-path : (a : Ptr) (ps : List Ptr) → Lends 𝓛 (path a ps) (path_lent a ps) l
  Lends-path a [] = Lends-nothing 𝓛 ftrue l
  Lends-path a (p ∷ ps) =
      Lends-both 𝓛 (edge a p) (path p ps) (edge_lent a p) (path_lent p ps) l
      (Lends-both 𝓛 _ _ (lent_at RawPtr (next_of a) p) (lent_at RawPtr (previous_of p) a) l (Lends-link (next_of a) p) (Lends-link (previous_of p) a)) (Lends-path p ps)

  module _ (E : RattleType) (L : Laws E) (alloc : Global) (inc : Incl l E.lives) where
    Lends-nodes : (ns : List (Placed E.Denot)) → Lends 𝓛 (nodes_own E alloc ns) (nodes_lent E ns) l
    Lends-nodes [] = Lends-nothing 𝓛 ftrue l
    Lends-nodes (n ∷ ns) = Lends-both 𝓛 (node_owns E alloc n) (nodes_own E alloc ns) (lent_at E (entry_of E n.at) n.entry) (nodes_lent E ns) l
        (Lends-first 𝓛 (lies_at E full_share (entry_of E n.at) n.entry) (block_owns E alloc n.at) (lent_at E (entry_of E n.at) n.entry) l
        (Lends-lies 𝓛 E l (entry_of E n.at) n.entry (Shares-less 𝓛 E E.lives l inc (L.shares 𝓛) n.entry)))
        (Lends-nodes ns)

    pub Lends-ring : (at : Ptr) (entry : E.Denot) (ns : List (Placed E.Denot)) → Lends 𝓛 (ring_owns E alloc at entry ns) (ring_lent E at entry ns) l
    Lends-ring at entry ns =
        let ps = places ns ++ at ∷ [] in let all = placed at entry ∷ ns in
        Lends-both 𝓛 (path at ps) (nodes_own E alloc all) (path_lent at ps) (nodes_lent E all) l (Lends-path at ps) (Lends-nodes all)
