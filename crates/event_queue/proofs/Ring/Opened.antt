-- A ring whose last node leads nowhere any more: the nodes in order, each with its link to the next and room for the one back. Assumes `Logic`.
use mathlib.Core.List.{List, [], ◌∷◌}
use seplogic.Ra.Ura.{Ura}
use base.Fraction.{full_share}
use base.Logic.{ent, sep, never, id⊢}
use mir.Syntax.{ty_ptr}
use types.Logic.{Logic, sem}
use types.Kit.{‵, ◌$◌, ◌∵◌, !, qed, move, drop, use1, group, fsplit, fjoin, done}
use denote.RattleType.{RattleType}
use denote.Memory.{part_at}
use denote.RawPtr.{Ptr, RawPtr, block_ptr, null_ptr, lies_at, room_for}
use Rattle.std.specs.declared.alloc.Global.{Global}
use Rattle.event_queue.specs.Ring.{Placed, places}
use Rattle.event_queue.specs.RingMemory.{next_of, previous_of, path, nodes_own, chain_owns}
use Rattle.event_queue.proofs.Ring.Places.{last_from}
use Rattle.event_queue.proofs.Ring.Walks.{link_out, link_to_room}

module _ {M : Type 1} {𝓤 : Ura M} (𝓛 : Logic 𝓤) where
  link_to_room_at : (p x : Ptr) → ent 𝓤 (sem 𝓛 (lies_at RawPtr full_share p x)) (sem 𝓛 (room_for ty_ptr p))
  link_to_room_at (block_ptr b o) x = qed 𝓛 (‵ (part_at RawPtr full_share x b o) ∷ []) ∵ link_out ! x b o $ link_to_room ! x b o $ done !
  link_to_room_at null_ptr x = id⊢ 𝓤 (never 𝓤)

  module _ (R : RattleType) (a : Global) where
    -- from the path along the nodes, the last one's link to nowhere, room for the first one's link back, and the nodes
    pub chain_from_path : (m : Placed R.Denot) (ns : List (Placed R.Denot))
        → ent 𝓤 (sep 𝓤 (sem 𝓛 (path m.at (places ns)))
        (sep 𝓤 (sem 𝓛 (lies_at RawPtr full_share (next_of (last_from m.at (places ns))) null_ptr)) (sep 𝓤 (sem 𝓛 (room_for ty_ptr (previous_of m.at))) (sem 𝓛 (nodes_own R a (m ∷ ns))))))
        (sem 𝓛 (chain_owns R a (m ∷ ns)))
    chain_from_path m [] =
        qed 𝓛 (‵ (path m.at []) ∷ ‵ (lies_at RawPtr full_share (next_of m.at) null_ptr) ∷ ‵ (room_for ty_ptr (previous_of m.at)) ∷ ‵ (nodes_own R a (m ∷ [])) ∷ []) ∵ drop ! $
        fjoin ! $ fjoin ! $ done !
    chain_from_path m (n ∷ ns) =
        qed 𝓛 (‵ (path m.at (places (n ∷ ns))) ∷ ‵ (lies_at RawPtr full_share (next_of (last_from n.at (places ns))) null_ptr) ∷ ‵ (room_for ty_ptr (previous_of m.at)) ∷ ‵
        (nodes_own R a (m ∷ n ∷ ns)) ∷ []) ∵
        fsplit ! $ fsplit ! $ move ! (1 ∷ []) $ use1 𝓛 (‵ (room_for ty_ptr (previous_of n.at))) (link_to_room_at (previous_of n.at) m.at) $ move ! (5 ∷ []) $ fsplit ! $
        move ! (4 ∷ 5 ∷ 2 ∷ 1 ∷ []) $ group ! 4 $ use1 𝓛 (‵ (chain_owns R a (n ∷ ns))) (chain_from_path n ns) $
        move ! (1 ∷ 0 ∷ []) $ fjoin ! $ move ! (1 ∷ 2 ∷ []) $ fjoin ! $ fjoin ! $ done !
