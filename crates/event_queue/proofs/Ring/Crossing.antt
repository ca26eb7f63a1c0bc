-- A ring and a pile may cross threads where what their nodes carry may.
use Rattle.std.specs.Prelude.{List, [], ◌∷◌}
use mir.Syntax.{Ty}
use base.Fraction.{full_share}
use base.Fml.{ftrue}
use base.Shift.{Keyless}
use denote.Exit.{Exit, unchanged, leaves, hidden, under}
use denote.Struct.Lending.{lent_at}
use denote.RattleType.{RattleType}
use denote.RawPtr.{Ptr, block_ptr, null_ptr, block_of, count_of, room_for, lies_at, in_block}
use denote.Builtin.{RawPtr}
use denote.Struct.Struct.{exits_of}
use denote.Struct.Owning.{shape, fields, to}
use denote.Param.Send.{IsSend, IsSync, Quiet, Common, AllSend, part_keyless, owning_send, struct_send, struct_sync, sendable}
use Rattle.std.proofs.Crossing as heap
use Rattle.std.proofs.alloc.Global.TheSendSync as handle
use Rattle.std.specs.declared.alloc.Global.{Global}
use Rattle.event_queue.specs.Ring.{Placed, placed}
use Rattle.event_queue.specs.RingMemory.{path, path_lent, node_type, node_owns, nodes_own, nodes_lent, chain_owns}
use Rattle.event_queue.specs.contracts.node.ring.pointers.Ring as Ring
use Rattle.event_queue.specs.contracts.node.ring.pointers.Pile as Pile

room-Keyless : (τ : Ty) (p : Ptr) → Keyless (room_for τ p)
room-Keyless τ (block_ptr b o) = tt
room-Keyless τ null_ptr = tt

Quiet-hidden : {D X : Type 0} (to : D → X) (e : Exit X) → Quiet e → Quiet (hidden (under to e))
Quiet-hidden to unchanged q = λ x w. tt
Quiet-hidden to (leaves L l S s r₀) q = λ d. q (to d)

lies-Keyless : (R : RattleType) → IsSend R → (p : Ptr) (x : R.Denot) → Keyless (lies_at R full_share p x)
lies-Keyless R s (block_ptr b o) x = part_keyless R s full_share x b o
lies-Keyless R s null_ptr x = tt

in_block-Keyless : (p : Ptr) → Keyless (in_block p ftrue)
in_block-Keyless (block_ptr b o) = tt
in_block-Keyless null_ptr = tt

lent-Common : (R : RattleType) → IsSync R → (p : Ptr) (x : R.Denot) → Common (lent_at R p x)
lent-Common R s p x κ = (in_block-Keyless p, s.shared x (block_of p) (count_of p) κ)

RawPtr-send : IsSend RawPtr
RawPtr-send = search sendable

RawPtr-sync : IsSync RawPtr
RawPtr-sync = search sendable

path-Keyless : (a : Ptr) (ps : List Ptr) → Keyless (path a ps)
path-Keyless a [] = tt
path-Keyless a (p ∷ ps) = ((lies-Keyless RawPtr RawPtr-send _ p, lies-Keyless RawPtr RawPtr-send _ a), path-Keyless p ps)

path_lent-Common : (a : Ptr) (ps : List Ptr) → Common (path_lent a ps)
path_lent-Common a [] κ = tt
path_lent-Common a (p ∷ ps) κ = ((lent-Common RawPtr RawPtr-sync _ p κ, lent-Common RawPtr RawPtr-sync _ a κ), path_lent-Common p ps κ)

module _ (E : RattleType) where
  node-Keyless : IsSend E → (alloc : Global) (n : Placed E.Denot) → Keyless (node_owns E alloc n)
  node-Keyless s alloc n = (lies-Keyless E s _ n.entry, (heap.frees.frees alloc (node_type E) n.at, (((room-Keyless _ _, room-Keyless _ _), room-Keyless _ _), room-Keyless _ n.at)))

  nodes-Keyless : IsSend E → (alloc : Global) (ns : List (Placed E.Denot)) → Keyless (nodes_own E alloc ns)
  nodes-Keyless s alloc [] = tt
  nodes-Keyless s alloc (n ∷ ns) = (node-Keyless s alloc n, nodes-Keyless s alloc ns)

  chain-Keyless : IsSend E → (alloc : Global) (ns : List (Placed E.Denot)) → Keyless (chain_owns E alloc ns)
  chain-Keyless s alloc [] = tt
  chain-Keyless s alloc (n ∷ ns) = ((lies-Keyless RawPtr RawPtr-send _ _, room-Keyless _ _), (node-Keyless s alloc n, chain-Keyless s alloc ns))

  nodes_lent-Common : IsSync E → (ns : List (Placed E.Denot)) → Common (nodes_lent E ns)
  nodes_lent-Common y [] κ = tt
  nodes_lent-Common y (n ∷ ns) κ = (lent-Common E y _ n.entry κ, nodes_lent-Common y ns κ)

  pub Ring-send : IsSend E → IsSend (Ring.the_row E)
  Ring-send s =
      let O = Ring.the_type E in let all : AllSend (fields O) = (search sendable, (handle.the_field_send, tt)) in
      owning_send O all (λ d. (path-Keyless d.at _, nodes-Keyless s d.alloc (placed d.at d.entry ∷ d.nodes)))
      (λ k. Quiet-hidden (to O) (exits_of k (fields O)) ((struct_send (shape O) all).leaving k))

  pub Ring-sync : IsSync E → IsSync (Ring.the_row E)
  Ring-sync y = let O = Ring.the_type E in record {
    shared = λ d b o κ. (
      (struct_sync (shape O) (search sendable, (handle.the_field_sync, tt))).shared (to O d) b o κ,
      (path_lent-Common d.at _ κ, nodes_lent-Common y (placed d.at d.entry ∷ d.nodes) κ),
    );
  }

  pub Pile-send : IsSend E → IsSend (Pile.the_row E)
  Pile-send s =
      let O = Pile.the_type E in let all : AllSend (fields O) = (search sendable, (handle.the_field_send, tt)) in
      owning_send O all (λ d. (tt, chain-Keyless s d.alloc d.nodes)) (λ k. Quiet-hidden (to O) (exits_of k (fields O)) ((struct_send (shape O) all).leaving k))

  pub Pile-sync : IsSync (Pile.the_row E)
  Pile-sync = let O = Pile.the_type E in record {
    shared = λ d b o κ. ((struct_sync (shape O) (search sendable, (handle.the_field_sync, tt))).shared (to O d) b o κ, tt);
  }
