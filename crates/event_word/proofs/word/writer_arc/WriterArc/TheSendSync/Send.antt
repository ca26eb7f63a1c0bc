use mathlib.Core.List.{◌∷◌, ◌++◌}
use denote.Exit.{Exit, unchanged, leaves, pair, under, hidden}
use denote.RattleType.{RattleType}
use denote.RawPtr.{Ptr}
use denote.Param.Send.{IsSend, IsSync, Quiet, sendable, struct_send}
use denote.Struct.Declared as declared
use Rattle.std.specs.Prelude.{None, Some}
use Rattle.std.specs.contracts.alloc.Global as Heap
use Rattle.std.specs.contracts.impls.GlobalAllocator.TheImpl.{ghosts}
use Rattle.std.proofs.Crossing as heap
use Rattle.event_slot.specs.declared.exclusive.Exclusive as Exclusive
use Rattle.event_slot.specs.declared.owned.Inside.{Ghosts as Insides}
use Rattle.event_slot.specs.contracts.exclusive.Exclusive as exclusive
use Rattle.event_slot.specs.contracts.exclusive.Exclusive.TheInside as Inside
use Rattle.event_slot.specs.contracts.leased.Leased as leased
use Rattle.event_slot.proofs.Sent.{claim_keyless, leased_send}
use Rattle.event_word.specs.Word.{Holds, counts_of}
use Rattle.event_word.specs.declared.word.kept.Kept.{Ghosts}
use Rattle.event_word.specs.declared.word.rule.Place as Place
use Rattle.event_word.specs.declared.word.rule.View as View
use Rattle.event_word.specs.contracts.word.rule.View as view
use Rattle.event_word.specs.contracts.word.writer_arc.WriterArc.{the_row}
use Rattle.event_word.proofs.Placing.{Row}

-- the `Arc` leaves alone
quiet : {D X : Type 0} (to : D → Ptr × (X × Unit {0})) (e : Exit X) → Quiet e → Quiet (hidden (under to (pair unchanged (pair e unchanged))))
quiet to unchanged q d w = tt
quiet to (leaves L l S s r₀) q d w = (tt, (q (to d).1.0 w.1.0, tt))

pub send : (P T Q : RattleType) (h : Insides P.Denot (Place.Place (Exclusive.Exclusive T.Denot)) Q.Denot View.View (Unit {0})) (g : Ghosts Q.Denot) → IsSend P → IsSend T → IsSend Q → IsSync P → IsSend (the_row P T Q h g)
send P T Q h g sp s sq yp = let V : RattleType = view.the_row in let z : IsSend (leased.the_row P Heap.the_row ghosts) = leased_send P Heap.the_row ghosts sp heap.send yp heap.sync heap.frees in
    let es : IsSend (exclusive.the_row T) = record { owned = λ d vs. ((λ _. tt), (struct_send (declared.shape (Inside.the_type T)) (s, tt)).owned (d, tt) vs); leaving = λ k d w. tt } in let ey : IsSync (exclusive.the_row T) = record { shared = λ t b o κ. tt } in
    let xs : IsSend (Row T) = search sendable depth 20 in let xy : IsSync (Row T) = search sendable depth 20 in record {
      owned = λ d vs. ((λ vss. (tt, (tt, (z.owned d.arc vss.1.0, tt)))), ((λ _. tt), ((λ e n. tt), claim_keyless (Row T) xs xy Q sq V.coded.code d.name (counts_of g.rules) (Holds g.rules) (d.arc.life ∷ (P.lives ++ ((Row T).lives ++ Q.lives))) d.slot 2 (Some (record { value = d.value })) None)));
      leaving = λ k. quiet (λ d. (d.slot, (d.arc, tt))) ((leased.the_row P Heap.the_row ghosts).exit k) (z.leaving k);
    }
