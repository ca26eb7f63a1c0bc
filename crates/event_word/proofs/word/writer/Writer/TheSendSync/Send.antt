use denote.Exit.{Exit, unchanged, leaves, pair, under, hidden}
use denote.RattleType.{RattleType}
use denote.RawPtr.{Ptr}
use denote.Ref.{NamedLft}
use denote.Param.Send.{IsSend, IsSync, Quiet, sendable, struct_send}
use denote.Struct.Declared as declared
use Rattle.event_slot.specs.declared.tied.Ties.{Ghosts as Tying}
use Rattle.event_slot.proofs.Sent.{writing_keyless}
use Rattle.event_slot.specs.contracts.exclusive.Exclusive as exclusive
use Rattle.event_slot.specs.contracts.exclusive.Exclusive.TheInside as Inside
use Rattle.event_word.specs.Word.{Holds, counts_of}
use Rattle.event_word.specs.declared.word.kept.Kept.{Ghosts}
use Rattle.event_word.specs.contracts.word.rule.View as view
use Rattle.event_word.specs.contracts.word.writer.Writer.{the_row}
use Rattle.event_word.proofs.Placing.{Row}

-- what is beside leaves alone
quiet : {D X : Type 0} (to : D → Ptr × (Unit {0} × (X × Unit {0}))) (e : Exit X) → Quiet e → Quiet (hidden (under to (pair unchanged (pair unchanged (pair e unchanged)))))
quiet to unchanged q d w = tt
quiet to (leaves L l S s r₀) q d w = (tt, (tt, (q (to d).1.1.0 w.1.1.0, tt)))

pub send : (a : NamedLft) (T Q B : RattleType) (g : Ghosts Q.Denot) (h : Tying B.Denot) → IsSend T → IsSend Q → IsSend B → IsSend (the_row a T Q B g h)
send a T Q B g h s sq z = let V : RattleType = view.the_row in let es : IsSend (exclusive.the_row T) = record { owned = λ d vs. ((λ _. tt), (struct_send (declared.shape (Inside.the_type T)) (s, tt)).owned (d, tt) vs); leaving = λ k d w. tt } in let ey : IsSync (exclusive.the_row T) = record { shared = λ t b o κ. tt } in
    let xs : IsSend (Row T) = search sendable depth 20 in let xy : IsSync (Row T) = search sendable depth 20 in record {
      owned = λ d vs. ((λ vss. (tt, (tt, ((λ uss. (tt, tt)), (z.owned d.beside vss.1.1.0, tt))))), (writing_keyless (Row T) xs xy Q sq V.coded.code d.name (counts_of g.rules) (Holds g.rules) a.lft d.slot (record { value = d.value }), λ _. tt));
      leaving = λ k. quiet (λ d. (d.slot, (tt, (d.beside, tt)))) (B.exit k) (z.leaving k);
    }
