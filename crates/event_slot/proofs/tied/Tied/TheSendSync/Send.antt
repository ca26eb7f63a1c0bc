use denote.Exit.{Exit, unchanged, leaves, pair, under, hidden}
use denote.RattleType.{RattleType}
use denote.RawPtr.{Ptr}
use denote.Ref.{NamedLft}
use denote.Param.Send.{IsSend, IsSync, Quiet}
use Rattle.event_slot.specs.declared.rule.Ruled.{Ghosts}
use Rattle.event_slot.specs.declared.tied.Ties.{Ghosts as Tying}
use Rattle.event_slot.specs.contracts.tied.Tied.{the_row}
use Rattle.event_slot.proofs.Sent.{writing_keyless}

-- what is beside leaves alone
quiet : {D X : Type 0} (to : D → Ptr × (Unit {0} × (X × Unit {0}))) (e : Exit X) → Quiet e → Quiet (hidden (under to (pair unchanged (pair unchanged (pair e unchanged)))))
quiet to unchanged q d w = tt
quiet to (leaves L l S s r₀) q d w = (tt, (tt, (q (to d).1.1.0 w.1.1.0, tt)))

pub send : (a : NamedLft) (T Q B V Y : RattleType) (g : Ghosts T.Denot Q.Denot V.Denot Y.Denot) (h : Tying B.Denot) → IsSend T → IsSend Q → IsSend B → IsSync T → IsSend (the_row a T Q B V Y g h)
send a T Q B V Y g h s sq z y = record {
  owned = λ d vs. ((λ vss. (tt, (tt, ((λ uss. (tt, tt)), (z.owned d.beside vss.1.1.0, tt))))), (writing_keyless T s y Q sq V.coded.code d.name g.counts (g.holds d.key) a.lft d.slot d.value, λ _. tt));
  leaving = λ k. quiet (λ d. (d.slot, (tt, (d.beside, tt)))) (B.exit k) (z.leaving k);
}
