use mathlib.Core.List.{◌∷◌, ◌++◌}
use denote.Exit.{Exit, unchanged, leaves, pair, under, hidden}
use denote.RattleType.{RattleType}
use denote.RawPtr.{Ptr}
use denote.Param.Send.{IsSend, IsSync, Frees, Quiet}
use Rattle.std.specs.declared.alloc.Allocator.{Ghosts as Freeing}
use Rattle.event_slot.specs.declared.rule.Ruled.{Ghosts}
use Rattle.event_slot.specs.contracts.leased.Leased as leased
use Rattle.event_slot.specs.contracts.owned.Owned.{the_row}
use Rattle.event_slot.proofs.Sent.{claim_keyless, leased_send}

-- the `Arc` leaves alone
quiet : {D X : Type 0} (to : D → Ptr × (X × Unit {0})) (e : Exit X) → Quiet e → Quiet (hidden (under to (pair unchanged (pair e unchanged))))
quiet to unchanged q d w = tt
quiet to (leaves L l S s r₀) q d w = (tt, (q (to d).1.0 w.1.0, tt))

pub send : (T X Q A V Y : RattleType) (g : Ghosts X.Denot Q.Denot V.Denot Y.Denot) (f : Freeing A.Denot) → IsSend T → IsSend X → IsSend Q → IsSend A → IsSync T → IsSync X → IsSync A → Frees f f.dealloc_token → IsSend (the_row T X Q A V Y g f)
send T X Q A V Y g f st s sq sa yt y ya frees = let z : IsSend (leased.the_row T A f) = leased_send T A f st sa yt ya frees in record {
  owned = λ d vs. ((λ vss. (tt, (tt, (z.owned d.arc vss.1.0, tt)))), ((λ _. tt), ((λ e n. tt), claim_keyless X s y Q sq V.coded.code d.name g.counts (g.holds d.key) (d.arc.life ∷ (T.lives ++ (X.lives ++ Q.lives))) d.slot d.right d.value d.state)));
  leaving = λ k. quiet (λ d. (d.slot, (d.arc, tt))) ((leased.the_row T A f).exit k) (z.leaving k);
}
